-- Pairs of numbers behind an order.
use Rattle.std.proofs.Common.{◌≡◌, ℕ, zero, suc, ◌+◌, ◌<◌, ◌≤◌, List, [], ◌∷◌, ◌++◌, Some, Result, Ok, Err, length, take, drop, get_or, inl, inr, ◌⊎◌, refl, sym, ap, subst, ◌∙◌, append_assoc, arith, length-append}
use Rattle.std.specs.Prelude.{All, OnOk, IfErr, slice_get}
use Rattle.std.proofs.lemmas.List.{append-nil, take_all, take-append-drop, take-take, length-take-le}
use Rattle.std.proofs.Math.Seq.{take-append-add}
use Rattle.std.proofs.lemmas.List.Elements.{All-append, All-take, Contains-push_cases}
use Rattle.std.proofs.lemmas.Option.{slice_get_within, get_or_from_slice_get, slice_get-get_or}
use Rattle.dl_base.proofs.Distinct.{distinct_push}
use Rattle.dl_base.proofs.PathLemmas.{acyclic_more}
use Rattle.dl_sup.specs.declared.link.Link.{Link}
use Rattle.dl_sup.specs.declared.stop.LoadStop.{LoadStop}
use Rattle.dl_sup.specs.declared.stop.LoadStop.TheVariants.{There, Cycle, Memory}
use Rattle.dl_sup.specs.declared.stop.SupStop.{SupStop}
use Rattle.dl_sup.specs.declared.stop.SupStop.TheVariants as sup_stop
use Rattle.dl_sup.specs.Links.{IsOver, IsOrder, link}
use Rattle.dl_sup.specs.Adding.{IsAddable, AreAddable, StopsAt, IsLoadStop}
use Rattle.dl_sup.proofs.Cycles.{IsOrder-front, order_addable}
use Rattle.dl_theory.specs.declared.edit.EditRefusal.{EditRefusal}
use Rattle.dl_theory.specs.declared.edit.EditRefusal.TheVariants.{PairsFull}
use Rattle.dl_theory.specs.declared.edit.PairsStop.{PairsStop}
use Rattle.dl_theory.specs.declared.edit.PairsStop.TheVariants as pairs_stop
use Rattle.dl_theory.specs.Pairs.{IsWithin}
use Rattle.dl_theory.specs.Superiority.{IsLinkRefusal, StopsAtLink, IsLinksStop, StopsWithin, IsToldAs}
use Rattle.dl_theory.proofs.Numbers.{track_within}

order_pushed : (pairs : List Link) (l : Link) → IsOrder pairs → IsAddable pairs l → IsOrder (pairs ++ l ∷ [])
order_pushed pairs l h a = record {
  distinct = distinct_push pairs l h.distinct a.0;
  acyclic =
      acyclic_more (IsOver pairs) (IsOver (pairs ++ l ∷ [])) l.upper l.lower
      (λ x y m. elim (Contains-push_cases pairs l (link x y) m) as (λ _. IsOver pairs x y ⊎ ((x ≡ l.upper) × (y ≡ l.lower))) [
        | inl old ↦ inl old
        | inr same ↦ inr (sym (ap (λ (q : Link). q.upper) same), sym (ap (λ (q : Link). q.lower) same))
      ])
      h.acyclic (λ path leads. a.1 (path, leads));
}

order_added : (old more : List Link) → IsOrder old → AreAddable old more → IsOrder (old ++ more)
order_added old [] h a = subst (λ (ls : List Link). IsOrder ls) (sym (append-nil old)) h
order_added old (l ∷ more) h a =
    subst (λ (ls : List Link). IsOrder ls) (append_assoc old (l ∷ []) more)
    (order_added (old ++ l ∷ []) more (order_pushed old l h a.0) a.1)

-- the first pairs of an order
pub order_taken : (n : ℕ) (pairs : List Link) → IsOrder pairs → IsOrder (take n pairs)
order_taken n pairs h =
    IsOrder-front (take n pairs) (drop n pairs) (subst (λ (ls : List Link). IsOrder ls) (sym (take-append-drop n pairs)) h)

pub slice_get-take : {X : Type 0} (xs : List X) (n i : ℕ) → i < n → slice_get (take n xs) i ≡ slice_get xs i
slice_get-take xs zero i h = absurd (omega (arith, h))
slice_get-take [] (suc n) i h = refl
slice_get-take (x ∷ xs) (suc n) zero h = refl
slice_get-take (x ∷ xs) (suc n) (suc i) h = slice_get-take xs n i (omega (arith, h))

-- what may be added after the pairs before it may be added there
addable_at : (old links : List Link) (at : ℕ) (l : Link) → AreAddable old links → slice_get links at ≡ Some l → IsAddable (old ++ take at links) l
addable_at old [] at l h e = cc
addable_at old (k ∷ more) zero l h e =
    subst (λ (ls : List Link). IsAddable ls l) (sym (append-nil old)) (subst (IsAddable old) (let same : k ≡ l = cc in same) h.0)
addable_at old (k ∷ more) (suc n) l h e =
    subst (λ (ls : List Link). IsAddable ls l) (append_assoc old (k ∷ []) (take n more)) (addable_at (old ++ k ∷ []) more n l h.1 e)

addable_front : (old links : List Link) (at : ℕ) → AreAddable old links → AreAddable old (take at links)
addable_front old links zero h = tt
addable_front old [] (suc n) h = tt
addable_front old (l ∷ more) (suc n) h = (h.0, addable_front (old ++ l ∷ []) more n h.1)

-- none of the pairs of an order is refused
pub only_memory : (new links : List Link) (stop : LoadStop) → IsOrder links → IsLoadStop [] new links stop → stop ≡ Memory
only_memory new links stop order h = by stop h
  where
    free : (at : ℕ) (why : SupStop) (s : StopsAt [] new links at why) → IsAddable new s.refused
    free at why s =
        subst (λ (ls : List Link). IsAddable ls s.refused) (sym s.added)
        (addable_at [] links at s.refused (order_addable [] links order) s.stands)

    by : (stop : LoadStop) → IsLoadStop [] new links stop → stop ≡ Memory
    by (There at) s = absurd ((free at sup_stop.There s).0 s.cause)
    by (Cycle at track) s = absurd ((free at (sup_stop.Cycle track) s).1 (track, s.cause.1))
    by Memory s = refl

-- as many of the pairs as were added, behind the old ones
pub record IsExtended (old new more : List Link) : Type 0 where
  pub count : ℕ
  pub addable : AreAddable old (take count more)
  pub added : new ≡ old ++ take count more

module _ (old new more : List Link) where
  pub extended : (done : Result (Unit {0}) LoadStop) → OnOk done (AreAddable old more) → OnOk done (new ≡ old ++ more)
      → IfErr done (IsLoadStop old new more) → IsExtended old new more
  extended (Ok u) accepted added stopped =
      let all : take (length more) more ≡ more = take_all (length more) more (omega arith) in
      record {
        count = length more;
        addable = subst (λ (ls : List Link). AreAddable old ls) (sym all) accepted;
        added = added ∙ ap (λ (ls : List Link). old ++ ls) (sym all);
      }
  extended (Err (There at)) accepted added stopped = record { count = at; addable = stopped.front; added = stopped.added }
  extended (Err (Cycle at track)) accepted added stopped = record { count = at; addable = stopped.front; added = stopped.added }
  extended (Err Memory) accepted added stopped = record { count = 0; addable = tt; added = stopped ∙ sym (append-nil old) }

  module _ (x : IsExtended old new more) where
    pub extended_order : IsOrder old → IsOrder new
    extended_order h = subst (λ (ls : List Link). IsOrder ls) (sym x.added) (order_added old (take x.count more) h x.addable)

    pub extended_all : (P : Link → Type 0) → All P old → All P more → All P new
    extended_all P h k = subst (λ (ls : List Link). All P ls) (sym x.added) (All-append P old (take x.count more) h (All-take P x.count more k))

  module _ (items : List (List ℕ)) where
    pub stop_within : (stop : LoadStop) → IsExtended old new more → All (IsWithin items) old → All (IsWithin items) more
        → IsLoadStop old new more stop → StopsWithin items stop
    stop_within (There at) x h k stopped = tt
    stop_within (Cycle at track) x h k stopped =
        let here : IsWithin items stopped.refused =
        subst (λ (l : Link). IsWithin items l) (get_or_from_slice_get more at stopped.refused stopped.refused stopped.stands)
        (k at stopped.refused (slice_get_within more at stopped.refused stopped.stands)) in
        track_within items new stopped.refused track (extended_all x (IsWithin items) h k) here stopped.cause.1
    stop_within Memory x h k stopped = tt

    -- the answer in numbers as an answer in labels
    pub told_refused : (stop : LoadStop) (at : ℕ) (refusal : EditRefusal) → IsLoadStop old new more stop
        → IsToldAs items stop (pairs_stop.Refused at refusal) → StopsAtLink items old new more at refusal
    told_refused (There n) at refusal s e =
        subst (λ (told : PairsStop). IsLinksStop items old new more told) (sym e)
        (record { refused = s.refused; stands = s.stands; front = s.front; added = s.added; cause = s.cause })
    told_refused (Cycle n track) at refusal s (inl e) =
        subst (λ (told : PairsStop). IsLinksStop items old new more told) (sym e)
        (record {
          refused = s.refused;
          stands = s.stands;
          front = s.front;
          added = s.added;
          cause = (s.cause.0, record { track = track; leads = s.cause.1; named = refl });
        })
    told_refused (Cycle n track) at refusal s (inr e) = cc
    told_refused Memory at refusal s e = cc

-- of more pairs than there is room for, as many were tried as there is room for, and one more
module _ (items : List (List ℕ)) (old new more : List Link) (tried : ℕ) (within : tried ≤ length more) where
  pub stop_earlier : (stop : PairsStop) → IsLinksStop items old new (take tried more) stop → IsLinksStop items old new more stop
  stop_earlier (pairs_stop.Refused at refusal) s =
      let before : at < length (take tried more) = slice_get_within (take tried more) at s.refused s.stands in
      let size : length (take tried more) ≡ tried = length-take-le tried more within in
      let front : take at (take tried more) ≡ take at more = take-take at tried more (omega (arith, before, size)) in
      record {
        refused = s.refused;
        stands = sym (slice_get-take more tried at (omega (arith, before, size))) ∙ s.stands;
        front = subst (λ (ls : List Link). AreAddable old ls) front s.front;
        added = s.added ∙ ap (λ ls. old ++ ls) front;
        cause = s.cause;
      }
  stop_earlier pairs_stop.Memory same = same

-- where none of them is refused but for the limit, the last one is
pub one_too_many : (items : List (List ℕ)) (old new left more : List Link) (room limit : ℕ) → room < length more → limit ≡ length old + room
    → 1000000 ≤ limit → AreAddable old (take (room + 1) more) × (new ≡ old ++ take (room + 1) more) → left ≡ take limit new
    → StopsAtLink items old left more room PairsFull
one_too_many items old new left more room limit within full most a cut =
    let last : Link = get_or more room (link 0 0) in
    let stands : slice_get more room ≡ Some last = slice_get-get_or more room (link 0 0) within in
    let tried : List Link = take (room + 1) more in
    let fewer : take room tried ≡ take room more = take-take room (room + 1) more (omega arith) in
    let added : left ≡ old ++ take room more =
    cut
    ∙ ap (take limit) a.1
    ∙ ap (λ n. take n (old ++ tried)) full
    ∙ take-append-add old tried room
    ∙ ap (λ ls. old ++ ls) fewer in
    let free : IsAddable (old ++ take room more) last =
    subst (λ (ls : List Link). IsAddable (old ++ ls) last) fewer
    (addable_at old tried room last a.0 (slice_get-take more (room + 1) room (omega arith) ∙ stands)) in
    let size : length (old ++ take room more) ≡ length old + room =
    length-append old (take room more) ∙ ap (λ n. length old + n) (length-take-le room more (omega (arith, within))) in
    record {
      refused = last;
      stands = stands;
      front = subst (λ (ls : List Link). AreAddable old ls) fewer (addable_front old tried room a.0);
      added = added;
      cause = subst (λ (ls : List Link). IsLinkRefusal items ls last PairsFull) (sym added) (free, omega (arith, size, full, most));
    }
