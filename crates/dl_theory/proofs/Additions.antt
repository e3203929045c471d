-- Pairs added one after another, as edits.
use Rattle.std.proofs.Common.{◌≡◌, ℕ, ◌+◌, ◌≤◌, ◌<◌, List, [], ◌∷◌, ◌++◌, Option, None, Some, Result, Ok, Err, length, map, take, inl, inr, refl, sym, ap, subst, ◌∙◌, append_assoc, arith, length-append}
use Rattle.std.specs.Prelude.{All, Contains, slice_get}
use Rattle.std.specs.Option.{option_map}
use Rattle.std.proofs.lemmas.List.{append-nil, take_all, take-take, take-map, length-map, map-append}
use Rattle.std.proofs.lemmas.List.Elements.{All-head, All-tail, All-take}
use Rattle.std.proofs.lemmas.Option.{slice_get-map, slice_get_within, get_or_from_slice_get}
use Rattle.dl_base.specs.Paths.{IsDistinct, IsPath}
use Rattle.dl_sup.specs.declared.link.Link.{Link}
use Rattle.dl_sup.specs.Adding.{AreAddable}
use Rattle.dl_theory.specs.declared.rule.Pair.{Pair}
use Rattle.dl_theory.specs.declared.edit.Edit.TheVariants.{AddPair}
use Rattle.dl_theory.specs.declared.edit.EditRefusal.{EditRefusal}
use Rattle.dl_theory.specs.declared.edit.EditRefusal.TheVariants.{NoLabel, PairThere, Cycle, PairsFull}
use Rattle.dl_theory.specs.declared.edit.PairsStop.{PairsStop}
use Rattle.dl_theory.specs.declared.edit.PairsStop.TheVariants as pairs_stop
use Rattle.dl_theory.specs.Lists.{TheoryLists, IsWellFormed, IsAbove, labels}
use Rattle.dl_theory.specs.Pairs.{named, IsWithin, IsNumbered, IsNumberOf}
use Rattle.dl_theory.specs.Superiority.{IsLinkRefusal, IsLinksStop, IsLinksOutcome}
use Rattle.dl_theory.specs.Edits.{after_edit, after_edits, additions, AreAccepted, AddsPairs, IsRefused, IsMissing, AreThere, HasBoth, IsFront, IsPairsStop, IsPairsOutcome}
use Rattle.dl_theory.proofs.Extending.{slice_get-take}
use Rattle.dl_theory.proofs.Numbers.{has_labels, numbered_push, old_link, pair_there, not_closing, path_named}
use Rattle.dl_theory.proofs.WellFormed.{edits_keep}

pub after_additions : (T : TheoryLists) (ps : List Pair) → after_edits T (additions ps) ≡ record T { pairs = T.pairs ++ ps }
after_additions T [] = ap (λ (l : List Pair). record T { pairs = l }) (sym (append-nil T.pairs))
after_additions T (p ∷ ps) =
    after_additions (after_edit T (AddPair p)) ps ∙ ap (λ (l : List Pair). record T { pairs = l }) (append_assoc T.pairs (p ∷ []) ps)

-- an edit that adds a pair of numbers, in labels
module _ (T : TheoryLists) (names : List (List ℕ)) (links : List Link) (is_labels : labels T ≡ names) (h : IsNumbered names links T.pairs) (l : Link)
    (within : IsWithin names l) where
  number : IsNumberOf names l (named names l)
  number = record { within = within; names = refl }

  has_both : HasBoth T (named names l)
  has_both =
      let there = has_labels names l (named names l) number in (
        subst (λ (ls : List (List ℕ)). Contains ls (named names l).upper) (sym is_labels) there.0,
        subst (λ (ls : List (List ℕ)). Contains ls (named names l).lower) (sym is_labels) there.1,
      )

  as_many : length T.pairs ≡ length links
  as_many = ap length h.names ∙ length-map links (named names)

  link_refused : (refusal : EditRefusal) → IsLinkRefusal names links l refusal → IsRefused T (AddPair (named names l)) refusal
  link_refused PairThere c = (has_both.0, has_both.1, pair_there names links T.pairs h l (named names l) number c)
  link_refused (Cycle path) c = (
    has_both.0,
    has_both.1,
    λ m. c.0 (old_link names links T.pairs h l (named names l) number m),
    subst (λ (ls : List (List ℕ)). IsPath (IsAbove T.pairs) (named names l).lower (named names l).upper ls) (sym c.1.named)
        (path_named names links T.pairs h l (named names l) number c.1.track c.1.leads),
  )
  link_refused PairsFull c = (
    has_both.0,
    has_both.1,
    λ m. c.0.0 (old_link names links T.pairs h l (named names l) number m),
    not_closing names links T.pairs h l (named names l) number c.0.1,
    omega (arith, as_many, c.1),
  )
  link_refused _ c = absurd c

accepted_links : (T : TheoryLists) (names : List (List ℕ)) (links more : List Link) → labels T ≡ names → IsNumbered names links T.pairs
    → All (IsWithin names) more → AreAddable links more → length links + length more ≤ 1000000 → AreAccepted T (additions (map (named names) more))
accepted_links T names links [] is_labels h w a few = tt
accepted_links T names links (l ∷ more) is_labels h w a few =
    let here : IsWithin names l = All-head (IsWithin names) l more w in
    let p : Pair = named names l in
    let is : IsNumberOf names l p = number T names links is_labels h l here in
    let both : HasBoth T p = has_both T names links is_labels h l here in (
      (
        both.0,
        both.1,
        λ m. a.0.0 (old_link names links T.pairs h l p is m),
        not_closing names links T.pairs h l p is a.0.1,
        omega (arith, few, as_many T names links is_labels h l here),
      ),
      accepted_links (after_edit T (AddPair p)) names (links ++ l ∷ []) more is_labels (numbered_push names links T.pairs h l p is)
          (All-tail (IsWithin names) l more w) a.1 (omega (arith, few, length-append links (l ∷ []))),
    )

missing_refused : (T : TheoryLists) (p : Pair) (ps : List Pair) (x : EditRefusal) → IsMissing (labels T) p x
    → IsRefused (record T { pairs = ps }) (AddPair p) x
missing_refused T p ps (NoLabel label) c = c
missing_refused T p ps _ c = absurd c

-- where all pairs have their labels, none misses one
pub none_missing : (names : List (List ℕ)) (pairs : List Pair) (end : ℕ) (missing : Option EditRefusal) → All (AreThere names) pairs
    → IsFront names pairs end missing → missing ≡ None
none_missing names pairs end None all front = refl
none_missing names pairs end (Some x) all m = absurd (by x m.missing)
  where
    there : AreThere names m.pair
    there =
        subst (λ (p : Pair). AreThere names p) (get_or_from_slice_get pairs end m.pair m.pair m.stands)
        (all end m.pair (slice_get_within pairs end m.pair m.stands))

    by : (x : EditRefusal) → IsMissing names m.pair x → ⊥
    by (NoLabel label) (inl c) = c.1 there.0
    by (NoLabel label) (inr c) = c.2 there.1
    by _ c = absurd c

-- the answer, from that for the pairs before the first that misses a label
abbrev pub answer_of : Result (Unit {0}) PairsStop → Option EditRefusal → ℕ → Result (Unit {0}) PairsStop
answer_of (Err stop) missing end = Err stop
answer_of (Ok u) None end = Ok tt
answer_of (Ok u) (Some refusal) end = Err (pairs_stop.Refused end refusal)

-- the pairs of a theory as pairs of numbers, and more of them before the first pair that misses a label
module _ (T : TheoryLists) (names : List (List ℕ)) (old new more : List Link) (pairs : List Pair) (is_labels : labels T ≡ names)
    (h : IsNumbered names old T.pairs) (within : All (IsWithin names) more) (tried : map (named names) more ≡ take (length more) pairs) where
  first : (at : ℕ) → at ≤ length more → map (named names) (take at more) ≡ take at pairs
  first at before =
      sym (take-map (named names) at more) ∙ ap (take at) tried ∙ take-take at (length more) pairs before

  added_links : (at : ℕ) → at ≤ length more → AreAddable old (take at more) → new ≡ old ++ take at more → length new ≤ 1000000
      → AddsPairs T (take at pairs) (record T { pairs = map (named names) new })
  added_links at before a e few =
      let all : map (named names) new ≡ T.pairs ++ take at pairs =
      ap (map (named names)) e
      ∙ map-append (named names) old (take at more)
      ∙ (λ i. sym h.names i ++ first at before i) in (
        subst (λ (ps : List Pair). AreAccepted T (additions ps)) (first at before)
            (accepted_links T names old (take at more) is_labels h (All-take (IsWithin names) at more within) a
            (omega (arith, few, ap length e, length-append old (take at more)))),
        ap (λ (ps : List Pair). record T { pairs = ps }) all ∙ sym (after_additions T (take at pairs)),
      )

  stopped_links : (stop : PairsStop) → All (IsWithin names) new → length new ≤ 1000000 → IsLinksStop names old new more stop
      → IsPairsStop T (record T { pairs = map (named names) new }) pairs stop
  stopped_links (pairs_stop.Refused at refusal) now few s =
      let before : at < length more = slice_get_within more at s.refused s.stands in
      let added = added_links at (omega (arith, before)) s.front s.added few in
      let here : IsWithin names s.refused =
      subst (λ (l : Link). IsWithin names l) (get_or_from_slice_get more at s.refused s.refused s.stands) (within at s.refused before) in
      record {
        refused = named names s.refused;
        stands =
            sym (slice_get-take pairs (length more) at before)
            ∙ ap (λ ps. slice_get ps at) (sym tried)
            ∙ slice_get-map (named names) more at
            ∙ ap (option_map (named names)) s.stands;
        front = added.0;
        added = added.1;
        cause =
            link_refused (record T { pairs = map (named names) new }) names new is_labels
            (record { distinct = h.distinct; within = now; names = refl }) s.refused here refusal s.cause;
      }
  stopped_links pairs_stop.Memory now few same =
      ap (λ (ps : List Pair). record T { pairs = ps }) (ap (map (named names)) same ∙ sym h.names)

  whole : take (length more) more ≡ more
  whole = take_all (length more) more (omega arith)

  all_links : (missing : Option EditRefusal) → IsFront names pairs (length more) missing → AreAddable old more → new ≡ old ++ more
      → length new ≤ 1000000 → IsPairsOutcome T pairs (record T { pairs = map (named names) new }) (answer_of (Ok tt) missing (length more))
  all_links missing f a e few = by missing f
    where
      added : AddsPairs T (take (length more) pairs) (record T { pairs = map (named names) new })
      added =
          added_links (length more) (omega arith) (subst (λ (ls : List Link). AreAddable old ls) (sym whole) a)
          (e ∙ ap (λ ls. old ++ ls) (sym whole)) few

      by : (missing : Option EditRefusal) → IsFront names pairs (length more) missing
          → IsPairsOutcome T pairs (record T { pairs = map (named names) new }) (answer_of (Ok tt) missing (length more))
      by None f =
          subst (λ (ps : List Pair). AddsPairs T ps (record T { pairs = map (named names) new }))
          (take_all (length more) pairs (omega (arith, f.1))) added
      by (Some x) m = record {
        refused = m.pair;
        stands = m.stands;
        front = added.0;
        added = added.1;
        cause =
            missing_refused T m.pair (map (named names) new) x
            (subst (λ (ls : List (List ℕ)). IsMissing ls m.pair x) (sym is_labels) m.missing);
      }

  outcome_links : (done : Result (Unit {0}) PairsStop) (missing : Option EditRefusal) → IsFront names pairs (length more) missing
      → All (IsWithin names) new → length new ≤ 1000000 → IsLinksOutcome names old new more done
      → IsPairsOutcome T pairs (record T { pairs = map (named names) new }) (answer_of done missing (length more))
  outcome_links (Err stop) missing front now few s = stopped_links stop now few s
  outcome_links (Ok u) missing front now few a = all_links missing front a.0 a.1 few

-- the same for lists that are known by equations
pub numbered_outcome : (T : TheoryLists) (names items : List (List ℕ)) (old new links more : List Link) (pairs : List Pair) (missing : Option EditRefusal)
    (done r : Result (Unit {0}) PairsStop) → labels T ≡ names → T.pairs ≡ map (named names) old → IsDistinct names → All (IsWithin names) old
    → items ≡ names → links ≡ more → All (IsWithin names) more → map (named names) more ≡ take (length more) pairs
    → IsFront names pairs (length more) missing → All (IsWithin items) new → length new ≤ 1000000 → IsLinksOutcome items old new links done
    → r ≡ answer_of done missing (length more) → IsPairsOutcome T pairs (record T { pairs = map (named names) new }) r
numbered_outcome T names items old new links more pairs missing done r is_labels e distinct before same_items same_links within tried front now few o answer =
    subst (λ (s : Result (Unit {0}) PairsStop). IsPairsOutcome T pairs (record T { pairs = map (named names) new }) s) (sym answer)
    (outcome_links T names old new more pairs is_labels (record { distinct = distinct; within = before; names = e }) within tried done missing front
    (subst (λ (ls : List (List ℕ)). All (IsWithin ls) new) same_items now) few
    (subst (λ (ls : List Link). IsLinksOutcome names old new ls done) same_links
    (subst (λ (ls : List (List ℕ)). IsLinksOutcome ls old new links done) same_items o)))

-- a theory stays well formed, whatever the answer
pub outcome_keeps : (old new : TheoryLists) (pairs : List Pair) (r : Result (Unit {0}) PairsStop) → IsWellFormed old → IsPairsOutcome old pairs new r
    → IsWellFormed new
outcome_keeps old new pairs (Ok u) h added = subst IsWellFormed (sym added.1) (edits_keep old (additions pairs) h added.0)
outcome_keeps old new pairs (Err (pairs_stop.Refused at x)) h stop =
    subst IsWellFormed (sym stop.added) (edits_keep old (additions (take at pairs)) h stop.front)
outcome_keeps old new pairs (Err pairs_stop.Memory) h same = subst IsWellFormed (sym same) h
