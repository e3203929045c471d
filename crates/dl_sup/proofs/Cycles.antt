-- A new pair makes no cycle where no pairs lead from its lower item to its upper one.
use Rattle.std.proofs.Common.{◌≡◌, ℕ, ◌<◌, ◌≤◌, List, [], ◌∷◌, ◌++◌, length, inl, inr, ◌⊎◌, refl, sym, ap, subst, ◌∙◌, arith, length-append, append_assoc}
use Rattle.std.specs.Prelude.{Contains}
use Rattle.std.proofs.lemmas.List.{append-nil, get_or_append_left, get_or_at}
use Rattle.std.proofs.lemmas.List.Elements.{Contains-append_left, Contains-append_right, Contains-push_cases}
use Rattle.dl_base.specs.Paths.{IsDistinct, Descends, last_of, IsPath, HasCycle}
use Rattle.dl_base.proofs.PathLemmas.{path_stays, path_climbs, path_more, acyclic_fewer}
use Rattle.dl_base.proofs.Climb.{distinct_above}
use Rattle.dl_base.proofs.Distinct.{distinct_push}
use Rattle.dl_sup.specs.declared.link.Link.{Link}
use Rattle.dl_sup.specs.Links.{IsOver, IsOrder, link}
use Rattle.dl_sup.specs.Adding.{ClosesCycle, IsAddable, AreAddable}
use Rattle.dl_sup.specs.Searching.{IsWalk, IsApart}

-- without cycles, a walk repeats nothing
module _ (pairs : List Link) (acyclic : ¬ HasCycle (IsOver pairs)) where
  distinct_walk : (first : ℕ) (rest : List ℕ) → Descends (IsOver pairs) first rest → IsDistinct (first ∷ rest)
  distinct_walk first [] d = λ i j x before within. absurd (omega (arith, before, within))
  distinct_walk first (next ∷ rest) d = distinct_above (IsOver pairs) acyclic first next rest d.1 (distinct_walk next rest d.1) d.0

  pub walk_path : (first last : ℕ) (track : List ℕ) → IsWalk pairs first last track → IsPath (IsOver pairs) first last track
  walk_path first last track w = record {
    rest = w.rest;
    begins = w.begins;
    ends = w.ends;
    descends = w.descends;
    distinct = subst IsDistinct (sym w.begins) (distinct_walk first w.rest w.descends);
  }

module _ {A : Type 0} (Old New : A → A → Type 0) where
  same_last : (first : A) (rest : List A) → last_of New first rest ≡ last_of Old first rest
  same_last first [] = refl
  same_last first (next ∷ rest) = same_last next rest

  module _ (from to : A) (split : (x y : A) → New x y → Old x y ⊎ ((x ≡ to) × (y ≡ from))) (Seen : A → Type 0) (has : Seen from) (lacks : ¬ Seen to)
      (closed : (x y : A) → Seen x → Old x y → Seen y) (none : ¬ HasCycle Old) where
    is_old : (x y : A) → Seen x → New x y → Old x y
    is_old x y s up = elim (split x y up) [ inl old ↦ old | inr new ↦ absurd (lacks (subst Seen new.0 s)) ]

    still_closed : (x y : A) → Seen x → New x y → Seen y
    still_closed x y s up = closed x y s (is_old x y s up)

    seen_walk : (first : A) (rest : List A) → Seen first → Descends New first rest → Descends Old first rest × Seen (last_of Old first rest)
    seen_walk first [] s d = (tt, s)
    seen_walk first (next ∷ rest) s d =
        let more = seen_walk next rest (still_closed first next s d.0) d.1 in ((is_old first next s d.0, more.0), more.1)

    -- a walk is an old one, or ends at a seen item
    old_or_seen : (first : A) (rest : List A) → Descends New first rest → Descends Old first rest ⊎ Seen (last_of Old first rest)
    old_or_seen first [] d = inl tt
    old_or_seen first (next ∷ rest) d =
        elim (split first next d.0) [
          | inr new ↦ inr (seen_walk next rest (subst Seen (sym new.1) has) d.1).1
          | inl old ↦ elim (old_or_seen next rest d.1) [ inl more ↦ inl (old, more) | inr seen ↦ inr seen ]
        ]

    pub still_acyclic : ¬ HasCycle New
    still_acyclic c =
        elim (old_or_seen c.first c.is_path.rest c.is_path.descends) [
          | inr seen ↦ from_seen (still_closed c.last c.first (subst Seen ends seen) c.closes)
          | inl old ↦ elim (split c.last c.first c.closes) [
            | inl closes ↦ old_cycle old closes
            | inr new ↦ from_seen (subst Seen (sym new.1) has)
          ]
        ]
      where
        ends : last_of Old c.first c.is_path.rest ≡ c.last
        ends = sym (same_last c.first c.is_path.rest) ∙ c.is_path.ends

        old_cycle : Descends Old c.first c.is_path.rest → Old c.last c.first → ⊥
        old_cycle d closes =
            none (record {
              first = c.first;
              last = c.last;
              path = c.path;
              is_path = record { rest = c.is_path.rest; begins = c.is_path.begins; ends = ends; descends = d; distinct = c.is_path.distinct };
              closes = closes;
            })

        from_seen : Seen c.first → ⊥
        from_seen s =
            let walk = seen_walk c.first c.is_path.rest s c.is_path.descends in
            old_cycle walk.0 (is_old c.last c.first (subst Seen ends walk.1) c.closes)

split_pair : (pairs : List Link) (p : Link) (x y : ℕ) → IsOver (pairs ++ p ∷ []) x y → IsOver pairs x y ⊎ ((x ≡ p.upper) × (y ≡ p.lower))
split_pair pairs p x y m =
    elim (Contains-push_cases pairs p (link x y) m) [
      | inl old ↦ inl old
      | inr new ↦ inr (sym (ap (λ (q : Link). q.upper) new), sym (ap (λ (q : Link). q.lower) new))
    ]

apart_acyclic : (pairs : List Link) (p : Link) → IsApart pairs p.lower p.upper → (¬ HasCycle (IsOver pairs)) → ¬ HasCycle (IsOver (pairs ++ p ∷ []))
apart_acyclic pairs p (inl below) none =
    still_acyclic (IsOver pairs) (IsOver (pairs ++ p ∷ [])) p.lower p.upper (split_pair pairs p) (Contains below.seen) below.has below.lacks below.closed none
apart_acyclic pairs p (inr over) none =
    still_acyclic (IsOver pairs) (IsOver (pairs ++ p ∷ [])) p.lower p.upper (split_pair pairs p) (λ x. ¬ Contains over.seen x) over.lacks (λ n. n over.has)
    (λ x y s up m. s (over.closed x y m up)) none

pub IsOrder-push : (pairs : List Link) (p : Link) → IsOrder pairs → (¬ Contains pairs p) → IsApart pairs p.lower p.upper → IsOrder (pairs ++ p ∷ [])
IsOrder-push pairs p h new apart = record {
  distinct = distinct_push pairs p h.distinct new;
  acyclic = apart_acyclic pairs p apart h.acyclic;
}

-- no path leads from the one to the other
pub apart_closes : (pairs : List Link) (p : Link) → IsApart pairs p.lower p.upper → ¬ ClosesCycle pairs p
apart_closes pairs p (inl below) c =
    below.lacks (path_stays (IsOver pairs) (Contains below.seen) below.closed p.lower p.upper c.0 below.has c.1)
apart_closes pairs p (inr over) c = over.lacks (path_climbs (IsOver pairs) (Contains over.seen) over.closed p.lower p.upper c.0 c.1 over.has)

-- ---- many pairs at once
pub IsOrder-front : (xs ys : List Link) → IsOrder (xs ++ ys) → IsOrder xs
IsOrder-front xs ys h = record {
  distinct = λ i j d before within.
      λ e. h.distinct i j d before (omega (arith, within, length-append xs ys))
      (get_or_append_left xs ys d i (omega (arith, before, within)) ∙ e ∙ sym (get_or_append_left xs ys d j within));
  acyclic = acyclic_fewer (IsOver xs) (IsOver (xs ++ ys)) (λ x y m. Contains-append_left xs ys (link x y) m) h.acyclic;
}

first_new : (xs : List Link) (p : Link) (ys : List Link) → IsDistinct (xs ++ p ∷ ys) → ¬ Contains xs p
first_new xs p ys h m =
    h m.0 (length xs) p m.1 (omega (arith, length-append xs (p ∷ ys)))
    (get_or_append_left xs (p ∷ ys) p m.0 m.1 ∙ m.2 ∙ sym (get_or_at xs p ys p (length xs) refl))

pub order_addable : (old links : List Link) → IsOrder (old ++ links) → AreAddable old links
order_addable old [] h = tt
order_addable old (p ∷ more) h = (
  (
    first_new old p more h.distinct,
    λ c.
        h.acyclic (record {
          first = p.lower;
          last = p.upper;
          path = c.0;
          is_path = path_more (IsOver old) (IsOver (old ++ p ∷ more)) (λ x y m. Contains-append_left old (p ∷ more) (link x y) m) p.lower p.upper c.0 c.1;
          closes = Contains-append_right old (p ∷ more) p (0, omega arith, refl);
        }),
  ),
  order_addable (old ++ p ∷ []) more (subst IsOrder (sym (append_assoc old (p ∷ []) more)) h),
)

-- numbers along which each pair rises leave no cycle
module _ (pairs : List Link) (rank : ℕ → ℕ) (rises : (x y : ℕ) → IsOver pairs x y → rank x < rank y) where
  not_lower : (first : ℕ) (rest : List ℕ) → Descends (IsOver pairs) first rest → rank first ≤ rank (last_of (IsOver pairs) first rest)
  not_lower first [] d = omega arith
  not_lower first (next ∷ rest) d = omega (arith, rises first next d.0, not_lower next rest d.1)

  pub ranked_acyclic : ¬ HasCycle (IsOver pairs)
  ranked_acyclic c =
      omega (
        arith,
        not_lower c.first c.is_path.rest c.is_path.descends,
        ap rank c.is_path.ends,
        rises c.last c.first c.closes,
      )

pub AreAddable-push : (old links : List Link) (p : Link) → AreAddable old links → IsAddable (old ++ links) p → AreAddable old (links ++ p ∷ [])
AreAddable-push old [] p h a = (subst (λ (ps : List Link). IsAddable ps p) (append-nil old) a, tt)
AreAddable-push old (q ∷ more) p h a =
    (h.0, AreAddable-push (old ++ q ∷ []) more p h.1 (subst (λ (ps : List Link). IsAddable ps p) (sym (append_assoc old (q ∷ []) more)) a))
