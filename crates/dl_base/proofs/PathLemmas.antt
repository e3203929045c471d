-- Paths along a relation: sets that no step leaves, relations with fewer steps, steps carried over by a map, and one step more.
use Rattle.std.proofs.Common.{◌≡◌, ◌∙◌, ◌⊎◌, List, [], ◌∷◌, ◌++◌, map, inl, inr, subst, sym, refl, ap, arith}
use Rattle.std.specs.Prelude.{All, Contains}
use Rattle.std.proofs.lemmas.List.Elements.{All-nil, All-cons, All-contains, Contains-append_right, Contains-get_or}
use Rattle.dl_base.specs.Paths.{IsDistinct, Descends, last_of, IsPath, HasCycle}
use Rattle.dl_base.proofs.Distinct.{distinct_map, distinct_apart, distinct_turned}

module _ {A : Type 0} (Above : A → A → Type 0) (Seen : A → Type 0) (closed : (x y : A) → Seen x → Above x y → Seen y) where
  stays : (first : A) (rest : List A) → Seen first → Descends Above first rest → Seen (last_of Above first rest)
  stays first [] s d = s
  stays first (next ∷ rest) s d = stays next rest (closed first next s d.0) d.1

  -- what is below a seen item, by any number of pairs, is seen
  pub path_stays : (first last : A) (path : List A) → Seen first → IsPath Above first last path → Seen last
  path_stays first last path s p = subst Seen p.ends (stays first p.rest s p.descends)

module _ {A : Type 0} (Above : A → A → Type 0) (Seen : A → Type 0) (closed : (x y : A) → Seen y → Above x y → Seen x) where
  climbs : (first : A) (rest : List A) → Descends Above first rest → Seen (last_of Above first rest) → Seen first
  climbs first [] d s = s
  climbs first (next ∷ rest) d s = closed first next (climbs next rest d.1 s) d.0

  -- what is above a seen item, by any number of pairs, is seen: the search from the other end
  pub path_climbs : (first last : A) (path : List A) → IsPath Above first last path → Seen last → Seen first
  path_climbs first last path p s = climbs first p.rest p.descends (subst Seen (sym p.ends) s)

module _ {A : Type 0} (Small : A → A → Type 0) (Large : A → A → Type 0) (more : (x y : A) → Small x y → Large x y) where
  -- fewer pairs have fewer paths
  pub descends_more : (first : A) (rest : List A) → Descends Small first rest → Descends Large first rest
  descends_more first [] d = tt
  descends_more first (next ∷ rest) d = (more first next d.0, descends_more next rest d.1)

module _ {A : Type 0} (Small : A → A → Type 0) (Large : A → A → Type 0) where
  same_end : (first : A) (rest : List A) → last_of Large first rest ≡ last_of Small first rest
  same_end first [] = refl
  same_end first (next ∷ rest) = same_end next rest

module _ {A : Type 0} (Small : A → A → Type 0) (Large : A → A → Type 0) (more : (x y : A) → Small x y → Large x y) where
  pub path_more : (first last : A) (path : List A) → IsPath Small first last path → IsPath Large first last path
  path_more first last path p = record {
    rest = p.rest;
    begins = p.begins;
    ends = same_end Small Large first p.rest ∙ p.ends;
    descends = descends_more Small Large more first p.rest p.descends;
    distinct = p.distinct;
  }

  pub acyclic_fewer : (¬ HasCycle Large) → ¬ HasCycle Small
  acyclic_fewer none c =
      none (record {
        first = c.first;
        last = c.last;
        path = c.path;
        is_path = path_more c.first c.last c.path c.is_path;
        closes = more c.last c.first c.closes;
      })

module _ {A B : Type 0} (From : A → A → Type 0) (To : B → B → Type 0) (f : A → B) (Known : A → Type 0)
    (step : (x y : A) → From x y → To (f x) (f y) × Known y) (apart : (x y : A) → Known x → Known y → f x ≡ f y → x ≡ y) where
  descends_mapped : (first : A) (rest : List A) → Descends From first rest → Descends To (f first) (map f rest)
  descends_mapped first [] d = tt
  descends_mapped first (next ∷ rest) d = ((step first next d.0).0, descends_mapped next rest d.1)

  last_mapped : (first : A) (rest : List A) → last_of To (f first) (map f rest) ≡ f (last_of From first rest)
  last_mapped first [] = refl
  last_mapped first (next ∷ rest) = last_mapped next rest

  known_below : (first : A) (rest : List A) → Descends From first rest → All Known rest
  known_below first [] d = All-nil Known
  known_below first (next ∷ rest) d = All-cons Known next rest (step first next d.0).1 (known_below next rest d.1)

  -- the members of a path from a known one are known
  pub path_known : (first last : A) (path : List A) → Known first → IsPath From first last path → All Known path
  path_known first last path k p =
      subst (λ (l : List A). All Known l) (sym p.begins) (All-cons Known first p.rest k (known_below first p.rest p.descends))

  -- a map that keeps the known apart carries a path over
  pub path_mapped : (first last : A) (path : List A) → Known first → IsPath From first last path
      → IsPath To (f first) (f last) (map f path)
  path_mapped first last path k p =
      let known = path_known first last path k p in
      record {
        rest = map f p.rest;
        begins = ap (map f) p.begins;
        ends = last_mapped first p.rest ∙ ap f p.ends;
        descends = descends_mapped first p.rest p.descends;
        distinct =
            distinct_map f path (λ x y m n. apart x y (All-contains Known path x known m) (All-contains Known path y known n)) p.distinct;
      }

module _ {A : Type 0} (Above : A → A → Type 0) where
  pub last_in : (first : A) (rest : List A) → Contains (first ∷ rest) (last_of Above first rest)
  last_in first [] = Contains-get_or (first ∷ []) 0 first (omega arith)
  last_in first (next ∷ rest) = Contains-append_right (first ∷ []) (next ∷ rest) (last_of Above next rest) (last_in next rest)

  pub last_joined : (first : A) (front : List A) (next : A) (back : List A)
      → last_of Above first (front ++ next ∷ back) ≡ last_of Above next back
  last_joined first [] next back = refl
  last_joined first (x ∷ front) next back = last_joined x front next back

  pub descends_joined : (first : A) (front : List A) (next : A) (back : List A)
      → Descends Above first front → Above (last_of Above first front) next → Descends Above next back
      → Descends Above first (front ++ next ∷ back)
  descends_joined first [] next back d up e = (up, e)
  descends_joined first (x ∷ front) next back d up e = (d.0, descends_joined x front next back d.1 up e)

module _ {A : Type 0} (Above More : A → A → Type 0) (upper lower : A)
    (parts : (x y : A) → More x y → Above x y ⊎ ((x ≡ upper) × (y ≡ lower))) where
  -- where a path takes the new step first
  record TakesNew (first : A) (rest : List A) : Type 0 where
    front : List A
    back : List A
    split : rest ≡ front ++ lower ∷ back
    descends : Descends Above first front
    ends : last_of Above first front ≡ upper
    below : Descends More lower back

  first_new : (first : A) (rest : List A) → Descends More first rest → Descends Above first rest ⊎ TakesNew first rest
  first_new first [] d = inl tt
  first_new first (next ∷ rest) d =
      elim (parts first next d.0) as (λ _. Descends Above first (next ∷ rest) ⊎ TakesNew first (next ∷ rest)) [
        | inr new ↦ inr (record {
          front = [];
          back = rest;
          split = ap (λ z. z ∷ rest) new.1;
          descends = tt;
          ends = new.0;
          below = subst (λ (z : A). Descends More z rest) new.1 d.1;
        })
        | inl old ↦ elim (first_new next rest d.1) as (λ _. Descends Above first (next ∷ rest) ⊎ TakesNew first (next ∷ rest)) [
          | inl all ↦ inl (old, all)
          | inr t ↦ inr (record {
            front = next ∷ t.front;
            back = t.back;
            split = ap (λ l. next ∷ l) t.split;
            descends = (old, t.descends);
            ends = t.ends;
            below = t.below;
          })
        ]
      ]

  -- steps of which none begins at the upper end of the new one are old
  old_steps : (first : A) (rest : List A) → (¬ Contains (first ∷ rest) upper) → Descends More first rest → Descends Above first rest
  old_steps first [] none d = tt
  old_steps first (next ∷ rest) none d =
      elim (parts first next d.0) [
        | inl old ↦ (old, old_steps next rest (λ m. none (Contains-append_right (first ∷ []) (next ∷ rest) upper m)) d.1)
        | inr new ↦ absurd (none (subst (λ (z : A). Contains (first ∷ next ∷ rest) z) new.0 (Contains-get_or (first ∷ next ∷ rest) 0 first (omega arith))))
      ]

  module _ (acyclic : ¬ HasCycle Above) (no_path : (path : List A) → ¬ IsPath Above lower upper path) where
    old_path_closes : (first last : A) (path : List A) → (p : IsPath More first last path) → Descends Above first p.rest → ¬ More last first
    old_path_closes first last path p d up =
        let same : IsPath Above first last path =
        record { rest = p.rest; begins = p.begins; ends = same_end More Above first p.rest ∙ p.ends; descends = d; distinct = p.distinct } in
        elim (parts last first up) [
          | inl old ↦ acyclic (record { first = first; last = last; path = path; is_path = same; closes = old })
          | inr new ↦ no_path path (subst (λ (z : A). IsPath Above z upper path) new.1 (subst (λ (z : A). IsPath Above first z path) new.0 same))
        ]

    new_path_closes : (first last : A) (path : List A) → (p : IsPath More first last path) → TakesNew first p.rest → ¬ More last first
    new_path_closes first last path p t up =
        let parts_of : path ≡ (first ∷ t.front) ++ lower ∷ t.back = p.begins ∙ ap (λ l. first ∷ l) t.split in
        let distinct : IsDistinct ((first ∷ t.front) ++ lower ∷ t.back) = subst (λ (l : List A). IsDistinct l) parts_of p.distinct in
        let above : Contains (first ∷ t.front) upper = subst (λ (z : A). Contains (first ∷ t.front) z) t.ends (last_in Above first t.front) in
        let none : Contains (lower ∷ t.back) upper → ⊥ = distinct_apart (first ∷ t.front) (lower ∷ t.back) upper distinct above in
        let end : last_of Above lower t.back ≡ last =
        same_end More Above lower t.back ∙ sym (last_joined More first t.front lower t.back) ∙ ap (last_of More first) (sym t.split) ∙ p.ends in
        elim (parts last first up) [
          | inr new ↦ none (subst (λ (z : A). Contains (lower ∷ t.back) z) (end ∙ new.0) (last_in Above lower t.back))
          | inl old ↦
              let closing : Above (last_of Above lower t.back) first = subst (λ (z : A). Above z first) (sym end) old in
              no_path (lower ∷ (t.back ++ first ∷ t.front))
              (record {
                rest = t.back ++ first ∷ t.front;
                begins = refl;
                ends = last_joined Above lower t.back first t.front ∙ t.ends;
                descends = descends_joined Above lower t.back first t.front (old_steps lower t.back none t.below) closing t.descends;
                distinct = distinct_turned (first ∷ t.front) (lower ∷ t.back) distinct;
              })
        ]

    -- a step from upper to lower closes no cycle where no path leads from lower to upper
    pub acyclic_more : ¬ HasCycle More
    acyclic_more c =
        elim (first_new c.first c.is_path.rest c.is_path.descends) [
          | inl all ↦ old_path_closes c.first c.last c.path c.is_path all c.closes
          | inr t ↦ new_path_closes c.first c.last c.path c.is_path t c.closes
        ]
