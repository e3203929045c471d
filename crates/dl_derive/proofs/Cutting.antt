-- The part of a theory, as it is cut out by numbers.
use Rattle.std.proofs.Common.{true, ◌≡◌, ℕ, zero, ◌+◌, ◌<◌, ◌≤◌, List, [], ◌∷◌, ◌++◌, Some, length, map, take, get_or, inl, inr, refl, sym, subst, ap, ◌∙◌, arith}
use Rattle.std.specs.Prelude.{◌↔◌, All, Contains, slice_get}
use Rattle.std.proofs.lemmas.List.{take_all, map-append}
use Rattle.std.proofs.lemmas.List.Elements.{All-contains, All-take, Contains-get_or}
use Rattle.dl_base.proofs.Members.{Contains-mapped, mapped_from}
use Rattle.dl_lit.specs.declared.literal.Literal.{Literal}
use Rattle.dl_theory.specs.declared.rule.Rule.{Rule}
use Rattle.dl_theory.specs.declared.rule.Pair.{Pair}
use Rattle.dl_theory.specs.Lists.{TheoryLists, Opposes, Beats}
use Rattle.dl_theory.specs.Edits.{HasLabel, HasBoth}
use Rattle.dl_graph.specs.Region.{Numbers}
use Rattle.dl_graph.specs.Counting.{times}
use Rattle.dl_graph.specs.Numbers.{NetLists, IsNumbered, HasRule, literal_at, rule_at, heads, next, back, uppers_row}
use Rattle.dl_graph.specs.declared.link.Link.TheVariants.{Counters}
use Rattle.dl_graph.proofs.Slots.{rule_in, number_of_rule, row_has}
use Rattle.dl_fill.proofs.Links.{links_turned, heads_listing, counters_listing}
use Rattle.dl_fill.proofs.Written.{contains_times, times_contains}
use Rattle.dl_derive.specs.Back.{Is, FromRow, Gains}
use Rattle.dl_derive.specs.Part.{Adds, AddsIf, Gathers, IsOf, HasAllBehind, IsPart, AreRulesFor, IsBelow, pair_at}
use Rattle.dl_derive.proofs.Fitting.{adds_push, front_grows}

-- one more member of a front, and one more image
module _ {A : Type 0} (xs : List A) (at : ℕ) (x : A) (stands : slice_get xs at ≡ Some x) where
  front_adds : Adds x (take at xs) (take (at + 1) xs)
  front_adds = adds_push x (take at xs) (take (at + 1) xs) (front_grows xs at x stands)

  mapped_adds : {B : Type 0} (f : A → B) → Adds (f x) (map f (take at xs)) (map f (take (at + 1) xs))
  mapped_adds f =
      adds_push (f x) (map f (take at xs)) (map f (take (at + 1) xs)) (ap (map f) (front_grows xs at x stands) ∙ map-append f (take at xs) (x ∷ []))

-- a list that has the images of a front
abbrev pub HasFront : {A B : Type 0} → (A → B) → List A → ℕ → List B → Type 0
HasFront {A} {B} f xs at ys = (y : B) → Contains ys y ↔ Contains (map f (take at xs)) y

module _ {A B : Type 0} (f : A → B) (xs : List A) where
  pub front_none : (ys : List B) → ys ≡ [] → HasFront f xs zero ys
  front_none ys e = λ y. (λ m. subst (λ (l : List B). Contains l y) e m, λ m. subst (λ (l : List B). Contains l y) (sym e) m)

  pub front_more : (at : ℕ) (x : A) (a b : List B) → slice_get xs at ≡ Some x → HasFront f xs at a → Adds (f x) a b → HasFront f xs (at + 1) b
  front_more at x a b stands h adds = λ y.
      let one = mapped_adds xs at x stands f y in (
        λ m. one.1 (elim ((adds y).0 m) [ inl old ↦ inl ((h y).0 old) | inr new ↦ inr new ]),
        λ m. (adds y).1 (elim (one.0 m) [ inl old ↦ inl ((h y).1 old) | inr new ↦ inr new ]),
      )

  pub front_all : (at : ℕ) (ys : List B) → length xs ≤ at → HasFront f xs at ys → (y : B) → Contains ys y ↔ Contains (map f xs) y
  front_all at ys past h y = subst (λ (l : List A). Contains ys y ↔ Contains (map f l) y) (take_all at xs past) (h y)

  -- the images of a front have come to a list
  pub gathers_none : (a : List B) → Gathers (map f (take zero xs)) a a
  gathers_none a = λ y. (λ m. inl m, λ h. elim h [ inl m ↦ m | inr m ↦ absurd (omega (arith, m.1)) ])

  pub gathers_more : (at : ℕ) (x : A) (a b c : List B) → slice_get xs at ≡ Some x → Gathers (map f (take at xs)) a b → Adds (f x) b c
      → Gathers (map f (take (at + 1) xs)) a c
  gathers_more at x a b c stands h adds = λ y.
      let one = mapped_adds xs at x stands f y in (
        λ m. elim ((adds y).0 m) [
          | inl before ↦ elim ((h y).0 before) [ inl old ↦ inl old | inr some ↦ inr (one.1 (inl some)) ]
          | inr new ↦ inr (one.1 (inr new))
        ],
        λ k. (adds y).1 (elim k [
          | inl old ↦ inl ((h y).1 (inl old))
          | inr m ↦ elim (one.0 m) [ inl some ↦ inl ((h y).1 (inr some)) | inr new ↦ inr new ]
        ]),
      )

  pub gathers_all : (at : ℕ) (a b : List B) → length xs ≤ at → Gathers (map f (take at xs)) a b → Gathers (map f xs) a b
  gathers_all at a b past h = subst (λ (l : List A). Gathers (map f l) a b) (take_all at xs past) h

-- the facts among the literals with the first numbers
abbrev pub HasFacts : NetLists → List ℕ → ℕ → List Literal → Type 0
HasFacts N numbers at facts = (q : Literal) → Contains facts q ↔ (Contains N.theory.facts q × IsOf N (take at numbers) q)

module _ (N : NetLists) (numbers : List ℕ) where
  pub facts_none : (facts : List Literal) → facts ≡ [] → HasFacts N numbers zero facts
  facts_none facts e = λ q. (
    λ m. let k = subst (λ (l : List Literal). Contains l q) e m in absurd (omega (arith, k.1)),
    λ h. absurd (omega (arith, h.1.1)),
  )

  pub facts_more : (at x : ℕ) (a b : List Literal) → slice_get numbers at ≡ Some x → HasFacts N numbers at a
      → AddsIf (Contains N.theory.facts) (literal_at N x) a b → HasFacts N numbers (at + 1) b
  facts_more at x a b stands h adds = λ q.
      let one = mapped_adds numbers at x stands (literal_at N) q in (
        λ m. elim ((adds q).0 m) [
          | inl old ↦ let k = (h q).0 old in (k.0, one.1 (inl k.1))
          | inr new ↦ (new.1, one.1 (inr new.0))
        ],
        λ k. (adds q).1 (elim (one.0 k.1) [ inl old ↦ inl ((h q).1 (k.0, old)) | inr new ↦ inr (new, k.0) ]),
      )

  pub facts_all : (at : ℕ) (facts : List Literal) → length numbers ≤ at → HasFacts N numbers at facts
      → (q : Literal) → Contains facts q ↔ (Contains N.theory.facts q × IsOf N numbers q)
  facts_all at facts past h q =
      subst (λ (l : List ℕ). Contains facts q ↔ (Contains N.theory.facts q × IsOf N l q)) (take_all at numbers past) (h q)

  pub facts_within : (at : ℕ) (facts : List Literal) → HasFacts N numbers at facts → All (Contains N.theory.facts) facts
  facts_within at facts h = λ k d lt. ((h (get_or facts k d)).0 (Contains-get_or facts k d lt)).0

  -- the pairs below the first rules
  pub below_none : (pairs : List Pair) → pairs ≡ [] → (p : Pair) → Contains pairs p ↔ IsBelow N (take zero numbers) p
  below_none pairs e p = (
    λ m. let k = subst (λ (l : List Pair). Contains l p) e m in absurd (omega (arith, k.1)),
    λ h. absurd (omega (arith, h.1.1)),
  )

  pub below_more : (at x : ℕ) (a b : List Pair) → slice_get numbers at ≡ Some x
      → ((p : Pair) → Contains a p ↔ IsBelow N (take at numbers) p) → Gathers (map (pair_at N x) (next N Counters x)) a b
      → (p : Pair) → Contains b p ↔ IsBelow N (take (at + 1) numbers) p
  below_more at x a b stands h adds p = (
    λ m. elim ((adds p).0 m) [
      | inl old ↦ let k = (h p).0 old in (k.0, (front_adds numbers at x stands k.0).1 (inl k.1), k.2)
      | inr new ↦ (x, (front_adds numbers at x stands x).1 (inr refl), new)
    ],
    λ k. (adds p).1 (elim ((front_adds numbers at x stands k.0).0 k.1) [
      | inl old ↦ inl ((h p).1 (k.0, old, k.2))
      | inr new ↦ inr (subst (λ (r : ℕ). Contains (map (pair_at N r) (next N Counters r)) p) new k.2)
    ]),
  )

  pub below_all : (at : ℕ) (pairs : List Pair) → length numbers ≤ at → ((p : Pair) → Contains pairs p ↔ IsBelow N (take at numbers) p)
      → (p : Pair) → Contains pairs p ↔ IsBelow N numbers p
  below_all at pairs past h p = subst (λ (l : List ℕ). Contains pairs p ↔ IsBelow N l p) (take_all at numbers past) (h p)

module _ (N : NetLists) (numbered : IsNumbered N) where
  -- members that stand at numbers of rules are rules
  pub rules_within : (numbers : List ℕ) (at : ℕ) (rules : List Rule) → All (HasRule N) numbers → HasFront (rule_at N) numbers at rules
      → All (Contains N.theory.rules) rules
  rules_within numbers at rules inside h = λ k d lt.
      let m = mapped_from (rule_at N) (take at numbers) (get_or rules k d) ((h (get_or rules k d)).0 (Contains-get_or rules k d lt)) in
      subst (Contains N.theory.rules) m.2 (rule_in N numbered m.0 (All-contains (HasRule N) (take at numbers) m.0 (All-take (HasRule N) at numbers inside) m.1))

  -- the rules below one
  pub below_sound : (t u : ℕ) → Contains (next N Counters t) u
      → HasRule N u × Beats N.theory (rule_at N t) (rule_at N u) × Opposes N.theory (rule_at N t).head (rule_at N u)
  below_sound t u m =
      let turned : 0 < times t (back N Counters u) =
      subst (λ (n : ℕ). 0 < n) (links_turned N Counters t u) (contains_times u (next N Counters t) m) in
      let has : HasRule N u = (row_has N (uppers_row N (λ r. true)) u t turned).0 in
      let s = (counters_listing N numbered u has).sound t turned in
      (has, s.1.0, s.1.1)

  pub below_complete : (t u : ℕ) → HasRule N t → HasRule N u
      → Beats N.theory (rule_at N t) (rule_at N u) → Opposes N.theory (rule_at N t).head (rule_at N u) → Contains (next N Counters t) u
  below_complete t u lt lu beats opposes =
      times_contains u (next N Counters t)
      (subst (λ (n : ℕ). 0 < n) (sym (links_turned N Counters t u)) ((counters_listing N numbered u lu).complete t lt (beats, opposes)))

  module _ (numbers : List ℕ) (within : All (λ n. n < length N.names) numbers) where
    pub are_rules : (rules old : Numbers) → old.members ≡ []
        → Gains (FromRow (λ q. FromRow Is (heads N q)) numbers) old rules → AreRulesFor N numbers rules
    are_rules rules old none g = record {
      inside = λ k d lt. (from (get_or rules.members k d) (Contains-get_or rules.members k d lt)).0;
      sound = λ k d lt. (from (get_or rules.members k d) (Contains-get_or rules.members k d lt)).1;
      complete = λ r has of.
          let m = mapped_from (literal_at N) numbers (rule_at N r).head of in
          let inside : m.0 < length N.names = All-contains (λ n. n < length N.names) numbers m.0 within m.1 in
          g.complete r (m.0, m.1, (r, times_contains r (heads N m.0) ((heads_listing N numbered m.0 inside).complete r has (sym m.2)), refl));
    }
      where
        only_more : rules.members ≡ g.more
        only_more = g.behind ∙ ap (λ (l : List ℕ). l ++ g.more) none

        from : (r : ℕ) → Contains rules.members r → HasRule N r × IsOf N numbers (rule_at N r).head
        from r m =
            let x = All-contains (FromRow (λ q. FromRow Is (heads N q)) numbers) g.more r g.sound (subst (λ (l : List ℕ). Contains l r) only_more m) in
            let inside : x.0 < length N.names = All-contains (λ n. n < length N.names) numbers x.0 within x.1 in
            let there : Contains (heads N x.0) r = subst (Contains (heads N x.0)) (sym x.2.2) x.2.1 in
            let s = (heads_listing N numbered x.0 inside).sound r (contains_times r (heads N x.0) there) in
            (s.0, subst (IsOf N numbers) (sym s.1) (Contains-mapped (literal_at N) numbers x.0 x.1))

  module _ (numbers : List ℕ) (closed : HasAllBehind N.theory (IsOf N numbers)) (rules : Numbers) (are : AreRulesFor N numbers rules) where
    pub rules_are : (r : Rule) → Contains (map (rule_at N) rules.members) r ↔ (Contains N.theory.rules r × IsOf N numbers r.head)
    rules_are r = (
      λ m.
          let k = mapped_from (rule_at N) rules.members r m in (
            subst (Contains N.theory.rules) k.2 (rule_in N numbered k.0 (All-contains (HasRule N) rules.members k.0 are.inside k.1)),
            subst (λ (u : Rule). IsOf N numbers u.head) k.2 (All-contains (λ n. IsOf N numbers (rule_at N n).head) rules.members k.0 are.sound k.1),
          ),
      λ h.
          let p = number_of_rule N numbered r h.0 in
          subst (Contains (map (rule_at N) rules.members)) p.2
          (Contains-mapped (rule_at N) rules.members p.0 (are.complete p.0 p.1 (subst (λ (u : Rule). IsOf N numbers u.head) (sym p.2) h.1))),
    )

    -- what a pair below the rules is
    record IsBetween (p : Pair) : Type 0 where
      upper : ℕ
      lower : ℕ
      has_upper : Contains rules.members upper
      has_lower : Contains rules.members lower
      beats : Beats N.theory (rule_at N upper) (rule_at N lower)
      is : pair_at N upper lower ≡ p

    between : (p : Pair) → IsBelow N rules.members p → IsBetween p
    between p h =
        let m = mapped_from (pair_at N h.0) (next N Counters h.0) p h.2 in
        let s = below_sound h.0 m.0 m.1 in
        let head : IsOf N numbers (rule_at N h.0).head = All-contains (λ n. IsOf N numbers (rule_at N n).head) rules.members h.0 are.sound h.1 in
        record {
          upper = h.0;
          lower = m.0;
          has_upper = h.1;
          has_lower = are.complete m.0 s.0 (closed.attacked (rule_at N h.0).head (rule_at N m.0).head head s.2);
          beats = s.1;
          is = m.2;
        }

    module _ (pairs : List Pair) (below : (p : Pair) → Contains pairs p ↔ IsBelow N rules.members p) where
      pub pairs_within : All (Contains N.theory.pairs) pairs
      pairs_within = λ k d lt.
          let b = between (get_or pairs k d) ((below (get_or pairs k d)).0 (Contains-get_or pairs k d lt)) in
          subst (Contains N.theory.pairs) b.is b.beats

      module _ (P : TheoryLists) (has : (r : Rule) → Contains P.rules r ↔ Contains (map (rule_at N) rules.members) r) where
        labelled : (n : ℕ) → Contains rules.members n → HasLabel P (rule_at N n).label
        labelled n m =
            Contains-mapped (λ (r : Rule). r.label) P.rules (rule_at N n) ((has (rule_at N n)).1 (Contains-mapped (rule_at N) rules.members n m))

        pub pairs_labelled : All (HasBoth P) pairs
        pairs_labelled = λ k d lt.
            let b = between (get_or pairs k d) ((below (get_or pairs k d)).0 (Contains-get_or pairs k d lt)) in
            subst (HasBoth P) b.is (labelled b.upper b.has_upper, labelled b.lower b.has_lower)

        pub is_part : P.pairs ≡ pairs → ((q : Literal) → Contains P.facts q ↔ (Contains N.theory.facts q × IsOf N numbers q))
            → IsPart (IsOf N numbers) N.theory P
        is_part same facts = record {
          facts = facts;
          rules = λ r. (λ m. (rules_are r).0 ((has r).0 m), λ h. (has r).1 ((rules_are r).1 h));
          above = λ t u m n opposes. (
            λ b. All-contains (Contains N.theory.pairs) pairs (record { upper = t.label; lower = u.label }) pairs_within
                (subst (λ (l : List Pair). Contains l (record { upper = t.label; lower = u.label })) same b),
            λ b.
                let i = mapped_from (rule_at N) rules.members t ((has t).0 m) in
                let j = mapped_from (rule_at N) rules.members u ((has u).0 n) in
                let li : HasRule N i.0 = All-contains (HasRule N) rules.members i.0 are.inside i.1 in
                let lj : HasRule N j.0 = All-contains (HasRule N) rules.members j.0 are.inside j.1 in
                let beats : Beats N.theory (rule_at N i.0) (rule_at N j.0) =
                subst (λ (v : Rule). Beats N.theory v (rule_at N j.0)) (sym i.2) (subst (λ (v : Rule). Beats N.theory t v) (sym j.2) b) in
                let against : Opposes N.theory (rule_at N i.0).head (rule_at N j.0) =
                subst (λ (v : Rule). Opposes N.theory v.head (rule_at N j.0)) (sym i.2) (subst (λ (v : Rule). Opposes N.theory t.head v) (sym j.2) opposes) in
                let there : IsBelow N rules.members (pair_at N i.0 j.0) =
                (i.0, i.1, Contains-mapped (pair_at N i.0) (next N Counters i.0) j.0 (below_complete i.0 j.0 li lj beats against)) in
                let same_pair : pair_at N i.0 j.0 ≡ record { upper = t.label; lower = u.label } =
                λ k. record { upper = (i.2 k).label; lower = (j.2 k).label } in
                subst (λ (l : List Pair). Contains l (record { upper = t.label; lower = u.label })) (sym same)
                (subst (Contains pairs) same_pair ((below (pair_at N i.0 j.0)).1 there)),
          );
        }
