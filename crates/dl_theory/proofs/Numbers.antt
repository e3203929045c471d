-- Pairs of labels by pairs of numbers: what holds of the ones holds of the others.
use Rattle.std.proofs.Common.{◌≡◌, ℕ, ◌<◌, ◌≤◌, ◌==◌, Bool, true, cond, not, ◌&&◌, ◌||◌, List, [], ◌∷◌, ◌++◌, Result, Ok, Err, get_or, length, map, filter, inl, inr, refl, sym, ap, subst, ◌∙◌, arith}
use Rattle.std.specs.Prelude.{All, Contains, OnOk, OnErr}
use Rattle.std.specs.List.{position_or_len}
use Rattle.std.specs.Bool.{Decides}
use Rattle.std.specs.Str.{bytes_eq}
use Rattle.std.proofs.lemmas.Bool.{cases_lt}
use Rattle.std.proofs.lemmas.Bool.Decides.{same_from_decides, Decides-and, Decides-like, Decides-eqb}
use Rattle.std.proofs.lemmas.Slice.Eq.{bytes_eq-Decides}
use Rattle.std.proofs.lemmas.List.{get_or_append_left, get_or-map, map-append, length-append, length-map, append-nil}
use Rattle.std.proofs.lemmas.List.Sums.{position_or_len_is}
use Rattle.std.proofs.lemmas.List.Elements.{All-push, All-weaker, All-filter, All-contains, All-contains_itself, Contains-get_or, filter-append}
use Rattle.dl_base.specs.Paths.{IsDistinct, IsPath, HasCycle}
use Rattle.dl_base.proofs.Members.{all_more, Contains-mapped, mapped_from, map_agree}
use Rattle.dl_base.proofs.Filters.{filter_all, filter_mapped, false_unless}
use Rattle.dl_base.proofs.PathLemmas.{path_mapped, path_known}
use Rattle.dl_sup.specs.declared.link.Link.{Link}
use Rattle.dl_sup.specs.declared.stop.NoPair.{NoPair}
use Rattle.dl_sup.specs.Links.{IsOver, IsOrder, link, names_item, same_link}
use Rattle.dl_sup.specs.Adding.{ClosesCycle}
use Rattle.dl_theory.specs.declared.rule.Pair.{Pair}
use Rattle.dl_theory.specs.declared.superiority.PairStop.{PairStop}
use Rattle.dl_theory.specs.declared.superiority.PairStop.TheVariants.{Cycle, Full, Memory}
use Rattle.dl_theory.specs.Lists.{IsAbove}
use Rattle.dl_theory.specs.Edits.{AreThere}
use Rattle.dl_theory.specs.Superiority.{IsLinkStop, IsPairStop}
use Rattle.dl_theory.specs.Pairs.{pair_eq, Closes, label_at, named, IsWithin, IsNumbered, IsNumberOf}

-- the number of a label
abbrev place : List (List ℕ) → List ℕ → ℕ
place items x = position_or_len (bytes_eq x) items

module _ (items : List (List ℕ)) (distinct : IsDistinct items) where
  -- labels with one name have one number
  same_number : (m n : ℕ) → m < length items → n < length items → label_at items m ≡ label_at items n → m ≡ n
  same_number m n p q e =
      elim (cases_lt m n) [
        | inl before ↦ absurd (distinct m n [] before q e)
        | inr after ↦ elim (cases_lt n m) [
          | inl before ↦ absurd (distinct n m [] before p (sym e))
          | inr equal ↦ omega (arith, after, equal)
        ]
      ]

  place_is : (n : ℕ) (x : List ℕ) → n < length items → label_at items n ≡ x → place items x ≡ n
  place_is n x within e =
      position_or_len_is (bytes_eq x) items n [] (omega (arith, within))
      (λ k before. false_unless (bytes_eq x (get_or items k [])) (bytes_eq-Decides x (get_or items k []))
      (λ same. distinct k n [] before within (sym same ∙ sym e)))
      (λ _. (bytes_eq-Decides x (get_or items n [])).1 (sym e))

  -- a test on labels as a test on numbers
  same_test : (m n : ℕ) (x : List ℕ) → m < length items → n < length items → label_at items n ≡ x
      → bytes_eq (label_at items m) x ≡ (m == n)
  same_test m n x p q e =
      same_from_decides (bytes_eq (label_at items m) x) (m == n)
      (Decides-like (bytes_eq (label_at items m) x) (λ h. same_number m n p q (h ∙ sym e)) (λ h. ap (label_at items) h ∙ e)
      (bytes_eq-Decides (label_at items m) x))
      (Decides-eqb m n)

pub same_link-Decides : (p q : Link) → Decides (same_link p q) (p ≡ q)
same_link-Decides p q =
    Decides-like (same_link p q) (λ h i. record { upper = h.0 i; lower = h.1 i }) (λ e. (ap (λ r. r.upper) e, ap (λ r. r.lower) e))
    (Decides-and (p.upper == q.upper) (p.lower == q.lower) (Decides-eqb p.upper q.upper) (Decides-eqb p.lower q.lower))

module _ (items more : List (List ℕ)) where
  same_label : (n : ℕ) → n < length items → label_at (items ++ more) n ≡ label_at items n
  same_label n within = get_or_append_left items more [] n within

  -- new labels go last, so the numbers of the others stay
  pub numbered_grown : (links : List Link) (pairs : List Pair) → IsDistinct (items ++ more) → IsNumbered items links pairs
      → IsNumbered (items ++ more) links pairs
  numbered_grown links pairs distinct h = record {
    distinct = distinct;
    within =
        All-weaker (IsWithin items) (IsWithin (items ++ more))
        (λ l w. (omega (arith, w.0, length-append items more), omega (arith, w.1, length-append items more))) links h.within;
    names =
        h.names
        ∙ map_agree (named items) (named (items ++ more)) links
        (All-weaker (IsWithin items) (λ l. named items l ≡ named (items ++ more) l)
        (λ l w i. record { upper = sym (same_label l.upper w.0) i; lower = sym (same_label l.lower w.1) i }) links h.within);
  }

-- a pair that has numbers has its labels among the items
pub has_labels : (items : List (List ℕ)) (l : Link) (p : Pair) → IsNumberOf items l p → AreThere items p
has_labels items l p number = (
  subst (λ (x : List ℕ). Contains items x) (ap (λ q. q.upper) number.names) (Contains-get_or items l.upper [] number.within.0),
  subst (λ (x : List ℕ). Contains items x) (ap (λ q. q.lower) number.names) (Contains-get_or items l.lower [] number.within.1),
)

module _ (items : List (List ℕ)) (links : List Link) (pairs : List Pair) (h : IsNumbered items links pairs) where
  over_above : (x y : ℕ) → IsOver links x y → IsAbove pairs (label_at items x) (label_at items y) × (y < length items)
  over_above x y m = (
    subst (λ (ps : List Pair). Contains ps (named items (link x y))) (sym h.names) (Contains-mapped (named items) links (link x y) m),
    (All-contains (IsWithin items) links (link x y) h.within m).1,
  )

  above_over : (x y : List ℕ) → IsAbove pairs x y
      → IsOver links (place items x) (place items y) × (label_at items (place items y) ≡ y)
  above_over x y m =
      let from = mapped_from (named items) links (record { upper = x; lower = y })
      (subst (λ (ps : List Pair). Contains ps (record { upper = x; lower = y })) h.names m) in
      let l : Link = from.0 in
      let within = All-contains (IsWithin items) links l h.within from.1 in
      let upper : place items x ≡ l.upper = place_is items h.distinct l.upper x within.0 (ap (λ p. p.upper) from.2) in
      let lower : place items y ≡ l.lower = place_is items h.distinct l.lower y within.1 (ap (λ p. p.lower) from.2) in (
        subst (λ (z : Link). Contains links z) (λ i. record { upper = sym upper i; lower = sym lower i }) from.1,
        ap (label_at items) lower ∙ ap (λ p. p.lower) from.2,
      )

  -- labels stand in a pair where their numbers do
  pub above_numbered : (x y : List ℕ) (m n : ℕ) → m < length items → n < length items → label_at items m ≡ x → label_at items n ≡ y
      → (IsOver links m n → IsAbove pairs x y) × (IsAbove pairs x y → IsOver links m n)
  above_numbered x y m n p q e f = (
    λ over.
        subst (λ (z : List ℕ). IsAbove pairs z y) e
        (subst (λ (z : List ℕ). IsAbove pairs (label_at items m) z) f (over_above m n over).0),
    λ above.
        subst (λ (k : ℕ). IsOver links k n) (place_is items h.distinct m x p e)
        (subst (λ (k : ℕ). IsOver links (place items x) k) (place_is items h.distinct n y q f) (above_over x y above).0),
  )

  pub labels_of_pair : (x y : List ℕ) → IsAbove pairs x y → Contains items x × Contains items y
  labels_of_pair x y m =
      let from = mapped_from (named items) links (record { upper = x; lower = y })
      (subst (λ (ps : List Pair). Contains ps (record { upper = x; lower = y })) h.names m) in
      let within = All-contains (IsWithin items) links from.0 h.within from.1 in (
        subst (Contains items) (ap (λ p. p.upper) from.2) (Contains-get_or items from.0.upper [] within.0),
        subst (Contains items) (ap (λ p. p.lower) from.2) (Contains-get_or items from.0.lower [] within.1),
      )

  module _ (l : Link) (p : Pair) (number : IsNumberOf items l p) where
    upper_name : label_at items l.upper ≡ p.upper
    upper_name = ap (λ q. q.upper) number.names

    lower_name : label_at items l.lower ≡ p.lower
    lower_name = ap (λ q. q.lower) number.names

    -- the labels of a track of numbers are a path
    pub path_named : (track : List ℕ) → IsPath (IsOver links) l.lower l.upper track
        → IsPath (IsAbove pairs) p.lower p.upper (map (label_at items) track)
    path_named track path =
        subst (λ (x : List ℕ). IsPath (IsAbove pairs) x p.upper (map (label_at items) track)) lower_name
        (subst (λ (x : List ℕ). IsPath (IsAbove pairs) (label_at items l.lower) x (map (label_at items) track)) upper_name
        (path_mapped (IsOver links) (IsAbove pairs) (label_at items) (λ n. n < length items) over_above (same_number items h.distinct)
        l.lower l.upper track number.within.1 path))

    -- and the numbers of a path of labels are a track
    closes_numbered : Closes pairs p → ClosesCycle links l
    closes_numbered c =
        let lower : place items p.lower ≡ l.lower = place_is items h.distinct l.lower p.lower number.within.1 lower_name in
        let upper : place items p.upper ≡ l.upper = place_is items h.distinct l.upper p.upper number.within.0 upper_name in (
          map (place items) c.0,
          subst (λ (n : ℕ). IsPath (IsOver links) n l.upper (map (place items) c.0)) lower
              (subst (λ (n : ℕ). IsPath (IsOver links) (place items p.lower) n (map (place items) c.0)) upper
              (path_mapped (IsAbove pairs) (IsOver links) (place items) (λ x. label_at items (place items x) ≡ x) above_over
              (λ x y kx ky e. sym kx ∙ ap (label_at items) e ∙ ky)
              p.lower p.upper c.0 (ap (label_at items) lower ∙ lower_name) c.1)),
        )

    pub not_closing : (¬ ClosesCycle links l) → ¬ Closes pairs p
    not_closing none c = none (closes_numbered c)

    -- a pair is there where its pair of numbers is
    pub pair_there : Contains links l → Contains pairs p
    pair_there m =
        subst (λ (q : Pair). Contains pairs q) number.names
        (subst (λ (ps : List Pair). Contains ps (named items l)) (sym h.names) (Contains-mapped (named items) links l m))

    -- a new pair has a new pair of numbers
    pub new_link : (¬ Contains pairs p) → ¬ Contains links l
    new_link new m = new (pair_there m)

    -- a pair that is there has its pair of numbers there
    pub old_link : Contains pairs p → Contains links l
    old_link m =
        let from = mapped_from (named items) links p (subst (λ (ps : List Pair). Contains ps p) h.names m) in
        let there : Link = from.0 in
        let within = All-contains (IsWithin items) links there h.within from.1 in
        let upper : there.upper ≡ l.upper =
        same_number items h.distinct there.upper l.upper within.0 number.within.0 (ap (λ q. q.upper) from.2 ∙ sym upper_name) in
        let lower : there.lower ≡ l.lower =
        same_number items h.distinct there.lower l.lower within.1 number.within.1 (ap (λ q. q.lower) from.2 ∙ sym lower_name) in
        subst (λ (z : Link). Contains links z) (λ i. record { upper = upper i; lower = lower i }) from.1

    pub numbered_push : IsNumbered items (links ++ l ∷ []) (pairs ++ p ∷ [])
    numbered_push = record {
      distinct = h.distinct;
      within = All-push (IsWithin items) links l h.within number.within;
      names =
          ap (λ ps. ps ++ p ∷ []) h.names
          ∙ ap (λ q. map (named items) links ++ q ∷ []) (sym number.names)
          ∙ sym (map-append (named items) links (l ∷ []));
    }

  -- pairs of numbers are an order where their pairs of labels are distinct and without cycles
  pub order_numbered : IsDistinct pairs → (¬ HasCycle (IsAbove pairs)) → IsOrder links
  order_numbered distinct acyclic = record {
    distinct = λ i j d before within.
        λ e. subst (λ (ps : List Pair). IsDistinct ps) h.names distinct i j (named items d) before (omega (arith, within, length-map links (named items)))
        (get_or-map (named items) links i d (named items d) (omega (arith, before, within))
        ∙ ap (named items) e
        ∙ sym (get_or-map (named items) links j d (named items d) within));
    acyclic = λ c.
        let closing = over_above c.last c.first c.closes in
        acyclic (record {
          first = label_at items c.first;
          last = label_at items c.last;
          path = map (label_at items) c.path;
          is_path =
              path_mapped (IsOver links) (IsAbove pairs) (label_at items) (λ n. n < length items) over_above (same_number items h.distinct)
              c.first c.last c.path closing.1 c.is_path;
          closes = closing.0;
        });
  }

  -- fewer of both
  pub numbered_filtered : (p : Pair → Bool) (q : Link → Bool) → ((l : Link) → IsWithin items l → p (named items l) ≡ q l)
      → IsNumbered items (filter q links) (filter p pairs)
  numbered_filtered p q agree = record {
    distinct = h.distinct;
    within = All-filter q (IsWithin items) links h.within;
    names =
        ap (filter p) h.names
        ∙ filter_mapped (named items) p q links (All-weaker (IsWithin items) (λ l. p (named items l) ≡ q l) agree links h.within);
  }

  -- the pairs that do not name a label
  pub numbered_without_label : (label : List ℕ) (item : ℕ) → item < length items → label_at items item ≡ label
      → IsNumbered items (filter (λ l. not (names_item item l)) links) (filter (λ p. not (bytes_eq p.upper label || bytes_eq p.lower label)) pairs)
  numbered_without_label label item within e =
      numbered_filtered (λ p. not (bytes_eq p.upper label || bytes_eq p.lower label)) (λ l. not (names_item item l))
      (λ l w i. not (same_test items h.distinct l.upper item label w.0 within e i || same_test items h.distinct l.lower item label w.1 within e i))

  -- all the pairs but one
  pub numbered_without : (p : Pair) (n : Link) → IsNumberOf items n p
      → IsNumbered items (filter (λ l. not (l.upper == n.upper && l.lower == n.lower)) links) (filter (λ q. not (pair_eq q p)) pairs)
  numbered_without p n number =
      numbered_filtered (λ q. not (pair_eq q p)) (λ l. not (l.upper == n.upper && l.lower == n.lower))
      (λ l w i. not (same_test items h.distinct l.upper n.upper p.upper w.0 number.within.0 (ap (λ q. q.upper) number.names) i
      && same_test items h.distinct l.lower n.lower p.lower w.1 number.within.1 (ap (λ q. q.lower) number.names) i))

  -- each label of a pair is among the items
  upper_known : (p : Pair) → Contains pairs p → Contains items p.upper
  upper_known p m =
      let from = mapped_from (named items) links p (subst (λ (ps : List Pair). Contains ps p) h.names m) in
      subst (λ (x : List ℕ). Contains items x) (ap (λ q. q.upper) from.2)
      (Contains-get_or items from.0.upper [] (All-contains (IsWithin items) links from.0 h.within from.1).0)

  lower_known : (p : Pair) → Contains pairs p → Contains items p.lower
  lower_known p m =
      let from = mapped_from (named items) links p (subst (λ (ps : List Pair). Contains ps p) h.names m) in
      subst (λ (x : List ℕ). Contains items x) (ap (λ q. q.lower) from.2)
      (Contains-get_or items from.0.lower [] (All-contains (IsWithin items) links from.0 h.within from.1).1)

  -- a label that is no item stands in no pair
  pub all_without_label : (label : List ℕ) → (¬ Contains items label)
      → filter (λ p. not (bytes_eq p.upper label || bytes_eq p.lower label)) pairs ≡ pairs
  all_without_label label none =
      filter_all (λ p. not (bytes_eq p.upper label || bytes_eq p.lower label)) pairs
      (all_more (Contains pairs) (λ p. not (bytes_eq p.upper label || bytes_eq p.lower label) ≡ true) pairs
      (λ p m _ i. not (false_unless (bytes_eq p.upper label) (bytes_eq-Decides p.upper label) (λ e. none (subst (λ (x : List ℕ). Contains items x) e (upper_known p m))) i
      || false_unless (bytes_eq p.lower label) (bytes_eq-Decides p.lower label) (λ e. none (subst (λ (x : List ℕ). Contains items x) e (lower_known p m))) i))
      (All-contains_itself pairs))

-- each number of a track from the number of a label is one of a label
pub track_within : (items : List (List ℕ)) (links : List Link) (l : Link) (track : List ℕ) → All (IsWithin items) links → IsWithin items l
    → IsPath (IsOver links) l.lower l.upper track → All (λ n. n < length items) track
track_within items links l track within here path =
    path_known (IsOver links) (λ _ _. Unit {0}) (λ (n : ℕ). n) (λ n. n < length items)
    (λ x y m. (tt, (All-contains (IsWithin items) links (link x y) within m).1)) (λ _ _ _ _ e. e) l.lower l.upper track here.1 path

-- what is not in a list is not taken out of it
module _ {X : Type 0} (eq : X → X → Bool) (same : (a b : X) → Decides (eq a b) (a ≡ b)) (xs : List X) (x : X) (new : ¬ Contains xs x) where
  pub without_absent : filter (λ y. not (eq y x)) xs ≡ xs
  without_absent =
      filter_all (λ y. not (eq y x)) xs
      (all_more (Contains xs) (λ y. not (eq y x) ≡ true) xs
      (λ y m _. ap not (false_unless (eq y x) (same y x) (λ e. new (subst (λ (z : X). Contains xs z) e m))))
      (All-contains_itself xs))

  pub without_pushed : filter (λ y. not (eq y x)) (xs ++ x ∷ []) ≡ xs
  without_pushed =
      filter-append (λ y. not (eq y x)) xs (x ∷ [])
      ∙ (λ i. without_absent i ++ last i)
      ∙ append-nil xs
    where
      last : filter (λ y. not (eq y x)) (x ∷ []) ≡ []
      last = ap (λ b. cond (not b) (x ∷ []) []) ((same x x).1 refl)

-- an order after dropping a pair, whether it was there or not
pub after_drop : (old new : List Link) (l : Link) (r : Result (Unit {0}) NoPair)
    → OnOk r (new ≡ filter (λ p. not (same_link p l)) old) → OnErr r (¬ Contains old l) → OnErr r (new ≡ old)
    → new ≡ filter (λ p. not (same_link p l)) old
after_drop old new l (Ok u) dropped absent kept = dropped
after_drop old new l (Err e) dropped absent kept = kept ∙ sym (without_absent same_link same_link-Decides old l absent)

-- why a pair is not added, from why its numbers are not
module _ (items : List (List ℕ)) (links : List Link) (pairs : List Pair) (h : IsNumbered items links pairs) (l : Link) (p : Pair)
    (number : IsNumberOf items l p) where
  pub link_stop : (stop : PairStop) → IsLinkStop items links l stop → IsPairStop pairs p stop
  link_stop (Cycle path) n =
      subst (λ (ls : List (List ℕ)). IsPath (IsAbove pairs) p.lower p.upper ls) (sym n.named)
      (path_named items links pairs h l p number n.track n.leads)
  link_stop Full n = absurd n
  link_stop Memory n = tt

pub append_stop : (pairs : List Pair) (p : Pair) (stop : PairStop) → (¬ Closes pairs p) → (stop ≡ Full → 1000000 ≤ length pairs)
    → ((path : List (List ℕ)) → ¬ (stop ≡ Cycle path)) → IsPairStop pairs p stop
append_stop pairs p (Cycle path) apart full never = absurd (never path refl)
append_stop pairs p Full apart full never = (apart, full refl)
append_stop pairs p Memory apart full never = tt
