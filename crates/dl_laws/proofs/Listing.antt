-- The members of a list, each once and in order.
use Rattle.std.proofs.Common.{◌≡◌, ◌∙◌, List, [], ◌∷◌, ◌⊎◌, inl, inr, suc, refl, sym, subst, ap, arith}
use Rattle.std.specs.Prelude.{All, AllPairs, Contains}
use Rattle.std.specs.declared.cmp.Ordering.{Ordering}
use Rattle.std.specs.declared.cmp.Ordering.TheVariants.{Less, Equal, Greater}
use Rattle.std.specs.Cmp.{IsTotalOrder}
use Rattle.std.specs.Ordering.{ordering_reverse}
use Rattle.std.proofs.lemmas.Map.Lookups.{CmpEqualImpliesEq}
use Rattle.std.proofs.lemmas.List.Kept.{AllPairs-cons}
use Rattle.std.proofs.lemmas.List.Elements.{All-nil, All-cons, All-weaker, All-contains, All-contains_itself, Contains-append_right}

module _ {A : Type 0} {R : A → A → Ordering} (total : IsTotalOrder R) (exact : CmpEqualImpliesEq R) where
  abbrev InOrder : List A → Type 0
  InOrder xs = AllPairs (λ x y. R x y ≡ Less) xs

  -- x among ys, in order
  record Placed (x : A) (ys : List A) : Type 0 where
    list : List A
    in_order : InOrder list
    sound : All (λ z. (z ≡ x) ⊎ Contains ys z) list
    has : Contains list x
    keeps : All (Contains list) ys

  in_order_tail : (y : A) (ys : List A) → InOrder (y ∷ ys) → InOrder ys
  in_order_tail y ys h i j d before within = h (suc i) (suc j) d (omega (arith, before)) (omega (arith, within))

  in_order_head : (y : A) (ys : List A) → InOrder (y ∷ ys) → All (λ z. R y z ≡ Less) ys
  in_order_head y ys h k d lt = h 0 (suc k) d (omega arith) (omega (arith, lt))

  behind : (y : A) (ys : List A) → All (Contains (y ∷ ys)) ys
  behind y ys = All-weaker (Contains ys) (Contains (y ∷ ys)) (Contains-append_right (y ∷ []) ys) ys (All-contains_itself ys)

  place : (x : A) (ys : List A) → InOrder ys → Placed x ys
  place x [] h = record {
    list = x ∷ [];
    in_order = λ i j d before within. absurd (omega (arith, before, within));
    sound = All-cons (λ z. (z ≡ x) ⊎ Contains [] z) x [] (inl refl) (All-nil (λ z. (z ≡ x) ⊎ Contains [] z));
    has = (0, omega arith, refl);
    keeps = All-nil (Contains (x ∷ []));
  }
  place x (y ∷ ys) h = by (R x y) refl (place x ys (in_order_tail y ys h))
    where
      Old : A → Type 0
      Old z = (z ≡ x) ⊎ Contains (y ∷ ys) z

      by : (o : Ordering) → R x y ≡ o → Placed x ys → Placed x (y ∷ ys)
      by Less e rest = record {
        list = x ∷ y ∷ ys;
        in_order =
            AllPairs-cons (λ a b. R a b ≡ Less) x (y ∷ ys)
            (All-cons (λ z. R x z ≡ Less) y ys e
            (All-weaker (λ z. R y z ≡ Less) (λ z. R x z ≡ Less) (λ z less. total.trans x y z e less) ys (in_order_head y ys h))) h;
        sound = All-cons Old x (y ∷ ys) (inl refl) (All-weaker (Contains (y ∷ ys)) Old (λ z m. inr m) (y ∷ ys) (All-contains_itself (y ∷ ys)));
        has = (0, omega arith, refl);
        keeps = behind x (y ∷ ys);
      }
      by Equal e rest = record {
        list = y ∷ ys;
        in_order = h;
        sound = All-weaker (Contains (y ∷ ys)) Old (λ z m. inr m) (y ∷ ys) (All-contains_itself (y ∷ ys));
        has = subst (λ (z : A). Contains (y ∷ ys) z) (sym (exact x y e)) (0, omega arith, refl);
        keeps = All-contains_itself (y ∷ ys);
      }
      by Greater e rest =
          let below : R y x ≡ Less = total.antisymm y x ∙ ap ordering_reverse e in
          record {
            list = y ∷ rest.list;
            in_order =
                AllPairs-cons (λ a b. R a b ≡ Less) y rest.list
                (All-weaker (λ z. (z ≡ x) ⊎ Contains ys z) (λ z. R y z ≡ Less)
                (λ z m. elim m [
                  | inl same ↦ subst (λ (w : A). R y w ≡ Less) (sym same) below
                  | inr old ↦ All-contains (λ w. R y w ≡ Less) ys z (in_order_head y ys h) old
                ]) rest.list rest.sound) rest.in_order;
            sound =
                All-cons Old y rest.list (inr (0, omega arith, refl))
                (All-weaker (λ z. (z ≡ x) ⊎ Contains ys z) Old
                (λ z m. elim m [ inl same ↦ inl same | inr old ↦ inr (Contains-append_right (y ∷ []) ys z old) ]) rest.list rest.sound);
            has = Contains-append_right (y ∷ []) rest.list x rest.has;
            keeps =
                All-cons (Contains (y ∷ rest.list)) y ys (0, omega arith, refl)
                (All-weaker (Contains rest.list) (Contains (y ∷ rest.list)) (Contains-append_right (y ∷ []) rest.list) ys rest.keeps);
          }

  -- the members of xs, each once and in order
  pub record Listed (xs : List A) : Type 0 where
    pub list : List A
    pub in_order : AllPairs (λ x y. R x y ≡ Less) list
    pub complete : All (Contains list) xs

  pub listed : (xs : List A) → Listed xs
  listed [] = record { list = []; in_order = λ i j d before within. absurd (omega (arith, before, within)); complete = All-nil (Contains []) }
  listed (x ∷ xs) =
      let rest = listed xs in
      let placed = place x rest.list rest.in_order in
      record {
        list = placed.list;
        in_order = placed.in_order;
        complete = All-cons (Contains placed.list) x xs placed.has
            (All-weaker (Contains rest.list) (Contains placed.list) (λ z m. All-contains (Contains placed.list) rest.list z placed.keeps m) xs rest.complete);
      }
