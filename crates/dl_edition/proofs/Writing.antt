-- Lines that are read one by one at their places, and at numbers of which some are empty.
use Rattle.std.proofs.Common.{◌≡◌, ◌∙◌, ℕ, zero, suc, ◌+◌, ◌<◌, ◌≤◌, List, [], ◌∷◌, ◌++◌, length, get_or, take, take_all, drop, refl, sym, ap, subst, arith}
use Rattle.std.specs.Prelude.{Option, Some, None, slice_get}
use Rattle.std.specs.List.{flat_map}
use Rattle.std.specs.Io.KnownBytes.{append_known}
use Rattle.std.proofs.lemmas.List.{get_or_default}
use Rattle.std.proofs.lemmas.Option.{get_or_from_slice_get}
use Rattle.dl_lit.specs.declared.literal.Literal.{Literal}
use Rattle.dl_print.specs.Text.{literal_text, comma_text, body_text}
use Rattle.dl_print.proofs.Writes.{Cuts, cut_line, line_more}
use Rattle.dl_rows.specs.There.{there}
use Rattle.dl_edition.specs.Lines.{slot_text}

-- at each place of a list something stands
pub never_past : {A : Type 0} (xs : List A) (i : ℕ) → i < length xs → None ≡ slice_get xs i → ⊥
never_past [] i h e = omega arith
never_past (x ∷ xs) zero h e = cc
never_past (x ∷ xs) (suc i) h e = never_past xs i (omega arith) e

-- ---- the literals of a body

-- what was found at a place stands there behind the first
pub stands_behind : {A : Type 0} (xs : List A) (i : ℕ) (x : A) → Some x ≡ slice_get xs (suc i) → x ≡ get_or (drop 1 xs) i x
stands_behind [] i x found = cc
stands_behind (y ∷ xs) i x found = sym (get_or_from_slice_get xs i x x (sym found))

pub length_behind : {A : Type 0} (xs : List A) (i : ℕ) → suc i < length xs → i < length (drop 1 xs)
length_behind [] i h = absurd (omega (arith, h))
length_behind (x ∷ xs) i h = omega (arith, h)

pub length_past : {A : Type 0} (xs : List A) (i : ℕ) → length xs ≤ suc i → length (drop 1 xs) ≤ i
length_past [] i h = omega arith
length_past (x ∷ xs) i h = omega (arith, h)

pub some_body : (qs : List Literal) (q : Literal) → Some q ≡ slice_get qs 0 → body_text qs ≡ literal_text q ++ (flat_map comma_text (drop 1 qs) ++ 32 ∷ [])
some_body [] q e = cc
some_body (r ∷ qs) q e =
    let same : q ≡ r = cc in
    ap (λ (x : Literal). literal_text x ++ (flat_map comma_text qs ++ 32 ∷ [])) (sym same)

-- ---- what stands at numbers

there_lines : {A : Type 0} (f : A → List ℕ) (xs : List (Option A)) → flat_map f (there xs) ≡ flat_map (slot_text f) xs
there_lines f [] = refl
there_lines f (None ∷ xs) = there_lines f xs
there_lines f (Some x ∷ xs) = ap (λ (l : List ℕ). f x ++ l) (there_lines f xs)

module _ {A : Type 0} (f : A → List ℕ) (items : List A) (xs : List (Option A)) (are : items ≡ there xs) where
  lines_are : flat_map f items ≡ flat_map (slot_text f) xs
  lines_are = ap (flat_map f) are ∙ there_lines f xs

  -- the lines of all numbers are those of what is there
  pub slots_done : (i : ℕ) (old new : Option (List ℕ)) → length xs ≤ i → new ≡ append_known old (flat_map (slot_text f) (take i xs))
      → new ≡ append_known old (flat_map f items)
  slots_done i old new past before =
      before ∙ ap (λ (l : List (Option A)). append_known old (flat_map (slot_text f) l)) (take_all i xs past) ∙ ap (append_known old) (sym lines_are)

  module _ (i : ℕ) (x : Option A) (lt : i < length xs) (is : x ≡ get_or xs i None) (old mid new : Option (List ℕ))
      (before : mid ≡ append_known old (flat_map (slot_text f) (take i xs))) where
    stands : x ≡ get_or xs i x
    stands = is ∙ get_or_default xs i None x lt

    -- the line of one more number
    pub slot_more : new ≡ append_known mid (slot_text f x) → new ≡ append_known old (flat_map (slot_text f) (take (i + 1) xs))
    slot_more = line_more (slot_text f) xs i x old mid new lt stands before

    -- it was cut short
    pub slot_cut : Cuts mid new (slot_text f x) → Cuts old new (flat_map f items)
    slot_cut cut =
        subst (λ (text : List ℕ). Cuts old new text) (sym lines_are)
        (cut_line (slot_text f) xs i x old mid new cut.0 lt stands before cut.1 cut.2)
