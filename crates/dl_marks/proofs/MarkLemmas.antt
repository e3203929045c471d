-- What callers need of marks: tags told apart, and one mark that was written.
use Rattle.std.proofs.Common.{◌≡◌, ◌≢◌, ℕ, ◌≤◌, Bool, true, false, nat_eq, if◌then◌else◌, None, [], inl, inr, refl, ap, ◌∙◌, eq-eqb, ne_eqb}
use Rattle.std.specs.Bool.{Decides}
use Rattle.std.proofs.lemmas.Bool.{and_from, and_parts, and_left, and_right, cases_Bool}
use Rattle.std.proofs.lemmas.List.{get_or_past}
use Rattle.dl_lit.specs.declared.literal.Tag.{Tag}
use Rattle.dl_lit.specs.declared.literal.Family.{Family}
use Rattle.dl_lit.specs.declared.literal.Family.TheVariants.{Definite, Blocking, Propagating, Support}
use Rattle.dl_lit.specs.declared.literal.Literal.{Literal}
use Rattle.dl_lit.specs.Literal.{tagged}
use Rattle.dl_lit.specs.Order.{tagged_eq-Decides}
use Rattle.dl_marks.specs.Marks.{Row, Marking, no_row, all_alike, of_family, mark, places, marked, same_tag, IsMarked}

some_literal : Literal
some_literal = record { mode = None; atom = []; positive = true }

-- `same_tag` decides equality
pub same_tag-Decides : (t u : Tag) → Decides (same_tag t u) (t ≡ u)
unfolding some_literal
same_tag-Decides t u =
    let tells = tagged_eq-Decides (tagged t.plus t.family some_literal) (tagged u.plus u.family some_literal) in (
      λ h. let same = tells.0 (and_from _ _ h refl) in λ i. record { plus = (same i).plus; family = (same i).family },
      λ same. (and_parts _ _ (tells.1 (λ i. tagged (same i).plus (same i).family some_literal))).0,
    )

pub same_tag-apart : (t u : Tag) → t ≢ u → same_tag t u ≡ false
same_tag-apart t u apart =
    elim (cases_Bool (same_tag t u)) [
      | inl same ↦ absurd (apart ((same_tag-Decides t u).0 same))
      | inr other ↦ other
    ]

pub all_alike-mark : (b : Bool) (f : Family) → of_family (all_alike b) f ≡ b
all_alike-mark b Definite = refl
all_alike-mark b Blocking = refl
all_alike-mark b Propagating = refl
all_alike-mark b Support = refl

no_mark : (p : Bool) (f : Family) → of_family (if p then all_alike false else all_alike false) f ≡ false
no_mark true f = all_alike-mark false f
no_mark false f = all_alike-mark false f

-- past the last number no tag stands
pub marked_past : (m : Marking) (t : Tag) (n : ℕ) → places m ≤ n → marked m t n ≡ false
marked_past m t n past = ap (λ (r : Row). mark r t) (get_or_past m.rows n no_row past) ∙ no_mark t.plus t.family

module _ (old new : Marking) (tag : Tag) (number : ℕ) (value : Bool) (written : IsMarked old new tag number value) where
  pub written_here : marked new tag number ≡ value
  written_here =
      written tag number
      ∙ ap (λ (b : Bool). if b then value else marked old tag number)
      (and_from (same_tag tag tag) (nat_eq number number) ((same_tag-Decides tag tag).1 refl) (eq-eqb number number refl))

  pub written_elsewhere : (t : Tag) (n : ℕ) → n ≢ number → marked new t n ≡ marked old t n
  written_elsewhere t n apart =
      written t n
      ∙ ap (λ (b : Bool). if b then value else marked old t n) (and_right (same_tag t tag) (nat_eq n number) (ne_eqb n number apart))

  pub written_otherwise : (t : Tag) (n : ℕ) → t ≢ tag → marked new t n ≡ marked old t n
  written_otherwise t n apart =
      written t n
      ∙ ap (λ (b : Bool). if b then value else marked old t n) (and_left (same_tag t tag) (nat_eq n number) (same_tag-apart t tag apart))
