-- Names of sessions on the command line.
use Rattle.std.proofs.Common.{◌≡◌, ◌∙◌, ◌-◌, ℕ, List, [], ◌∷◌, ◌++◌, Bool, true, false, refl, sym, ap, arith, codes, take, drop, length, length-append, take-append-drop}
use Rattle.std.proofs.Math.Seq.{drop-append_seam}
use Rattle.std.specs.Prelude.{not, ◌&&◌, ◌||◌}
use Rattle.std.specs.Str.{bytes_eq}
use Rattle.std.proofs.lemmas.Slice.Eq.{bytes_eq-Decides}
use Rattle.dl_io.specs.House.{standard}
use Rattle.dl_words.specs.Names.{output_name, output_names, is_among, AreDistinct, AreApart}
use Rattle.dl_words.proofs.Names.{same_name, outputs_eq}
use Rattle.dl_words.specs.Words.{are_names, are_apart, may_serve}

pub output_is : (word front name : List ℕ) → bytes_eq (drop (length word - 4) word) (codes ".out") ≡ true → front ≡ take (length word - 4) word
    → bytes_eq front name ≡ bytes_eq word (output_name name)
output_is word front name ends is =
    let n = length word - 4 in
    let whole : word ≡ output_name front = sym (take-append-drop n word) ∙ ap (λ (l : List ℕ). take n word ++ l) (same_name (drop n word) (codes ".out") ends)
    ∙ ap (λ (l : List ℕ). l ++ codes ".out") (sym is) in
    sym (ap (λ (w : List ℕ). bytes_eq w (output_name name)) whole ∙ outputs_eq front name)

pub output_not : (word name : List ℕ) → bytes_eq (drop (length word - 4) word) (codes ".out") ≡ false → false ≡ bytes_eq word (output_name name)
output_not word name none = by (bytes_eq word (output_name name)) refl
  where
    by : (b : Bool) → bytes_eq word (output_name name) ≡ b → false ≡ b
    by false other = refl
    by true same =
        let is : word ≡ output_name name = same_name word (output_name name) same in
        let n : length word - 4 ≡ length name = omega (arith, ap length is, length-append name (codes ".out")) in
        let ends : drop (length word - 4) word ≡ codes ".out" = ap (λ (k : ℕ). drop k word) n ∙ ap (drop (length name)) is ∙ drop-append_seam name (codes ".out") in
        absurd (cc ((bytes_eq-Decides (drop (length word - 4) word) (codes ".out")).1 ends, none))

both : (b c : Bool) → (b && c) ≡ true → (b ≡ true) × (c ≡ true)
both true c h = (refl, h)
both false c h = absurd (cc)

not_true : (b : Bool) → not b ≡ true → b ≡ false
not_true true h = absurd (cc)
not_true false h = refl

names_distinct : (names : List (List ℕ)) → are_names names ≡ true → AreDistinct names
names_distinct [] h = tt
names_distinct ([] ∷ more) h = absurd (cc)
names_distinct ((x ∷ name) ∷ more) h =
    let parts = both (not (is_among (x ∷ name) more)) (are_names more) h in
    (not_true (is_among (x ∷ name) more) parts.0, names_distinct more parts.1)

names_apart : (names others : List (List ℕ)) → are_apart names others ≡ true → AreApart names others
names_apart [] others h = tt
names_apart (name ∷ more) others h =
    let parts = both (not (is_among name others)) (are_apart more others) h in
    (not_true (is_among name others) parts.0, names_apart more others parts.1)

-- what the words say of the names
pub record AreServable (theory : List ℕ) (names : List (List ℕ)) : Type 0 where
  pub distinct : AreDistinct names
  pub apart : AreApart names (output_names names)
  pub theory_other : is_among theory names ≡ false
  pub theory_apart : is_among theory (output_names names) ≡ false

pub servable : (theory : List ℕ) (names : List (List ℕ)) → may_serve theory names ≡ true → AreServable theory names
servable theory names h =
    let parts = both (are_names (theory ∷ names)) (are_apart (theory ∷ names) (output_names names)) h in
    let distinct = names_distinct (theory ∷ names) parts.0 in
    let apart = names_apart (theory ∷ names) (output_names names) parts.1 in
    record { distinct = distinct.1; apart = apart.1; theory_other = distinct.0; theory_apart = apart.0 }

-- standard output is no output of a session
pub standard_apart : (names : List (List ℕ)) → is_among standard (output_names names) ≡ false
standard_apart [] = refl
standard_apart (name ∷ more) = by (bytes_eq (output_name name) standard) refl (standard_apart more)
  where
    by : (b : Bool) → bytes_eq (output_name name) standard ≡ b → is_among standard (output_names more) ≡ false → (b || is_among standard (output_names more)) ≡ false
    by false other later = later
    by true same later = let is = same_name (output_name name) standard same in absurd (omega (arith, ap length is, length-append name (codes ".out")))
