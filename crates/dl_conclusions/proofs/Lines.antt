-- The lines of conclusions, block by block.
use Rattle.std.proofs.Common.{◌≡◌, ◌∙◌, ℕ, ◌+◌, ◌<◌, ◌≤◌, ◌++◌, List, length, get_or, take, drop, take-take, ap, arith}
use Rattle.std.specs.List.{flat_map}
use Rattle.std.proofs.lemmas.List.{get_or_default, length-append}
use Rattle.dl_lit.specs.declared.literal.Family.{Family}
use Rattle.dl_conclusions.specs.declared.conclusion.Conclusion.{Conclusion}
use Rattle.dl_conclusions.specs.Conclusions.{no_conclusion}
use Rattle.dl_print.proofs.Writes.{one_more_line, lines_cut}
use Rattle.dl_conclusions.specs.Text.{conclusion_line, lines_before}

-- what was found at a place stands there
pub stands_at : (xs : List Conclusion) (i : ℕ) (x : Conclusion) → i < length xs → x ≡ get_or xs i no_conclusion → x ≡ get_or xs i x
stands_at xs i x lt e = e ∙ get_or_default xs i no_conclusion x lt

-- one more line
pub next_line : (f : Family) (cs : List Conclusion) (i : ℕ) (x : Conclusion) → i < length cs → x ≡ get_or cs i no_conclusion
    → lines_before f cs (i + 1) ≡ lines_before f cs i ++ conclusion_line f x
next_line f cs i x lt e = one_more_line (conclusion_line f) cs i x lt (stands_at cs i x lt e)

-- the lines before a later place begin with those before an earlier one
pub more_lines : (f : Family) (cs : List Conclusion) (i j : ℕ) → i ≤ j → lines_before f cs j ≡ lines_before f cs i ++ flat_map (conclusion_line f) (drop i (take j cs))
more_lines f cs i j le =
    lines_cut (conclusion_line f) (take j cs) i
    ∙ ap (λ (xs : List Conclusion). flat_map (conclusion_line f) xs ++ flat_map (conclusion_line f) (drop i (take j cs))) (take-take i j cs le)

-- so they are no shorter
pub no_shorter : (f : Family) (cs : List Conclusion) (i j : ℕ) → i ≤ j → length (lines_before f cs i) ≤ length (lines_before f cs j)
no_shorter f cs i j le =
    let more = flat_map (conclusion_line f) (drop i (take j cs)) in
    omega (arith, ap length (more_lines f cs i j le), length-append (lines_before f cs i) more)
