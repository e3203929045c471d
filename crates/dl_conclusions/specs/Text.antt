-- The lines of conclusions.
use Rattle.std.specs.Prelude.{ℕ, List, [], ◌∷◌, ◌++◌, take}
use Rattle.std.specs.List.{flat_map}
use Rattle.dl_lit.specs.declared.literal.Family.{Family}
use Rattle.dl_print.specs.Conclusion.{conclusion_text}
use Rattle.dl_conclusions.specs.declared.conclusion.Conclusion.{Conclusion}

-- the line of a conclusion
abbrev pub conclusion_line : Family → Conclusion → List ℕ
conclusion_line f c = conclusion_text c.verdict f c.literal ++ 10 ∷ []

abbrev pub conclusions_text : Family → List Conclusion → List ℕ
conclusions_text f cs = flat_map (conclusion_line f) cs

-- the lines of the conclusions before a place
abbrev pub lines_before : Family → List Conclusion → ℕ → List ℕ
lines_before f cs at = conclusions_text f (take at cs)
