-- The line of a conclusion.
use Rattle.std.specs.Prelude.{ℕ, List, [], ◌∷◌, ◌++◌}
use Rattle.dl_lit.specs.declared.literal.Literal.{Literal}
use Rattle.dl_lit.specs.declared.literal.Family.{Family}
use Rattle.dl_theory.specs.declared.answer.Verdict.{Verdict}
use Rattle.dl_theory.specs.declared.answer.Verdict.TheVariants.{Proved, Refuted, Neither}
use Rattle.dl_print.specs.Text.{family_letter, literal_text}

-- `+`, `-` or `?`
abbrev pub verdict_byte : Verdict → ℕ
verdict_byte Proved = 43
verdict_byte Refuted = 45
verdict_byte Neither = 63

-- the verdict's sign, the family's letter and a space
abbrev pub verdict_text : Verdict → Family → List ℕ
verdict_text verdict family = verdict_byte verdict ∷ family_letter family ∷ 32 ∷ []

-- a verdict in a family on a literal, without an LF
abbrev pub conclusion_text : Verdict → Family → Literal → List ℕ
conclusion_text verdict family q = verdict_text verdict family ++ literal_text q
