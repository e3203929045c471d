-- The texts of a session's replies.
use Rattle.std.specs.Prelude.{ℕ, List, [], ◌∷◌, ◌++◌, length, codes, decimal}
use Rattle.std.specs.List.{flat_map}
use Rattle.dl_lit.specs.declared.literal.Family.{Family}
use Rattle.dl_lit.specs.declared.literal.Tagged.{Tagged}
use Rattle.dl_theory.specs.declared.answer.Answer.{Answer}
use Rattle.dl_theory.specs.declared.answer.Certificate.{Certificate}
use Rattle.dl_theory.specs.declared.answer.Certificate.TheVariants.{Derivation, Gap}
use Rattle.dl_theory.specs.declared.answer.Verdict.{Verdict}
use Rattle.dl_theory.specs.declared.answer.Verdict.TheVariants.{Proved, Refuted, Neither}
use Rattle.dl_theory.specs.Lists.{TheoryLists}
use Rattle.dl_print.specs.Text.{line, tagged_text, theory_text}
use Rattle.dl_conclusions.specs.declared.conclusion.Conclusion.{Conclusion}
use Rattle.dl_conclusions.specs.Text.{conclusions_text}
use Rattle.dl_edition.specs.Editions.{line_count}

-- words as a line
abbrev pub line_of : List ℕ → List ℕ
line_of words = words ++ 10 ∷ []

-- there was no memory for a reply
abbrev pub memory_line : List ℕ
memory_line = line_of (codes "memory")

-- these words and how many lines follow, as a line
abbrev pub counted_line : List ℕ → ℕ → List ℕ
counted_line words n = words ++ (decimal n ++ 10 ∷ [])

abbrev pub verdict_words : Verdict → List ℕ
verdict_words Proved = codes "proved "
verdict_words Refuted = codes "refuted "
verdict_words Neither = codes "neither "

abbrev pub members : Certificate → List Tagged
members (Derivation steps) = steps
members (Gap gap) = gap

-- the verdict, and then a line for each member of the certificate
abbrev pub answer_text : Answer → List ℕ
answer_text a = counted_line (verdict_words a.verdict) (length (members a.certificate)) ++ flat_map (line tagged_text) (members a.certificate)

-- the canonical text of a theory, behind how many lines it has
abbrev pub counted_theory : TheoryLists → List ℕ
counted_theory T = counted_line (codes "lines ") (line_count T) ++ theory_text T

-- a line for each conclusion, behind how many there are
abbrev pub counted_conclusions : Family → List Conclusion → List ℕ
counted_conclusions f cs = counted_line (codes "lines ") (length cs) ++ conclusions_text f cs
