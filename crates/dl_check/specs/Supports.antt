-- Parts of the conditions as tests.
use Rattle.std.specs.Prelude.{Bool, true, false, not, ◌&&◌, ◌||◌}
use Rattle.std.specs.List.{list_any, list_all}
use Rattle.dl_lit.specs.declared.literal.Literal.{Literal}
use Rattle.dl_lit.specs.declared.literal.Tagged.{Tagged}
use Rattle.dl_lit.specs.declared.literal.Family.{Family}
use Rattle.dl_lit.specs.declared.literal.Family.TheVariants.{Definite, Propagating, Support}
use Rattle.dl_lit.specs.Literal.{tagged}
use Rattle.dl_theory.specs.Lists.{TheoryLists}
use Rattle.dl_theory.specs.Tests as test

abbrev pub test_supported : TheoryLists → (Tagged → Bool) → Literal → Bool
test_supported T got q =
    list_any
    (λ r. (test.is_support q r && test.is_on got Support r)
    && list_all (λ u. test.implies (test.is_opposing T q u) (test.is_off got Propagating u || not (test.is_beating T u r))) T.rules) T.rules

abbrev pub test_unsupported : TheoryLists → (Tagged → Bool) → Literal → Bool
test_unsupported T got q =
    list_all
    (λ r. test.implies (test.is_support q r)
    (test.is_off got Support r || list_any (λ u. (test.is_opposing T q u && test.is_beating T u r) && test.is_on got Propagating u) T.rules)) T.rules

abbrev pub test_defeasible : TheoryLists → (Tagged → Bool) → Bool → Family → Family → Literal → Bool
test_defeasible T got true f against q = got (tagged true Definite q) || test.prevails T got f against q
test_defeasible T got false f against q = got (tagged false Definite q) && test.fails T got f against q
