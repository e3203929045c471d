-- Theories and edits that have a text: their names are names.
use Rattle.std.specs.Prelude.{IsTrue, All}
use Rattle.dl_lit.specs.Name.{is_name}
use Rattle.dl_theory.specs.declared.rule.Rule.{Rule}
use Rattle.dl_theory.specs.declared.rule.Pair.{Pair}
use Rattle.dl_theory.specs.declared.edit.Edit.{Edit}
use Rattle.dl_theory.specs.declared.edit.Edit.TheVariants.{AddRule, DropRule, AddFact, DropFact, AddPair, DropPair}
use Rattle.dl_theory.specs.Lists.{TheoryLists}
use Rattle.dl_read.specs.Grammar.{Named, AllNamed}

pub record IsNamedRule (r : Rule) : Type 0 where
  pub label : IsTrue (is_name r.label)
  pub body : AllNamed r.body
  pub head : Named r.head

pub record IsNamedPair (p : Pair) : Type 0 where
  pub upper : IsTrue (is_name p.upper)
  pub lower : IsTrue (is_name p.lower)

-- the names of an edit are names
abbrev pub IsNamedEdit : Edit → Type 0
IsNamedEdit (AddRule r) = IsNamedRule r
IsNamedEdit (DropRule label) = IsTrue (is_name label)
IsNamedEdit (AddFact q) = Named q
IsNamedEdit (DropFact q) = Named q
IsNamedEdit (AddPair p) = IsNamedPair p
IsNamedEdit (DropPair p) = IsNamedPair p

pub record AreNames (T : TheoryLists) : Type 0 where
  pub facts : All Named T.facts
  pub rules : All IsNamedRule T.rules
  pub pairs : All IsNamedPair T.pairs
