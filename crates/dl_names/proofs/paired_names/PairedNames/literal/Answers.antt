use Rattle.std.proofs.Common.{◌≡◌, Some, None, ◌/◌, sym, ap, subst, ◌∙◌, arith}
use Rattle.std.specs.Prelude.{slice_get}
use Rattle.std.specs.Option.{option_map}
use Rattle.dl_lit.specs.Borrowed.{literal_of}
use Rattle.dl_lit.specs.Literal.{complement}
use Rattle.dl_lit.specs.Names.{Numbering}
use Rattle.dl_names.proofs.PairLemmas.{first_at, second_at, past_pairs}
use Rattle.dl_names.proofs.paired_names.PairedNames.literal.Goals as goal

pub returns-in-None : goal.returns-in-None
returns-in-None c =
    subst (λ (n : Numbering). None ≡ slice_get n.literals c.args.number) c.self.view_is
    (past_pairs c.self.inside.pairs c.args.number c.in-None.ensures)

pub returns-then-number-eq0 : goal.returns-then-number-eq0
returns-then-number-eq0 c =
    subst (λ (n : Numbering). Some (literal_of c.in-Some.first) ≡ slice_get n.literals c.args.number) c.self.view_is
    (c.in-Some.ensures ∙ sym (first_at c.self.inside.pairs c.args.number (c.args.number / 2) (omega (arith, c.if-number-eq0.true))))

pub returns-else-number-eq0 : goal.returns-else-number-eq0
returns-else-number-eq0 c =
    subst (λ (n : Numbering). Some (complement (literal_of c.in-Some.first)) ≡ slice_get n.literals c.args.number) c.self.view_is
    (ap (option_map complement) c.in-Some.ensures
    ∙ sym (second_at c.self.inside.pairs c.args.number (c.args.number / 2) (omega (arith, c.if-number-eq0.false))))
