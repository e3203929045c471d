use Rattle.std.proofs.Common.{◌≡◌, Some, None, ◌*◌, ◌+◌, position, refl, sym, ap, subst, ◌∙◌}
use Rattle.std.specs.Prelude.{Contains}
use Rattle.std.specs.Bool.{beq}
use Rattle.dl_lit.specs.Literal.{literal_eq}
use Rattle.dl_lit.specs.Names.{Numbering}
use Rattle.dl_names.specs.Paired.{IsPaired}
use Rattle.dl_names.proofs.PairLemmas.{pairs_paired, pairs_absent, nowhere, found_first, found_second}
use Rattle.dl_names.proofs.paired_names.PairedNames.find.Goals as goal

pub returns-in-None-clause-number : goal.returns-in-None-clause-number
returns-in-None-clause-number c =
    subst (λ (n : Numbering). None ≡ position (literal_eq c.args.literal.now) n.literals) c.self.view_is
    (nowhere _ c.args.literal.now _ refl (pairs_absent c.self.inside.pairs c.args.literal.now c.in-None.ensures.absent))

pub returns-in-None-clause-absent : goal.returns-in-None-clause-absent
returns-in-None-clause-absent c =
    subst (λ (n : Numbering). ¬ Contains n.literals c.args.literal.now) c.self.view_is
    (pairs_absent c.self.inside.pairs c.args.literal.now c.in-None.ensures.absent)

pub returns-then-positive-literal-clause-number : goal.returns-then-positive-literal-clause-number
returns-then-positive-literal-clause-number c =
    let s = c.in-Some.ensures.sign in
    subst (λ (n : Numbering). Some (2 * c.in-Some.place) ≡ position (literal_eq c.args.literal.now) n.literals) c.self.view_is
    (found_first c.self.inside.pairs c.args.literal.now c.in-Some.place s.0 c.self.invariant.distinct c.in-Some.ensures.place
    s.1 (ap (λ b. beq b c.args.literal.now.positive) (sym s.2) ∙ c.if-positive-literal.true))

pub returns-else-positive-literal-clause-number : goal.returns-else-positive-literal-clause-number
returns-else-positive-literal-clause-number c =
    let s = c.in-Some.ensures.sign in
    subst (λ (n : Numbering). Some (2 * c.in-Some.place + 1) ≡ position (literal_eq c.args.literal.now) n.literals) c.self.view_is
    (found_second c.self.inside.pairs c.args.literal.now c.in-Some.place s.0 c.self.invariant.distinct c.in-Some.ensures.place
    s.1 (ap (λ b. beq b c.args.literal.now.positive) (sym s.2) ∙ c.if-positive-literal.false))

pub returns-in-None-clause-paired : goal.returns-in-None-clause-paired
returns-in-None-clause-paired c = subst (λ (n : Numbering). IsPaired n.literals) c.self.view_is (pairs_paired c.self.inside.pairs)

pub returns-then-positive-literal-clause-paired : goal.returns-then-positive-literal-clause-paired
returns-then-positive-literal-clause-paired c = subst (λ (n : Numbering). IsPaired n.literals) c.self.view_is (pairs_paired c.self.inside.pairs)

pub returns-else-positive-literal-clause-paired : goal.returns-else-positive-literal-clause-paired
returns-else-positive-literal-clause-paired c = subst (λ (n : Numbering). IsPaired n.literals) c.self.view_is (pairs_paired c.self.inside.pairs)
