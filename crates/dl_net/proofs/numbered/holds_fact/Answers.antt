use Rattle.std.proofs.Common.{◌≡◌, ℕ, Bool, List, false, get_or, sym, ap, ◌∙◌}
use Rattle.std.specs.Prelude.{Contains}
use Rattle.std.proofs.lemmas.List.Elements.{All-contains}
use Rattle.dl_lit.specs.declared.literal.Literal.{Literal}
use Rattle.dl_names.specs.Paired.{number_in}
use Rattle.dl_names.proofs.NameLemmas.{found_at, number_found}
use Rattle.dl_net.proofs.NumberedLemmas.{mark_tells}
use Rattle.dl_net.proofs.numbered.holds_fact.Goals as goal

pub returns-in-None : goal.returns-in-None
returns-in-None c = λ qs named h. (
  λ e. cc,
  λ m. absurd (c.in-None.ensures.absent (All-contains (Contains c.args.names.now.literals) qs c.args.fact.now named m)),
)

pub returns-in-Some : goal.returns-in-Some
returns-in-Some c = λ qs named h.
    let ls : List Literal = c.args.names.now.literals in
    let q : Literal = c.args.fact.now in
    let marks : List Bool = c.args.marks.now.items in
    let at = found_at ls q c.in-Some.number (sym c.in-Some.ensures.number) in
    let tells = mark_tells ls qs marks q c.find.ensures.distinct h (c.in-Some.number, at.0, at.1 q) in
    let is : c.is_marked.result ≡ get_or marks (number_in ls q) false =
    c.is_marked.ensures
    ∙ ap (λ (k : ℕ). get_or marks k false) (sym (number_found ls q c.in-Some.number c.find.ensures.distinct (sym c.in-Some.ensures.number))) in
    (λ e. tells.0 (sym is ∙ e), λ m. is ∙ tells.1 m)
