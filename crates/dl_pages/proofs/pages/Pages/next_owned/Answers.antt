use Rattle.std.proofs.Common.{◌∙◌, sym, arith, inl, inr}
use Rattle.std.proofs.lemmas.Bool.{cases_lt}
use Rattle.dl_pages.proofs.PagedLemmas.{length_is, owned_here, run_shared}
use Rattle.dl_pages.proofs.pages.Pages.next_owned.Goals as goal

pub returns-then-is_owned-clause-within : goal.returns-then-is_owned-clause-within
returns-then-is_owned-clause-within g c = omega (arith, c.loop-at-test.true, length_is c.self.inside.pages.items c.self.inside.len c.self.inside.spare c.args.self.now c.self.invariant c.self.view_is)

pub returns-then-is_owned-clause-here : goal.returns-then-is_owned-clause-here
returns-then-is_owned-clause-here g c = λ lt.
    owned_here c.self.inside.pages.items c.self.inside.len c.self.inside.spare c.args.self.now c.self.invariant c.self.view_is c.loop-at.at lt c.index-page.result.now c.index-page.ensures
    ∙ sym c.is_owned.ensures ∙ c.if-is_owned.true

pub loop-at-preserved : goal.loop-at-preserved
loop-at-preserved g c =
    let is = length_is c.self.inside.pages.items c.self.inside.len c.self.inside.spare c.args.self.now c.self.invariant c.self.view_is in
    record {
      from = omega (arith, c.loop-at.invariant.from, c.saturating_mul-at.ensures, c.loop-at.auto.at-fits);
      none = λ i le lt.
          elim (cases_lt i c.loop-at.at) [
            | inl before ↦ c.loop-at.invariant.none i le before
            | inr here ↦
                run_shared c.self.inside.pages.items c.self.inside.len c.self.inside.spare c.args.self.now c.self.invariant c.self.view_is c.loop-at.at (omega (arith, is, c.loop-at-test.true))
                c.index-page.result.now c.index-page.ensures (sym c.is_owned.ensures ∙ c.if-is_owned.false) i
                (omega (arith, here, lt, c.saturating_mul-at.ensures))
          ];
    }

pub returns-clause-from : goal.returns-clause-from
returns-clause-from g c = omega (arith, c.requires, length_is c.self.inside.pages.items c.self.inside.len c.self.inside.spare c.args.self.now c.self.invariant c.self.view_is)

pub returns-clause-within : goal.returns-clause-within
returns-clause-within g c = omega (arith, length_is c.self.inside.pages.items c.self.inside.len c.self.inside.spare c.args.self.now c.self.invariant c.self.view_is)

pub returns-clause-here : goal.returns-clause-here
returns-clause-here g c = λ lt. absurd (omega (arith, lt, length_is c.self.inside.pages.items c.self.inside.len c.self.inside.spare c.args.self.now c.self.invariant c.self.view_is))
