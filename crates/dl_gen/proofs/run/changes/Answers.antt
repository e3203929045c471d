use Rattle.std.proofs.Common.{List, ◌∷◌, length, ap, sym, subst, ◌∙◌, arith}
use Rattle.std.specs.Prelude.{All, remove}
use Rattle.dl_calls.specs.declared.call.Call.{Call}
use Rattle.dl_calls.specs.declared.call.Call.TheVariants.{Enrol}
use Rattle.dl_gen.specs.Running.{IsChange}
use Rattle.dl_gen.proofs.OneSeat.{all_change}
use Rattle.dl_gen.proofs.run.changes.Goals as goal

pub remove-requires : goal.remove-requires
remove-requires c = omega (arith, ap length c.in_ok-calls.ensures.calls, c.in_ok-calls.calls.ok.0)

pub returns-clause-calls : goal.returns-clause-calls
returns-clause-calls c =
    ap (λ (l : List Call). Enrol ∷ l) (c.remove.ensures.items ∙ ap (λ (l : List Call). remove l 0) c.in_ok-calls.ensures.calls)

pub returns-clause-changes : goal.returns-clause-changes
returns-clause-changes c =
    subst (λ (l : List Call). All IsChange l) (sym (c.remove.ensures.items ∙ ap (λ (l : List Call). remove l 0) c.in_ok-calls.ensures.calls)) (all_change c.args.seed c.args.size)
