use Rattle.std.proofs.Common.{◌≡◌, length, set, inl, ap, ◌∙◌, arith}
use Rattle.std.specs.List.{fold}
use Rattle.dl_fill.specs.declared.wire.Gate.{Gate}
use Rattle.dl_fill.specs.Wires.{edges}
use Rattle.dl_fill.specs.Pruned.{Asking, serve, looked, need_of}
use Rattle.dl_fill.proofs.Serving.{length-serves}
use Rattle.dl_fill.proofs.backward.visit.Goals as goal

pub keep-requires : goal.keep-requires
keep-requires g c =
    let size : length c.ask.new.needs.needs ≡ length c.args.needs.now.needs =
    ap (λ (a : Asking). length a.needs) c.ask.ensures
    ∙ length-serves (edges c.args.net.now c.args.width c.args.wires.now c.args.node) c.begin.new.self
    ∙ ap (λ (a : Asking). length a.needs) c.begin.ensures in
    omega (arith, size, c.requires.node)

pub returns : goal.returns
returns g c =
    let seen : c.ask.new.needs ≡ looked (edges c.args.net.now c.args.width c.args.wires.now) c.args.node c.args.needs.now.needs =
    c.ask.ensures ∙ ap (λ (a : Asking). fold serve a (edges c.args.net.now c.args.width c.args.wires.now c.args.node)) c.begin.ensures in
    inl (
      c.in_ok-push.ensures.items,
      ap (λ (a : Asking). a.needs) c.keep.ensures
          ∙ ap (λ (a : Asking). set a.needs c.args.node (need_of c.gate-gate.result)) seen
          ∙ ap (λ (x : Gate). set (looked (edges c.args.net.now c.args.width c.args.wires.now) c.args.node c.args.needs.now.needs).needs c.args.node (need_of x)) c.gate-gate.ensures,
    )
