use Rattle.std.proofs.Common.{◌≡◌, ◌++◌, take}
use Rattle.dl_fill.specs.Before as before
use Rattle.dl_fill.specs.Steps.{steps_of}
use Rattle.dl_derive.proofs.steps.push_steps.Given as goal

abbrev pub invariant-loop-node : goal.invariant-loop-node
invariant-loop-node l = l.list ≡ l.fn.list ++ steps_of l.net l.width l.tags (before.is_inside l.region.members) (take l.node-index l.nodes)
