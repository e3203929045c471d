use Rattle.std.proofs.Common.{take}
use Rattle.std.specs.Prelude.{Contains}
use Rattle.dl_lit.specs.declared.literal.Literal.{Literal}
use Rattle.dl_graph.specs.Named.{IsPaired, Grows}
use Rattle.dl_update.specs.Drafts.{IsNew}
use Rattle.dl_update.proofs.places.collect_all.Given as goal

abbrev pub invariant-loop-literal : goal.invariant-loop-literal
invariant-loop-literal l = record {
  paired : IsPaired l.names.literals;
  grown : Grows (IsNew l.net.names l.literals) l.fn.names.literals l.names.literals;
  there : (q : Literal) → IsNew l.net.names (take l.literal-index l.literals) q → Contains l.names.literals q;
}
