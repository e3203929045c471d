use Rattle.std.proofs.Common.{◌≤◌, List, length, refl, subst, sym}
use Rattle.dl_lit.specs.declared.literal.Literal.{Literal}
use Rattle.dl_update.proofs.Growth.{right_moved}
use Rattle.dl_update.proofs.draft.Draft.freeze.Goals as goal

pub invariant_of-self-in_err-freeze-2 : goal.invariant_of-self-in_err-freeze-2
invariant_of-self-in_err-freeze-2 c =
    let old = c.self.inside.net in
    let new = c.freeze.new.self in
    record {
      right = right_moved c.self.inside.families c.self.inside.families old.theory new.theory old.names new.names
          c.self.inside.marks c.freeze-2.new.self refl c.freeze.ensures.theory c.freeze.ensures.names c.freeze-2.ensures.len
          c.freeze-2.ensures.same c.self.invariant.right;
      cone = subst (λ (ls : List Literal). c.self.inside.cone.bound ≤ length ls) (sym c.freeze.ensures.names) c.self.invariant.cone;
      net_frozen = λ e. absurd cc;
      marks_frozen = λ e. absurd cc;
    }

pub invariant_of-self-2 : goal.invariant_of-self-2
invariant_of-self-2 c =
    let old = c.self.inside.net in
    let new = c.freeze.new.self in
    record {
      right = right_moved c.self.inside.families c.self.inside.families old.theory new.theory old.names new.names
          c.self.inside.marks c.freeze-2.new.self refl c.freeze.ensures.theory c.freeze.ensures.names c.freeze-2.ensures.len
          c.freeze-2.ensures.same c.self.invariant.right;
      cone = subst (λ (ls : List Literal). c.self.inside.cone.bound ≤ length ls) (sym c.freeze.ensures.names) c.self.invariant.cone;
      net_frozen = λ e. c.in_ok-freeze.ensures.frozen;
      marks_frozen = λ e. c.in_ok-freeze-2.ensures.frozen;
    }
