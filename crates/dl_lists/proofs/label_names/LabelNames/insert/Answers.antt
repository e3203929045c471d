use Rattle.std.proofs.Common.{◌≡◌, false, subst}
use Rattle.std.specs.Prelude.{Contains}
use Rattle.dl_lists.specs.Names.{NameLists}
use Rattle.dl_lists.specs.KeptNames.{shared_in}
use Rattle.dl_lists.proofs.NameLemmas.{new_in_both, distinct_inserted}
use Rattle.dl_lists.proofs.label_names.LabelNames.insert.Goals as goal

pub invariant_of-self-2 : goal.invariant_of-self-2
invariant_of-self-2 c =
    distinct_inserted (shared_in c.self.inside.shared) c.self.inside.later.keys c.args.label (c.is_shared.ensures.absent c.if-is_shared.false) c.in_ok-new.new
    c.in_ok-new.ensures.new c.insert_label.new.labels.keys c.in_ok-new.ensures.keys c.self.invariant

pub returns-clause-new : goal.returns-clause-new
returns-clause-new c =
    subst (λ (v : NameLists). (c.in_ok-new.new ≡ false → Contains v.keys c.args.label) × (Contains v.keys c.args.label → c.in_ok-new.new ≡ false)) c.self.view_is
    (new_in_both (shared_in c.self.inside.shared) c.self.inside.later.keys c.args.label (c.is_shared.ensures.absent c.if-is_shared.false) c.in_ok-new.new
    c.in_ok-new.ensures.new)
