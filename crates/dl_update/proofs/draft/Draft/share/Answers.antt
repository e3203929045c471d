use Rattle.std.proofs.Common.{ap, sym, subst, ◌∙◌}
use Rattle.dl_marks.specs.Marks.{Marking, IsFrozen}
use Rattle.dl_update.specs.Drafts.{DraftLists}
use Rattle.dl_update.proofs.draft.Draft.share.Goals as goal

pub share-requires-2 : goal.share-requires-2
share-requires-2 c = c.self.invariant.marks_frozen (ap (λ (d : DraftLists). d.frozen) c.self.view_is ∙ c.requires)

pub returns-clause-unowned : goal.returns-clause-unowned
returns-clause-unowned c =
    subst (λ (m : Marking). IsFrozen m) (sym c.in_ok-marks.ensures)
    (c.self.invariant.marks_frozen (ap (λ (d : DraftLists). d.frozen) c.self.view_is ∙ c.requires))
