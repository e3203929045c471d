use Rattle.std.proofs.Common.{◌≡◌, ◌<◌, length, map, get_or, subst, ap, ◌∙◌, if◌then◌else◌}
use Rattle.std.proofs.lemmas.List.{get_or_read}
use Rattle.dl_marks.specs.Marks.{Marking, IsMarked, is_owned, mark, same_tag}
use Rattle.dl_marks.specs.Bytes.{row_of}
use Rattle.dl_marks.proofs.RowLemmas.{row_written, owned_within}
use Rattle.dl_marks.proofs.marks.Marks.write.Goals as goal

pub at-byte-requires : goal.at-byte-requires
at-byte-requires g c =
    subst (λ n. c.args.number < n) c.len-len.ensures.items
    (owned_within c.self.inside.bytes.owned c.len-len.result c.args.number c.len-len.ensures.owned
    (ap (λ (m : Marking). is_owned m c.args.number) c.self.view_is ∙ c.requires))

pub returns-clause-marked : goal.returns-clause-marked
returns-clause-marked g c =
    let bytes = c.self.inside.bytes.items in
    let within : c.args.number < length bytes =
    subst (λ n. c.args.number < n) c.len-len.ensures.items
    (owned_within c.self.inside.bytes.owned c.len-len.result c.args.number c.len-len.ensures.owned
    (ap (λ (m : Marking). is_owned m c.args.number) c.self.view_is ∙ c.requires)) in
    let read : c.at-byte.result.now ≡ get_or bytes c.args.number 0 = get_or_read bytes c.args.number c.at-byte.result.now within c.at-byte.ensures 0 in
    let new : Marking = record { rows = map row_of c.put.new.self.items; owned = c.put.new.self.owned } in
    subst (λ (m : Marking). IsMarked m new c.args.tag c.args.number c.args.value) c.self.view_is
    (row_written bytes c.put.new.self.items c.args.number c.with.result c.args.tag c.args.value within c.put.ensures.items
    (λ t. subst (λ b. mark (row_of c.with.result) t ≡ (if same_tag t c.args.tag then c.args.value else mark (row_of b) t)) read (c.with.ensures t)))
