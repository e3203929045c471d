use Rattle.std.proofs.Common.{List, subst}
use Rattle.std.specs.Prelude.{Contains}
use Rattle.std.specs.List.Sorted.{IsPermutation}
use Rattle.std.proofs.lemmas.List.Filters.{dedup_is}
use Rattle.std.proofs.lemmas.List.Elements.{All-contains_itself}
use Rattle.dl_lit.specs.declared.literal.Tagged.{Tagged}
use Rattle.dl_lit.specs.Order.{tagged_eq, tagged_total, tagged_ties, tagged_equiv, tagged_eq-Decides}
use Rattle.dl_marks.specs.Marks.{marked}
use Rattle.dl_fill.proofs.Listed.{listed}
use Rattle.dl_derive.specs.Gap.{open_members}
use Rattle.dl_derive.proofs.gap.gap.Goals as goal

pub returns : goal.returns
returns c =
    let all : List Tagged = open_members c.args.net.now (marked c.args.marks.now) c.args.family c.args.region.now.members in
    rw (c.from_items.ensures, dedup_is tagged_eq c.sort.new.self.items c.dedup.new.self.items c.dedup.ensures.filtered)
    (listed tagged_total tagged_ties tagged_equiv tagged_eq-Decides (Contains all) all c.sort.new.self.items
    (subst (λ (xs : List Tagged). IsPermutation xs c.sort.new.self.items) c.in_ok-list.ensures c.in_ok-sort.ensures.permutation)
    c.in_ok-sort.ensures.sorted (All-contains_itself all) (λ x m. m))
