use Rattle.std.proofs.Common.{◌≡◌, ◌<◌, ℕ, false, List, ap, subst, sym, ◌∙◌, arith}
use Rattle.dl_rows.specs.Region.{Numbers, has, IsKeptRegion}
use Rattle.std.specs.Prelude.{vec_capacity}
use Rattle.dl_rows.proofs.RegionLemmas.{room_left, one_more}
use Rattle.dl_rows.proofs.region.Region.put.Goals as goal

pub push_reserved-requires : goal.push_reserved-requires
push_reserved-requires c =
    let members = c.self.inside.members in
    let below : c.args.number < c.self.inside.bound = subst (λ (r : Numbers). c.args.number < r.bound) (sym c.self.view_is) c.requires in
    let free : has c.self.inside.words.items c.args.number ≡ false =
    ap (λ (xs : List ℕ). has xs c.args.number) (sym c.as_slice.ensures.value) ∙ sym c.if-is_set.ensures in
    let left = room_left c.self.inside.bound c.self.inside.words.items members.items (vec_capacity members) c.self.invariant c.args.number below free in
    omega (arith, left, members.ok.0)

pub invariant_of-self : goal.invariant_of-self
invariant_of-self c =
    let members = c.self.inside.members in
    let below : c.args.number < c.self.inside.bound = subst (λ (r : Numbers). c.args.number < r.bound) (sym c.self.view_is) c.requires in
    let free : has c.self.inside.words.items c.args.number ≡ false =
    ap (λ (xs : List ℕ). has xs c.args.number) (sym c.as_slice.ensures.value) ∙ sym c.if-is_set.ensures in
    subst (λ (xs : List ℕ). IsKeptRegion c.self.inside.bound c.set.new.words.items xs (vec_capacity c.push_reserved.new.self)) (sym c.push_reserved.ensures.items)
    (one_more c.self.inside.bound c.self.inside.words.items members.items (vec_capacity members) c.self.invariant c.args.number below free
    c.set.new.words.items (vec_capacity c.push_reserved.new.self) c.set.ensures.len c.set.ensures.bits (omega (arith, c.push_reserved.ensures.capacity)))
