use Rattle.std.proofs.Common.{◌≡◌, ℕ, [], ◌∷◌, ◌++◌, length, set, sym, subst}
use Rattle.std.specs.Prelude.{IfSome}
use Rattle.dl_rules.specs.declared.entry.Room.{Room}
use Rattle.dl_rules.specs.Lines.{IndexLists}
use Rattle.dl_rows.specs.Tables.{list_of}
use Rattle.dl_rules.specs.Indexes.{by_number}
use Rattle.dl_rules.specs.KeptIndex.{HasRoom, HasLinkRoom, linking_of}
use Rattle.dl_rules.proofs.LinkLemmas.{HasLinks-put, numbered_put}
use Rattle.dl_rules.proofs.ThereLemmas.{there_within}
use Rattle.dl_rules.proofs.index.Index.put_link.Goals as goal

pub invariant_of-self : goal.invariant_of-self
invariant_of-self c =
    let room : HasLinkRoom c.self.inside c.in-ForLink.link =
    subst (λ (r : Room). HasRoom c.self.inside r) (sym c.in-ForLink.ensures.value) c.self.invariant.room in
    record {
      rules = c.self.invariant.rules;
      links = HasLinks-put c.self.inside.lines.items c.self.inside.lowers c.self.inside.uppers c.push.new.self c.push-in-ForLink.new.self
          c.in-ForLink.link.upper c.in-ForLink.link.lower c.self.invariant.links room.upper room.lower
          (record { within = room.lowers_wide; lists = c.push.ensures.lists })
          (record { within = room.uppers_wide; lists = c.push-in-ForLink.ensures.lists });
      few = c.self.invariant.few;
      live = c.self.invariant.live;
      room = rw c.replace.ensures.after tt;
    }

pub returns-clause-lowers : goal.returns-clause-lowers
returns-clause-lowers c =
    let room : HasLinkRoom c.self.inside c.in-ForLink.link =
    subst (λ (r : Room). HasRoom c.self.inside r) (sym c.in-ForLink.ensures.value) c.self.invariant.room in
    let len : ℕ = length c.self.inside.lines.items in
    subst (λ (v : IndexLists). IfSome v.linking (λ m. by_number len c.push.new.self ≡ set v.lowers m.upper (list_of v.lowers m.upper ++ m.lower ∷ []))) c.self.view_is
    (subst (λ (r : Room). IfSome (linking_of r) (λ m. by_number len c.push.new.self
    ≡ set (by_number len c.self.inside.lowers) m.upper (list_of (by_number len c.self.inside.lowers) m.upper ++ m.lower ∷ []))) c.in-ForLink.ensures.value
    (numbered_put c.self.inside.lowers c.push.new.self c.in-ForLink.link.upper c.in-ForLink.link.lower
    (record { within = room.lowers_wide; lists = c.push.ensures.lists })
    len (there_within c.self.inside.lines.items c.in-ForLink.link.upper room.upper)))

pub returns-clause-uppers : goal.returns-clause-uppers
returns-clause-uppers c =
    let room : HasLinkRoom c.self.inside c.in-ForLink.link =
    subst (λ (r : Room). HasRoom c.self.inside r) (sym c.in-ForLink.ensures.value) c.self.invariant.room in
    let len : ℕ = length c.self.inside.lines.items in
    subst (λ (v : IndexLists). IfSome v.linking (λ m. by_number len c.push-in-ForLink.new.self ≡ set v.uppers m.lower (list_of v.uppers m.lower ++ m.upper ∷ []))) c.self.view_is
    (subst (λ (r : Room). IfSome (linking_of r) (λ m. by_number len c.push-in-ForLink.new.self
    ≡ set (by_number len c.self.inside.uppers) m.lower (list_of (by_number len c.self.inside.uppers) m.lower ++ m.upper ∷ []))) c.in-ForLink.ensures.value
    (numbered_put c.self.inside.uppers c.push-in-ForLink.new.self c.in-ForLink.link.lower c.in-ForLink.link.upper
    (record { within = room.uppers_wide; lists = c.push-in-ForLink.ensures.lists })
    len (there_within c.self.inside.lines.items c.in-ForLink.link.lower room.lower)))
