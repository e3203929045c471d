use Rattle.std.proofs.Common.{◌≡◌, cond, [], ◌∷◌, ◌++◌, subst}
use Rattle.std.proofs.lemmas.Result.{on_ok_weaker}
use Rattle.dl_lit.specs.declared.literal.Literal.{Literal}
use Rattle.dl_lit.specs.Literal.{literal_eq}
use Rattle.dl_lit.specs.Order.{literal_eq-Decides}
use Rattle.dl_check.specs.Groups.{group}
use Rattle.dl_check.specs.Tags.{tag_of}
use Rattle.dl_check.proofs.Grouped.{grouped_push}
use Rattle.dl_check.proofs.derived.Members.add.Goals as goal

pub returns : goal.returns
returns c =
    let old = c.args.self.now.tags.groups.entries in
    let new = c.push.new.self.groups.entries in
    let copied : c.in_ok-copy.field-0 ≡ c.args.member.now.literal = c.in_ok-copy.ensures in
    on_ok_weaker c.push.result
    (λ step xs h. grouped_push literal_eq (λ x. x.literal) tag_of literal_eq-Decides old new xs c.args.member.now h
    (subst (λ (q : Literal). (k : Literal) → group literal_eq new k ≡ cond (literal_eq q k) (group literal_eq old q ++ tag_of c.args.member.now ∷ []) (group literal_eq old k))
    copied step))
    c.push.ensures
