use Rattle.std.proofs.Common.{ap, get_or, false, ◌∙◌}
use Rattle.dl_pages.proofs.NestedLemmas.{own_kept, own_nested, own_flag, own_others}
use Rattle.dl_pages.proofs.paged.own_page.Goals as goal

pub returns-clause-kept : goal.returns-clause-kept
returns-clause-kept g c =
    own_kept c.args.pages.now.items c.own.new.self.items c.own_in.new.self.items c.args.pages.now.owned c.own_in.new.self.owned c.args.number
    c.in_ok-own_in.ensures.page.0 c.requires.within c.own.ensures.items c.in_ok-own_in.ensures.page.1 c.in_ok-own_in.ensures.page.2 (λ _. c.in_ok-own_in.ensures.page.3)

pub returns-clause-nested : goal.returns-clause-nested
returns-clause-nested g c =
    own_nested c.args.pages.now.items c.own.new.self.items c.own_in.new.self.items c.args.pages.now.owned c.own_in.new.self.owned c.args.number
    c.in_ok-own_in.ensures.page.0 c.requires.within c.own.ensures.items c.in_ok-own_in.ensures.page.1 c.in_ok-own_in.ensures.page.2
    c.requires.nested
    (λ i h. ap (λ bs. get_or bs i false) c.own_in.ensures.owned ∙ c.own.ensures.owned i h)
    (ap (λ bs. get_or bs c.args.number false) c.own_in.ensures.owned ∙ c.in_ok-own.ensures.here)

pub returns-clause-owned : goal.returns-clause-owned
returns-clause-owned g c =
    own_flag c.args.pages.now.items c.own.new.self.items c.own_in.new.self.items c.args.pages.now.owned c.own_in.new.self.owned c.args.number
    c.in_ok-own_in.ensures.page.0 c.requires.within c.own.ensures.items c.in_ok-own_in.ensures.page.1 c.in_ok-own_in.ensures.page.2 c.in_ok-own_in.ensures.page.3

pub returns-clause-others : goal.returns-clause-others
returns-clause-others g c = own_others c.args.pages.now.items c.own.new.self.items c.own_in.new.self.items c.args.pages.now.owned c.own_in.new.self.owned c.args.number
    c.in_ok-own_in.ensures.page.0 c.requires.within c.own.ensures.items c.in_ok-own_in.ensures.page.1 c.in_ok-own_in.ensures.page.2
