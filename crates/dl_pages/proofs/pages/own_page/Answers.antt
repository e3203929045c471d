use Rattle.dl_pages.proofs.PageLemmas.{keeps_set, owned_set}
use Rattle.dl_pages.proofs.pages.own_page.Goals as goal

pub returns-clause-kept : goal.returns-clause-kept
returns-clause-kept g c = keeps_set c.args.pages.now.items c.args.number c.index_mut-page.result.now c.own.new.self c.requires.within c.index_mut-page.ensures.value c.own.ensures.items (λ _. c.in_ok-own.ensures.owned)

pub returns-clause-owned : goal.returns-clause-owned
returns-clause-owned g c = owned_set c.args.pages.now.items c.args.number c.index_mut-page.result.now c.own.new.self c.requires.within c.index_mut-page.ensures.value c.in_ok-own.ensures.owned
