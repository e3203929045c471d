use Rattle.std.proofs.Common.{ap, ◌∙◌, get_or, false}
use Rattle.std.proofs.lemmas.Result.{on_ok_weaker}
use Rattle.dl_pages.specs.Pages.{flags}
use Rattle.dl_pages.proofs.PageLemmas.{none_owned}
use Rattle.dl_pages.proofs.paged.Paged.freeze.Goals as goal

pub returns-clause-shared : goal.returns-clause-shared
returns-clause-shared g c =
    on_ok_weaker c.freeze.result
    (λ _. none_owned c.freeze.new.self.items (λ k. ap (λ ps. get_or (flags ps) k false) c.freeze.ensures.items ∙ c.in_ok-freeze_pages.ensures.shared k))
    c.freeze.ensures.shared
