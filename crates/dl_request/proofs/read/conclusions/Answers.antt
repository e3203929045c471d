use Rattle.std.proofs.Common.{ℕ, List, refl, sym, subst}
use Rattle.dl_read.specs.Words.{past_word}
use Rattle.dl_request.specs.Requests.{HasNoToken}
use Rattle.dl_request.proofs.CutWords.{clash}
use Rattle.dl_request.proofs.FirstWords.{in_family_words, in_family_found}
use Rattle.dl_request.proofs.read.conclusions.Goals as goal

pub returns-in_err-edition : goal.returns-in_err-edition
returns-in_err-edition c =
    rw c.from_residual.ensures
    (λ x b. c.in_err-edition.ensures b.0 b.1 (past_word (past_word c.args.rest.now)) (in_family_words c.args.rest.now b.0 b.1 b.2).0)

pub returns-then-has_no_token : goal.returns-then-has_no_token
returns-then-has_no_token c =
    let k = c.in_ok-edition in
    (k.edition, k.family, in_family_found c.args.rest.now k.edition k.family k.behind.now k.ensures (c.has_no_token.ensures.0 c.if-has_no_token.true), refl)

pub returns-else-has_no_token : goal.returns-else-has_no_token
returns-else-has_no_token c =
    λ x b. (
    let w = in_family_words c.args.rest.now b.0 b.1 b.2 in
    clash c.has_no_token.result (c.has_no_token.ensures.1 (subst (λ (r : List ℕ). HasNoToken r) (sym c.in_ok-edition.ensures.2) w.1)) c.if-has_no_token.false)
