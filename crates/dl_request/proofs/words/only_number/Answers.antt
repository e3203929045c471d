use Rattle.std.proofs.Common.{ℕ, List, sym, subst}
use Rattle.dl_read.specs.Numbers.{IsNumber}
use Rattle.dl_request.specs.Requests.{HasNoToken}
use Rattle.dl_request.proofs.CutWords.{clash}
use Rattle.dl_request.proofs.FirstWords.{edition_words, edition_found}
use Rattle.dl_request.proofs.words.only_number.Goals as goal

pub returns-in_err-number : goal.returns-in_err-number
returns-in_err-number c =
    rw c.from_residual.ensures
    (λ n h. c.in_err-number.ensures n (subst (λ (w : List ℕ). IsNumber w n) (sym c.cut_word.ensures.word) (edition_words c.args.line.now n h).0))

pub returns-then-has_no_token : goal.returns-then-has_no_token
returns-then-has_no_token c =
    edition_found c.args.line.now c.in_ok-number.number (subst (λ (w : List ℕ). IsNumber w c.in_ok-number.number) c.cut_word.ensures.word c.in_ok-number.ensures.0)
    (subst (λ (r : List ℕ). HasNoToken r) c.cut_word.ensures.rest (c.has_no_token.ensures.0 c.if-has_no_token.true))

pub returns-else-has_no_token : goal.returns-else-has_no_token
returns-else-has_no_token c =
    λ n h. clash c.has_no_token.result (c.has_no_token.ensures.1 (subst (λ (r : List ℕ). HasNoToken r) (sym c.cut_word.ensures.rest) (edition_words c.args.line.now n h).1))
    c.if-has_no_token.false
