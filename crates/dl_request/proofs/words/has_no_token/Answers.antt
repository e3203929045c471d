use Rattle.std.proofs.Common.{ℕ, ◌==◌, List, length, sym, ap, ◌∙◌}
use Rattle.dl_request.proofs.CutWords.{word_spent, spent_word, empty_list}
use Rattle.dl_request.proofs.words.has_no_token.Goals as goal

pub returns : goal.returns
returns c =
    let line = c.args.line.now in (
      λ t. word_spent line (sym c.cut_word.ensures.word ∙ empty_list c.cut_word.result.0.now (sym c.is_empty.ensures ∙ t)),
      λ h. c.is_empty.ensures ∙ ap (λ (w : List ℕ). length w == 0) (c.cut_word.ensures.word ∙ spent_word line h),
    )
