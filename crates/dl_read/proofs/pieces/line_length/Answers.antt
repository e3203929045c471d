use Rattle.std.proofs.Common.{◌==◌, length, get_or, sym, arith}
use Rattle.std.proofs.lemmas.List.Sums.{position_or_len_is}
use Rattle.dl_base.proofs.Filters.{false_unless}
use Rattle.dl_read.proofs.pieces.line_length.Goals as goal

pub returns-in-None : goal.returns-in-None
returns-in-None c =
    let bytes = c.args.bytes.now in
    sym (position_or_len_is (λ b. b == 10) bytes (length bytes) 0 (omega arith)
    (λ k lt. false_unless (get_or bytes k 0 == 10) ((λ h. h), (λ h. h)) (c.in-None.ensures k (omega arith) lt))
    (λ lt. absurd (omega (arith, lt))))

pub returns-in-Some : goal.returns-in-Some
returns-in-Some c =
    let bytes = c.args.bytes.now in
    let first = c.in-Some.ensures in
    sym (position_or_len_is (λ b. b == 10) bytes c.in-Some.len 0 (omega (arith, first.0.high))
    (λ k lt. false_unless (get_or bytes k 0 == 10) ((λ h. h), (λ h. h)) (first.0.before k (omega arith) lt))
    (λ lt. first.1))
