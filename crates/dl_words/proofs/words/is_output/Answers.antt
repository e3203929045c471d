use Rattle.std.proofs.Common.{◌∙◌, ℕ, List, ap}
use Rattle.std.specs.Str.{bytes_eq}
use Rattle.dl_words.specs.Names.{output_name}
use Rattle.dl_words.proofs.Names.{bytes_eq-sym}
use Rattle.dl_words.proofs.Naming.{output_is, output_not}
use Rattle.dl_words.proofs.words.is_output.Goals as goal

pub returns-in-Some : goal.returns-in-Some
returns-in-Some c =
    let word = c.as_bytes.result.now in
    let cut = c.in-Some.ensures.cases in
    c.eq.ensures ∙ ap (λ (n : List ℕ). bytes_eq c.in-Some.front.now n) c.as_bytes-in-Some.ensures.value
    ∙ output_is word c.in-Some.front.now c.args.name.now cut.0 cut.1 ∙ ap (λ (w : List ℕ). bytes_eq w (output_name c.args.name.now)) c.as_bytes.ensures.value
    ∙ bytes_eq-sym c.args.word.now (output_name c.args.name.now)

pub returns-in-None : goal.returns-in-None
returns-in-None c =
    output_not c.as_bytes.result.now c.args.name.now c.in-None.ensures.cases ∙ ap (λ (w : List ℕ). bytes_eq w (output_name c.args.name.now)) c.as_bytes.ensures.value
    ∙ bytes_eq-sym c.args.word.now (output_name c.args.name.now)
