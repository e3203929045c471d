use Rattle.std.proofs.Common.{◌∙◌, ap}
use Rattle.dl_words.specs.Words.{number_of}
use Rattle.dl_words.proofs.Numerals.{number_read}
use Rattle.dl_words.proofs.words.number_of.Goals as goal

pub returns : goal.returns
returns c = number_read c.as_bytes.result.now c.read_number.result c.read_number.ensures ∙ ap number_of c.as_bytes.ensures.value
