use Rattle.std.proofs.Common.{ℕ, List, ◌∙◌, sym, ap, subst}
use Rattle.std.specs.Option.{option_map}
use Rattle.dl_io.specs.Streams.{WritesAll}
use Rattle.dl_lit.specs.Borrowed.{literal_of}
use Rattle.dl_edition.proofs.Writing.{some_body}
use Rattle.dl_edition.proofs.rule.write_body.Goals as goal

pub returns-in-Some-clause-bytes : goal.returns-in-Some-clause-bytes
returns-in-Some-clause-bytes g c =
    subst (λ (text : List ℕ). WritesAll (g.S.Sink.written c.args.sink.now) (g.S.Sink.written c.write_literals.new.sink) c.write_literals.result text)
    (sym (some_body c.args.rule.now.body (literal_of c.in-Some.first) (sym (ap (option_map literal_of) c.in-Some.is) ∙ c.body.ensures)))
    c.write_literals.ensures.bytes
