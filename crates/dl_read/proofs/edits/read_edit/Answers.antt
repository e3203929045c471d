use Rattle.std.proofs.Common.{◌≡◌, sym, ap, ◌∙◌, true, false, subst, List, ℕ, Bool}
use Rattle.std.specs.Prelude.{codes}
use Rattle.dl_read.specs.Grammar.{is_blank, begins_with, Reads}
use Rattle.dl_read.specs.Words.{word_of, past_word}
use Rattle.dl_read.specs.EditLines.{Adds, Drops, IsEditLine}
use Rattle.dl_read.proofs.EditReading.{outside_reads, add_reads, drop_reads, no_word, no_space}
use Rattle.dl_read.proofs.edits.read_edit.Goals as goal

-- a test that failed and held
both_ways : (b : Bool) → b ≡ true → b ≡ false → ⊥
both_ways b h i = cc

pub returns-then-not-begins_blank : goal.returns-then-not-begins_blank
returns-then-not-begins_blank c =
    let line = c.args.line.now in
    outside_reads IsEditLine line c.outside.result
    (no_space line (ap (begins_with is_blank) (sym c.cut_word.ensures.rest) ∙ sym c.begins_blank.ensures ∙ c.if-not-begins_blank.true)) c.outside.ensures

pub returns-then-is_word : goal.returns-then-is_word
returns-then-is_word c =
    let line = c.args.line.now in
    let spaced : begins_with is_blank (past_word line) ≡ true = ap (begins_with is_blank) (sym c.cut_word.ensures.rest) ∙ sym c.begins_blank.ensures ∙ c.if-not-begins_blank.false in
    let word : word_of line ≡ codes "add" = sym c.cut_word.ensures.word ∙ c.is_word.ensures.0 c.if-is_word.true in
    add_reads line c.read_added.result word spaced (subst (λ (l : List ℕ). Reads Adds l c.read_added.result) c.cut_word.ensures.rest c.read_added.ensures)

pub returns-then-is_word-2 : goal.returns-then-is_word-2
returns-then-is_word-2 c =
    let line = c.args.line.now in
    let spaced : begins_with is_blank (past_word line) ≡ true = ap (begins_with is_blank) (sym c.cut_word.ensures.rest) ∙ sym c.begins_blank.ensures ∙ c.if-not-begins_blank.false in
    let word : word_of line ≡ codes "drop" = sym c.cut_word.ensures.word ∙ c.is_word-2.ensures.0 c.if-is_word-2.true in
    drop_reads line c.read_dropped.result word spaced (subst (λ (l : List ℕ). Reads Drops l c.read_dropped.result) c.cut_word.ensures.rest c.read_dropped.ensures)

pub returns : goal.returns
returns c =
    let line = c.args.line.now in
    let not_add = λ (e : word_of line ≡ codes "add"). both_ways c.is_word.result (c.is_word.ensures.1 (c.cut_word.ensures.word ∙ e)) c.if-is_word.false in
    let not_drop = λ (e : word_of line ≡ codes "drop"). both_ways c.is_word-2.result (c.is_word-2.ensures.1 (c.cut_word.ensures.word ∙ e)) c.if-is_word-2.false in
    outside_reads IsEditLine line c.outside-2.result (no_word line not_add not_drop) c.outside-2.ensures
