-- What is printed after sessions were served: the journal, and how each session ended.
use Rattle.std.specs.Prelude.{◌≡◌, ℕ, List, [], ◌∷◌, ◌++◌, All, codes, decimal}
use Rattle.std.specs.List.{enumerate_from, flat_map}
use Rattle.dl_calls.specs.declared.entry.Entry.{Entry}
use Rattle.dl_calls.specs.Spelled.{IsSpelled}
use Rattle.dl_calls.specs.Text.{journal_text}
use Rattle.dl_session.specs.declared.end.End.{End}
use Rattle.dl_session.specs.declared.end.End.TheVariants.{Done, ReadFault, WriteFault, Spent}

abbrev pub end_words : End → List ℕ
end_words Done = codes "done"
end_words ReadFault = codes "read fault"
end_words WriteFault = codes "write fault"
end_words Spent = codes "spent"

-- `session K ` and how it ended, as a line
abbrev pub end_line : ℕ → End → List ℕ
end_line number end = (codes "session " ++ decimal number) ++ (codes " " ++ (end_words end ++ 10 ∷ []))

-- the same for each session, in order, with its number from 0 on
abbrev pub ends_text : List End → List ℕ
ends_text ends = flat_map (λ (numbered : ℕ × End). end_line numbered.0 numbered.1) (enumerate_from 0 ends)

-- a line for each entry of the history, and then one for each session
abbrev pub served_text : List Entry → List End → List ℕ
served_text history ends = journal_text history ++ ends_text ends

-- two histories with their ends that print one text are one
abbrev pub PrintedTextsTell : Type 0
PrintedTextsTell =
    (xs ys : List Entry) (es fs : List End) → All IsSpelled xs → All IsSpelled ys → served_text xs es ≡ served_text ys fs → (xs ≡ ys) × (es ≡ fs)
