-- Laws of what a session answers.
use Rattle.std.specs.Prelude.{ℕ, List, Option, All}
use Rattle.dl_theory.specs.Lists.{TheoryLists}
use Rattle.dl_turn.specs.History.{StartsWith}
use Rattle.dl_calls.specs.declared.entry.Entry.{Entry}
use Rattle.dl_session.specs.declared.end.End.{End}
use Rattle.dl_session.specs.Ends.{IsEnd, IsQuit}
use Rattle.dl_session.specs.Replies.{Answered}

-- lines that were answered stay so when more editions come
abbrev pub AnswersStay : Type 0
AnswersStay =
    (S U : List TheoryLists) → StartsWith U S
    → (lines : List (List ℕ)) (entries : List Entry) (bytes : List ℕ) → Answered S lines entries bytes → Answered U lines entries bytes

-- what was done by an end stays so when more editions come
abbrev pub EndsStay : Type 0
EndsStay =
    (S U : List TheoryLists) → StartsWith U S
    → (entries : List Entry) (taken : List ℕ) (rest : Option (List ℕ)) (written : List ℕ) (end : End) → IsEnd S entries taken rest written end
    → IsEnd U entries taken rest written end

-- no line that was answered is `quit`
abbrev pub NoQuitIsAnswered : Type 0
NoQuitIsAnswered =
    (S : List TheoryLists) (lines : List (List ℕ)) (entries : List Entry) (bytes : List ℕ) → Answered S lines entries bytes
    → All (λ line. IsQuit line → ⊥) lines
