-- What the run of a number's calls comes to: a history of the calls that are generated, its counts, and the survey of its last edition.
use Rattle.std.specs.Prelude.{◌≡◌, ℕ, ◌-◌, Bool, true, false, List, [], ◌∷◌, ◌++◌, Some, length, map, count_by, slice_get, codes, decimal}
use Rattle.dl_theory.specs.Lists.{TheoryLists}
use Rattle.dl_calls.specs.declared.call.Call.{Call}
use Rattle.dl_calls.specs.declared.reply.Reply.{Reply}
use Rattle.dl_calls.specs.declared.reply.Reply.TheVariants.{Enrolled, Edited, EditRefused, Edition, Holding, Unpublished}
use Rattle.dl_calls.specs.declared.entry.Entry.{Entry}
use Rattle.dl_calls.specs.Histories.{IsLegal, state_after}
use Rattle.dl_summary.specs.declared.counts.Counts.{Counts}
use Rattle.dl_summary.specs.declared.counts.Survey.{Survey}
use Rattle.dl_summary.specs.declared.summary.Summary.{Summary}
use Rattle.dl_draw.specs.Generator.{generated_theory, generated_calls}
use Rattle.dl_summary.specs.Survey.{IsSurvey}

abbrev pub is_edited : Reply → Bool
is_edited (Enrolled n) = false
is_edited Edited = true
is_edited (EditRefused x) = false
is_edited (Edition n) = false
is_edited (Holding n) = false
is_edited (Unpublished asked published) = false

abbrev pub is_edit_refused : Reply → Bool
is_edit_refused (Enrolled n) = false
is_edit_refused Edited = false
is_edit_refused (EditRefused x) = true
is_edit_refused (Edition n) = false
is_edit_refused (Holding n) = false
is_edit_refused (Unpublished asked published) = false

abbrev pub calls_of : List Entry → List Call
calls_of history = map (λ e. e.call) history

abbrev pub replies_of : List Entry → List Reply
replies_of history = map (λ e. e.reply) history

-- What a history from T comes to: how many of its replies accept or refuse an edit, how many editions it leads to, and the lists of the
-- last of them, which is surveyed.
pub record IsSummaryOf (T : TheoryLists) (history : List Entry) (s : Summary) : Type 0 where
  pub accepted : s.accepted ≡ count_by is_edited (replies_of history)
  pub refused : s.refused ≡ count_by is_edit_refused (replies_of history)
  pub editions : s.editions ≡ length (state_after T history).editions
  pub last : TheoryLists
  pub published : slice_get (state_after T history).editions (s.editions - 1) ≡ Some last
  pub facts : s.facts ≡ length last.facts
  pub rules : s.rules ≡ length last.rules
  pub pairs : s.pairs ≡ length last.pairs
  pub survey : IsSurvey last s.survey

-- From the theory of the seed, the calls of the seed have a legal history, as it is when one seat makes them, and come to the summary.
pub record IsSummary (seed size : ℕ) (s : Summary) : Type 0 where
  pub history : List Entry
  pub legal : IsLegal (generated_theory seed size) history
  pub calls : calls_of history ≡ generated_calls seed size
  pub comes_to : IsSummaryOf (generated_theory seed size) history s

-- words before a number
abbrev pub counted_text : List ℕ → ℕ → List ℕ
counted_text words n = words ++ decimal n

-- `edits accepted A refused B`
abbrev pub edits_text : Summary → List ℕ
edits_text s = counted_text (codes "edits accepted ") s.accepted ++ (counted_text (codes " refused ") s.refused ++ 10 ∷ [])

-- `editions E`
abbrev pub editions_text : Summary → List ℕ
editions_text s = counted_text (codes "editions ") s.editions ++ 10 ∷ []

-- `facts F rules R pairs P`
abbrev pub lists_text : Summary → List ℕ
lists_text s = counted_text (codes "facts ") s.facts ++ (counted_text (codes " rules ") s.rules ++ (counted_text (codes " pairs ") s.pairs ++ 10 ∷ []))

-- the letter of a family, and `proved X refuted Y neither Z`
abbrev pub verdicts_text : List ℕ → Counts → List ℕ
verdicts_text letter c =
    letter ++ (counted_text (codes " proved ") c.proved ++ (counted_text (codes " refuted ") c.refuted ++ (counted_text (codes " neither ") c.neither ++ 10 ∷ [])))

-- a line for each family
abbrev pub survey_text : Survey → List ℕ
survey_text s =
    verdicts_text (codes "D") s.definite ++ (verdicts_text (codes "d") s.blocking ++ (verdicts_text (codes "a") s.propagating ++ verdicts_text (codes "s") s.support))

-- `checked C`: how many answers a checker accepted
abbrev pub checked_text : Survey → List ℕ
checked_text s = counted_text (codes "checked ") (length s.checked.items) ++ 10 ∷ []

-- the eight lines
abbrev pub summary_text : Summary → List ℕ
summary_text s = edits_text s ++ (editions_text s ++ (lists_text s ++ (survey_text s.survey ++ checked_text s.survey)))
