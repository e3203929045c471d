-- How the code comes to an answer. Only the code needs these.
use Rattle.std.specs.Prelude.{◌≡◌, ℕ, Bool, List, Option, Result, Ok, Err}
use Rattle.dl_io.specs.House.{HouseState}
use Rattle.dl_theory.specs.Lists.{TheoryLists}
use Rattle.dl_graph.specs.Numbers.{NetLists}
use Rattle.dl_files.specs.declared.status.Status.{Status}
use Rattle.dl_files.specs.declared.status.Status.TheVariants as status
use Rattle.dl_files.specs.declared.theory_file.Loaded.{Loaded}
use Rattle.dl_files.specs.declared.whole.Stop.{Stop}
use Rattle.dl_files.specs.declared.whole.Stop.TheVariants as stop
use Rattle.dl_files.specs.Reading.{Settles}
use Rattle.dl_files.specs.Theories.{HoldsLoaded}
use Rattle.dl_words.specs.Words.{Form}
use Rattle.dl_journal.specs.Streams.{begun}
use Rattle.dl_replies.specs.declared.reply.Reply.{Reply}
use Rattle.dl_replies.specs.Replies.{reply_status, reply_text}
use Rattle.dl_serving.specs.Serving.{PrintsTo}
use Rattle.ddl.specs.Run.{most_for, files_for, session_outputs}

-- the file holds bytes that give a theory that is kept, or one that is kept by numbers
abbrev pub HoldsTheory : Option (List ℕ) → Loaded TheoryLists → Type 0
HoldsTheory = HoldsLoaded (λ T. T)

abbrev pub HoldsNumbered : Option (List ℕ) → Loaded NetLists → Type 0
HoldsNumbered = HoldsLoaded (λ N. N.theory)

-- The files of the words were opened, at most so much of each was read, and all was settled.
abbrev pub Works : HouseState → HouseState → Option Form → Type 0
Works old new asked = Settles old new (most_for asked) (files_for asked) (session_outputs asked)

-- what came of a reply that was to be printed on a new sink
abbrev pub SaysTo : Bool → Option (List ℕ) → ℕ → Result Reply Stop → Status → Type 0
SaysTo tells handed faults (Ok reply) ends = PrintsTo tells handed faults (reply_text reply) (reply_status reply) ends
SaysTo tells handed faults (Err stop.Fault) ends = (faults ≡ 0) × (handed ≡ begun tells) × (ends ≡ status.Fault)
SaysTo tells handed faults (Err stop.Memory) ends = (faults ≡ 0) × (handed ≡ begun tells) × (ends ≡ status.Memory)
