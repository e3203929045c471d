-- A file that is to be a theory.
use Rattle.std.specs.Prelude.{◌≡◌, ℕ, ◌<◌, ◌≤◌, List, ◌++◌, ◌∷◌, [], length, Option, Some, codes, decimal}
use Rattle.dl_theory.specs.Lists.{TheoryLists}
use Rattle.dl_read.specs.declared.file.ReadStop.TheVariants as stop
use Rattle.dl_read.specs.Files.{Loads, IsReadStop}
use Rattle.dl_print.specs.Text.{refusal_text}
use Rattle.dl_files.specs.declared.refusal.Refusal.{Refusal}
use Rattle.dl_files.specs.declared.refusal.Refusal.TheVariants as refusal
use Rattle.dl_files.specs.declared.theory_file.Loaded.{Loaded}
use Rattle.dl_files.specs.declared.theory_file.Loaded.TheVariants as loaded

-- the largest file that is read
abbrev pub limit : ℕ
limit = 67108864

-- the bytes are a theory of a size that is read
abbrev pub IsTheoryFile : List ℕ → TheoryLists → Type 0
IsTheoryFile bytes T = (length bytes ≤ limit) × Loads bytes T

-- why bytes of any size are no theory
abbrev pub IsLineRefusal : List ℕ → Refusal → Type 0
IsLineRefusal bytes refusal.Size = ⊥
IsLineRefusal bytes (refusal.Form line) = IsReadStop bytes (stop.BadLine line)
IsLineRefusal bytes (refusal.Variables line) = IsReadStop bytes (stop.Variables line)
IsLineRefusal bytes (refusal.Edit line x) = IsReadStop bytes (stop.Edit line x)

-- why a file is refused
abbrev pub IsRefusal : List ℕ → Refusal → Type 0
IsRefusal bytes refusal.Size = limit < length bytes
IsRefusal bytes (refusal.Form line) = (length bytes ≤ limit) × IsLineRefusal bytes (refusal.Form line)
IsRefusal bytes (refusal.Variables line) = (length bytes ≤ limit) × IsLineRefusal bytes (refusal.Variables line)
IsRefusal bytes (refusal.Edit line x) = (length bytes ≤ limit) × IsLineRefusal bytes (refusal.Edit line x)

-- what a file gives, where this tells which theory was loaded
abbrev pub IsLoaded : {T : Type 0} → (T → TheoryLists) → List ℕ → Loaded T → Type 0
IsLoaded lists bytes (loaded.Theory t) = IsTheoryFile bytes (lists t)
IsLoaded lists bytes (loaded.Refused x) = IsRefusal bytes x

-- the file holds bytes that give this
abbrev pub HoldsLoaded : {T : Type 0} → (T → TheoryLists) → Option (List ℕ) → Loaded T → Type 0
HoldsLoaded lists held x = (bytes : List ℕ) × (held ≡ Some bytes) × IsLoaded lists bytes x

-- `line K `
abbrev pub line_front : ℕ → List ℕ
line_front line = codes "line " ++ (decimal line ++ 32 ∷ [])

-- and what is wrong with it
abbrev pub line_text : ℕ → List ℕ → List ℕ
line_text line words = line_front line ++ words

abbrev pub refusal_words : Refusal → List ℕ
refusal_words refusal.Size = codes "size"
refusal_words (refusal.Form line) = line_text line (codes "form")
refusal_words (refusal.Variables line) = line_text line (codes "variables")
refusal_words (refusal.Edit line x) = line_text line (refusal_text x)

-- the line that is printed
abbrev pub refused_line : Refusal → List ℕ
refused_line x = codes "refused " ++ (refusal_words x ++ (10 ∷ []))
