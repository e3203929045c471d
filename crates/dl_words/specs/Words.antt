-- The words of the command line.
use Rattle.std.specs.Prelude.{◌≡◌, ℕ, ◌^◌, ◌≤◌, List, [], ◌∷◌, map, length, Bool, true, false, not, ◌&&◌, nat_lt, nat_le, Option, None, Some, if◌then◌else◌, codes, string_bytes, decimal}
use Rattle.std.specs.Option.{option_map}
use Rattle.std.specs.Str.{bytes_eq}
use Rattle.std.specs.Str.Parse.{digits_value}
use Rattle.dl_lit.specs.declared.literal.Family.{Family}
use Rattle.dl_lit.specs.declared.literal.Family.TheVariants.{Definite, Blocking, Propagating, Support}
use Rattle.dl_words.specs.Names.{output_names, is_among}
use Rattle.dl_words.specs.declared.words.TheConstants.{MOST_SESSIONS, MOST_ATOMS}
use Rattle.dl_words.specs.declared.words.Command.{Command}
use Rattle.dl_words.specs.declared.words.Command.TheVariants as command
use Rattle.dl_words.specs.declared.words.Asked.{Asked}
use Rattle.dl_words.specs.declared.words.Asked.TheVariants as asked

-- what words of some form ask for: the conclusions of a file in a family, its canonical text, whether a second file is
-- a certificate of the first, what the calls come to that are generated from a number, with so many atoms, or sessions from the
-- theory in a file, each under a name
pub data Form : Type 0 where
  Conclude : Family → List ℕ → Form
  Print : List ℕ → Form
  Check : List ℕ → List ℕ → Form
  Gen : ℕ → ℕ → Form
  Serve : List ℕ → List (List ℕ) → Form

abbrev pub form_of : Command → Form
form_of (command.Conclude f file) = Conclude f (string_bytes file.now)
form_of (command.Print file) = Print (string_bytes file.now)
form_of (command.Check theory cert) = Check (string_bytes theory.now) (string_bytes cert.now)
form_of (command.Gen seed size) = Gen seed size

abbrev pub asked_form : Asked → Form
asked_form (asked.Command command) = form_of command
asked_form (asked.Serve theory names) = Serve (string_bytes theory.now) (map string_bytes names.now)

-- the letter of a family
abbrev pub family_of : List ℕ → Option Family
family_of word =
    if bytes_eq word (codes "D") then Some Definite
    else (if bytes_eq word (codes "d") then Some Blocking
    else (if bytes_eq word (codes "a") then Some Propagating
    else (if bytes_eq word (codes "s") then Some Support else None)))

-- a file has a name
abbrev pub print_form : List ℕ → Option Form
print_form [] = None
print_form (byte ∷ bytes) = Some (Print (byte ∷ bytes))

abbrev pub conclude_form : List ℕ → List ℕ → Option Form
conclude_form family [] = None
conclude_form family (byte ∷ bytes) = option_map (λ f. Conclude f (byte ∷ bytes)) (family_of family)

abbrev pub check_form : List ℕ → List ℕ → Option Form
check_form [] cert = None
check_form (byte ∷ bytes) [] = None
check_form (byte ∷ bytes) (code ∷ more) = Some (Check (byte ∷ bytes) (code ∷ more))

-- the number that a word is, as sessions spell it: in decimal, with at most 19 digits
abbrev pub number_of : List ℕ → Option ℕ
number_of word =
    let n = digits_value 10 word in
    if bytes_eq word (decimal n) && nat_lt n (10 ^ 19) then Some n else None

-- a number, and how many atoms, which are no more than the most
abbrev pub gen_form_of : Option ℕ → Option ℕ → Option Form
gen_form_of None size = None
gen_form_of (Some seed) None = None
gen_form_of (Some seed) (Some size) = if nat_le size MOST_ATOMS then Some (Gen seed size) else None

abbrev pub gen_form : List ℕ → List ℕ → Option Form
gen_form seed size = gen_form_of (number_of seed) (number_of size)

-- no word is empty, and none comes twice
abbrev pub are_names : List (List ℕ) → Bool
are_names [] = true
are_names ([] ∷ more) = false
are_names ((byte ∷ bytes) ∷ more) = not (is_among (byte ∷ bytes) more) && are_names more

-- none of the words is one of the others
abbrev pub are_apart : List (List ℕ) → List (List ℕ) → Bool
are_apart [] others = true
are_apart (word ∷ more) others = not (is_among word others) && are_apart more others

-- the theory and the names of sessions: none is empty, none comes twice, and none is the output of a session
abbrev pub may_serve : List ℕ → List (List ℕ) → Bool
may_serve theory names = are_names (theory ∷ names) && are_apart (theory ∷ names) (output_names names)

-- a run has no more atoms than the most
abbrev pub IsRunnable : Command → Type 0
IsRunnable (command.Conclude f file) = Unit {0}
IsRunnable (command.Print file) = Unit {0}
IsRunnable (command.Check theory cert) = Unit {0}
IsRunnable (command.Gen seed size) = size ≤ MOST_ATOMS

-- sessions are asked for only by such words
abbrev pub IsServable : Asked → Type 0
IsServable (asked.Command command) = IsRunnable command
IsServable (asked.Serve theory names) = may_serve (string_bytes theory.now) (map string_bytes names.now) ≡ true

-- there is a session, and there are no more than the most
abbrev pub is_count : ℕ → Bool
is_count count = nat_lt 0 count && nat_le count MOST_SESSIONS

-- sessions from the theory in a file, each under a name
abbrev pub serve_form : List (List ℕ) → Option Form
serve_form [] = None
serve_form (theory ∷ names) = if is_count (length names) && may_serve theory names then Some (Serve theory names) else None

-- the form of a command with one word behind it
abbrev pub form_of_one : List ℕ → List ℕ → Option Form
form_of_one command file = if bytes_eq command (codes "print") then print_form file else None

-- the form of a command with two words behind it
abbrev pub form_of_two : List ℕ → List ℕ → List ℕ → Option Form
form_of_two command first second =
    if bytes_eq command (codes "conclude") then conclude_form first second
    else (if bytes_eq command (codes "check") then check_form first second
    else (if bytes_eq command (codes "gen") then gen_form first second else None))

-- the form of a command that is replied to
abbrev pub command_form : List ℕ → List (List ℕ) → Option Form
command_form command [] = None
command_form command (file ∷ []) = form_of_one command file
command_form command (first ∷ second ∷ []) = form_of_two command first second
command_form command (first ∷ second ∷ third ∷ more) = None

-- the form of the words, if they have one
abbrev pub form : List (List ℕ) → Option Form
form [] = None
form (command ∷ words) = if bytes_eq command (codes "serve") then serve_form words else command_form command words

-- the file of the theory, if the words name one
abbrev pub file_of : Form → Option (List ℕ)
file_of (Conclude f file) = Some file
file_of (Print file) = Some file
file_of (Check theory cert) = Some theory
file_of (Gen seed size) = None
file_of (Serve theory names) = Some theory

-- there is a file of the theory, and no other
abbrev pub IsAlone : Form → Type 0
IsAlone (Conclude f file) = Unit {0}
IsAlone (Print file) = Unit {0}
IsAlone (Check theory cert) = ⊥
IsAlone (Gen seed size) = ⊥
IsAlone (Serve theory names) = ⊥
