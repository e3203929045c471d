-- What a read by lines gives of some bytes.
use Rattle.std.proofs.Common.{◌≡◌, ℕ, zero, suc, ◌≤◌, ◌<◌, ◌==◌, Bool, true, false, List, [], ◌∷◌, length, take, get_or, if◌then◌else◌, refl, sym, ap, ◌∙◌, arith, append-nil}
use Rattle.std.specs.Io.BufRead.{take_through}
use Rattle.std.proofs.BufReadLemmas.{take_through-nil}
use Rattle.dl_io.specs.Streams.{IsFront}

abbrev IsLf : List ℕ → ℕ → Type 0
IsLf bytes k = (get_or bytes k 0 == 10) ≡ true

not_true : (b : Bool) → (¬ (b ≡ true)) → b ≡ false
not_true true h = absurd (h refl)
not_true false h = refl

next : (byte : ℕ) (bytes line : List ℕ) → (¬ ((byte == 10) ≡ true)) → take_through 10 bytes ≡ line → take_through 10 (byte ∷ bytes) ≡ byte ∷ line
next byte bytes line other same =
    ap (λ (is_end : Bool). if is_end then byte ∷ [] else byte ∷ take_through 10 bytes) (not_true (byte == 10) other) ∙ ap (λ l. byte ∷ l) same

pub through_all : (bytes : List ℕ) → ((k : ℕ) → 0 ≤ k → k < length bytes → ¬ IsLf bytes k) → take_through 10 bytes ≡ bytes
through_all [] none = refl
through_all (byte ∷ bytes) none = next byte bytes bytes (none 0 (omega arith) (omega arith)) (through_all bytes (λ k low lt. none (suc k) (omega arith) (omega arith)))

pub through_first : (bytes : List ℕ) (len : ℕ) → ((k : ℕ) → 0 ≤ k → k < len → ¬ IsLf bytes k) → len < length bytes → IsLf bytes len → take_through 10 bytes ≡ take (suc len) bytes
through_first [] len before within lf = absurd (omega arith)
through_first (byte ∷ bytes) zero before within lf = ap (λ (is_end : Bool). if is_end then byte ∷ [] else byte ∷ take_through 10 bytes) lf
through_first (byte ∷ bytes) (suc len) before within lf =
    next byte bytes (take (suc len) bytes) (before 0 (omega arith) (omega arith)) (through_first bytes len (λ k low lt. before (suc k) (omega arith) (omega arith)) (omega arith) lf)

front_next : (byte : ℕ) (is_end : Bool) (bytes line : List ℕ) → IsFront line bytes → IsFront (if is_end then byte ∷ [] else byte ∷ line) (byte ∷ bytes)
front_next byte true bytes line front = (bytes, refl)
front_next byte false bytes line front = (front.0, ap (λ l. byte ∷ l) front.1)

through_front : (bytes : List ℕ) → IsFront (take_through 10 bytes) bytes
through_front [] = ([], refl)
through_front (byte ∷ bytes) = front_next byte (byte == 10) bytes (take_through 10 bytes) (through_front bytes)

-- what is offered are the first of the bytes that are left, and none only where none are left
pub offered_front : (by_lines : Bool) (rest : List ℕ) → IsFront (if by_lines then take_through 10 rest else rest) rest
offered_front true rest = through_front rest
offered_front false rest = ([], sym (append-nil rest))

pub offered_none : (by_lines : Bool) (rest : List ℕ) → length (if by_lines then take_through 10 rest else rest) ≡ 0 → rest ≡ []
offered_none true rest none = take_through-nil 10 rest none
offered_none false [] none = refl
offered_none false (byte ∷ rest) none = absurd (omega (arith, none))
