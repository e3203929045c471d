-- Lemmas on bytes that a source tells.
use Rattle.std.proofs.Common.{◌≡◌, ℕ, ◌<◌, ◌≤◌, ◌+◌, List, [], ◌++◌, Option, None, Some, IfSome, refl, sym, ap, ◌∙◌, arith, append_assoc, append-nil, length, length-append}
use Rattle.std.specs.Io.KnownBytes.{prepend_known, IsAtEnd}
use Rattle.dl_files.specs.Whole.{TakesAtMost}

pub prepend_known-none : (known : Option (List ℕ)) → known ≡ prepend_known [] known
prepend_known-none None = refl
prepend_known-none (Some bytes) = refl

-- a piece was read, and then another
pub read_more : (old mid new : Option (List ℕ)) (a b all : List ℕ) → old ≡ prepend_known a mid → mid ≡ prepend_known b new → all ≡ a ++ b → old ≡ prepend_known all new
read_more old mid None a b all before step joined = before ∙ ap (prepend_known a) step
read_more old mid (Some rest) a b all before step joined =
    before ∙ ap (prepend_known a) step ∙ ap Some (sym (append_assoc a b rest) ∙ ap (λ l. l ++ rest) (sym joined))

-- the end was reached
pub read_end : (old new : Option (List ℕ)) (all : List ℕ) → old ≡ prepend_known all new → IsAtEnd new → IfSome old (λ bytes. all ≡ bytes)
read_end None new all before ended = tt
read_end (Some bytes) None all before ended = absurd (cc)
read_end (Some bytes) (Some rest) all before ended =
    let same : bytes ≡ all ++ rest = cc in
    sym (same ∙ ap (λ (l : List ℕ). all ++ l) ended ∙ append-nil all)

-- too much was read
pub read_past : (old new : Option (List ℕ)) (a : List ℕ) (limit : ℕ) → old ≡ prepend_known a new → limit < length a → IfSome old (λ bytes. limit < length bytes)
read_past None new a limit before past = tt
read_past (Some bytes) None a limit before past = absurd (cc)
read_past (Some bytes) (Some rest) a limit before past =
    let same : bytes ≡ a ++ rest = cc in
    omega (arith, ap length same, length-append a rest)

-- some bytes were taken, and then more
pub takes_more : (most room : ℕ) (old mid new : Option (List ℕ)) (a : List ℕ) → old ≡ prepend_known a mid → TakesAtMost room mid new → length a + room ≤ most → TakesAtMost most old new
takes_more most room old mid new a before (b, step, small) fits =
    (a ++ b, read_more old mid new a b (a ++ b) before step refl, omega (arith, length-append a b))
