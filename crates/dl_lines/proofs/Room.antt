-- Bytes that are moved and put within a room.
use Rattle.std.proofs.Common.{◌≡◌, ℕ, ◌+◌, ◌-◌, ◌≤◌, ◌<◌, List, ◌++◌, Option, Result, Ok, Err, IfOk, length, take, drop, sym, ap, ◌∙◌, arith, length-drop, length-take-le, take_at, drop-drop}
use Rattle.std.proofs.Math.Seq.{paste, take-append-add, take-append-le, take-paste}
use Rattle.std.proofs.lemmas.List.{drop-take}
use Rattle.std.specs.Io.{ReadsAtMost}
use Rattle.dl_io.specs.Streams.{Reads}
use Rattle.dl_lines.specs.Steps.{ReadsBehind}

-- bytes that were put behind those that are held
pub put_behind : (room put tail : List ℕ) (held n : ℕ) → held ≤ length room → n ≤ length put → take (held + n) (take held room ++ (put ++ tail)) ≡ take held room ++ take n put
put_behind room put tail held n there fits =
    let long : length (take held room) ≡ held = length-take-le held room there in
    ap (λ (k : ℕ). take (k + n) (take held room ++ (put ++ tail))) (sym long) ∙ take-append-add (take held room) (put ++ tail) n
    ∙ ap (λ (l : List ℕ). take held room ++ l) (take-append-le n put tail fits)

pub held_stays : (room put : List ℕ) (held : ℕ) → held ≤ length room → take held (take held room ++ put) ≡ take held room
held_stays room put held there = take_at (take held room) put held (length-take-le held room there)

-- what stands in front after a move
pub moved : (room : List ℕ) (start end : ℕ) → start ≤ end → end ≤ length room → take (end - start) (paste room 0 (drop start room) (end - start)) ≡ take (end - start) (drop start room)
moved room start end order within =
    let same : end - start ≡ 0 + (end - start) = omega arith in
    ap (λ (k : ℕ). take k (paste room 0 (drop start room) (end - start))) same ∙ take-paste room 0 (drop start room) (end - start) (omega arith) (omega (arith, length-drop start room))

-- A read into a part of the room puts its bytes behind those that are held.
pub behind : {E : Type 0} (before now : Option (List ℕ)) (room put tail : List ℕ) (held want : ℕ) (r : Result ℕ E) → 0 < want → held ≤ length room → length put ≡ want → ReadsAtMost r put → Reads before now r put
    → IfOk r (ReadsBehind before now room (take held room ++ (put ++ tail)) held want)
behind before now room put tail held want (Ok n) some there size most reads = record {
  piece = take n put;
  told = reads.0;
  put = put_behind room put tail held n there most.0;
  size = length-take-le n put most.0;
  most = omega (arith, most.0, size);
  at_end = λ none. reads.1 none (omega (arith, size, some));
}
behind before now room put tail held want (Err e) some there size most reads = tt

-- a part without its first elements
pub part_drop : (xs : List ℕ) (start n end : ℕ) → start + n ≤ end → take (end - (start + n)) (drop (start + n) xs) ≡ drop n (take (end - start) (drop start xs))
part_drop xs start n end fits =
    let all : n + (end - (start + n)) ≡ end - start = omega arith in
    ap (take (end - (start + n))) (sym (drop-drop n start xs)) ∙ sym (drop-take n (end - (start + n)) (drop start xs)) ∙ ap (λ (k : ℕ). drop n (take k (drop start xs))) all
