-- Many hits at once: first all cells count down, and then the nodes that fire go behind the queue.
use Rattle.std.proofs.Common.{◌≡◌, ℕ, zero, suc, ◌+◌, ◌-◌, ◌<◌, ◌≤◌, ◌==◌, cond, Bool, true, false, List, [], ◌∷◌, ◌++◌, length, get_or, set, take, sym, subst, ap, refl, ◌∙◌, arith, append_assoc, length-set}
use Rattle.std.specs.List.{fold}
use Rattle.std.proofs.lemmas.List.{append-nil, take_more}
use Rattle.dl_graph.specs.Counting.{times}
use Rattle.dl_fill.specs.Cells.{CellLists, comes_down, counted_down, come_down}
use Rattle.dl_fill.specs.Counters.{CounterLists, IsKept, hit, chosen}
use Rattle.dl_fill.proofs.Times.{times_cons_same}
use Rattle.dl_fill.proofs.Kept.{one_where, one_hit}

-- ---- the loops

come_down-push : (ys : List ℕ) (v : CellLists) (y : ℕ) → come_down v (ys ++ y ∷ []) ≡ come_down v ys ++ comes_down (fold counted_down v ys) y ∷ []
come_down-push [] v y = refl
come_down-push (z ∷ zs) v y = ap (λ (fs : List Bool). comes_down v z ∷ fs) (come_down-push zs (counted_down v z) y)

pub come_down_more : (ys : List ℕ) (v : CellLists) (i : ℕ) → i < length ys
    → come_down v (take (i + 1) ys) ≡ come_down v (take i ys) ++ comes_down (fold counted_down v (take i ys)) (get_or ys i 0) ∷ []
come_down_more ys v i lt = ap (come_down v) (take_more ys i 0 lt) ∙ come_down-push (take i ys) v (get_or ys i 0)

chosen-suc : (fs : List Bool) (ys : List ℕ) (i : ℕ) → i < length ys → i < length fs
    → chosen fs (take (suc i) ys) ≡ chosen fs (take i ys) ++ one_where (get_or fs i false) (get_or ys i 0)
chosen-suc fs [] i lt le = absurd (omega arith)
chosen-suc [] (y ∷ ys) i lt le = absurd (omega arith)
chosen-suc (f ∷ fs) (y ∷ ys) zero lt le = refl
chosen-suc (true ∷ fs) (y ∷ ys) (suc i) lt le = ap (λ (xs : List ℕ). y ∷ xs) (chosen-suc fs ys i (omega arith) (omega arith))
chosen-suc (false ∷ fs) (y ∷ ys) (suc i) lt le = chosen-suc fs ys i (omega arith) (omega arith)

pub chosen_more : (fs : List Bool) (ys : List ℕ) (i : ℕ) → i < length ys → i < length fs
    → chosen fs (take (i + 1) ys) ≡ chosen fs (take i ys) ++ one_where (get_or fs i false) (get_or ys i 0)
chosen_more fs ys i lt le = let on : i + 1 ≡ suc i = omega arith in ap (λ (n : ℕ). chosen fs (take n ys)) on ∙ chosen-suc fs ys i lt le

pub length-chosen_front : (fs : List Bool) (ys : List ℕ) (i : ℕ) → length (chosen fs (take i ys)) ≤ length (chosen fs ys)
length-chosen_front fs [] zero = omega arith
length-chosen_front fs [] (suc i) = omega arith
length-chosen_front fs (y ∷ ys) zero = omega arith
length-chosen_front [] (y ∷ ys) (suc i) = omega arith
length-chosen_front (true ∷ fs) (y ∷ ys) (suc i) = omega (arith, length-chosen_front fs ys i)
length-chosen_front (false ∷ fs) (y ∷ ys) (suc i) = omega (arith, length-chosen_front fs ys i)

-- only as many flags count as there are nodes
pub chosen-take : (fs : List Bool) (ys : List ℕ) → chosen (take (length ys) fs) ys ≡ chosen fs ys
chosen-take fs [] = refl
chosen-take [] (y ∷ ys) = refl
chosen-take (f ∷ fs) (y ∷ ys) = ap (λ (xs : List ℕ). cond f (y ∷ xs) xs) (chosen-take fs ys)

pub length-counted : (v : CellLists) (y : ℕ) → length (counted_down v y).numbers ≡ length v.numbers
length-counted v y = by_flag (get_or v.flags y false)
  where
    by_flag : (on : Bool) → length (cond on v (record { flags = set v.flags y (get_or v.numbers y 0 == 1); numbers = set v.numbers y (get_or v.numbers y 0 - 1) })).numbers ≡ length v.numbers
    by_flag true = refl
    by_flag false = length-set _ _ _

pub length-flags : (v : CellLists) (y : ℕ) → length (counted_down v y).flags ≡ length v.flags
length-flags v y = by_flag (get_or v.flags y false)
  where
    by_flag : (on : Bool) → length (cond on v (record { flags = set v.flags y (get_or v.numbers y 0 == 1); numbers = set v.numbers y (get_or v.numbers y 0 - 1) })).flags ≡ length v.flags
    by_flag true = refl
    by_flag false = length-set _ _ _

-- ---- all hits

append_where : (on : Bool) (queue : List ℕ) (y : ℕ) (xs : List ℕ) → (queue ++ one_where on y) ++ xs ≡ queue ++ cond on (y ∷ xs) xs
append_where true queue y xs = append_assoc queue (y ∷ []) xs
append_where false queue y xs = append_assoc queue [] xs

-- the counters after hits on all these nodes: the cells have counted down, and the nodes that came down stand behind the queue
pub record AreHit (capacity : ℕ) (v : CellLists) (queue ys : List ℕ) (after : CellLists) (longer : List ℕ) : Type 0 where
  pub kept : IsKept after.flags after.numbers longer capacity
  pub same : fold hit (record { need = v.numbers; queue = queue }) ys ≡ record { need = after.numbers; queue = longer }

pub all_hit : (capacity : ℕ) (ys : List ℕ) (v : CellLists) (queue : List ℕ) → IsKept v.flags v.numbers queue capacity → ((y : ℕ) → 0 < times y ys → y < length v.numbers)
    → AreHit capacity v queue ys (fold counted_down v ys) (queue ++ chosen (come_down v ys) ys)
all_hit capacity [] v queue h inside =
    subst (λ (xs : List ℕ). AreHit capacity v queue [] v xs) (sym (append-nil queue)) (record { kept = h; same = refl })
all_hit capacity (y ∷ ys) v queue h inside =
    let one = one_hit v.flags v.numbers queue capacity h y (inside y (omega (arith, times_cons_same y y ys refl))) in
    let rest =
    all_hit capacity ys (counted_down v y) (queue ++ one_where (comes_down v y) y) one.kept
    (λ z m. omega (arith, inside z (omega arith), length-counted v y)) in
    subst (λ (xs : List ℕ). AreHit capacity v queue (y ∷ ys) (fold counted_down (counted_down v y) ys) xs)
    (append_where (comes_down v y) queue y (chosen (come_down (counted_down v y) ys) ys))
    (record { kept = rest.kept; same = ap (λ (w : CounterLists). fold hit w ys) one.same ∙ rest.same })
