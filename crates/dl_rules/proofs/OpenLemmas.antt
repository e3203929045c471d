-- Lists that can lose numbers, and what there is memory for.
use Rattle.std.proofs.Common.{◌≡◌, ℕ, ◌+◌, ◌<◌, ◌≤◌, Bool, true, false, cond, Option, Some, List, length, get_or, take, refl, sym, subst, arith}
use Rattle.std.specs.Prelude.{All}
use Rattle.std.proofs.lemmas.List.{take_more}
use Rattle.std.proofs.lemmas.List.Elements.{All-push, All-weaker, All-contains}
use Rattle.dl_rows.specs.Tables.{RowLists, spare_at, drop_item, IsOpen, KeepsLists}
use Rattle.dl_rules.specs.declared.entry.Room.{Room}
use Rattle.dl_rules.specs.declared.entry.Room.TheVariants.{Nothing, ForRule, ForLink, ForTake, ForUnlink}
use Rattle.dl_rules.specs.declared.index.Index.TheInside.{Inside}
use Rattle.dl_rules.specs.Lines.{Meeting, IndexLists, KeepsRules}
use Rattle.dl_rules.specs.KeptIndex.{index_of, HasRoom, HasTakeRoom, HasUnlinkRoom, taking_of, unlinking_of}
use Rattle.dl_rules.proofs.NumberLemmas.{numbered_kept}
use Rattle.dl_rules.proofs.RuleLemmas.{All-by_member}
use Rattle.dl_rules.proofs.TakeLemmas.{dropped_from}

-- a list that can lose numbers still can where no list has less room
pub open_still : (t t' : RowLists) (n : ℕ) → length t'.lists ≡ length t.lists → ((k : ℕ) → spare_at t k ≤ spare_at t' k) → IsOpen t n → IsOpen t' n
open_still t t' n same room h = λ lt.
    let some : 0 < spare_at t n = h (omega (arith, lt, same)) in
    omega (arith, some, room n)

pub all_still : (t t' : RowLists) (xs : List ℕ) → length t'.lists ≡ length t.lists → ((k : ℕ) → spare_at t k ≤ spare_at t' k) → All (IsOpen t) xs
    → All (IsOpen t') xs
all_still t t' xs same room h = All-weaker (IsOpen t) (IsOpen t') (λ n can. open_still t t' n same room can) xs h

-- one list more can lose numbers
pub one_more_open : (t t' : RowLists) (xs : List ℕ) (i : ℕ) → i < length xs → length t'.lists ≡ length t.lists → ((k : ℕ) → spare_at t k ≤ spare_at t' k)
    → All (IsOpen t) (take i xs) → IsOpen t' (get_or xs i 0) → All (IsOpen t') (take (i + 1) xs)
one_more_open t t' xs i lt same room all one =
    subst (λ (ys : List ℕ). All (IsOpen t') ys) (sym (take_more xs i 0 lt))
    (All-push (IsOpen t') (take i xs) (get_or xs i 0) (all_still t t' (take i xs) same room all) one)

-- what holds of all numbers of a list holds of those that stay
pub all_without : (P : ℕ → Type 0) (x : ℕ) (xs : List ℕ) (b : Bool) → All P xs → All P (cond b (drop_item x xs) xs)
all_without P x xs true h = All-by_member P (drop_item x xs) (λ y m. All-contains P xs y h (dropped_from x xs y m))
all_without P x xs false h = h

-- the rule that can go has all its room
pub taking_room : (a : Inside) (room : Room) (n : ℕ) → HasRoom a room → taking_of room ≡ Some n → HasTakeRoom a n
taking_room a Nothing n h is = cc
taking_room a (ForRule l) n h is = cc
taking_room a (ForLink l) n h is = cc
taking_room a (ForTake m) n h is = let same : m ≡ n = cc in subst (λ k. HasTakeRoom a k) same h
taking_room a (ForUnlink l) n h is = cc

pub unlinking_room : (a : Inside) (room : Room) (upper lower : ℕ) → HasRoom a room
    → ◌≡◌ {A = Option Meeting} (unlinking_of room) (Some (record { upper = upper; lower = lower }))
    → HasUnlinkRoom a (record { upper = upper; lower = lower })
unlinking_room a Nothing upper lower h is = cc
unlinking_room a (ForRule l) upper lower h is = cc
unlinking_room a (ForLink l) upper lower h is = cc
unlinking_room a (ForTake m) upper lower h is = cc
unlinking_room a (ForUnlink l) upper lower h is =
    let same : ◌≡◌ {A = Meeting} (record { upper = l.upper; lower = l.lower }) (record { upper = upper; lower = lower }) = cc in
    subst (λ (m : Meeting). HasUnlinkRoom a (record { upper = m.upper; lower = m.lower })) same h

-- where only the tables of links have become longer
pub only_wider : (a : Inside) (lowers uppers : RowLists) (room : Room) → KeepsLists a.lowers lowers → KeepsLists a.uppers uppers → (v : IndexLists) → index_of a ≡ v
    → KeepsRules v (index_of (record a { lowers = lowers; uppers = uppers; room = room }))
only_wider a lowers uppers room kl ku v is =
    subst (λ (w : IndexLists). KeepsRules w (index_of (record a { lowers = lowers; uppers = uppers; room = room }))) is
    (record {
      lines = refl;
      lowers = numbered_kept (length a.lines.items) a.lowers lowers kl;
      uppers = numbered_kept (length a.lines.items) a.uppers uppers ku;
      wider = omega arith;
    })
