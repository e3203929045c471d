-- The pairs of a rule go one by one.
use Rattle.std.proofs.Common.{◌≡◌, ◌≢◌, ℕ, ◌+◌, ◌<◌, ◌≤◌, ◌==◌, ◌||◌, Bool, true, false, not, cond, Option, None, Some, List, [], length, get_or, set, map, refl, sym, ap, ◌∙◌, subst, arith, inl, inr, true≢false}
use Rattle.std.specs.Prelude.{Contains}
use Rattle.std.proofs.lemmas.Bool.{cases_eq, cases_lt}
use Rattle.std.proofs.lemmas.List.{map-set, set-get_or, get_or-map, get_or_default, length-set}
use Rattle.dl_pages.specs.Paged.{PagedItems, Owns, KeepsOwned}
use Rattle.dl_lists.specs.declared.pair_slot.PairSlot.{PairSlot}
use Rattle.dl_rows.specs.Tables.{RowLists, list_at, spare_at, drop_item, IsOpen, KeepsLists}
use Rattle.dl_rows.proofs.NumberLists.{alike, differ}
use Rattle.dl_sup.specs.declared.link.Link.{Link}
use Rattle.dl_sup.specs.Links.{names_item}
use Rattle.dl_rows.specs.There.{there, HasNumber, kept_if}
use Rattle.dl_lists.specs.KeptPairs.{ArePlaced, CanClearRow, other_rule, pair_in, pairs_in}
use Rattle.dl_rows.proofs.There.{has_within, drop_has, live_drop, all_stay}
use Rattle.dl_lists.proofs.PairLemmas.{row_left, row_less, row_cleared, open_left, open_kept}

-- whether a pair stays where a rule goes
abbrev pub stays : ℕ → Link → Bool
stays rule p = not (names_item rule p)

-- what holds where so many numbers of a row were looked at
pub record IsDropping (rule : ℕ) (row : List ℕ) (upto : ℕ) (old new : List (Option Link)) (before after : RowLists) (count : ℕ) : Type 0 where
  pub same : map (kept_if (stays rule)) new ≡ map (kept_if (stays rule)) old
  pub fewer : (l : Link) (n : ℕ) → HasNumber new l n → HasNumber old l n
  pub gone : (l : Link) (k : ℕ) → k < upto → HasNumber new l (get_or row k 0) → names_item rule l ≡ false
  pub kept : (l : Link) (n s : ℕ) → HasNumber new l n → Contains (list_at before s) n → Contains (list_at after s) n
  pub counted : count + length (there new) ≡ length (there old)

module _ (rule : ℕ) (row : List ℕ) (upto : ℕ) (old new : List (Option Link)) (before after : RowLists) (count : ℕ)
    (h : IsDropping rule row upto old new before after count) (number : ℕ) (read : number ≡ get_or row upto 0) where
  -- nothing with this number names the rule
  pub dropping_skip : ((l : Link) → HasNumber new l number → names_item rule l ≡ false)
      → IsDropping rule row (upto + 1) old new before after count
  dropping_skip none = record {
    same = h.same;
    fewer = h.fewer;
    gone = λ l k lt has.
        elim (cases_lt k upto) [
          | inl done ↦ h.gone l k done has
          | inr from ↦
              let here : k ≡ upto = omega (arith, lt, from) in
              none l (subst (λ (n : ℕ). HasNumber new l n) (ap (λ (j : ℕ). get_or row j 0) here ∙ sym read) has)
        ];
    kept = h.kept;
    counted = h.counted;
  }

  -- the pair with this number goes
  pub dropping_drop : (pair : Link) (other : ℕ) (later : RowLists) → HasNumber new pair number → names_item rule pair ≡ true
      → ((s : ℕ) → list_at later s ≡ cond (s == other) (drop_item number (list_at after s)) (list_at after s))
      → IsDropping rule row (upto + 1) old (set new number None) before later (count + 1)
  dropping_drop pair other later has names removed = record {
    same =
        map-set (kept_if (stays rule)) new number None
        ∙ ap (λ (o : Option Link). set (map (kept_if (stays rule)) new) number o)
        (sym (get_or-map (kept_if (stays rule)) new number None None (has_within new pair number has)
        ∙ ap (kept_if (stays rule)) has ∙ ap (λ b. cond (not b) (Some pair) None) names))
        ∙ set-get_or (map (kept_if (stays rule)) new) number None
        ∙ h.same;
    fewer = λ l n at. h.fewer l n (drop_has new number l n at).0;
    gone = λ l k lt at.
        let left = drop_has new number l (get_or row k 0) at in
        elim (cases_lt k upto) [
          | inl done ↦ h.gone l k done left.0
          | inr from ↦
              let here : k ≡ upto = omega (arith, lt, from) in
              absurd (left.1 (ap (λ (j : ℕ). get_or row j 0) here ∙ sym read))
        ];
    kept = λ l n s at m.
        let left = drop_has new number l n at in
        row_left after later other number removed s n left.1 (h.kept l n s left.0 m);
    counted = omega (arith, h.counted, live_drop new pair number has);
  }

-- the same, written otherwise
pub dropping_as : (rule : ℕ) (row : List ℕ) (upto : ℕ) (old new new' : List (Option Link)) (before after after' : RowLists) (count count' : ℕ)
    → new' ≡ new → after' ≡ after → count' ≡ count → IsDropping rule row upto old new before after count
    → IsDropping rule row upto old new' before after' count'
dropping_as rule row upto old new new' before after after' count count' e f g h =
    subst (λ (xs : List (Option Link)). IsDropping rule row upto old xs before after' count') (sym e)
    (subst (λ (t : RowLists). IsDropping rule row upto old new before t count') (sym f)
    (subst (λ (k : ℕ). IsDropping rule row upto old new before after k) (sym g) h))

-- ---- the numbers and the lists of the other rules may be written all along

pub record IsClearing (rule : ℕ) (row : List ℕ) (upto : ℕ) (old new : PagedItems PairSlot) (before after : RowLists) (count : ℕ) : Type 0 where
  pub drops : IsDropping rule row upto (pairs_in old.items) (pairs_in new.items) before after count
  pub len : length new.items ≡ length old.items
  pub owned : KeepsOwned old new
  pub opened : (s : ℕ) → IsOpen before s → IsOpen after s
  pub shorter : (n s : ℕ) → Contains (list_at after s) n → Contains (list_at before s) n

pub contains_at : (row : List ℕ) (k : ℕ) → k < length row → Contains row (get_or row k 0)
contains_at row k lt = (k, lt, get_or_default row k (get_or row k 0) 0 lt)

module _ (rule : ℕ) (row : List ℕ) (upto : ℕ) (old new : PagedItems PairSlot) (before after : RowLists) (count : ℕ)
    (h : IsClearing rule row upto old new before after count) where
  -- what the next pair leaves may be written
  pub clearing_may : CanClearRow old before row rule → upto < length row → (pair : Link)
      → HasNumber (pairs_in new.items) pair (get_or row upto 0) → names_item rule pair ≡ true
      → Owns new (get_or row upto 0) × IsOpen after (other_rule rule pair)
  clearing_may clear lt pair at names =
      let may = clear pair (get_or row upto 0) (contains_at row upto lt) (h.drops.fewer pair (get_or row upto 0) at) names in
      (h.owned (get_or row upto 0) may.0, h.opened (other_rule rule pair) may.1)

  pub clearing_skip : ((l : Link) → HasNumber (pairs_in new.items) l (get_or row upto 0) → names_item rule l ≡ false)
      → IsClearing rule row (upto + 1) old new before after count
  clearing_skip none = record {
    drops = dropping_skip rule row upto (pairs_in old.items) (pairs_in new.items) before after count h.drops (get_or row upto 0) refl none;
    len = h.len;
    owned = h.owned;
    opened = h.opened;
    shorter = h.shorter;
  }

  pub clearing_drop : (pair : Link) (other : ℕ) (written : PagedItems PairSlot) (later : RowLists) (slot : PairSlot)
      → HasNumber (pairs_in new.items) pair (get_or row upto 0) → names_item rule pair ≡ true
      → written.items ≡ set new.items (get_or row upto 0) slot → written.owned ≡ new.owned → pair_in slot ≡ None
      → ((s : ℕ) → list_at later s ≡ cond (s == other) (drop_item (get_or row upto 0) (list_at after s)) (list_at after s))
      → length later.lists ≡ length after.lists → ((s : ℕ) → spare_at after s ≤ spare_at later s)
      → IsClearing rule row (upto + 1) old written before later (count + 1)
  clearing_drop pair other written later slot at names put owned empty removed same room = record {
    drops = dropping_as rule row (upto + 1) (pairs_in old.items) (set (pairs_in new.items) (get_or row upto 0) None) (pairs_in written.items)
        before later later (count + 1) (count + 1)
        (ap pairs_in put ∙ map-set pair_in new.items (get_or row upto 0) slot
        ∙ ap (λ (o : Option Link). set (pairs_in new.items) (get_or row upto 0) o) empty) refl refl
        (dropping_drop rule row upto (pairs_in old.items) (pairs_in new.items) before after count h.drops (get_or row upto 0) refl pair other later
        at names removed);
    len = ap (λ (l : List PairSlot). length l) put ∙ length-set new.items (get_or row upto 0) slot ∙ h.len;
    owned = λ k was. subst (λ (l : List Bool). get_or l k false ≡ true) (sym owned) (h.owned k was);
    opened = λ s was. open_left after later s room same (h.opened s was);
    shorter = λ n s has. h.shorter n s (row_less after later other (get_or row upto 0) removed s n has);
  }

pub clearing_as : (rule : ℕ) (row : List ℕ) (upto : ℕ) (old new new' : PagedItems PairSlot) (before after after' : RowLists) (count count' : ℕ)
    → new' ≡ new → after' ≡ after → count' ≡ count → IsClearing rule row upto old new before after count
    → IsClearing rule row upto old new' before after' count'
clearing_as rule row upto old new new' before after after' count count' e f g h =
    subst (λ (xs : PagedItems PairSlot). IsClearing rule row upto old xs before after' count') (sym e)
    (subst (λ (t : RowLists). IsClearing rule row upto old new before t count') (sym f)
    (subst (λ (k : ℕ). IsClearing rule row upto old new before after k) (sym g) h))

-- ---- what is left of a row is made writable

-- what so many numbers of a row leave may be written
abbrev pub CanClearUpTo : PagedItems PairSlot → RowLists → List ℕ → ℕ → ℕ → Type 0
CanClearUpTo pairs others row rule upto =
    (l : Link) (k : ℕ) → k < upto → HasNumber (pairs_in pairs.items) l (get_or row k 0) → names_item rule l ≡ true
    → Owns pairs (get_or row k 0) × IsOpen others (other_rule rule l)

pub clear_more : (rule : ℕ) (row : List ℕ) (upto : ℕ) (old new : PagedItems PairSlot) (before after : RowLists) → new.items ≡ old.items
    → KeepsOwned old new → KeepsLists before after → length after.lists ≡ length before.lists → CanClearUpTo old before row rule upto
    → ((l : Link) → HasNumber (pairs_in new.items) l (get_or row upto 0) → names_item rule l ≡ true
    → Owns new (get_or row upto 0) × IsOpen after (other_rule rule l))
    → CanClearUpTo new after row rule (upto + 1)
clear_more rule row upto old new before after items owned kept same clear here l k lt has names =
    elim (cases_lt k upto) [
      | inl done ↦
          let may = clear l k done (subst (λ (xs : List PairSlot). HasNumber (pairs_in xs) l (get_or row k 0)) items has) names in
          (owned (get_or row k 0) may.0, open_kept before after (other_rule rule l) kept same may.1)
      | inr from ↦
          let at : k ≡ upto = omega (arith, lt, from) in
          subst (λ (n : ℕ). Owns new n × IsOpen after (other_rule rule l)) (ap (λ (j : ℕ). get_or row j 0) (sym at))
          (here l (subst (λ (n : ℕ). HasNumber (pairs_in new.items) l n) (ap (λ (j : ℕ). get_or row j 0) at) has) names)
    ]

pub clear_all : (rule : ℕ) (row : List ℕ) (upto : ℕ) (pairs : PagedItems PairSlot) (others : RowLists) → length row ≤ upto
    → CanClearUpTo pairs others row rule upto → CanClearRow pairs others row rule
clear_all rule row upto pairs others all clear l n m has names =
    let here : get_or row m.0 0 ≡ n = get_or_default row m.0 0 n m.1 ∙ m.2 in
    let may = clear l m.0 (omega (arith, m.1, all)) (subst (λ (k : ℕ). HasNumber (pairs_in pairs.items) l k) (sym here) has) names in
    (subst (λ (k : ℕ). Owns pairs k) here may.0, may.1)

-- a row of fewer numbers, of fewer pairs
pub clear_fewer : (rule : ℕ) (row row' : List ℕ) (old new : PagedItems PairSlot) (others : RowLists) → ((n : ℕ) → Contains row' n → Contains row n)
    → ((l : Link) (n : ℕ) → HasNumber (pairs_in new.items) l n → HasNumber (pairs_in old.items) l n) → KeepsOwned old new
    → CanClearRow old others row rule → CanClearRow new others row' rule
clear_fewer rule row row' old new others shorter fewer owned clear l n m has names =
    let may = clear l n (shorter n m) (fewer l n has) names in (owned n may.0, may.1)

-- ---- a whole row

pub all_gone : (rule : ℕ) (row : List ℕ) (new : List (Option Link)) → ((l : Link) (k : ℕ) → k < length row → HasNumber new l (get_or row k 0) → names_item rule l ≡ false)
    → (l : Link) (n : ℕ) → Contains row n → HasNumber new l n → names_item rule l ≡ false
all_gone rule row new h l n m has =
    h l m.0 m.1 (subst (λ (k : ℕ). HasNumber new l k) (sym (get_or_default row m.0 0 n m.1 ∙ m.2)) has)

-- ---- both rows of a rule

or_true : (b : Bool) → (b || true) ≡ true
or_true true = refl
or_true false = refl

pub names_upper : (rule : ℕ) (l : Link) → l.upper ≡ rule → names_item rule l ≡ true
names_upper rule l e = ap (λ b. b || (l.lower == rule)) (alike l.upper rule e)

pub names_lower : (rule : ℕ) (l : Link) → l.lower ≡ rule → names_item rule l ≡ true
names_lower rule l e = ap (λ b. (l.upper == rule) || b) (alike l.lower rule e) ∙ or_true (l.upper == rule)

pub names_none : (rule : ℕ) (l : Link) → l.upper ≢ rule → l.lower ≢ rule → names_item rule l ≡ false
names_none rule l upper lower = (λ i. differ l.upper rule upper i || differ l.lower rule lower i)

-- where each pair is placed, and those in the two rows of a rule do not name it, none names it
pub none_names : (rule : ℕ) (items : List (Option Link)) (us ls : List ℕ)
    → ((l : Link) (n : ℕ) → HasNumber items l n → l.upper ≡ rule → Contains us n)
    → ((l : Link) (n : ℕ) → HasNumber items l n → l.lower ≡ rule → Contains ls n)
    → ((l : Link) (n : ℕ) → Contains us n → HasNumber items l n → names_item rule l ≡ false)
    → ((l : Link) (n : ℕ) → Contains ls n → HasNumber items l n → names_item rule l ≡ false)
    → (l : Link) (n : ℕ) → HasNumber items l n → stays rule l ≡ true
none_names rule items us ls upper lower above below l n has =
    elim (cases_eq l.upper rule) [
      | inl here ↦ ap not (above l n (upper l n has here) has)
      | inr other ↦ elim (cases_eq l.lower rule) [
        | inl here ↦ ap not (below l n (lower l n has here) has)
        | inr other' ↦ ap not (names_none rule l other other')
      ]
    ]

-- no pair that names the rule is left, so just those are gone
pub just_stay : (rule : ℕ) (old new : List (Option Link)) → map (kept_if (stays rule)) new ≡ map (kept_if (stays rule)) old
    → ((l : Link) (n : ℕ) → HasNumber new l n → stays rule l ≡ true) → new ≡ map (kept_if (stays rule)) old
just_stay rule old new same stay = sym (all_stay (stays rule) new stay) ∙ same

-- a pair that stays names another rule
pub stays_apart : (rule : ℕ) (l : Link) → stays rule l ≡ true → (l.upper ≢ rule) × (l.lower ≢ rule)
stays_apart rule l h = (
  λ e. true≢false (sym h ∙ ap not (names_upper rule l e)),
  λ e. true≢false (sym h ∙ ap not (names_lower rule l e)),
)

module _ (rule : ℕ) (first second third : List (Option Link)) (us ls ls' us' : RowLists) (h : ArePlaced first us ls)
    (fewer : (l : Link) (n : ℕ) → HasNumber second l n → HasNumber first l n)
    (gone : (l : Link) (n : ℕ) → Contains (list_at us rule) n → HasNumber second l n → names_item rule l ≡ false)
    (kept : (l : Link) (n s : ℕ) → HasNumber second l n → Contains (list_at ls s) n → Contains (list_at ls' s) n)
    (fewer' : (l : Link) (n : ℕ) → HasNumber third l n → HasNumber second l n)
    (gone' : (l : Link) (n : ℕ) → Contains (list_at ls' rule) n → HasNumber third l n → names_item rule l ≡ false)
    (kept' : (l : Link) (n s : ℕ) → HasNumber third l n → Contains (list_at us s) n → Contains (list_at us' s) n) where
  placed_between : ArePlaced second us ls'
  placed_between l n has = let at = h l n (fewer l n has) in (at.0, kept l n l.lower has at.1)

  placed_then : ArePlaced third us' ls'
  placed_then l n has = let at = placed_between l n (fewer' l n has) in (kept' l n l.upper has at.0, at.1)

  pub both_stay : (l : Link) (n : ℕ) → HasNumber third l n → stays rule l ≡ true
  both_stay =
      none_names rule third (list_at us rule) (list_at ls' rule)
      (λ l n has e. subst (λ (s : ℕ). Contains (list_at us s) n) e (h l n (fewer l n (fewer' l n has))).0)
      (λ l n has e. subst (λ (s : ℕ). Contains (list_at ls' s) n) e (placed_between l n (fewer' l n has)).1)
      (λ l n m has. gone l n m (fewer' l n has))
      gone'

  pub both_placed : (us'' ls'' : RowLists) → ((s : ℕ) → list_at us'' s ≡ cond (s == rule) [] (list_at us' s))
      → ((s : ℕ) → list_at ls'' s ≡ cond (s == rule) [] (list_at ls' s)) → ArePlaced third us'' ls''
  both_placed us'' ls'' cleared cleared' l n has =
      let at = placed_then l n has in
      let apart = stays_apart rule l (both_stay l n has) in
      (row_cleared us' us'' rule cleared l.upper n apart.0 at.0, row_cleared ls' ls'' rule cleared' l.lower n apart.1 at.1)
