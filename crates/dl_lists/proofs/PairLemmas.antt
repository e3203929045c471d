-- Where the pairs of each rule are, as pairs come and go.
use Rattle.std.proofs.Common.{◌≡◌, ◌≢◌, ℕ, ◌+◌, ◌<◌, ◌≤◌, ◌==◌, Bool, true, false, not, cond, Option, None, Some, List, [], ◌∷◌, ◌++◌, length, get_or, set, take, sym, ap, ◌∙◌, subst, arith, inl, inr, get_or-set_same, get_or-set_other}
use Rattle.std.specs.Prelude.{Contains}
use Rattle.std.proofs.lemmas.Bool.{cases_eq}
use Rattle.std.proofs.lemmas.List.{length-take-le, take_more, length-map, length-set, length_push}
use Rattle.std.proofs.lemmas.List.Elements.{Contains-push, Contains-append_left}
use Rattle.dl_base.proofs.Filters.{Contains-kept}
use Rattle.dl_base.proofs.Members.{Contains-filtered}
use Rattle.dl_rows.specs.Tables.{RowLists, list_at, drop_item, KeepsLists, IsOpen, spare_at}
use Rattle.dl_rows.proofs.NumberLists.{differ}
use Rattle.dl_sup.specs.declared.link.Link.{Link}
use Rattle.dl_lists.specs.declared.pair_numbers.PairNumbers.TheInside.{Inside}
use Rattle.dl_rows.specs.There.{there, HasNumber}
use Rattle.dl_lists.specs.declared.pair_numbers.Room.{Room}
use Rattle.dl_lists.specs.declared.pair_numbers.Room.TheVariants.{Nothing, ForPair, ForDrop, ForRule}
use Rattle.dl_lists.specs.KeptPairs.{pair_in, pairs_in, clearing_of, ArePlaced, ArePlacedIn, CanClearIn, HasRoom, IsKeptPairs}
use Rattle.dl_rows.proofs.There.{push_has, drop_has, live_push, live_drop}

-- ---- one list of a table changes

-- a number more at the end of a list
module _ (t t' : RowLists) (h n : ℕ) (within : h < length t.lists) (put : t'.lists ≡ set t.lists h (list_at t h ++ n ∷ [])) where
  row_here : list_at t' h ≡ list_at t h ++ n ∷ []
  row_here =
      ap (λ (ls : List (List ℕ)). get_or ls h []) put ∙ get_or-set_same t.lists h (list_at t h ++ n ∷ []) [] within

  pub row_has : Contains (list_at t' h) n
  row_has = subst (λ (l : List ℕ). Contains l n) (sym row_here) (Contains-push (list_at t h) n)

  pub row_keeps : (s m : ℕ) → Contains (list_at t s) m → Contains (list_at t' s) m
  row_keeps s m has =
      elim (cases_eq s h) [
        | inl here ↦
            subst (λ (k : ℕ). Contains (list_at t' k) m) (sym here)
            (subst (λ (l : List ℕ). Contains l m) (sym row_here)
            (Contains-append_left (list_at t h) (n ∷ []) m (subst (λ (k : ℕ). Contains (list_at t k) m) here has)))
        | inr other ↦
            subst (λ (l : List ℕ). Contains l m)
            (sym (ap (λ (ls : List (List ℕ)). get_or ls s []) put ∙ get_or-set_other t.lists h s (list_at t h ++ n ∷ []) [] other)) has
      ]

-- a number less
pub row_left : (t t' : RowLists) (h n : ℕ) → ((s : ℕ) → list_at t' s ≡ cond (s == h) (drop_item n (list_at t s)) (list_at t s))
    → (s m : ℕ) → m ≢ n → Contains (list_at t s) m → Contains (list_at t' s) m
row_left t t' h n removed s m other has =
    subst (λ (l : List ℕ). Contains l m) (sym (removed s)) (by (s == h))
  where
    by : (b : Bool) → Contains (cond b (drop_item n (list_at t s)) (list_at t s)) m
    by true = Contains-kept (λ y. not (y == n)) (list_at t s) m has (ap not (differ m n other))
    by false = has

-- and none more
pub row_less : (t t' : RowLists) (h n : ℕ) → ((s : ℕ) → list_at t' s ≡ cond (s == h) (drop_item n (list_at t s)) (list_at t s))
    → (s m : ℕ) → Contains (list_at t' s) m → Contains (list_at t s) m
row_less t t' h n removed s m has = by (s == h) (subst (λ (l : List ℕ). Contains l m) (removed s) has)
  where
    by : (b : Bool) → Contains (cond b (drop_item n (list_at t s)) (list_at t s)) m → Contains (list_at t s) m
    by true there = Contains-filtered (λ y. not (y == n)) (list_at t s) m there
    by false there = there

-- a list that is emptied, and from which no number is missed
pub row_cleared : (t t' : RowLists) (h : ℕ) → ((s : ℕ) → list_at t' s ≡ cond (s == h) [] (list_at t s))
    → (s m : ℕ) → s ≢ h → Contains (list_at t s) m → Contains (list_at t' s) m
row_cleared t t' h cleared s m other has =
    subst (λ (l : List ℕ). Contains l m) (sym (cleared s ∙ ap (λ b. cond b [] (list_at t s)) (differ s h other))) has

-- a list that may be written still may, where no list has less room
pub open_kept : (t t' : RowLists) (s : ℕ) → KeepsLists t t' → length t'.lists ≡ length t.lists → IsOpen t s → IsOpen t' s
open_kept t t' s k same open_then lt = omega (arith, k.room s, open_then (omega (arith, lt, same)))

pub open_left : (t t' : RowLists) (s : ℕ) → ((n : ℕ) → spare_at t n ≤ spare_at t' n) → length t'.lists ≡ length t.lists → IsOpen t s → IsOpen t' s
open_left t t' s room same open_then lt = omega (arith, room s, open_then (omega (arith, lt, same)))

-- ---- the pairs of each rule

pub placed_nothing : (uppers lowers : RowLists) → ArePlaced [] uppers lowers
placed_nothing uppers lowers l n h = cc

module _ (items : List (Option Link)) (us ls us' ls' : RowLists) (h : ArePlaced items us ls) where
  pub placed_kept : KeepsLists us us' → KeepsLists ls ls' → ArePlaced items us' ls'
  placed_kept k k' l n has =
      let at = h l n has in
      (subst (λ (row : List ℕ). Contains row n) (sym (k.lists l.upper)) at.0, subst (λ (row : List ℕ). Contains row n) (sym (k'.lists l.lower)) at.1)

  pub placed_push : (pair : Link) (number : ℕ) → length items ≡ number → pair.upper < length us.lists → pair.lower < length ls.lists
      → us'.lists ≡ set us.lists pair.upper (list_at us pair.upper ++ number ∷ [])
      → ls'.lists ≡ set ls.lists pair.lower (list_at ls pair.lower ++ number ∷ []) → ArePlaced (items ++ Some pair ∷ []) us' ls'
  placed_push pair number long upper lower put put' l n has =
      elim (push_has items (Some pair) l n has) [
        | inl old ↦
            let at = h l n old in
            (row_keeps us us' pair.upper number upper put l.upper n at.0, row_keeps ls ls' pair.lower number lower put' l.lower n at.1)
        | inr new ↦
            let same : pair ≡ l = cc in
            let here : number ≡ n = omega (arith, long, new.0) in
            subst (λ (p : Link). Contains (list_at us' p.upper) n × Contains (list_at ls' p.lower) n) same
            (subst (λ (k : ℕ). Contains (list_at us' pair.upper) k × Contains (list_at ls' pair.lower) k) here
            (row_has us us' pair.upper number upper put, row_has ls ls' pair.lower number lower put'))
      ]

  pub placed_removed : (upper lower number : ℕ)
      → ((s : ℕ) → list_at us' s ≡ cond (s == upper) (drop_item number (list_at us s)) (list_at us s))
      → ((s : ℕ) → list_at ls' s ≡ cond (s == lower) (drop_item number (list_at ls s)) (list_at ls s))
      → ArePlaced (set items number None) us' ls'
  placed_removed upper lower number gone gone' l n has =
      let old = drop_has items number l n has in
      let at = h l n old.0 in
      (row_left us us' upper number gone l.upper n old.1 at.0, row_left ls ls' lower number gone' l.lower n old.1 at.1)

-- an empty number at the end
pub placed_past : (items : List (Option Link)) (us ls : RowLists) → ArePlaced items us ls → ArePlaced (items ++ None ∷ []) us ls
placed_past items us ls h l n has =
    elim (push_has items None l n has) [
      | inl old ↦ h l n old
      | inr new ↦ let none : None ≡ Some l = new.1 in cc
    ]

-- ---- all pairs are gone through

module _ (xs : List (Option Link)) (k : ℕ) (us ls us' ls' : RowLists) (lt : k < length xs) (h : ArePlaced (take k xs) us ls) where
  -- a number that has a pair
  pub front_pair : (pair : Link) → HasNumber xs pair k
      → ((items : List (Option Link)) → length items ≡ k → ArePlaced items us ls → ArePlaced (items ++ Some pair ∷ []) us' ls')
      → ArePlaced (take (k + 1) xs) us' ls'
  front_pair pair at put =
      subst (λ (l : List (Option Link)). ArePlaced l us' ls')
      (ap (λ (o : Option Link). take k xs ++ o ∷ []) (sym at) ∙ sym (take_more xs k None lt))
      (put (take k xs) (length-take-le k xs (omega (arith, lt))) h)

  -- an empty number
  pub front_past : get_or xs k None ≡ None → ArePlaced (take (k + 1) xs) us ls
  front_past at =
      subst (λ (l : List (Option Link)). ArePlaced l us ls)
      (ap (λ (o : Option Link). take k xs ++ o ∷ []) (sym at) ∙ sym (take_more xs k None lt))
      (placed_past (take k xs) us ls h)

-- ---- a list of pairs as its fields hold it

pub kept_by : (b : Inside) (items : List (Option Link)) → pairs_in b.pairs.items ≡ items → ArePlacedIn items b.places
    → b.live ≡ length (there items) → length items ≤ 4294967295 → HasRoom b.pairs b.places b.room → IsKeptPairs b
kept_by b items e placed live few room = record {
  placed = subst (λ (xs : List (Option Link)). ArePlacedIn xs b.places) (sym e) placed;
  live = live ∙ sym (ap (λ (xs : List (Option Link)). length (there xs)) e);
  few = omega (arith, few, ap (λ (xs : List (Option Link)). length xs) e, length-map b.pairs.items pair_in);
  room = room;
}

pub kept_same : (a b : Inside) → IsKeptPairs a → b.pairs.items ≡ a.pairs.items → ArePlacedIn (pairs_in a.pairs.items) b.places
    → b.live ≡ a.live → HasRoom b.pairs b.places b.room → IsKeptPairs b
kept_same a b h items placed live room =
    kept_by b (pairs_in a.pairs.items) (ap pairs_in items) placed (live ∙ h.live)
    (omega (arith, h.few, length-map a.pairs.items pair_in)) room

pub kept_put : (a b : Inside) (pair : Link) → IsKeptPairs a → length a.pairs.items < 4294967295
    → pairs_in b.pairs.items ≡ pairs_in a.pairs.items ++ Some pair ∷ [] → ArePlacedIn (pairs_in a.pairs.items ++ Some pair ∷ []) b.places
    → b.live ≡ a.live + 1 → HasRoom b.pairs b.places b.room → IsKeptPairs b
kept_put a b pair h few items placed live room =
    let xs : List (Option Link) = pairs_in a.pairs.items in
    kept_by b (xs ++ Some pair ∷ []) items placed (omega (arith, live, h.live, live_push xs pair))
    (omega (arith, few, length-map a.pairs.items pair_in, length_push xs (Some pair))) room

pub kept_drop : (a b : Inside) (pair : Link) (k : ℕ) → IsKeptPairs a → HasNumber (pairs_in a.pairs.items) pair k
    → pairs_in b.pairs.items ≡ set (pairs_in a.pairs.items) k None → ArePlacedIn (set (pairs_in a.pairs.items) k None) b.places
    → b.live + 1 ≡ a.live → HasRoom b.pairs b.places b.room → IsKeptPairs b
kept_drop a b pair k h at items placed live room =
    let xs : List (Option Link) = pairs_in a.pairs.items in
    kept_by b (set xs k None) items placed (omega (arith, live, h.live, live_drop xs pair k at))
    (omega (arith, h.few, length-map a.pairs.items pair_in, length-set xs k None)) room
