-- A rule that goes from an index.
use Rattle.std.proofs.Common.{◌≡◌, ◌≢◌, ℕ, ◌<◌, ◌==◌, ◌&&◌, Bool, true, false, not, cond, Option, None, List, [], ◌∷◌, ◌++◌, length, get_or, set, refl, sym, ap, subst, ◌∙◌, arith, inl, inr, true≢false}
use Rattle.std.specs.Prelude.{All, Contains}
use Rattle.std.proofs.lemmas.Bool.{cases_eq}
use Rattle.std.proofs.lemmas.Bool.Decides.{Decides-eqb}
use Rattle.std.proofs.lemmas.List.Elements.{All-nil, All-contains, filter_passes}
use Rattle.std.proofs.lemmas.Map.Made.{is_member-Decides}
use Rattle.dl_base.proofs.Filters.{filter_all, Contains-kept}
use Rattle.dl_base.proofs.Members.{Contains-filtered}
use Rattle.dl_rows.specs.Counting.{times, is_in}
use Rattle.dl_rows.specs.Rows.{places}
use Rattle.dl_rows.specs.Tables.{RowLists, list_at, drop_item, list_of}
use Rattle.dl_rows.proofs.NumberLists.{alike, differ, is_in-push_same, is_in-push_other, is_in-filter, and_true}
use Rattle.dl_rules.specs.Lines.{Line, line_at, heads_row, uses_row, IsThere}
use Rattle.dl_rules.specs.Indexes.{by_number, HasRules, HasLinks}
use Rattle.dl_rules.proofs.NumberLemmas.{numbered_at, numbered_set}
use Rattle.dl_rules.proofs.PlaceLemmas.{places_all, places_gone, head_times, use_times}
use Rattle.dl_rules.proofs.RuleLemmas.{All-by_member}
use Rattle.dl_rules.proofs.ThereLemmas.{there_within, there_left}

-- ---- a number that goes from a list

module _ (x : ℕ) where
  pub dropped_kept : (xs : List ℕ) (y : ℕ) → Contains xs y → y ≢ x → Contains (drop_item x xs) y
  dropped_kept xs y m other = Contains-kept (λ z. not (z == x)) xs y m (ap not (differ y x other))

  pub dropped_other : (xs : List ℕ) (y : ℕ) → Contains (drop_item x xs) y → y ≢ x
  dropped_other xs y m e =
      let passes : not (y == x) ≡ true = All-contains (λ z. not (z == x) ≡ true) (drop_item x xs) y (filter_passes (λ z. not (z == x)) xs) m in
      true≢false (sym passes ∙ ap not (alike y x e))

  pub dropped_from : (xs : List ℕ) (y : ℕ) → Contains (drop_item x xs) y → Contains xs y
  dropped_from xs y m = Contains-filtered (λ z. not (z == x)) xs y m

  pub drop_idle : (xs : List ℕ) → (¬ Contains xs x) → drop_item x xs ≡ xs
  drop_idle xs none =
      filter_all (λ y. not (y == x)) xs
      (All-by_member (λ y. not (y == x) ≡ true) xs (λ y m. ap not (differ y x (λ e. none (subst (λ (z : ℕ). Contains xs z) e m)))))

  -- a list that has x only where a test holds
  pub drop_where : (xs : List ℕ) (b : Bool) → (Contains xs x → b ≡ true) → cond b (drop_item x xs) xs ≡ drop_item x xs
  drop_where xs true h = refl
  drop_where xs false h = sym (drop_idle xs (λ m. true≢false (sym (h m))))

-- a number that goes from one list of a table
abbrev pub Drops : RowLists → RowLists → ℕ → ℕ → Type 0
Drops t t' n x = (s : ℕ) → list_at t' s ≡ cond (s == n) (drop_item x (list_at t s)) (list_at t s)

-- a number goes from one list more
pub taken : (x : ℕ) (old now new : RowLists) (done : List ℕ) (b : ℕ) → ((n : ℕ) → list_at now n ≡ cond (is_in done n) (drop_item x (list_at old n)) (list_at old n))
    → Drops now new b x → (n : ℕ) → list_at new n ≡ cond (is_in (done ++ b ∷ []) n) (drop_item x (list_at old n)) (list_at old n)
taken x old now new done b so put n =
    elim (cases_eq n b) [
      | inl e ↦ put n ∙ ap (λ w. cond w (drop_item x (list_at now n)) (list_at now n)) (alike n b e)
          ∙ ap (drop_item x) (so n) ∙ either (list_at old n) (is_in done n)
          ∙ ap (λ w. cond w (drop_item x (list_at old n)) (list_at old n)) (sym (is_in-push_same done b n e))
      | inr d ↦ put n ∙ ap (λ w. cond w (drop_item x (list_at now n)) (list_at now n)) (differ n b d) ∙ so n
          ∙ ap (λ w. cond w (drop_item x (list_at old n)) (list_at old n)) (sym (is_in-push_other done b n d))
    ]
  where
    either : (xs : List ℕ) (b : Bool) → drop_item x (cond b (drop_item x xs) xs) ≡ drop_item x xs
    either xs true = drop_idle x (drop_item x xs) (λ m. dropped_other x xs x m refl)
    either xs false = refl

-- ---- the tables without the rule

-- a list loses the number where the row of the rule has the literal
gone_row : (f : Option Line → List ℕ) (lines : List (Option Line)) (x : ℕ) (n : ℕ) (b : Bool) (xs ys : List ℕ) → x < length lines → times n (f None) ≡ 0
    → (0 < times n (f (get_or lines x None)) → b ≡ true) → xs ≡ places f lines n → ys ≡ cond b (drop_item x xs) xs → ys ≡ places f (set lines x None) n
gone_row f lines x n b xs ys lt none only_so are taken =
    taken
    ∙ drop_where x xs b
    (λ m. All-contains (λ s. s ≡ x → b ≡ true) (places f lines n) x
    (places_all f n (λ s. s ≡ x → b ≡ true) lines 0 None (λ i j at within some e. only_so (subst (λ (k : ℕ). 0 < times n (f (get_or lines k None))) (omega (arith, at, e)) some)))
    (subst (λ (zs : List ℕ). Contains zs x) are m) refl)
    ∙ ap (drop_item x) are
    ∙ places_gone f n lines x None lt none

pub HasRules-take : {lines : List (Option Line)} {heads uses heads' uses' : RowLists} (x : ℕ) → HasRules lines heads uses → IsThere lines x
    → ((n : ℕ) → list_at heads' n ≡ cond (n == (line_at lines x).head) (drop_item x (list_at heads n)) (list_at heads n))
    → length heads'.lists ≡ length heads.lists
    → ((n : ℕ) → list_at uses' n ≡ cond (is_in (line_at lines x).body n) (drop_item x (list_at uses n)) (list_at uses n))
    → length uses'.lists ≡ length uses.lists
    → HasRules (set lines x None) heads' uses'
HasRules-take {lines} {heads} {uses} {heads'} {uses'} x h there heads_are heads_long uses_are uses_long = record {
  by_head = λ n. gone_row heads_row lines x n (n == (line_at lines x).head) (list_at heads n) (list_at heads' n) (there_within lines x there) refl
      (head_times n (get_or lines x None)) (h.by_head n) (heads_are n);
  by_use = λ n. gone_row uses_row lines x n (is_in (line_at lines x).body n) (list_at uses n) (list_at uses' n) (there_within lines x there) refl
      (use_times n (get_or lines x None)) (h.by_use n) (uses_are n);
  as_wide = omega (arith, heads_long, uses_long, h.as_wide);
}

-- ---- what stands below and above the rule

module _ (lines : List (Option Line)) (lowers uppers lowers' uppers' : RowLists) (h : HasLinks lines lowers uppers) (x : ℕ)
    (lower_none : list_at lowers' x ≡ []) (upper_none : list_at uppers' x ≡ [])
    (lower_left : (s : ℕ) → s ≢ x → list_at lowers' s ≡ drop_item x (list_at lowers s))
    (upper_left : (s : ℕ) → s ≢ x → list_at uppers' s ≡ drop_item x (list_at uppers s)) where
  -- of what a list has after, and what it had
  all_left : (t t' : RowLists) → list_at t' x ≡ [] → ((s : ℕ) → s ≢ x → list_at t' s ≡ drop_item x (list_at t s))
      → ((s : ℕ) → All (IsThere lines) (list_at t s)) → (s : ℕ) → All (IsThere (set lines x None)) (list_at t' s)
  all_left t t' none are there s =
      elim (cases_eq s x) [
        | inl e ↦ subst (λ (xs : List ℕ). All (IsThere (set lines x None)) xs) (sym (ap (list_at t') e ∙ none)) (All-nil (IsThere (set lines x None)))
        | inr d ↦
            subst (λ (xs : List ℕ). All (IsThere (set lines x None)) xs) (sym (are s d))
            (All-by_member (IsThere (set lines x None)) (drop_item x (list_at t s))
            (λ u m. there_left lines x u
            (All-contains (IsThere lines) (list_at t s) u (there s) (dropped_from x (list_at t s) u m))
            (dropped_other x (list_at t s) u m)))
      ]

  turned_left : (t t' v v' : RowLists) → list_at t' x ≡ []
      → ((s : ℕ) → s ≢ x → list_at t' s ≡ drop_item x (list_at t s))
      → ((s : ℕ) → s ≢ x → list_at v' s ≡ drop_item x (list_at v s))
      → (s u : ℕ) → (Contains (list_at t s) u → Contains (list_at v u) s) → Contains (list_at t' s) u → Contains (list_at v' u) s
  turned_left t t' v v' none are back s u turn m =
      elim (cases_eq s x) [
        | inl e ↦
            let there = subst (λ (xs : List ℕ). Contains xs u) (ap (list_at t') e ∙ none) m in
            absurd (omega (arith, there.1))
        | inr d ↦
            let there : Contains (drop_item x (list_at t s)) u = subst (λ (xs : List ℕ). Contains xs u) (are s d) m in
            subst (λ (xs : List ℕ). Contains xs s) (sym (back u (dropped_other x (list_at t s) u there)))
            (dropped_kept x (list_at v u) s (turn (dropped_from x (list_at t s) u there)) d)
      ]

  pub HasLinks-take : HasLinks (set lines x None) lowers' uppers'
  HasLinks-take = record {
    lower_there = all_left lowers lowers' lower_none lower_left h.lower_there;
    upper_there = all_left uppers uppers' upper_none upper_left h.upper_there;
    turned = λ s u m. turned_left lowers lowers' uppers uppers' lower_none lower_left upper_left s u (h.turned s u) m;
    turned_back = λ s u m. turned_left uppers uppers' lowers lowers' upper_none upper_left lower_left u s (h.turned_back s u) m;
  }

-- rows out of which x was taken where it stood
pub rows_taken : (x : ℕ) (t v t' : RowLists) → ((s u : ℕ) → Contains (list_at t s) u → Contains (list_at v u) s)
    → ((s : ℕ) → list_at t' s ≡ cond (s == x) [] (cond (is_in (list_at v x) s) (drop_item x (list_at t s)) (list_at t s)))
    → (list_at t' x ≡ []) × ((s : ℕ) → s ≢ x → list_at t' s ≡ drop_item x (list_at t s))
rows_taken x t v t' turn are = (
  are x ∙ ap (λ b. cond b [] (cond (is_in (list_at v x) x) (drop_item x (list_at t x)) (list_at t x))) (alike x x refl),
  λ s d. are s
      ∙ ap (λ b. cond b [] (cond (is_in (list_at v x) s) (drop_item x (list_at t s)) (list_at t s))) (differ s x d)
      ∙ drop_where x (list_at t s) (is_in (list_at v x) s) (λ m. (is_member-Decides Decides-eqb (list_at v x) s).1 (turn s x m)),
)

-- ---- a rule that no longer stands below another

module _ (t t' : RowLists) (n x : ℕ) (d : Drops t t' n x) where
  drops_here : list_at t' n ≡ drop_item x (list_at t n)
  drops_here = d n ∙ ap (λ b. cond b (drop_item x (list_at t n)) (list_at t n)) (alike n n refl)

  drops_other : (s : ℕ) → s ≢ n → list_at t' s ≡ list_at t s
  drops_other s apart = d s ∙ ap (λ b. cond b (drop_item x (list_at t s)) (list_at t s)) (differ s n apart)

  -- what stands in a list stood there, and is not the one that went
  drops_from : (s u : ℕ) → Contains (list_at t' s) u → Contains (list_at t s) u × (s ≡ n → u ≢ x)
  drops_from s u m =
      elim (cases_eq s n) [
        | inl e ↦
            let there : Contains (drop_item x (list_at t n)) u = subst (λ (xs : List ℕ). Contains xs u) (ap (list_at t') e ∙ drops_here) m in (
              subst (λ (k : ℕ). Contains (list_at t k) u) (sym e) (dropped_from x (list_at t n) u there),
              λ _. dropped_other x (list_at t n) u there,
            )
        | inr apart ↦ (subst (λ (xs : List ℕ). Contains xs u) (drops_other s apart) m, λ e. absurd (apart e))
      ]

  drops_keep : (s u : ℕ) → Contains (list_at t s) u → (s ≡ n → u ≢ x) → Contains (list_at t' s) u
  drops_keep s u m other =
      elim (cases_eq s n) [
        | inl e ↦
            subst (λ (xs : List ℕ). Contains xs u) (sym (ap (list_at t') e ∙ drops_here))
            (dropped_kept x (list_at t n) u (subst (λ (k : ℕ). Contains (list_at t k) u) e m) (other e))
        | inr apart ↦ subst (λ (xs : List ℕ). Contains xs u) (sym (drops_other s apart)) m
      ]

  drops_all : (P : ℕ → Type 0) (s : ℕ) → All P (list_at t s) → All P (list_at t' s)
  drops_all P s h = All-by_member P (list_at t' s) (λ u m. All-contains P (list_at t s) u h (drops_from s u m).0)

  pub numbered_drop : (len : ℕ) → n < len → by_number len t' ≡ set (by_number len t) n (drop_item x (list_of (by_number len t) n))
  numbered_drop len lt =
      numbered_set len t t' n (drop_item x (list_of (by_number len t) n)) lt
      (drops_here ∙ ap (drop_item x) (sym (numbered_at len t n lt))) drops_other

pub HasLinks-drop : (lines : List (Option Line)) (lowers uppers lowers' uppers' : RowLists) (u l : ℕ) → HasLinks lines lowers uppers
    → Drops lowers lowers' u l → Drops uppers uppers' l u → HasLinks lines lowers' uppers'
HasLinks-drop lines lowers uppers lowers' uppers' u l h dl du = record {
  lower_there = λ s. drops_all lowers lowers' u l dl (IsThere lines) s (h.lower_there s);
  upper_there = λ s. drops_all uppers uppers' l u du (IsThere lines) s (h.upper_there s);
  turned = λ s t m.
      let from = drops_from lowers lowers' u l dl s t m in
      drops_keep uppers uppers' l u du t s (h.turned s t from.0) (λ e f. from.1 f e);
  turned_back = λ s t m.
      let from = drops_from uppers uppers' l u du t s m in
      drops_keep lowers lowers' u l dl s t (h.turned_back s t from.0) (λ e f. from.1 f e);
}

-- ---- the steps of a rule that goes

-- a list that is emptied at last
pub cleared : (x : ℕ) (t t' : RowLists) (F : ℕ → List ℕ) → ((s : ℕ) → list_at t' s ≡ cond (s == x) [] (list_at t s)) → ((s : ℕ) → s ≢ x → list_at t s ≡ F s)
    → (s : ℕ) → list_at t' s ≡ cond (s == x) [] (F s)
cleared x t t' F put are s =
    elim (cases_eq s x) [
      | inl e ↦ put s ∙ ap (λ b. cond b [] (list_at t s)) (alike s x e) ∙ sym (ap (λ b. cond b [] (F s)) (alike s x e))
      | inr d ↦ put s ∙ ap (λ b. cond b [] (list_at t s)) (differ s x d) ∙ are s d ∙ sym (ap (λ b. cond b [] (F s)) (differ s x d))
    ]

-- another number is in a list with x and without
pub in_without : (x s : ℕ) (xs : List ℕ) (b : Bool) → s ≢ x → is_in (cond b (drop_item x xs) xs) s ≡ is_in xs s
in_without x s xs true d = is_in-filter xs x s ∙ ap (λ v. is_in xs s && not v) (differ s x d) ∙ and_true (is_in xs s)
in_without x s xs false d = refl
