-- One more rule by number.
use Rattle.std.proofs.Common.{◌≡◌, ℕ, ◌<◌, ◌≤◌, Bool, true, false, Option, Some, List, [], ◌∷◌, ◌++◌, length, set, replicate, refl, sym, ap, ◌∙◌, subst, arith, cond, append-nil}
use Rattle.std.specs.Prelude.{All, Contains, ◌==◌}
use Rattle.std.proofs.Math.ListN.{length-set}
use Rattle.std.proofs.lemmas.List.Elements.{All-weaker, All-contains_itself}
use Rattle.dl_rows.specs.Counting.{times, is_in}
use Rattle.dl_rows.specs.Rows.{places}
use Rattle.dl_rows.specs.Tables.{RowLists, list_at, list_of, KeepsLists}
use Rattle.dl_rows.proofs.TableLemmas.{written_at}
use Rattle.dl_rules.specs.Lines.{Line, heads_row, uses_row, IsThere}
use Rattle.dl_rules.specs.Indexes.{HasRules, HasLinks}
use Rattle.dl_rules.proofs.PlaceLemmas.{one, times_once, times_single, places_push}

-- a fact that each member of a list has because it is a member
pub All-by_member : {X : Type 0} (P : X → Type 0) (xs : List X) → ((x : X) → Contains xs x → P x) → All P xs
All-by_member P xs h = All-weaker (Contains xs) P h xs (All-contains_itself xs)

push_where : (b : Bool) (xs : List ℕ) (x : ℕ) → cond b (xs ++ x ∷ []) xs ≡ xs ++ replicate (one b) x
push_where true xs x = refl
push_where false xs x = sym (append-nil xs)

once_where : (b : Bool) (x : ℕ) → cond b (x ∷ []) [] ≡ replicate (one b) x
once_where true x = refl
once_where false x = refl

-- a list that gets the number of a rule as often as its row has the literal
added_row : (f : Option Line → List ℕ) (lines : List (Option Line)) (o : Option Line) (t t' : RowLists) (n : ℕ) → list_at t n ≡ places f lines n
    → list_at t' n ≡ list_at t n ++ replicate (times n (f o)) (length lines) → list_at t' n ≡ places f (lines ++ o ∷ []) n
added_row f lines o t t' n are put =
    put ∙ ap (λ (xs : List ℕ). xs ++ replicate (times n (f o)) (length lines)) are ∙ sym (places_push f n lines o 0 (length lines) (omega arith))

pub HasRules-add : (lines : List (Option Line)) (l : Line) (heads uses heads' uses' : RowLists) → HasRules lines heads uses
    → l.head < length heads.lists
    → heads'.lists ≡ set heads.lists l.head (list_at heads l.head ++ length lines ∷ [])
    → ((n : ℕ) → list_at uses' n ≡ list_at uses n ++ cond (is_in l.body n) (length lines ∷ []) []) → length uses'.lists ≡ length uses.lists
    → HasRules (lines ++ Some l ∷ []) heads' uses'
HasRules-add lines l heads uses heads' uses' h within put used wide =
    let same : length heads'.lists ≡ length heads.lists =
    ap length put ∙ length-set heads.lists l.head (list_at heads l.head ++ length lines ∷ []) in
    record {
      by_head = λ n. added_row heads_row lines (Some l) heads heads' n (h.by_head n)
          (written_at (λ xs. xs ++ length lines ∷ []) heads heads' l.head within put n
          ∙ push_where (n == l.head) (list_at heads n) (length lines)
          ∙ ap (λ k. list_at heads n ++ replicate k (length lines)) (sym (times_single n l.head)));
      by_use = λ n. added_row uses_row lines (Some l) uses uses' n (h.by_use n)
          (used n
          ∙ ap (λ (xs : List ℕ). list_at uses n ++ xs) (once_where (is_in l.body n) (length lines))
          ∙ ap (λ k. list_at uses n ++ replicate k (length lines)) (sym (times_once l.body n)));
      as_wide = omega (arith, same, wide, h.as_wide);
    }

-- tables that hold the same stand for the same rules
pub HasRules-kept : {lines : List (Option Line)} {heads uses heads' uses' : RowLists} → HasRules lines heads uses
    → KeepsLists heads heads' → KeepsLists uses uses' → length heads'.lists ≤ length uses'.lists → HasRules lines heads' uses'
HasRules-kept h kh ku wide = record {
  by_head = λ n. kh.lists n ∙ h.by_head n;
  by_use = λ n. ku.lists n ∙ h.by_use n;
  as_wide = wide;
}

-- links stay where tables only get wider and rules only join
pub HasLinks-more : (lines lines' : List (Option Line)) (lowers uppers lowers' uppers' : RowLists) → KeepsLists lowers lowers' → KeepsLists uppers uppers'
    → HasLinks lines lowers uppers → ((s : ℕ) → IsThere lines s → IsThere lines' s) → HasLinks lines' lowers' uppers'
HasLinks-more lines lines' lowers uppers lowers' uppers' kl ku h more = record {
  lower_there = λ s. all_there (list_at lowers s) (list_at lowers' s) (kl.lists s) (h.lower_there s);
  upper_there = λ s. all_there (list_at uppers s) (list_at uppers' s) (ku.lists s) (h.upper_there s);
  turned = λ s t m. subst (λ (xs : List ℕ). Contains xs s) (sym (ku.lists t)) (h.turned s t (subst (λ (xs : List ℕ). Contains xs t) (kl.lists s) m));
  turned_back = λ s t m. subst (λ (xs : List ℕ). Contains xs t) (sym (kl.lists s)) (h.turned_back s t (subst (λ (xs : List ℕ). Contains xs s) (ku.lists t) m));
}
  where
    all_there : (xs ys : List ℕ) → ys ≡ xs → All (IsThere lines) xs → All (IsThere lines') ys
    all_there xs ys e there =
        subst (λ (zs : List ℕ). All (IsThere lines') zs) (sym e) (All-weaker (IsThere lines) (IsThere lines') more xs there)

-- the same lists
pub HasRules-same : {lines : List (Option Line)} {heads uses heads' uses' : RowLists} → HasRules lines heads uses → heads'.lists ≡ heads.lists
    → uses'.lists ≡ uses.lists → HasRules lines heads' uses'
HasRules-same h kh ku = record {
  by_head = λ n. ap (λ (ls : List (List ℕ)). list_of ls n) kh ∙ h.by_head n;
  by_use = λ n. ap (λ (ls : List (List ℕ)). list_of ls n) ku ∙ h.by_use n;
  as_wide = omega (arith, h.as_wide, ap length kh, ap length ku);
}

pub HasLinks-same : {lines : List (Option Line)} {lowers uppers lowers' uppers' : RowLists} → HasLinks lines lowers uppers → lowers'.lists ≡ lowers.lists
    → uppers'.lists ≡ uppers.lists → HasLinks lines lowers' uppers'
HasLinks-same {lines} {lowers} {uppers} {lowers'} {uppers'} h kl ku =
    let low : (n : ℕ) → list_at lowers' n ≡ list_at lowers n = λ n. ap (λ (ls : List (List ℕ)). list_of ls n) kl in
    let up : (n : ℕ) → list_at uppers' n ≡ list_at uppers n = λ n. ap (λ (ls : List (List ℕ)). list_of ls n) ku in
    record {
      lower_there = λ s. subst (λ (xs : List ℕ). All (IsThere lines) xs) (sym (low s)) (h.lower_there s);
      upper_there = λ s. subst (λ (xs : List ℕ). All (IsThere lines) xs) (sym (up s)) (h.upper_there s);
      turned = λ s t m. subst (λ (xs : List ℕ). Contains xs s) (sym (up t)) (h.turned s t (subst (λ (xs : List ℕ). Contains xs t) (low s) m));
      turned_back = λ s t m. subst (λ (xs : List ℕ). Contains xs t) (sym (low s)) (h.turned_back s t (subst (λ (xs : List ℕ). Contains xs s) (up t) m));
    }
