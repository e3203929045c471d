-- Pairs of literals that are kept by their atoms.
use Rattle.std.proofs.Common.{◌≡◌, ℕ, zero, suc, ◌+◌, ◌<◌, ◌≤◌, Bool, true, false, not, ◌||◌, cond, Option, None, Some, Result, Ok, Err, List, [], ◌∷◌, ◌++◌, length, get_or, map, take, refl, sym, ap, ◌∙◌, arith, inl, inr, position}
use Rattle.std.specs.Prelude.{All, Contains, IfOk, OnOk, OnErr, nat_lt, slice_get, if◌then◌else◌}
use Rattle.std.specs.List.{list_any, position_or_len}
use Rattle.std.specs.List as keys
use Rattle.std.specs.Cmp.{IsEquivalence}
use Rattle.std.specs.Str.{bytes_eq}
use Rattle.std.proofs.lemmas.Bool.{cases_lt}
use Rattle.std.proofs.lemmas.Bool.Decides.{same_from_decides}
use Rattle.std.proofs.lemmas.List.{length-map, map-append, length-append, take_more, take_all}
use Rattle.std.proofs.lemmas.List.Elements.{All-head, All-tail, All-weaker}
use Rattle.std.proofs.lemmas.List.Folds.{list_any_at}
use Rattle.std.proofs.lemmas.List.Sums.{position_or_len_is}
use Rattle.std.proofs.lemmas.List.Quantifiers.{position-Some}
use Rattle.std.proofs.lemmas.Option.{slice_get-get_or, slice_get_within, get_or_from_slice_get}
use Rattle.std.proofs.lemmas.Slice.Eq.{bytes_eq-Decides}
use Rattle.dl_base.specs.Paths.{IsDistinct}
use Rattle.dl_base.proofs.Filters.{false_unless}
use Rattle.indexmap.specs.IndexSet.{insert_key, insert_all}
use Rattle.indexmap.proofs.SetLemmas.{set_all_push, set_all_distinct}
use Rattle.dl_lit.specs.declared.literal.Literal.{Literal}
use Rattle.dl_names.specs.declared.atom.Atom.{Atom}
use Rattle.dl_names.specs.Atoms.{mode_at, first_of, pair_eq, pair_eq-Decides}
use Rattle.dl_names.specs.Pairs.{same_atom, same_atom-Decides}
use Rattle.dl_names.proofs.PairLemmas.{new_at, slice_get-append_left}

-- ---- tests of what is made of the members of a list

module _ {K A : Type 0} (P : K → Bool) (Q : A → Bool) (f : K → A) where
  pub any_of_map : (ks : List K) → All (λ k. P k ≡ Q (f k)) ks → list_any P ks ≡ list_any Q (map f ks)
  any_of_map [] h = refl
  any_of_map (k ∷ ks) h = λ i. All-head (λ x. P x ≡ Q (f x)) k ks h i || any_of_map ks (All-tail (λ x. P x ≡ Q (f x)) k ks h) i

  first_of_map : (ks : List K) → All (λ k. P k ≡ Q (f k)) ks → position_or_len P ks ≡ position_or_len Q (map f ks)
  first_of_map [] h = refl
  first_of_map (k ∷ ks) h =
      λ i. cond (not (All-head (λ x. P x ≡ Q (f x)) k ks h i)) (1 + first_of_map ks (All-tail (λ x. P x ≡ Q (f x)) k ks h) i) 0

  pub position_of_map : (ks : List K) → All (λ k. P k ≡ Q (f k)) ks → position P ks ≡ position Q (map f ks)
  position_of_map ks h =
      λ i. cond (nat_lt (first_of_map ks h i) (sym (length-map ks f) i)) (Some (first_of_map ks h i)) None

-- what holds anyway holds after an error
pub after_error : {X E : Type 0} {P : Type 0} (r : Result X E) → P → OnErr r P
after_error (Ok x) p = tt
after_error (Err e) p = p

-- ---- insertion

module _ {K : Type 0} (eq : K → K → Bool) (ks : List K) (k : K) where
  -- what is new goes last
  pub key_added : list_any (eq k) ks ≡ false → insert_key eq ks k ≡ ks ++ k ∷ []
  key_added e = ap (λ b. if b then ks else ks ++ k ∷ []) e

  -- and what was there leaves the others
  pub key_there : list_any (eq k) ks ≡ true → insert_key eq ks k ≡ ks
  key_there e = ap (λ b. if b then ks else ks ++ k ∷ []) e

  -- it goes behind all the others
  pub key_place : list_any (eq k) ks ≡ false → position_or_len (eq k) ks ≡ length ks
  key_place e =
      position_or_len_is (eq k) ks (length ks) k (omega arith)
      (λ j before. false_unless (eq k (get_or ks j k)) ((λ h. h), (λ h. h)) (λ h. let there = list_any_at (eq k) ks j k before h in let no : true ≡ false = sym there ∙ e in cc))
      (λ lt. absurd (omega (arith, lt)))

-- the next of some members is put in behind those before it
pub put_next : {K : Type 0} (eq : K → K → Bool) (ks : List K) (i : ℕ) (k copy : K) (old new : List K) → i < length ks → k ≡ get_or ks i k → copy ≡ k
    → old ≡ insert_all eq [] (take i ks) → new ≡ insert_key eq old copy → new ≡ insert_all eq [] (take (i + 1) ks)
put_next {K} eq ks i k copy old new within here same before after =
    after ∙ (λ j. insert_key eq (before j) (same j)) ∙ sym (set_all_push eq [] (take i ks) k)
    ∙ ap (insert_all eq []) (ap (λ (v : K). take i ks ++ v ∷ []) here ∙ sym (take_more ks i k within))

-- and members that differ are put in as they stand
pub put_all : {K : Type 0} {eq : K → K → Bool} → IsEquivalence eq → (ks all new : List K) (i : ℕ) → keys.IsDistinct eq ks → all ≡ ks → length all ≤ i
    → new ≡ insert_all eq [] (take i all) → new ≡ ks
put_all {eq = eq} laws ks all new i distinct same past is =
    is ∙ ap (insert_all eq []) (take_all i all past ∙ same) ∙ set_all_distinct laws [] ks distinct

pub not_true : (b : Bool) → true ≡ not b → b ≡ false
not_true true e = cc
not_true false e = refl

pub not_false : (b : Bool) → false ≡ not b → b ≡ true
not_false true e = refl
not_false false e = cc

-- ---- modes by number

-- more modes leave the numbers of those that were there
pub mode_kept : (modes more : List (List ℕ)) (m : ℕ) → m ≤ length modes → mode_at (modes ++ more) m ≡ mode_at modes m
mode_kept modes more zero h = refl
mode_kept modes more (suc m) h = slice_get-append_left modes more m (omega (arith, h))

-- a new mode has the first number that was free
pub mode_new : (modes : List (List ℕ)) (mode : List ℕ) → mode_at (modes ++ mode ∷ []) (suc (length modes)) ≡ Some mode
mode_new modes mode = new_at modes mode []

module _ {A : Type 0} (xs : List A) (distinct : IsDistinct xs) where
  one_place : (i j : ℕ) (x : A) → slice_get xs i ≡ Some x → slice_get xs j ≡ Some x → i ≡ j
  one_place i j x p q =
      let di = slice_get_within xs i x p in
      let dj = slice_get_within xs j x q in
      let same : get_or xs i x ≡ get_or xs j x = get_or_from_slice_get xs i x x p ∙ sym (get_or_from_slice_get xs j x x q) in
      elim (cases_lt i j) [
        | inl lt ↦ absurd (distinct i j x lt dj same)
        | inr ge ↦ elim (cases_lt j i) [
          | inl lt ↦ absurd (distinct j i x lt di (sym same))
          | inr le ↦ omega (arith, ge, le)
        ]
      ]

some_mode : (modes : List (List ℕ)) (m : ℕ) → suc m ≤ length modes → slice_get modes m ≡ Some (get_or modes m [])
some_mode modes m h = slice_get-get_or modes m [] (omega (arith, h))

-- among distinct modes each has one number
pub one_number : (modes : List (List ℕ)) (m n : ℕ) → IsDistinct modes → m ≤ length modes → n ≤ length modes → mode_at modes m ≡ mode_at modes n
    → m ≡ n
one_number modes zero zero distinct hm hn e = refl
one_number modes zero (suc n) distinct hm hn e = let no : None ≡ Some (get_or modes n []) = e ∙ some_mode modes n hn in cc
one_number modes (suc m) zero distinct hm hn e = let no : None ≡ Some (get_or modes m []) = sym e ∙ some_mode modes m hm in cc
one_number modes (suc m) (suc n) distinct hm hn e =
    ap suc (one_place modes distinct m n (get_or modes m []) (some_mode modes m hm) (sym e ∙ some_mode modes m hm))

-- a mode that is found has the number behind its place
pub mode_found : (modes : List (List ℕ)) (mode : List ℕ) (place n : ℕ) → n ≡ place + 1 → Some place ≡ position (bytes_eq mode) modes
    → mode_at modes n ≡ Some mode
mode_found modes mode place zero e h = absurd (omega (arith, e))
mode_found modes mode place (suc n) e h =
    let found = position-Some (bytes_eq mode) modes place mode (sym h) in
    let same : n ≡ place = omega (arith, e) in
    ap (slice_get modes) same ∙ slice_get-get_or modes place mode found.0
    ∙ ap Some (sym ((bytes_eq-Decides mode (get_or modes place mode)).0 found.1))

-- and one that is put in the number behind the last
pub mode_put : {E : Type 0} (r : Result ℕ E) (old new : List (List ℕ)) (mode : List ℕ) (sought : Option (List ℕ))
    → IfOk r (λ n. n ≡ length old + 1) → OnOk r (new ≡ old ++ mode ∷ []) → sought ≡ Some mode → IfOk r (λ n. mode_at new n ≡ sought)
mode_put (Ok n) old new mode sought number added is =
    let last : n ≡ suc (length old) = omega (arith, number) in
    (λ i. mode_at (added i) (last i)) ∙ mode_new old mode ∙ sym is
mode_put (Err e) old new mode sought number added is = tt

pub no_mode : (modes : List (List ℕ)) (mode : List ℕ) → list_any (bytes_eq mode) modes ≡ false → ¬ Contains modes mode
no_mode modes mode none m =
    let there = list_any_at (bytes_eq mode) modes m.0 mode m.1 ((bytes_eq-Decides mode (get_or modes m.0 mode)).1 (sym m.2)) in
    let no : true ≡ false = sym there ∙ none in cc

-- a mode that is not there has no number
pub no_number : (modes : List (List ℕ)) (mode : List ℕ) (m : ℕ) → list_any (bytes_eq mode) modes ≡ false → ¬ (mode_at modes m ≡ Some mode)
no_number modes mode zero none e = cc
no_number modes mode (suc m) none e =
    no_mode modes mode none (m, slice_get_within modes m mode e, get_or_from_slice_get modes m mode mode e)

-- ---- pairs by atom and number

-- a literal is sought by the number of its mode
pub by_number : (modes : List (List ℕ)) (q : Literal) (m : ℕ) (name : List ℕ) (a : Atom) → IsDistinct modes → m ≤ length modes
    → mode_at modes m ≡ q.mode → name ≡ q.atom → a.mode ≤ length modes → pair_eq (m, name) (a.mode, a.name) ≡ same_atom q (first_of modes a)
by_number modes q m name a distinct hm mode atom ha =
    same_from_decides (pair_eq (m, name) (a.mode, a.name)) (same_atom q (first_of modes a)) (pair_eq-Decides m a.mode name a.name) (
      λ t. let e = (same_atom-Decides q (first_of modes a)).0 t in (one_number modes m a.mode distinct hm ha (mode ∙ e.0), atom ∙ e.1),
      λ h. (same_atom-Decides q (first_of modes a)).1 (sym mode ∙ ap (mode_at modes) h.0, sym atom ∙ h.1),
    )

pub all_by_number : (modes : List (List ℕ)) (q : Literal) (m : ℕ) (name : List ℕ) (atoms : List Atom) → IsDistinct modes → m ≤ length modes
    → mode_at modes m ≡ q.mode → name ≡ q.atom → All (λ a. a.mode ≤ length modes) atoms
    → All (λ a. pair_eq (m, name) (a.mode, a.name) ≡ same_atom q (first_of modes a)) atoms
all_by_number modes q m name atoms distinct hm mode atom h =
    All-weaker (λ a. a.mode ≤ length modes) (λ a. pair_eq (m, name) (a.mode, a.name) ≡ same_atom q (first_of modes a))
    (λ a ha. by_number modes q m name a distinct hm mode atom ha) atoms h

-- a literal whose mode has no number is in no pair
pub none_by_number : (modes : List (List ℕ)) (q : Literal) (atoms : List Atom) → ((m : ℕ) → ¬ (mode_at modes m ≡ q.mode))
    → list_any (same_atom q) (map (first_of modes) atoms) ≡ false
none_by_number modes q [] none = refl
none_by_number modes q (a ∷ atoms) none =
    λ i. false_unless (same_atom q (first_of modes a)) (same_atom-Decides q (first_of modes a)) (λ e. none a.mode (sym e.0)) i
    || none_by_number modes q atoms none i

-- more modes leave the pairs
pub firsts_kept : (old new : List (List ℕ)) (atoms : List Atom) → ((more : List (List ℕ)) × (new ≡ old ++ more))
    → All (λ a. a.mode ≤ length old) atoms → map (first_of new) atoms ≡ map (first_of old) atoms
firsts_kept old new [] g h = refl
firsts_kept old new (a ∷ atoms) g h =
    λ i. record {
      mode = (ap (λ ms. mode_at ms a.mode) g.1 ∙ mode_kept old g.0 a.mode (All-head (λ x. x.mode ≤ length old) a atoms h)) i;
      atom = a.name;
      positive = a.positive;
    } ∷ firsts_kept old new atoms g (All-tail (λ x. x.mode ≤ length old) a atoms h) i

pub modes_kept : (old new : List (List ℕ)) (atoms : List Atom) → ((more : List (List ℕ)) × (new ≡ old ++ more))
    → All (λ a. a.mode ≤ length old) atoms → All (λ a. a.mode ≤ length new) atoms
modes_kept old new atoms g h =
    All-weaker (λ a. a.mode ≤ length old) (λ a. a.mode ≤ length new) (λ a ha. omega (arith, ha, ap length g.1, length-append old g.0)) atoms h

-- the pair that is put in has the literal first
pub first_put : (modes : List (List ℕ)) (q : Literal) (a : Atom) → mode_at modes a.mode ≡ q.mode → a.name ≡ q.atom → a.positive ≡ q.positive
    → first_of modes a ≡ q
first_put modes q a mode atom positive = λ i. record { mode = mode i; atom = atom i; positive = positive i }

pub firsts_put : (modes : List (List ℕ)) (q : Literal) (a : Atom) (atoms : List Atom) → first_of modes a ≡ q
    → map (first_of modes) (atoms ++ a ∷ []) ≡ map (first_of modes) atoms ++ q ∷ []
firsts_put modes q a atoms e = map-append (first_of modes) atoms (a ∷ []) ∙ ap (λ r. map (first_of modes) atoms ++ r ∷ []) e
