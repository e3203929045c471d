-- What an index holds is what the rules by number say.
use Rattle.std.proofs.Common.{◌≡◌, ℕ, zero, suc, ◌<◌, ◌≤◌, ◌^◌, Bool, true, false, ◌==◌, Option, None, Some, List, [], ◌∷◌, length, get_or, map, replicate, refl, sym, ap, ◌∙◌, arith, cond, length-append}
use Rattle.std.specs.Prelude.{is_some, unwrap_or, option_map}
use Rattle.std.proofs.lemmas.List.{length-replicate}
use Rattle.dl_theory.specs.declared.rule.Rule.{Rule}
use Rattle.dl_theory.specs.Lists.{IsWellFormed}
use Rattle.dl_rows.specs.Counting.{times}
use Rattle.dl_rows.specs.Rows.{row, places_from, places}
use Rattle.dl_rows.specs.Tables.{list_of}
use Rattle.dl_rows.specs.There.{there}
use Rattle.dl_rows.proofs.RowLemmas.{row-map, get_or-rows}
use Rattle.dl_rules.specs.Lines.{Line, IndexLists, no_line, line_at, heads_row, uses_row, kind_row, passes, IsThere}
use Rattle.dl_rules.proofs.PlaceLemmas.{one, times_single, places-map}
use Rattle.dl_graph.specs.Numbers.{NetLists, IsNumbered, HasRule, rule_at, of_rule, number, head_row, body_row, lowers_row, uppers_row}
use Rattle.dl_graph.specs.Named.{line_in, concluded_row}
use Rattle.dl_graph.specs.Tables.{HasIndex}
use Rattle.dl_graph.proofs.Slots.{rule_there}

pub slot_map : {A B : Type 0} (f : A → B) (xs : List (Option A)) (k : ℕ) → get_or (map (option_map f) xs) k None ≡ option_map f (get_or xs k None)
slot_map f [] k = refl
slot_map f (x ∷ xs) zero = refl
slot_map f (x ∷ xs) (suc k) = slot_map f xs k

-- a list of rules whose rows have no number twice is no longer than the rules
few_from : (f : Rule → List ℕ) (q : ℕ) → ((r : Rule) → times q (f r) ≤ 1) → (xs : List (Option Rule)) (k : ℕ)
    → length (places_from (of_rule f) k xs q) ≤ length (there xs)
few_from f q most [] k = omega arith
few_from f q most (None ∷ xs) k = few_from f q most xs (suc k)
few_from f q most (Some r ∷ xs) k =
    omega (
      arith,
      length-append (replicate (times q (f r)) k) (places_from (of_rule f) (suc k) xs q),
      length-replicate (times q (f r)) k,
      few_from f q most xs (suc k),
      most r,
    )

one_most : (b : Bool) → one b ≤ 1
one_most true = omega arith
one_most false = omega arith

module _ (N : NetLists) (formed : IsWellFormed N.theory) (numbered : IsNumbered N) where
  few_places : (f : Rule → List ℕ) (q : ℕ) → ((r : Rule) → times q (f r) ≤ 1) → length (places (of_rule f) N.rules q) < 2 ^ 26
  few_places f q most = omega (arith, few_from f q most N.rules 0, ap length numbered.rules, formed.few_rules)

  pub heads_few : (q : ℕ) → length (places (of_rule (head_row N)) N.rules q) < 2 ^ 26
  heads_few q = few_places (head_row N) q (λ r. omega (arith, times_single q (number N r.head), one_most (q == number N r.head)))

  pub concluders_few : (strict : Bool) (q : ℕ) → length (places (of_rule (concluded_row N strict)) N.rules q) < 2 ^ 26
  concluders_few strict q = few_places (concluded_row N strict) q (λ r. by r (passes strict r.kind))
    where
      by : (r : Rule) (b : Bool) → times q (cond b (number N r.head ∷ []) []) ≤ 1
      by r true = omega (arith, times_single q (number N r.head), one_most (q == number N r.head))
      by r false = omega arith

module _ (N : NetLists) (x : IndexLists) (h : HasIndex N x) where
  abbrev line_of : Option Rule → Option Line
  line_of o = option_map (line_in N.names) o

  -- ---- rules by number

  pub line_read : (k : ℕ) → get_or x.lines k None ≡ line_of (get_or N.rules k None)
  line_read k = ap (λ (xs : List (Option Line)). get_or xs k None) h.lines ∙ slot_map (line_in N.names) N.rules k

  some_line : (o : Option Rule) → is_some (line_of o) ≡ is_some o
  some_line None = refl
  some_line (Some r) = refl

  pub there_read : (k : ℕ) → is_some (get_or x.lines k None) ≡ is_some (get_or N.rules k None)
  there_read k = ap is_some (line_read k) ∙ some_line (get_or N.rules k None)

  pub is_there : (k : ℕ) → HasRule N k → IsThere x.lines k
  is_there k r = there_read k ∙ r

  pub there_is : (k : ℕ) → IsThere x.lines k → HasRule N k
  there_is k l = sym (there_read k) ∙ l

  pub line_is : (k : ℕ) → HasRule N k → line_at x.lines k ≡ line_in N.names (rule_at N k)
  line_is k r = ap (λ o. unwrap_or o no_line) (line_read k ∙ ap line_of (rule_there N k r))

  -- ---- rows

  heads_same : (o : Option Rule) → heads_row (line_of o) ≡ of_rule (head_row N) o
  heads_same None = refl
  heads_same (Some r) = refl

  uses_same : (o : Option Rule) → uses_row (line_of o) ≡ of_rule (body_row N) o
  uses_same None = refl
  uses_same (Some r) = refl

  kinds_same : (strict : Bool) (o : Option Rule) → kind_row strict (line_of o) ≡ of_rule (concluded_row N strict) o
  kinds_same strict None = refl
  kinds_same strict (Some r) = refl

  row_read : (g : Option Line → List ℕ) (f : Rule → List ℕ) → ((o : Option Rule) → g (line_of o) ≡ of_rule f o) → (k : ℕ)
      → row g x.lines k ≡ row (of_rule f) N.rules k
  row_read g f same k =
      ap (λ (xs : List (Option Line)). row g xs k) h.lines
      ∙ row-map g line_of N.rules k
      ∙ ap (λ (e : Option Rule → List ℕ). row e N.rules k) (λ i o. same o i)

  places_read : (g : Option Line → List ℕ) (f : Rule → List ℕ) → ((o : Option Rule) → g (line_of o) ≡ of_rule f o) → (q : ℕ)
      → places g x.lines q ≡ places (of_rule f) N.rules q
  places_read g f same q =
      ap (λ (xs : List (Option Line)). places g xs q) h.lines
      ∙ places-map g line_of N.rules 0 q
      ∙ ap (λ (e : Option Rule → List ℕ). places e N.rules q) (λ i o. same o i)

  pub heads_read : (q : ℕ) → places heads_row x.lines q ≡ places (of_rule (head_row N)) N.rules q
  heads_read = places_read heads_row (head_row N) heads_same

  pub uses_read : (q : ℕ) → places uses_row x.lines q ≡ places (of_rule (body_row N)) N.rules q
  uses_read = places_read uses_row (body_row N) uses_same

  pub kinds_read : (strict : Bool) (q : ℕ) → places (kind_row strict) x.lines q ≡ places (of_rule (concluded_row N strict)) N.rules q
  kinds_read strict = places_read (kind_row strict) (concluded_row N strict) (kinds_same strict)

  pub head_read : (k : ℕ) → row heads_row x.lines k ≡ row (of_rule (head_row N)) N.rules k
  head_read = row_read heads_row (head_row N) heads_same

  pub body_read : (k : ℕ) → row uses_row x.lines k ≡ row (of_rule (body_row N)) N.rules k
  body_read = row_read uses_row (body_row N) uses_same

  pub concluded_read : (strict : Bool) (k : ℕ) → row (kind_row strict) x.lines k ≡ row (of_rule (concluded_row N strict)) N.rules k
  concluded_read strict = row_read (kind_row strict) (concluded_row N strict) (kinds_same strict)

  pub lowers_read : (k : ℕ) → list_of x.lowers k ≡ row (of_rule (lowers_row N)) N.rules k
  lowers_read k = ap (λ (xs : List (List ℕ)). list_of xs k) h.lowers ∙ get_or-rows (of_rule (lowers_row N)) N.rules k

  pub uppers_read : (k : ℕ) → list_of x.uppers k ≡ row (of_rule (uppers_row N (λ _. true))) N.rules k
  uppers_read k = ap (λ (xs : List (List ℕ)). list_of xs k) h.uppers ∙ get_or-rows (of_rule (uppers_row N (λ _. true))) N.rules k
