-- The texts of edits and refusals tell them apart.
use Rattle.std.proofs.Common.{◌≡◌, ℕ, true, false, ◌==◌, List, [], ◌∷◌, ◌++◌, All, codes, refl, sym, ap, ◌∙◌, append_assoc}
use Rattle.std.specs.List.{flat_map}
use Rattle.dl_theory.specs.declared.edit.Edit.{Edit}
use Rattle.dl_theory.specs.declared.edit.Edit.TheVariants.{AddRule, DropRule, AddFact, DropFact, AddPair, DropPair}
use Rattle.dl_theory.specs.declared.edit.EditRefusal.{EditRefusal}
use Rattle.dl_theory.specs.declared.edit.EditRefusal.TheVariants.{LabelThere, NoLabel, FactThere, NoFact, PairThere, NoPair, Cycle, RulesFull, FactsFull, PairsFull}
use Rattle.dl_print.specs.Text.{keyword_text, edit_text, cause_text, labels_text, refusal_text, spaced}
use Rattle.dl_calls.specs.Spelled.{IsName, IsSpelledEdit, IsSpelledRefusal}
use Rattle.dl_calls.proofs.Words.{tails, apart, same_front, differ, fronts_differ, regroup, Stops, name_tells}
use Rattle.dl_calls.proofs.Statements.{first_of_all, rest_of_all, literal_tells, rule_tells, pair_tells, no_rule_pair, no_label_pair, no_label_fact, no_rule_fact, no_pair_fact}

-- The edit's text stands before a space and a bar.
pub edit_tells : (x y : Edit) (t u : List ℕ) → IsSpelledEdit x → IsSpelledEdit y → edit_text x ++ (32 ∷ 124 ∷ t) ≡ edit_text y ++ (32 ∷ 124 ∷ u) → (x ≡ y) × (t ≡ u)
edit_tells (AddRule r) (AddRule q) t u h k e =
    let w = rule_tells r q (32 ∷ 124 ∷ t) (32 ∷ 124 ∷ u) h k refl refl (same_front (codes "add ") _ _ e) in
    (ap AddRule w.0, tails (tails w.1))
edit_tells (AddRule r) (AddFact q) t u h k e = no_rule_fact r (32 ∷ 124 ∷ t) _ h (same_front (codes "add ") _ _ e)
edit_tells (AddRule r) (AddPair p) t u h k e = no_rule_pair r p (32 ∷ 124 ∷ t) (32 ∷ 124 ∷ u) h k (same_front (codes "add ") _ _ e)
edit_tells (AddFact q) (AddRule r) t u h k e = no_rule_fact r (32 ∷ 124 ∷ u) _ k (sym (same_front (codes "add ") _ _ e))
edit_tells (AddFact q) (AddFact p) t u h k e =
    let w = literal_tells q p (32 ∷ 124 ∷ t) (32 ∷ 124 ∷ u) h k refl refl (same_front (codes "add >> ") _ _ e) in
    (ap AddFact w.0, tails (tails w.1))
edit_tells (AddFact q) (AddPair p) t u h k e = no_pair_fact p (32 ∷ 124 ∷ u) _ k (sym (same_front (codes "add ") _ _ e))
edit_tells (AddPair p) (AddRule r) t u h k e = no_rule_pair r p (32 ∷ 124 ∷ u) (32 ∷ 124 ∷ t) k h (sym (same_front (codes "add ") _ _ e))
edit_tells (AddPair p) (AddFact q) t u h k e = no_pair_fact p (32 ∷ 124 ∷ t) _ h (same_front (codes "add ") _ _ e)
edit_tells (AddPair p) (AddPair q) t u h k e =
    let w = pair_tells p q (32 ∷ 124 ∷ t) (32 ∷ 124 ∷ u) h k refl refl (same_front (codes "add ") _ _ e) in
    (ap AddPair w.0, tails (tails w.1))
edit_tells (DropRule l) (DropRule m) t u h k e =
    let w = name_tells l m (32 ∷ 124 ∷ t) (32 ∷ 124 ∷ u) h k refl refl (same_front (codes "drop ") _ _ e) in
    (ap DropRule w.0, tails (tails w.1))
edit_tells (DropRule l) (DropFact q) t u h k e = no_label_fact l (32 ∷ 124 ∷ t) _ h (same_front (codes "drop ") _ _ e)
edit_tells (DropRule l) (DropPair p) t u h k e = no_label_pair l p t (32 ∷ 124 ∷ u) h k (same_front (codes "drop ") _ _ e)
edit_tells (DropFact q) (DropRule l) t u h k e = no_label_fact l (32 ∷ 124 ∷ u) _ k (sym (same_front (codes "drop ") _ _ e))
edit_tells (DropFact q) (DropFact p) t u h k e =
    let w = literal_tells q p (32 ∷ 124 ∷ t) (32 ∷ 124 ∷ u) h k refl refl (same_front (codes "drop >> ") _ _ e) in
    (ap DropFact w.0, tails (tails w.1))
edit_tells (DropFact q) (DropPair p) t u h k e = no_pair_fact p (32 ∷ 124 ∷ u) _ k (sym (same_front (codes "drop ") _ _ e))
edit_tells (DropPair p) (DropRule l) t u h k e = no_label_pair l p u (32 ∷ 124 ∷ t) k h (sym (same_front (codes "drop ") _ _ e))
edit_tells (DropPair p) (DropFact q) t u h k e = no_pair_fact p (32 ∷ 124 ∷ t) _ h (same_front (codes "drop ") _ _ e)
edit_tells (DropPair p) (DropPair q) t u h k e =
    let w = pair_tells p q (32 ∷ 124 ∷ t) (32 ∷ 124 ∷ u) h k refl refl (same_front (codes "drop ") _ _ e) in
    (ap DropPair w.0, tails (tails w.1))
edit_tells x y t u h k e = fronts_differ (keyword_text x) (keyword_text y) _ _ refl e

-- an edit's text begins with `a` or `d`
pub no_edit : {P : Type 0} (x : Edit) (t : List ℕ) (c : ℕ) (u : List ℕ) → (97 == c) ≡ false → (100 == c) ≡ false → edit_text x ++ t ≡ c ∷ u → P
no_edit (AddRule r) t c u f g e = apart 97 c f e
no_edit (AddFact q) t c u f g e = apart 97 c f e
no_edit (AddPair p) t c u f g e = apart 97 c f e
no_edit (DropRule l) t c u f g e = apart 100 c g e
no_edit (DropFact q) t c u f g e = apart 100 c g e
no_edit (DropPair p) t c u f g e = apart 100 c g e

-- refusals, each before the end of its line

path_stops : (xs : List (List ℕ)) (r : List ℕ) → Stops (flat_map spaced xs ++ 10 ∷ r)
path_stops [] r = refl
path_stops (x ∷ xs) r = refl

path_tells : (xs ys : List (List ℕ)) (r s : List ℕ) → All IsName xs → All IsName ys → flat_map spaced xs ++ 10 ∷ r ≡ flat_map spaced ys ++ 10 ∷ s → (xs ≡ ys) × (r ≡ s)
path_tells [] [] r s h k e = (refl, tails e)
path_tells [] (y ∷ ys) r s h k e = apart 10 32 refl e
path_tells (x ∷ xs) [] r s h k e = apart 32 10 refl e
path_tells (x ∷ xs) (y ∷ ys) r s h k e =
    let one = name_tells x y (flat_map spaced xs ++ 10 ∷ r) (flat_map spaced ys ++ 10 ∷ s) (first_of_all IsName x xs h) (first_of_all IsName y ys k) (path_stops xs r) (path_stops ys s)
    (regroup x (flat_map spaced xs) (10 ∷ r) y (flat_map spaced ys) (10 ∷ s) (tails e)) in
    let rest = path_tells xs ys r s (rest_of_all IsName x xs h) (rest_of_all IsName y ys k) one.1 in
    (λ i. one.0 i ∷ rest.0 i, rest.1)

pub refusal_tells : (x y : EditRefusal) (r s : List ℕ) → IsSpelledRefusal x → IsSpelledRefusal y → refusal_text x ++ 10 ∷ r ≡ refusal_text y ++ 10 ∷ s → (x ≡ y) × (r ≡ s)
refusal_tells (LabelThere l) (LabelThere m) r s h k e =
    let w = name_tells l m (10 ∷ r) (10 ∷ s) h k refl refl (same_front (codes "label ") _ _ e) in
    (ap LabelThere w.0, tails w.1)
refusal_tells (NoLabel l) (NoLabel m) r s h k e =
    let w = name_tells l m (10 ∷ r) (10 ∷ s) h k refl refl (same_front (codes "unknown ") _ _ e) in
    (ap NoLabel w.0, tails w.1)
refusal_tells (Cycle p) (Cycle q) r s h k e =
    let w = path_tells p q r s h k (same_front (codes "cycle") _ _ e) in
    (ap Cycle w.0, w.1)
refusal_tells FactThere FactThere r s h k e = (refl, tails (same_front (codes "fact") _ _ e))
refusal_tells NoFact NoFact r s h k e = (refl, tails (same_front (codes "nofact") _ _ e))
refusal_tells PairThere PairThere r s h k e = (refl, tails (same_front (codes "pair") _ _ e))
refusal_tells NoPair NoPair r s h k e = (refl, tails (same_front (codes "nopair") _ _ e))
refusal_tells RulesFull RulesFull r s h k e = (refl, tails (same_front (codes "full rules") _ _ e))
refusal_tells FactsFull FactsFull r s h k e = (refl, tails (same_front (codes "full facts") _ _ e))
refusal_tells PairsFull PairsFull r s h k e = (refl, tails (same_front (codes "full pairs") _ _ e))
refusal_tells x y r s h k e = fronts_differ (cause_text x) (cause_text y) _ _ refl e

-- no refusal begins with `unpublished`
not_unpublished : (x : EditRefusal) → differ (cause_text x) (codes "unpublished ") ≡ true
not_unpublished (LabelThere l) = refl
not_unpublished (NoLabel l) = refl
not_unpublished FactThere = refl
not_unpublished NoFact = refl
not_unpublished PairThere = refl
not_unpublished NoPair = refl
not_unpublished (Cycle p) = refl
not_unpublished RulesFull = refl
not_unpublished FactsFull = refl
not_unpublished PairsFull = refl

pub no_unpublished : {P : Type 0} (x : EditRefusal) (r s : List ℕ) → refusal_text x ++ r ≡ codes "unpublished " ++ s → P
no_unpublished x r s e = fronts_differ (cause_text x) (codes "unpublished ") (labels_text x ++ r) s (not_unpublished x) (sym (append_assoc (cause_text x) (labels_text x) r) ∙ e)
