-- The texts of literals, rules, pairs and edits tell them apart.
use Rattle.std.proofs.Common.{◌≡◌, ℕ, suc, Bool, true, false, List, [], ◌∷◌, ◌++◌, All, Option, Some, None, IfSome, refl, sym, ap, ◌∙◌, append_assoc, arith}
use Rattle.std.specs.List.{flat_map}
use Rattle.dl_lit.specs.declared.literal.Literal.{Literal}
use Rattle.dl_theory.specs.declared.rule.Kind.{Kind}
use Rattle.dl_theory.specs.declared.rule.Kind.TheVariants.{Strict, Defeasible, Defeater}
use Rattle.dl_theory.specs.declared.rule.Rule.{Rule}
use Rattle.dl_theory.specs.declared.rule.Pair.{Pair}
use Rattle.dl_print.specs.Text.{mode_text, sign_text, literal_text, comma_text, body_text, arrow_text, rule_text, pair_text}
use Rattle.dl_calls.specs.Spelled.{IsName, IsSpelledLiteral, IsSpelledRule, IsSpelledPair}
use Rattle.dl_calls.proofs.Words.{tails, apart, fronts_differ, regroup, Stops, name_tells, no_name}

signed_tells : (p q : Bool) (a b r s : List ℕ) → IsName a → IsName b → Stops r → Stops s → (sign_text p ++ a) ++ r ≡ (sign_text q ++ b) ++ s → (p ≡ q) × (a ≡ b) × (r ≡ s)
signed_tells true true a b r s n m t u e = let w = name_tells a b r s n m t u e in (refl, w.0, w.1)
signed_tells true false a b r s n m t u e = no_name a r 45 (b ++ s) n refl e
signed_tells false true a b r s n m t u e = no_name b s 45 (a ++ r) m refl (sym e)
signed_tells false false a b r s n m t u e = let w = name_tells a b r s n m t u (tails e) in (refl, w.0, w.1)

-- a signed name begins with no bracket
no_bracket : {P : Type 0} (p : Bool) (a r rest : List ℕ) → IsName a → (sign_text p ++ a) ++ r ≡ 91 ∷ rest → P
no_bracket true a r rest n e = no_name a r 91 rest n refl e
no_bracket false a r rest n e = apart 45 91 refl e

in_brackets : (m x rest : List ℕ) → ((91 ∷ (m ++ 93 ∷ [])) ++ x) ++ rest ≡ 91 ∷ (m ++ (93 ∷ (x ++ rest)))
in_brackets m x rest = ap (λ (l : List ℕ). 91 ∷ (l ++ rest)) (append_assoc m (93 ∷ []) x) ∙ ap (λ (l : List ℕ). 91 ∷ l) (append_assoc m (93 ∷ x) rest)

parts_tell : (m n : Option (List ℕ)) (p q : Bool) (a b r s : List ℕ) → IfSome m IsName → IfSome n IsName → IsName a → IsName b → Stops r → Stops s
    → (mode_text m ++ (sign_text p ++ a)) ++ r ≡ (mode_text n ++ (sign_text q ++ b)) ++ s → (m ≡ n) × (p ≡ q) × (a ≡ b) × (r ≡ s)
parts_tell None None p q a b r s _ _ n m t u e = let w = signed_tells p q a b r s n m t u e in (refl, w.0, w.1, w.2)
parts_tell None (Some y) p q a b r s _ _ n m t u e = no_bracket p a r (y ++ (93 ∷ ((sign_text q ++ b) ++ s))) n (e ∙ in_brackets y (sign_text q ++ b) s)
parts_tell (Some x) None p q a b r s _ _ n m t u e = no_bracket q b s (x ++ (93 ∷ ((sign_text p ++ a) ++ r))) m (sym e ∙ in_brackets x (sign_text p ++ a) r)
parts_tell (Some x) (Some y) p q a b r s h k n m t u e =
    let inner = tails (sym (in_brackets x (sign_text p ++ a) r) ∙ e ∙ in_brackets y (sign_text q ++ b) s) in
    let mode = name_tells x y (93 ∷ ((sign_text p ++ a) ++ r)) (93 ∷ ((sign_text q ++ b) ++ s)) h k refl refl inner in
    let w = signed_tells p q a b r s n m t u (tails mode.1) in
    (ap Some mode.0, w.0, w.1, w.2)

pub literal_tells : (x y : Literal) (r s : List ℕ) → IsSpelledLiteral x → IsSpelledLiteral y → Stops r → Stops s → literal_text x ++ r ≡ literal_text y ++ s → (x ≡ y) × (r ≡ s)
literal_tells x y r s h k t u e =
    let w = parts_tell x.mode y.mode x.positive y.positive x.atom y.atom r s h.mode k.mode h.atom k.atom t u e in
    (λ i. record { mode = w.0 i; atom = w.2 i; positive = w.1 i }, w.3)

-- bodies

pub first_of_all : {A : Type 0} (P : A → Type 0) (x : A) (xs : List A) → All P (x ∷ xs) → P x
first_of_all P x xs h = h 0 x (omega arith)

pub rest_of_all : {A : Type 0} (P : A → Type 0) (x : A) (xs : List A) → All P (x ∷ xs) → All P xs
rest_of_all P x xs h = λ k d l. h (suc k) d (omega arith)

more_stops : (qs : List Literal) (r : List ℕ) → Stops (flat_map comma_text qs ++ 32 ∷ r)
more_stops [] r = refl
more_stops (q ∷ qs) r = refl

more_tells : (qs ps : List Literal) (r s : List ℕ) → All IsSpelledLiteral qs → All IsSpelledLiteral ps → flat_map comma_text qs ++ 32 ∷ r ≡ flat_map comma_text ps ++ 32 ∷ s → (qs ≡ ps) × (r ≡ s)
more_tells [] [] r s h k e = (refl, tails e)
more_tells [] (p ∷ ps) r s h k e = apart 32 44 refl e
more_tells (q ∷ qs) [] r s h k e = apart 44 32 refl e
more_tells (q ∷ qs) (p ∷ ps) r s h k e =
    let one = literal_tells q p (flat_map comma_text qs ++ 32 ∷ r) (flat_map comma_text ps ++ 32 ∷ s) (first_of_all IsSpelledLiteral q qs h) (first_of_all IsSpelledLiteral p ps k)
    (more_stops qs r) (more_stops ps s) (regroup (literal_text q) (flat_map comma_text qs) (32 ∷ r) (literal_text p) (flat_map comma_text ps) (32 ∷ s) (tails (tails e))) in
    let rest = more_tells qs ps r s (rest_of_all IsSpelledLiteral q qs h) (rest_of_all IsSpelledLiteral p ps k) one.1 in
    (λ i. one.0 i ∷ rest.0 i, rest.1)

body_shape : (q : Literal) (qs : List Literal) (r : List ℕ) → body_text (q ∷ qs) ++ r ≡ literal_text q ++ (flat_map comma_text qs ++ 32 ∷ r)
body_shape q qs r =
    append_assoc (literal_text q) (flat_map comma_text qs ++ 32 ∷ []) r ∙ ap (λ (l : List ℕ). literal_text q ++ l) (append_assoc (flat_map comma_text qs) (32 ∷ []) r)

-- an arrow and what stands behind it
abbrev pointed : Kind → List ℕ → List ℕ
pointed k r = (arrow_text k ++ 32 ∷ []) ++ r

-- no literal begins as an arrow does
no_arrow : {P : Type 0} (m : Option (List ℕ)) (p : Bool) (a r : List ℕ) (k : Kind) (s : List ℕ) → IsName a → (mode_text m ++ (sign_text p ++ a)) ++ r ≡ pointed k s → P
no_arrow None true a r Strict s n e = no_name a r 45 (62 ∷ 32 ∷ s) n refl e
no_arrow None true a r Defeasible s n e = no_name a r 61 (62 ∷ 32 ∷ s) n refl e
no_arrow None true a r Defeater s n e = no_name a r 126 (62 ∷ 32 ∷ s) n refl e
no_arrow None false a r Strict s n e = no_name a r 62 (32 ∷ s) n refl (tails e)
no_arrow None false a r Defeasible s n e = apart 45 61 refl e
no_arrow None false a r Defeater s n e = apart 45 126 refl e
no_arrow (Some m) p a r Strict s n e = apart 91 45 refl e
no_arrow (Some m) p a r Defeasible s n e = apart 91 61 refl e
no_arrow (Some m) p a r Defeater s n e = apart 91 126 refl e

body_tells : (qs ps : List Literal) (k l : Kind) (r s : List ℕ) → All IsSpelledLiteral qs → All IsSpelledLiteral ps → body_text qs ++ pointed k r ≡ body_text ps ++ pointed l s
    → (qs ≡ ps) × (pointed k r ≡ pointed l s)
body_tells [] [] k l r s h i e = (refl, e)
body_tells [] (p ∷ ps) k l r s h i e =
    no_arrow p.mode p.positive p.atom (flat_map comma_text ps ++ 32 ∷ pointed l s) k r (first_of_all IsSpelledLiteral p ps i).atom (sym (body_shape p ps (pointed l s)) ∙ sym e)
body_tells (q ∷ qs) [] k l r s h i e =
    no_arrow q.mode q.positive q.atom (flat_map comma_text qs ++ 32 ∷ pointed k r) l s (first_of_all IsSpelledLiteral q qs h).atom (sym (body_shape q qs (pointed k r)) ∙ e)
body_tells (q ∷ qs) (p ∷ ps) k l r s h i e =
    let one = literal_tells q p (flat_map comma_text qs ++ 32 ∷ pointed k r) (flat_map comma_text ps ++ 32 ∷ pointed l s) (first_of_all IsSpelledLiteral q qs h)
    (first_of_all IsSpelledLiteral p ps i) (more_stops qs (pointed k r)) (more_stops ps (pointed l s)) (sym (body_shape q qs (pointed k r)) ∙ e ∙ body_shape p ps (pointed l s)) in
    let rest = more_tells qs ps (pointed k r) (pointed l s) (rest_of_all IsSpelledLiteral q qs h) (rest_of_all IsSpelledLiteral p ps i) one.1 in
    (λ j. one.0 j ∷ rest.0 j, rest.1)

arrow_tells : (k l : Kind) (r s : List ℕ) → pointed k r ≡ pointed l s → (k ≡ l) × (r ≡ s)
arrow_tells Strict Strict r s e = (refl, tails (tails (tails e)))
arrow_tells Defeasible Defeasible r s e = (refl, tails (tails (tails e)))
arrow_tells Defeater Defeater r s e = (refl, tails (tails (tails e)))
arrow_tells k l r s e = fronts_differ (arrow_text k ++ 32 ∷ []) (arrow_text l ++ 32 ∷ []) r s refl e

-- rules and pairs

content_shape : (r : Rule) (t : List ℕ) → (body_text r.body ++ ((arrow_text r.kind ++ 32 ∷ []) ++ literal_text r.head)) ++ t ≡ body_text r.body ++ pointed r.kind (literal_text r.head ++ t)
content_shape r t =
    append_assoc (body_text r.body) ((arrow_text r.kind ++ 32 ∷ []) ++ literal_text r.head) t
    ∙ ap (λ (l : List ℕ). body_text r.body ++ l) (append_assoc (arrow_text r.kind ++ 32 ∷ []) (literal_text r.head) t)

-- a rule's text: its label, a colon, a space and the rest
rule_shape : (r : Rule) (t : List ℕ) → rule_text r ++ t ≡ r.label ++ (58 ∷ 32 ∷ (body_text r.body ++ pointed r.kind (literal_text r.head ++ t)))
rule_shape r t =
    append_assoc r.label (58 ∷ 32 ∷ (body_text r.body ++ ((arrow_text r.kind ++ 32 ∷ []) ++ literal_text r.head))) t
    ∙ ap (λ (l : List ℕ). r.label ++ (58 ∷ 32 ∷ l)) (content_shape r t)

pub rule_tells : (r q : Rule) (t u : List ℕ) → IsSpelledRule r → IsSpelledRule q → Stops t → Stops u → rule_text r ++ t ≡ rule_text q ++ u → (r ≡ q) × (t ≡ u)
rule_tells r q t u h k i j e =
    let label = name_tells r.label q.label (58 ∷ 32 ∷ (body_text r.body ++ pointed r.kind (literal_text r.head ++ t))) (58 ∷ 32 ∷ (body_text q.body ++ pointed q.kind (literal_text q.head ++ u)))
    h.label k.label refl refl (sym (rule_shape r t) ∙ e ∙ rule_shape q u) in
    let body = body_tells r.body q.body r.kind q.kind (literal_text r.head ++ t) (literal_text q.head ++ u) h.body k.body (tails (tails label.1)) in
    let kind = arrow_tells r.kind q.kind (literal_text r.head ++ t) (literal_text q.head ++ u) body.1 in
    let head = literal_tells r.head q.head t u h.head k.head i j kind.1 in
    (λ n. record { label = label.0 n; kind = kind.0 n; body = body.0 n; head = head.0 n }, head.1)

pub pair_tells : (p q : Pair) (t u : List ℕ) → IsSpelledPair p → IsSpelledPair q → Stops t → Stops u → pair_text p ++ t ≡ pair_text q ++ u → (p ≡ q) × (t ≡ u)
pair_tells p q t u h k i j e =
    let upper = name_tells p.upper q.upper (32 ∷ 62 ∷ 32 ∷ (p.lower ++ t)) (32 ∷ 62 ∷ 32 ∷ (q.lower ++ u)) h.upper k.upper refl refl
    (regroup p.upper (32 ∷ 62 ∷ 32 ∷ p.lower) t q.upper (32 ∷ 62 ∷ 32 ∷ q.lower) u e) in
    let lower = name_tells p.lower q.lower t u h.lower k.lower i j (tails (tails (tails upper.1))) in
    (λ n. record { upper = upper.0 n; lower = lower.0 n }, lower.1)

-- A rule is no pair: another byte stands behind the first name.
pub no_rule_pair : {P : Type 0} (r : Rule) (p : Pair) (t u : List ℕ) → IsSpelledRule r → IsSpelledPair p → rule_text r ++ t ≡ pair_text p ++ u → P
no_rule_pair r p t u h k e =
    let label = name_tells r.label p.upper (58 ∷ 32 ∷ (body_text r.body ++ pointed r.kind (literal_text r.head ++ t))) (32 ∷ 62 ∷ 32 ∷ (p.lower ++ u)) h.label k.upper refl refl
    (sym (rule_shape r t) ∙ e ∙ append_assoc p.upper (32 ∷ 62 ∷ 32 ∷ p.lower) u) in
    apart 58 32 refl label.1

-- A label alone is no pair.
pub no_label_pair : {P : Type 0} (label : List ℕ) (p : Pair) (t u : List ℕ) → IsName label → IsSpelledPair p → label ++ (32 ∷ 124 ∷ t) ≡ pair_text p ++ u → P
no_label_pair label p t u h k e =
    let w = name_tells label p.upper (32 ∷ 124 ∷ t) (32 ∷ 62 ∷ 32 ∷ (p.lower ++ u)) h k.upper refl refl (e ∙ append_assoc p.upper (32 ∷ 62 ∷ 32 ∷ p.lower) u) in
    apart 124 62 refl (tails w.1)

-- A name with something behind it is no fact.
pub no_label_fact : {P : Type 0} (label t rest : List ℕ) → IsName label → label ++ t ≡ 62 ∷ rest → P
no_label_fact label t rest h e = no_name label t 62 rest h refl e

pub no_rule_fact : {P : Type 0} (r : Rule) (t rest : List ℕ) → IsSpelledRule r → rule_text r ++ t ≡ 62 ∷ rest → P
no_rule_fact r t rest h e = no_name r.label _ 62 rest h.label refl (sym (rule_shape r t) ∙ e)

pub no_pair_fact : {P : Type 0} (p : Pair) (t rest : List ℕ) → IsSpelledPair p → pair_text p ++ t ≡ 62 ∷ rest → P
no_pair_fact p t rest h e = no_name p.upper _ 62 rest h.upper refl (sym (append_assoc p.upper (32 ∷ 62 ∷ 32 ∷ p.lower) t) ∙ e)
