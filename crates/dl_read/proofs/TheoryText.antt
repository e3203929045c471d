-- The canonical text of a whole theory, line by line.
use Rattle.std.proofs.Common.{◌≡◌, ℕ, zero, suc, ◌+◌, ◌-◌, Bool, true, false, not, ◌&&◌, ◌==◌, List, [], ◌∷◌, ◌++◌, IsTrue, length, map, Option, Some, None, refl, sym, ap, subst, ◌∙◌, append_assoc, append-nil}
use Rattle.std.specs.Prelude.{All, slice_index}
use Rattle.std.specs.List.{flat_map, list_all, slice_split}
use Rattle.std.proofs.lemmas.List.Splits.{slice_split_at}
use Rattle.std.proofs.lemmas.List.Elements.{All-nil, All-cons, All-head, All-tail, All-weaker}
use Rattle.dl_lit.specs.Name.{begins_name, continues_name, is_name}
use Rattle.dl_lit.specs.declared.literal.Literal.{Literal}
use Rattle.dl_theory.specs.declared.rule.Kind.{Kind}
use Rattle.dl_theory.specs.declared.rule.Kind.TheVariants.{Strict, Defeasible, Defeater}
use Rattle.dl_theory.specs.declared.rule.Rule as rule
use Rattle.dl_theory.specs.declared.rule.Pair as pair
use Rattle.dl_theory.specs.declared.edit.Edit.{Edit}
use Rattle.dl_theory.specs.declared.edit.Edit.TheVariants.{AddRule, AddFact, AddPair}
use Rattle.dl_theory.specs.Lists.{TheoryLists, IsWellFormed}
use Rattle.dl_print.specs.Text.{mode_text, sign_text, literal_text, fact_text, comma_text, body_text, arrow_text, rule_text, pair_text, line, theory_text}
use Rattle.dl_read.specs.declared.statement.Statement.{Statement}
use Rattle.dl_read.specs.declared.statement.Statement.TheVariants.{Blank, Fact, Rule, Pair}
use Rattle.dl_read.specs.Grammar.{Says, Named, ModeNamed, AllNamed}
use Rattle.dl_read.specs.Named.{IsNamedRule, IsNamedPair, AreNames}
use Rattle.dl_read.specs.Files.{without_cr, lines_of, LinesSay, edits, facts_and_rules, pairs, in_loading_order, Loads}
use Rattle.dl_read.proofs.Scanning.{both_hold, differs, begins_continues}
use Rattle.dl_read.proofs.WordLemmas.{all_weaker}
use Rattle.dl_read.proofs.Canonical.{fact_back, rule_back, pair_back}
use Rattle.dl_read.proofs.Loading.{edits-append, rules_append, pairs_append}
use Rattle.dl_read.proofs.Growth.{theory_made}

-- neither LF nor CR
abbrev tame : ℕ → Bool
tame b = not (b == 10) && not (b == 13)

abbrev IsTame : List ℕ → Type 0
IsTame bytes = list_all tame bytes ≡ true

tame_append : (xs ys : List ℕ) → IsTame xs → IsTame ys → IsTame (xs ++ ys)
tame_append [] ys h i = i
tame_append (b ∷ xs) ys h i = let two = both_hold (tame b) (list_all tame xs) h in rw two.0 (tame_append xs ys two.1 i)

name_byte : (b : ℕ) → continues_name b ≡ true → tame b ≡ true
name_byte b h = rw (differs continues_name 10 b refl h, differs continues_name 13 b refl h) refl

name_tame : (name : List ℕ) → IsTrue (is_name name) → IsTame name
name_tame [] h = refl
name_tame (b ∷ name) h =
    let two = both_hold (begins_name b) (list_all continues_name name) h in
    all_weaker continues_name tame (b ∷ name) name_byte (rw (begins_continues b two.0) two.1)

mode_tame : (m : Option (List ℕ)) → ModeNamed m → IsTame (mode_text m)
mode_tame None h = refl
mode_tame (Some mode) h = tame_append mode (93 ∷ []) (name_tame mode h) refl

sign_tame : (p : Bool) → IsTame (sign_text p)
sign_tame true = refl
sign_tame false = refl

literal_tame : (q : Literal) → Named q → IsTame (literal_text q)
literal_tame q h =
    tame_append (mode_text q.mode) (sign_text q.positive ++ q.atom) (mode_tame q.mode h.1) (tame_append (sign_text q.positive) q.atom (sign_tame q.positive) (name_tame q.atom h.0))

more_tame : (qs : List Literal) → AllNamed qs → IsTame (flat_map comma_text qs ++ 32 ∷ [])
more_tame [] h = refl
more_tame (q ∷ qs) h =
    subst (λ (l : List ℕ). IsTame (44 ∷ 32 ∷ l)) (sym (append_assoc (literal_text q) (flat_map comma_text qs) (32 ∷ [])))
    (tame_append (literal_text q) (flat_map comma_text qs ++ 32 ∷ []) (literal_tame q h.0) (more_tame qs h.1))

body_tame : (qs : List Literal) → AllNamed qs → IsTame (body_text qs)
body_tame [] h = refl
body_tame (q ∷ qs) h = tame_append (literal_text q) (flat_map comma_text qs ++ 32 ∷ []) (literal_tame q h.0) (more_tame qs h.1)

arrow_tame : (k : Kind) → IsTame (arrow_text k ++ 32 ∷ [])
arrow_tame Strict = refl
arrow_tame Defeasible = refl
arrow_tame Defeater = refl

fact_tame : (q : Literal) → Named q → IsTame (fact_text q)
fact_tame q h = literal_tame q h

rule_tame : (r : rule.Rule) → IsNamedRule r → IsTame (rule_text r)
rule_tame r h =
    tame_append r.label (58 ∷ 32 ∷ (body_text r.body ++ ((arrow_text r.kind ++ 32 ∷ []) ++ literal_text r.head))) (name_tame r.label h.label)
    (tame_append (body_text r.body) ((arrow_text r.kind ++ 32 ∷ []) ++ literal_text r.head) (body_tame r.body h.body)
    (tame_append (arrow_text r.kind ++ 32 ∷ []) (literal_text r.head) (arrow_tame r.kind) (literal_tame r.head h.head)))

pair_tame : (p : pair.Pair) → IsNamedPair p → IsTame (pair_text p)
pair_tame p h = tame_append p.upper (32 ∷ 62 ∷ 32 ∷ p.lower) (name_tame p.upper h.upper) (name_tame p.lower h.lower)

-- lines

no_lf : (bytes : List ℕ) → IsTame bytes → All (λ b. (b == 10) ≡ false) bytes
no_lf [] h = All-nil (λ b. (b == 10) ≡ false)
no_lf (b ∷ bytes) h =
    let two = both_hold (tame b) (list_all tame bytes) h in
    All-cons (λ b. (b == 10) ≡ false) b bytes (of_not (b == 10) (not (b == 13)) two.0) (no_lf bytes two.1)
  where
    of_not : (v w : Bool) → (not v && w) ≡ true → v ≡ false
    of_not true w h = cc
    of_not false w h = refl

no_cr : (bytes : List ℕ) (n : ℕ) → IsTame bytes → (slice_index bytes n == 13) ≡ false
no_cr [] n h = refl
no_cr (b ∷ bytes) zero h = of_both (not (b == 10)) (b == 13) (both_hold (tame b) (list_all tame bytes) h).0
  where
    of_both : (v w : Bool) → (v && not w) ≡ true → w ≡ false
    of_both true true h = cc
    of_both true false h = refl
    of_both false w h = cc
no_cr (b ∷ bytes) (suc n) h = no_cr bytes n (both_hold (tame b) (list_all tame bytes) h).1

kept_whole : (bytes : List ℕ) → IsTame bytes → without_cr bytes ≡ bytes
kept_whole bytes h = rw (no_cr bytes (length bytes - 1) h) refl

first_line : (text rest : List ℕ) → IsTame text → lines_of (text ++ 10 ∷ rest) ≡ text ∷ lines_of rest
unfolding lines_of
first_line text rest h =
    ap (map without_cr) (slice_split_at (λ b. b == 10) text 10 rest (no_lf text h) refl) ∙ ap (λ (l : List ℕ). l ∷ map without_cr (slice_split (λ b. b == 10) rest)) (kept_whole text h)

lines_text : {A : Type 0} (f : A → List ℕ) (xs : List A) (rest : List ℕ) → All (λ x. IsTame (f x)) xs → lines_of (flat_map (line f) xs ++ rest) ≡ map f xs ++ lines_of rest
lines_text f [] rest h = refl
lines_text f (x ∷ xs) rest h =
    ap lines_of (append_assoc (f x ++ 10 ∷ []) (flat_map (line f) xs) rest ∙ append_assoc (f x) (10 ∷ []) (flat_map (line f) xs ++ rest))
    ∙ first_line (f x) (flat_map (line f) xs ++ rest) (All-head (λ y. IsTame (f y)) x xs h)
    ∙ ap (λ (ls : List (List ℕ)). f x ∷ ls) (lines_text f xs rest (All-tail (λ y. IsTame (f y)) x xs h))

last_blank : lines_of [] ≡ [] ∷ []
unfolding lines_of
last_blank = refl

theory_lines : (T : TheoryLists) → AreNames T → lines_of (theory_text T) ≡ map fact_text T.facts ++ (map rule_text T.rules ++ (map pair_text T.pairs ++ [] ∷ []))
theory_lines T n =
    let ps : lines_of (flat_map (line pair_text) T.pairs) ≡ map pair_text T.pairs ++ [] ∷ [] =
    ap lines_of (sym (append-nil (flat_map (line pair_text) T.pairs))) ∙ lines_text pair_text T.pairs [] (All-weaker IsNamedPair (λ p. IsTame (pair_text p)) pair_tame T.pairs n.pairs)
    ∙ ap (λ (ls : List (List ℕ)). map pair_text T.pairs ++ ls) last_blank in
    lines_text fact_text T.facts (flat_map (line rule_text) T.rules ++ flat_map (line pair_text) T.pairs) (All-weaker Named (λ q. IsTame (fact_text q)) fact_tame T.facts n.facts)
    ∙ ap (λ (ls : List (List ℕ)). map fact_text T.facts ++ ls)
    (lines_text rule_text T.rules (flat_map (line pair_text) T.pairs) (All-weaker IsNamedRule (λ r. IsTame (rule_text r)) rule_tame T.rules n.rules)
    ∙ ap (λ (ls : List (List ℕ)). map rule_text T.rules ++ ls) ps)

-- statements

abbrev rule_said : rule.Rule → Statement
rule_said r = Rule (Some r.label) r.kind r.body r.head

abbrev said : TheoryLists → List Statement
said T = map Fact T.facts ++ (map rule_said T.rules ++ (map Pair T.pairs ++ Blank ∷ []))

say_all : {A : Type 0} (f : A → List ℕ) (g : A → Statement) (xs : List A) (lines : List (List ℕ)) (ss : List Statement) → All (λ x. Says (f x) (g x)) xs → LinesSay lines ss → LinesSay (map f xs ++ lines) (map g xs ++ ss)
say_all f g [] lines ss h i = i
say_all f g (x ∷ xs) lines ss h i = (All-head (λ y. Says (f y) (g y)) x xs h, say_all f g xs lines ss (All-tail (λ y. Says (f y) (g y)) x xs h) i)

blank_says : Says [] Blank
blank_says = ([], ([], [], refl, tt, refl), refl)

theory_says : (T : TheoryLists) → AreNames T → LinesSay (lines_of (theory_text T)) (said T)
theory_says T n =
    subst (λ (ls : List (List ℕ)). LinesSay ls (said T)) (sym (theory_lines T n))
    (say_all fact_text Fact T.facts _ _ (All-weaker Named (λ q. Says (fact_text q) (Fact q)) fact_back T.facts n.facts)
    (say_all rule_text rule_said T.rules _ _ (All-weaker IsNamedRule (λ r. Says (rule_text r) (rule_said r)) (λ r h. rule_back r h.label h.body h.head) T.rules n.rules)
    (say_all pair_text Pair T.pairs _ _ (All-weaker IsNamedPair (λ p. Says (pair_text p) (Pair p)) (λ p h. pair_back p h.upper h.lower) T.pairs n.pairs) (blank_says, tt))))

-- edits

fact_edits : (k : ℕ) (qs : List Literal) → edits (facts_and_rules k (map Fact qs)) ≡ map AddFact qs
fact_edits k [] = refl
fact_edits k (q ∷ qs) = ap (λ (es : List Edit). AddFact q ∷ es) (fact_edits (k + 1) qs)

rule_edits : (k : ℕ) (rs : List rule.Rule) → edits (facts_and_rules k (map rule_said rs)) ≡ map AddRule rs
rule_edits k [] = refl
rule_edits k (r ∷ rs) = ap (λ (es : List Edit). AddRule r ∷ es) (rule_edits (k + 1) rs)

pair_edits : (k : ℕ) (ps : List pair.Pair) → edits (facts_and_rules k (map Pair ps ++ Blank ∷ [])) ≡ []
pair_edits k [] = refl
pair_edits k (p ∷ ps) = pair_edits (k + 1) ps

fact_pairs : (k : ℕ) (qs : List Literal) → edits (pairs k (map Fact qs)) ≡ []
fact_pairs k [] = refl
fact_pairs k (q ∷ qs) = fact_pairs (k + 1) qs

rule_pairs : (k : ℕ) (rs : List rule.Rule) → edits (pairs k (map rule_said rs)) ≡ []
rule_pairs k [] = refl
rule_pairs k (r ∷ rs) = rule_pairs (k + 1) rs

pair_pairs : (k : ℕ) (ps : List pair.Pair) → edits (pairs k (map Pair ps ++ Blank ∷ [])) ≡ map AddPair ps
pair_pairs k [] = refl
pair_pairs k (p ∷ ps) = ap (λ (es : List Edit). AddPair p ∷ es) (pair_pairs (k + 1) ps)

rules_joined : (k : ℕ) (ss rs : List Statement) → edits (facts_and_rules k (ss ++ rs)) ≡ edits (facts_and_rules k ss) ++ edits (facts_and_rules (k + length ss) rs)
rules_joined k ss rs = ap edits (rules_append k ss rs) ∙ edits-append (facts_and_rules k ss) (facts_and_rules (k + length ss) rs)

pairs_joined : (k : ℕ) (ss rs : List Statement) → edits (pairs k (ss ++ rs)) ≡ edits (pairs k ss) ++ edits (pairs (k + length ss) rs)
pairs_joined k ss rs = ap edits (pairs_append k ss rs) ∙ edits-append (pairs k ss) (pairs (k + length ss) rs)

said_edits : (T : TheoryLists) → edits (in_loading_order (said T)) ≡ map AddFact T.facts ++ (map AddRule T.rules ++ map AddPair T.pairs)
said_edits T =
    let fs : List Statement = map Fact T.facts in
    let rs : List Statement = map rule_said T.rules in
    let ps : List Statement = map Pair T.pairs ++ Blank ∷ [] in
    let j : ℕ = 1 + length fs in
    let k : ℕ = j + length rs in
    let first : edits (facts_and_rules 1 (said T)) ≡ map AddFact T.facts ++ map AddRule T.rules =
    rules_joined 1 fs (rs ++ ps) ∙ ap (λ (es : List Edit). es ++ edits (facts_and_rules j (rs ++ ps))) (fact_edits 1 T.facts)
    ∙ ap (λ (es : List Edit). map AddFact T.facts ++ es)
    (rules_joined j rs ps ∙ ap (λ (es : List Edit). es ++ edits (facts_and_rules k ps)) (rule_edits j T.rules)
    ∙ ap (λ (es : List Edit). map AddRule T.rules ++ es) (pair_edits k T.pairs) ∙ append-nil (map AddRule T.rules)) in
    let then : edits (pairs 1 (said T)) ≡ map AddPair T.pairs =
    pairs_joined 1 fs (rs ++ ps) ∙ ap (λ (es : List Edit). es ++ edits (pairs j (rs ++ ps))) (fact_pairs 1 T.facts)
    ∙ pairs_joined j rs ps ∙ ap (λ (es : List Edit). es ++ edits (pairs k ps)) (rule_pairs j T.rules) ∙ pair_pairs k T.pairs in
    edits-append (facts_and_rules 1 (said T)) (pairs 1 (said T))
    ∙ ap (λ (es : List Edit). es ++ edits (pairs 1 (said T))) first
    ∙ ap (λ (es : List Edit). (map AddFact T.facts ++ map AddRule T.rules) ++ es) then
    ∙ append_assoc (map AddFact T.facts) (map AddRule T.rules) (map AddPair T.pairs)

-- the canonical text of a well-formed theory loads as it
pub text_loads : (T : TheoryLists) → IsWellFormed T → AreNames T → Loads (theory_text T) T
text_loads T w n =
    let m = theory_made T w (edits (in_loading_order (said T))) (said_edits T) in
    record { statements = said T; lines = theory_says T n; made = record { accepted = m.0; made = m.1 } }
