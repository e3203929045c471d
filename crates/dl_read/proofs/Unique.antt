-- A file loads as one theory, or it does not load.
use Rattle.std.proofs.Common.{◌≡◌, ℕ, ◌+◌, true, false, List, [], ◌∷◌, ◌++◌, IsTrue, length, refl, sym, ap, subst, ◌∙◌}
use Rattle.std.specs.Prelude.{Result, Ok, Err, MatchResult, IfOk, IfErr, IsErr}
use Rattle.std.specs.List.{list_all}
use Rattle.dl_lit.specs.Name.{begins_name, continues_name, is_name}
use Rattle.dl_theory.specs.declared.rule.Kind.TheVariants.{Strict, Defeasible, Defeater}
use Rattle.dl_theory.specs.declared.edit.Edit.{Edit}
use Rattle.dl_theory.specs.declared.edit.EditRefusal.{EditRefusal}
use Rattle.dl_theory.specs.Lists.{TheoryLists, no_lists}
use Rattle.dl_theory.specs.Edits.{after_edit, after_edits, AreAccepted, IsAccepted}
use Rattle.dl_theory.proofs.Causes.{never_both}
use Rattle.dl_read.specs.declared.file.ReadStop.{ReadStop}
use Rattle.dl_read.specs.declared.file.ReadStop.TheVariants as stop
use Rattle.dl_read.specs.declared.statement.Statement.{Statement}
use Rattle.dl_read.specs.declared.token.Token.{Token}
use Rattle.dl_read.specs.declared.token.Token.TheVariants.{Name, Arrow, Mark, End, Foreign}
use Rattle.dl_read.specs.declared.token.Mark.TheVariants.{Facts, Above, Minus, Colon, Comma, Open, Close}
use Rattle.dl_read.specs.Grammar.{text, MayPrecede, IsComment, AreTokensOf, has_variables, Says}
use Rattle.dl_read.specs.Files.{Placed, edits, lines_of, LinesSay, IsStopOf, IsFirstStop, in_loading_order, AreMade, IsFirstRefusal, Loads, IsReadStop}
use Rattle.dl_read.proofs.Parts.{some_is}
use Rattle.dl_read.proofs.Scanning.{plain, plain_by, both_hold, begins_continues}
use Rattle.dl_read.proofs.WordLemmas.{plain_front, blanks_front, all_weaker}
use Rattle.dl_read.proofs.Lines.{statement_complete}
use Rattle.dl_read.proofs.Loading.{edits-append}

-- a line in the grammar has no variables

named_plain : (name : List ℕ) → IsTrue (is_name name) → list_all plain name ≡ true
named_plain [] h = refl
named_plain (b ∷ name) h =
    let two = both_hold (begins_name b) (list_all continues_name name) h in
    all_weaker continues_name plain (b ∷ name) (λ c. plain_by continues_name c refl refl) (rw (begins_continues b two.0) two.1)

token_plain : (t : Token) (rest : List ℕ) → MayPrecede t rest → list_all plain (text t) ≡ true
token_plain (Name name) rest m = named_plain name m.0
token_plain (Mark Facts) rest m = refl
token_plain (Mark Above) rest m = refl
token_plain (Mark Minus) rest m = refl
token_plain (Mark Colon) rest m = refl
token_plain (Mark Comma) rest m = refl
token_plain (Mark Open) rest m = refl
token_plain (Mark Close) rest m = refl
token_plain (Arrow Strict) rest m = refl
token_plain (Arrow Defeasible) rest m = refl
token_plain (Arrow Defeater) rest m = refl
token_plain End rest m = absurd m
token_plain Foreign rest m = absurd m

comment_plain : (bytes : List ℕ) → IsComment bytes → has_variables bytes ≡ false
comment_plain [] h = refl
comment_plain (b ∷ bytes) h = subst (λ (x : ℕ). has_variables (x ∷ bytes) ≡ false) (sym h) refl

pub spelled_plain : (ts : List Token) (line : List ℕ) → AreTokensOf ts line → has_variables line ≡ false
spelled_plain [] line h = ap has_variables h.4 ∙ blanks_front h.0 h.1 h.2 ∙ comment_plain h.1 h.3
spelled_plain (t ∷ ts) line h =
    ap has_variables h.4 ∙ blanks_front h.0 (text t ++ h.1) h.2 ∙ plain_front (text t) h.1 (token_plain t h.1 h.3) ∙ spelled_plain ts h.1 h.5

-- the statements of a file are one list

pub says_one : (line : List ℕ) (s t : Statement) → Says line s → Says line t → t ≡ s
says_one line s t h i =
    ap (λ (p : Statement × List Token). p.0) (some_is {A = Statement × List Token} (t, []) (s, []) (sym (statement_complete line t i) ∙ statement_complete line s h))

pub lines_one : (lines : List (List ℕ)) (ss rs : List Statement) → LinesSay lines ss → LinesSay lines rs → rs ≡ ss
lines_one [] [] [] h i = refl
lines_one [] [] (r ∷ rs) h i = absurd i
lines_one [] (s ∷ ss) rs h i = absurd h
lines_one (l ∷ lines) [] rs h i = absurd h
lines_one (l ∷ lines) (s ∷ ss) [] h i = absurd i
lines_one (l ∷ lines) (s ∷ ss) (r ∷ rs) h i =
    ap (λ (x : Statement). x ∷ rs) (says_one l s r h.0 i.0) ∙ ap (λ (xs : List Statement). s ∷ xs) (lines_one lines ss rs h.1 i.1)

line_says : (front : List (List ℕ)) (line : List ℕ) (rest : List (List ℕ)) (ss : List Statement) → LinesSay (front ++ line ∷ rest) ss → (s : Statement) × Says line s
line_says [] line rest [] h = absurd h
line_says [] line rest (s ∷ ss) h = (s, h.0)
line_says (l ∷ front) line rest [] h = absurd h
line_says (l ∷ front) line rest (s ∷ ss) h = line_says front line rest ss h.1

no_stop_of : (line : List ℕ) (s : Statement) (k : ℕ) (x : ReadStop) → Says line s → IsStopOf line k x → x ≡ stop.Memory
no_stop_of line s k (stop.BadLine n) h i = absurd (i.2 s h)
no_stop_of line s k (stop.Variables n) h i = let e : has_variables line ≡ false = spelled_plain h.0 line h.1 in let f : has_variables line ≡ true = i.1 in cc
no_stop_of line s k (stop.Edit n refusal) h i = absurd i
no_stop_of line s k stop.Memory h i = refl

no_first_stop : (lines : List (List ℕ)) (ss : List Statement) (x : ReadStop) → LinesSay lines ss → IsFirstStop lines x → x ≡ stop.Memory
no_first_stop lines ss x h i =
    let s = line_says i.0 i.1 i.2 ss (subst (λ (ls : List (List ℕ)). LinesSay ls ss) i.4 h) in
    no_stop_of i.1 s.0 (length i.0 + 1) x s.1 i.6

-- an edit is accepted or refused

-- what is accepted after a front
accepted_at : (T : TheoryLists) (es : List Edit) (e : Edit) (fs : List Edit) → AreAccepted T (es ++ e ∷ fs) → IsAccepted (after_edits T es) e
accepted_at T [] e fs h = h.0
accepted_at T (x ∷ es) e fs h = accepted_at (after_edit T x) es e fs h.1

no_refusal : (ps : List Placed) (T : TheoryLists) (k : ℕ) (x : EditRefusal) → AreMade ps T → IsFirstRefusal ps k x → ⊥
no_refusal ps T k x m r =
    let all : AreAccepted no_lists (edits r.before ++ r.refused.edit ∷ edits r.after) =
    subst (λ (es : List Edit). AreAccepted no_lists es) (ap edits r.order ∙ edits-append r.before (r.refused ∷ r.after)) m.accepted in
    never_both (after_edits no_lists (edits r.before)) r.refused.edit x (accepted_at no_lists (edits r.before) r.refused.edit (edits r.after) all) r.cause

-- the theory of a file

pub loads_one : (bytes : List ℕ) (T U : TheoryLists) → Loads bytes T → Loads bytes U → U ≡ T
loads_one bytes T U h i =
    let e : i.statements ≡ h.statements = lines_one (lines_of bytes) h.statements i.statements h.lines i.lines in
    i.made.made ∙ ap (λ (ss : List Statement). after_edits no_lists (edits (in_loading_order ss))) e ∙ sym h.made.made

pub loads_or_stops : (bytes : List ℕ) (T : TheoryLists) (x : ReadStop) → Loads bytes T → IsReadStop bytes x → x ≡ stop.Memory
loads_or_stops bytes T (stop.BadLine k) h i = no_first_stop (lines_of bytes) h.statements (stop.BadLine k) h.lines i
loads_or_stops bytes T (stop.Variables k) h i = no_first_stop (lines_of bytes) h.statements (stop.Variables k) h.lines i
loads_or_stops bytes T (stop.Edit k x) h i =
    let e : i.statements ≡ h.statements = lines_one (lines_of bytes) h.statements i.statements h.lines i.lines in
    absurd (no_refusal (in_loading_order h.statements) T k x h.made (subst (λ (ss : List Statement). IsFirstRefusal (in_loading_order ss) k x) e i.first))
loads_or_stops bytes T stop.Memory h i = refl

-- what loads is answered
pub answer_loads : {A : Type 0} (lists : A → TheoryLists) (bytes : List ℕ) (result : Result A ReadStop) → IfOk result (λ t. Loads bytes (lists t))
    → IfErr result (IsReadStop bytes) → (T : TheoryLists) → Loads bytes T → MatchResult result (λ t. lists t ≡ T) (λ x. x ≡ stop.Memory)
answer_loads lists bytes (Ok t) l s T h = loads_one bytes T (lists t) h l
answer_loads lists bytes (Err x) l s T h = loads_or_stops bytes T x h s

-- what does not load is not
pub answer_stops : {A : Type 0} (lists : A → TheoryLists) (bytes : List ℕ) (result : Result A ReadStop) → IfOk result (λ t. Loads bytes (lists t))
    → (x : ReadStop) → IsReadStop bytes x → (x ≡ stop.Memory → ⊥) → IsErr result
answer_stops lists bytes (Ok t) l x s n = absurd (n (loads_or_stops bytes (lists t) x l s))
answer_stops lists bytes (Err y) l x s n = refl
