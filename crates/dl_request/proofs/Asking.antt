-- What a line asks for, by its first word.
use Rattle.std.proofs.Common.{◌≡◌, ℕ, true, false, ◌==◌, List, [], ◌∷◌, if◌then◌else◌, inl, inr, refl, sym, ap, subst, ◌∙◌}
use Rattle.std.specs.Prelude.{Result, Ok, Err, OnErr, codes}
use Rattle.dl_lit.specs.declared.literal.Family.{Family}
use Rattle.dl_lit.specs.declared.literal.Literal.{Literal}
use Rattle.dl_theory.specs.declared.edit.Edit.{Edit}
use Rattle.dl_read.specs.Grammar.{has_variables}
use Rattle.dl_read.specs.Words.{word_of, past_word}
use Rattle.dl_read.specs.EditLines.{IsEditLine}
use Rattle.dl_read.proofs.Decided.{edits_are_decided}
use Rattle.dl_read.proofs.EditReading.{begins_add, begins_drop}
use Rattle.dl_read.proofs.WordLemmas.{word_found}
use Rattle.dl_request.specs.declared.keyword.Keyword.{Keyword}
use Rattle.dl_request.specs.declared.keyword.Keyword.TheVariants as word
use Rattle.dl_request.specs.declared.request.Request.{Request}
use Rattle.dl_request.specs.declared.request.Request.TheVariants as request
use Rattle.dl_request.specs.declared.request.Asked.{Asked}
use Rattle.dl_request.specs.declared.request.Asked.TheVariants as asked
use Rattle.dl_request.specs.Requests.{HasNoToken, IsEdition, IsInFamily, IsQuestion, IsOutside, Means, MayWantMemory}
use Rattle.dl_request.specs.Reading.{IsEditWord, spelled, Behind}
use Rattle.dl_request.proofs.CutWords.{clash, IsWord, past_ends, no_token_plain, spent_word, word_spent, name_words, name_found, begins_words, past_plain}
use Rattle.dl_request.proofs.FirstWords.{edition_one, edition_plain, edition_spaced, in_family_one, in_family_plain, in_family_spaced, question_one, question_plain, question_spaced}

-- Keywords are words of their own.

spelled_word : (k : Keyword) → IsWord (spelled k)
spelled_word word.Quit = refl
spelled_word word.Publish = refl
spelled_word word.Hold = refl
spelled_word word.Ask = refl
spelled_word word.Text = refl
spelled_word word.Conclusions = refl

-- the keyword that begins with this byte
abbrev begun_by : ℕ → Keyword
begun_by b =
    if b == 113 then word.Quit
    else (if b == 112 then word.Publish
    else (if b == 104 then word.Hold
    else (if b == 97 then word.Ask
    else (if b == 116 then word.Text else word.Conclusions))))

abbrev first : List ℕ → ℕ
first [] = 0
first (b ∷ bytes) = b

begun : (k : Keyword) → begun_by (first (spelled k)) ≡ k
begun word.Quit = refl
begun word.Publish = refl
begun word.Hold = refl
begun word.Ask = refl
begun word.Text = refl
begun word.Conclusions = refl

spelled_one : (j k : Keyword) → spelled j ≡ spelled k → j ≡ k
spelled_one j k e = sym (begun j) ∙ ap (λ (w : List ℕ). begun_by (first w)) e ∙ begun k

-- what follows the keyword of a line
keyed : (line : List ℕ) (j k : Keyword) (x : Asked) → word_of line ≡ spelled j → word_of line ≡ spelled k → Behind j (past_word line) x → Behind k (past_word line) x
keyed line j k x h i b = subst (λ (w : Keyword). Behind w (past_word line) x) (spelled_one j k (sym h ∙ i)) b

no_keyword : (k : Keyword) → spelled k ≡ [] → ⊥
no_keyword word.Quit e = cc
no_keyword word.Publish e = cc
no_keyword word.Hold e = cc
no_keyword word.Ask e = cc
no_keyword word.Text e = cc
no_keyword word.Conclusions e = cc

abbrev second : List ℕ → ℕ
second [] = 0
second (a ∷ []) = 0
second (a ∷ b ∷ bytes) = b

-- no keyword has the second letter of `add` or of `drop`
seconds : (k : Keyword) → ((second (spelled k) == 100) ≡ false) × ((second (spelled k) == 114) ≡ false)
seconds word.Quit = (refl, refl)
seconds word.Publish = (refl, refl)
seconds word.Hold = (refl, refl)
seconds word.Ask = (refl, refl)
seconds word.Text = (refl, refl)
seconds word.Conclusions = (refl, refl)

no_add : (k : Keyword) → spelled k ≡ codes "add" → ⊥
no_add k e = clash (second (codes "add") == 100) refl (ap (λ (w : List ℕ). second w == 100) (sym e) ∙ (seconds k).0)

no_drop : (k : Keyword) → spelled k ≡ codes "drop" → ⊥
no_drop k e = clash (second (codes "drop") == 114) refl (ap (λ (w : List ℕ). second w == 114) (sym e) ∙ (seconds k).1)

-- Lines that make an edit

edit_word : (line : List ℕ) (e : Edit) → IsEditLine line e → IsEditWord (word_of line)
edit_word line e h = elim h [ inl a ↦ inl (begins_add line a.0 a.1).0 | inr d ↦ inr (begins_drop line d.0 d.1).0 ]

empty_no_edit : IsEditWord [] → ⊥
empty_no_edit h = elim h [ inl e ↦ (let f : [] ≡ codes "add" = e in cc) | inr e ↦ (let f : [] ≡ codes "drop" = e in cc) ]

keyword_no_edit : (k : Keyword) → IsEditWord (spelled k) → ⊥
keyword_no_edit k h = elim h [ inl e ↦ no_add k e | inr e ↦ no_drop k e ]

-- the two cannot both be the first word
at_word : {P : Type 0} (line w : List ℕ) (Is : List ℕ → Type 0) → (Is w → ⊥) → word_of line ≡ w → Is (word_of line) → P
at_word line w Is not_so e h = absurd (not_so (subst (λ (v : List ℕ). Is v) e h))

-- All that a line may ask for

-- by the first word
pub by_word : {P : Type 0} (line : List ℕ) (x : Asked) → Means line x
    → (HasNoToken line → x ≡ asked.Nothing → P)
    → ((e : Edit) → IsEditLine line e → x ≡ asked.Request (request.Edit e) → P)
    → ((k : Keyword) → word_of line ≡ spelled k → Behind k (past_word line) x → P)
    → (has_variables line ≡ true → x ≡ asked.Variables → P)
    → (IsOutside line → x ≡ asked.Form → P) → P
by_word line asked.Nothing m blank edit key variables form = blank m refl
by_word line asked.Quit m blank edit key variables form = let w = name_words (codes "quit") line refl m in key word.Quit w.0 (w.1, refl)
by_word line (asked.Request (request.Edit e)) m blank edit key variables form = edit e m refl
by_word line (asked.Request request.Publish) m blank edit key variables form = let w = name_words (codes "publish") line refl m in key word.Publish w.0 (w.1, refl)
by_word line (asked.Request (request.Hold n)) m blank edit key variables form =
    let w = begins_words (codes "hold") line m.0 refl m.1 in
    key word.Hold w.0 (n, subst (λ (r : List ℕ). IsEdition r n) (sym w.1) m.2, refl)
by_word line (asked.Request (request.Ask n f q)) m blank edit key variables form =
    let w = begins_words (codes "ask") line m.0 refl m.1 in
    key word.Ask w.0 (n, f, q, subst (λ (r : List ℕ). IsQuestion r n f q) (sym w.1) m.2, refl)
by_word line (asked.Request (request.Text n)) m blank edit key variables form =
    let w = begins_words (codes "text") line m.0 refl m.1 in
    key word.Text w.0 (n, subst (λ (r : List ℕ). IsEdition r n) (sym w.1) m.2, refl)
by_word line (asked.Request (request.Conclusions n f)) m blank edit key variables form =
    let w = begins_words (codes "conclusions") line m.0 refl m.1 in
    key word.Conclusions w.0 (n, f, subst (λ (r : List ℕ). IsInFamily r n f) (sym w.1) m.2, refl)
by_word line asked.Variables m blank edit key variables form = variables m refl
by_word line asked.Form m blank edit key variables form = form m refl

-- and back

behind_means : (line : List ℕ) (k : Keyword) (x : Asked) → word_of line ≡ spelled k → Behind k (past_word line) x → Means line x
behind_means line word.Quit x w b = subst (λ (y : Asked). Means line y) (sym b.1) (name_found (codes "quit") line refl w b.0)
behind_means line word.Publish x w b = subst (λ (y : Asked). Means line y) (sym b.1) (name_found (codes "publish") line refl w b.0)
behind_means line word.Hold x w b =
    subst (λ (y : Asked). Means line y) (sym b.2) (past_word line, word_found (codes "hold") line w (edition_spaced (past_word line) b.0 (past_ends line) b.1), b.1)
behind_means line word.Ask x w b =
    subst (λ (y : Asked). Means line y) (sym b.4)
    (past_word line, word_found (codes "ask") line w (question_spaced (past_word line) b.0 b.1 b.2 (past_ends line) b.3), b.3)
behind_means line word.Text x w b =
    subst (λ (y : Asked). Means line y) (sym b.2) (past_word line, word_found (codes "text") line w (edition_spaced (past_word line) b.0 (past_ends line) b.1), b.1)
behind_means line word.Conclusions x w b =
    subst (λ (y : Asked). Means line y) (sym b.3)
    (past_word line, word_found (codes "conclusions") line w (in_family_spaced (past_word line) b.0 b.1 (past_ends line) b.2), b.2)

behind_plain : (k : Keyword) (rest : List ℕ) (x : Asked) → Behind k rest x → has_variables rest ≡ false
behind_plain word.Quit rest x b = no_token_plain rest b.0
behind_plain word.Publish rest x b = no_token_plain rest b.0
behind_plain word.Hold rest x b = edition_plain rest b.0 b.1
behind_plain word.Ask rest x b = question_plain rest b.0 b.1 b.2 b.3
behind_plain word.Text rest x b = edition_plain rest b.0 b.1
behind_plain word.Conclusions rest x b = in_family_plain rest b.0 b.1 b.2

pub behind_one : (k : Keyword) (rest : List ℕ) (x y : Asked) → Behind k rest x → Behind k rest y → y ≡ x
behind_one word.Quit rest x y b c = c.1 ∙ sym b.1
behind_one word.Publish rest x y b c = c.1 ∙ sym b.1
behind_one word.Hold rest x y b c = c.2 ∙ ap (λ (n : ℕ). asked.Request (request.Hold n)) (edition_one rest b.0 c.0 b.1 c.1) ∙ sym b.2
behind_one word.Ask rest x y b c =
    let e = question_one rest b.0 c.0 b.1 c.1 b.2 c.2 b.3 c.3 in
    c.4
    ∙ ap (λ (n : ℕ). asked.Request (request.Ask n c.1 c.2)) e.0
    ∙ ap (λ (f : Family). asked.Request (request.Ask b.0 f c.2)) e.1
    ∙ ap (λ (q : Literal). asked.Request (request.Ask b.0 b.1 q)) e.2
    ∙ sym b.4
behind_one word.Text rest x y b c = c.2 ∙ ap (λ (n : ℕ). asked.Request (request.Text n)) (edition_one rest b.0 c.0 b.1 c.1) ∙ sym b.2
behind_one word.Conclusions rest x y b c =
    let e = in_family_one rest b.0 c.0 b.1 c.1 b.2 c.2 in
    c.3
    ∙ ap (λ (n : ℕ). asked.Request (request.Conclusions n c.1)) e.0
    ∙ ap (λ (f : Family). asked.Request (request.Conclusions b.0 f)) e.1
    ∙ sym b.3

-- what is asked for is nothing outside
inside : (line : List ℕ) (k : Keyword) (x : Asked) → word_of line ≡ spelled k → Behind k (past_word line) x → IsOutside line → ⊥
inside line word.Quit x w b o = o.no_quit (name_found (codes "quit") line refl w b.0)
inside line word.Publish x w b o = o.no_request request.Publish (name_found (codes "publish") line refl w b.0)
inside line word.Hold x w b o = o.no_request (request.Hold b.0) (subst (λ (y : Asked). Means line y) b.2 (behind_means line word.Hold x w b))
inside line word.Ask x w b o = o.no_request (request.Ask b.0 b.1 b.2) (subst (λ (y : Asked). Means line y) b.4 (behind_means line word.Ask x w b))
inside line word.Text x w b o = o.no_request (request.Text b.0) (subst (λ (y : Asked). Means line y) b.2 (behind_means line word.Text x w b))
inside line word.Conclusions x w b o = o.no_request (request.Conclusions b.0 b.1) (subst (λ (y : Asked). Means line y) b.3 (behind_means line word.Conclusions x w b))

key_plain : (line : List ℕ) (k : Keyword) (x : Asked) → word_of line ≡ spelled k → Behind k (past_word line) x → has_variables line ≡ false
key_plain line k x w b = past_plain (spelled k) line (spelled_word k) w ∙ behind_plain k (past_word line) x b

-- One thing

-- the line asks for this and nothing else
abbrev pub MeansOnly : List ℕ → Asked → Type 0
MeansOnly line x = Means line x × ((y : Asked) → Means line y → y ≡ x)

pub variables_only : (line : List ℕ) → has_variables line ≡ true → MeansOnly line asked.Variables
variables_only line v = (
  v,
  λ y m. by_word line y m (λ t _. clash (has_variables line) v (no_token_plain line t)) (λ e i _. clash (has_variables line) v (edits_are_decided.plain line e i))
      (λ k w b. clash (has_variables line) v (key_plain line k y w b)) (λ _ e. e) (λ o _. clash (has_variables line) v o.plain),
)

pub nothing_only : (line : List ℕ) → word_of line ≡ [] → MeansOnly line asked.Nothing
nothing_only line n =
    let t = word_spent line n in (
      t,
      λ y m. by_word line y m (λ _ e. e) (λ e i _. at_word line [] IsEditWord empty_no_edit n (edit_word line e i)) (λ k w _. absurd (no_keyword k (sym w ∙ n)))
          (λ v _. clash (has_variables line) v (no_token_plain line t)) (λ o _. absurd (o.no_blank t)),
    )

edit_not_empty : (line : List ℕ) → IsEditWord (word_of line) → HasNoToken line → ⊥
edit_not_empty line h t = at_word line [] IsEditWord empty_no_edit (spent_word line t) h

edit_not_key : (line : List ℕ) (k : Keyword) → IsEditWord (word_of line) → word_of line ≡ spelled k → ⊥
edit_not_key line k h w = at_word line (spelled k) IsEditWord (keyword_no_edit k) w h

pub edit_only : (line : List ℕ) (e : Edit) → IsEditLine line e → MeansOnly line (asked.Request (request.Edit e))
edit_only line e h =
    let i = edit_word line e h in (
      h,
      λ y m. by_word line y m (λ t _. absurd (edit_not_empty line i t)) (λ f j q. q ∙ ap (λ (g : Edit). asked.Request (request.Edit g)) (edits_are_decided.one line f e j h))
          (λ k w _. absurd (edit_not_key line k i w)) (λ v _. clash (has_variables line) v (edits_are_decided.plain line e h)) (λ o _. absurd (o.no_request (request.Edit e) h)),
    )

pub key_only : (line : List ℕ) (k : Keyword) (x : Asked) → word_of line ≡ spelled k → Behind k (past_word line) x → MeansOnly line x
key_only line k x w b = (
  behind_means line k x w b,
  λ y m. by_word line y m (λ t _. absurd (no_keyword k (sym w ∙ spent_word line t))) (λ e i _. absurd (edit_not_key line k (edit_word line e i) w))
      (λ j v c. behind_one k (past_word line) x y b (keyed line j k y v w c)) (λ v _. clash (has_variables line) v (key_plain line k x w b))
      (λ o _. absurd (inside line k x w b o)),
)

pub outside_only : (line : List ℕ) → has_variables line ≡ false → (HasNoToken line → ⊥) → ((e : Edit) → IsEditLine line e → ⊥)
    → ((k : Keyword) (x : Asked) → word_of line ≡ spelled k → Behind k (past_word line) x → ⊥) → MeansOnly line asked.Form
outside_only line v no_blank no_edit no_key = (
  record {
    plain = v;
    no_blank = no_blank;
    no_quit = λ m. (let w = name_words (codes "quit") line refl m in no_key word.Quit asked.Quit w.0 (w.1, refl));
    no_request = λ r m. by_word line (asked.Request r) m (λ t _. no_blank t) (λ e i _. no_edit e i) (λ k w b. no_key k (asked.Request r) w b) (λ u _. clash (has_variables line) u v)
        (λ _ e. no_form r e);
  },
  λ y m. by_word line y m (λ t _. absurd (no_blank t)) (λ e i _. absurd (no_edit e i)) (λ k w b. absurd (no_key k y w b)) (λ u _. clash (has_variables line) u v) (λ _ e. e),
)
  where
    no_form : (r : Request) → asked.Request r ≡ asked.Form → ⊥
    no_form r e = cc

pub edit_outside : (line : List ℕ) → has_variables line ≡ false → IsEditWord (word_of line) → ((e : Edit) → IsEditLine line e → ⊥) → MeansOnly line asked.Form
edit_outside line v h none = outside_only line v (edit_not_empty line h) none (λ k x w _. edit_not_key line k h w)

pub key_outside : (line : List ℕ) (k : Keyword) → has_variables line ≡ false → word_of line ≡ spelled k → ((x : Asked) → Behind k (past_word line) x → ⊥) → MeansOnly line asked.Form
key_outside line k v w none =
    outside_only line v (λ t. no_keyword k (sym w ∙ spent_word line t)) (λ e i. edit_not_key line k (edit_word line e i) w) (λ j x u b. none x (keyed line j k x u w b))

pub other_outside : (line : List ℕ) → has_variables line ≡ false → (word_of line ≡ [] → ⊥) → (IsEditWord (word_of line) → ⊥) → ((k : Keyword) → word_of line ≡ spelled k → ⊥)
    → MeansOnly line asked.Form
other_outside line v some no_edit no_key = outside_only line v (λ t. some (spent_word line t)) (λ e i. no_edit (edit_word line e i)) (λ k x w _. no_key k w)

-- Want of memory

pub edit_wants : (line : List ℕ) → has_variables line ≡ false → IsEditWord (word_of line) → (x : Asked) → Means line x → MayWantMemory x
edit_wants line v h x m =
    by_word line x m (λ t _. absurd (edit_not_empty line h t)) (λ e _ q. subst (λ (y : Asked). MayWantMemory y) (sym q) tt) (λ k w _. absurd (edit_not_key line k h w))
    (λ u _. clash (has_variables line) u v) (λ _ q. subst (λ (y : Asked). MayWantMemory y) (sym q) tt)

pub ask_wants : (line : List ℕ) → has_variables line ≡ false → word_of line ≡ codes "ask" → (x : Asked) → Means line x → MayWantMemory x
ask_wants line v h x m =
    by_word line x m (λ t _. absurd (no_keyword word.Ask (sym h ∙ spent_word line t))) (λ e i _. absurd (edit_not_key line word.Ask (edit_word line e i) h))
    (λ k w b. (let a = keyed line k word.Ask x w h b in subst (λ (y : Asked). MayWantMemory y) (sym a.4) tt)) (λ u _. clash (has_variables line) u v)
    (λ _ q. subst (λ (y : Asked). MayWantMemory y) (sym q) tt)

-- what is known at any want of memory
pub at_err : {A E : Type 0} (r : Result A E) (Q : Type 0) → Q → OnErr r Q
at_err (Ok x) Q q = tt
at_err (Err e) Q q = q
