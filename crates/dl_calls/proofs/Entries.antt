-- The lines of entries tell them apart.
use Rattle.std.proofs.Common.{◌≡◌, ℕ, List, [], ◌∷◌, ◌++◌, All, codes, decimal, refl, sym, ap, ◌∙◌, append_assoc}
use Rattle.dl_print.specs.Text.{refusal_text}
use Rattle.dl_calls.specs.declared.call.Call.{Call}
use Rattle.dl_calls.specs.declared.call.Call.TheVariants.{Enrol, Edit, Publish, Hold}
use Rattle.dl_calls.specs.declared.reply.Reply.{Reply}
use Rattle.dl_calls.specs.declared.reply.Reply.TheVariants.{Enrolled, Edited, EditRefused, Edition, Holding, Unpublished}
use Rattle.dl_calls.specs.declared.entry.Entry.{Entry}
use Rattle.dl_calls.specs.Text.{call_text, reply_text, unpublished_text, entry_text, journal_text}
use Rattle.dl_calls.specs.Spelled.{IsCount, IsSpelledCall, IsSpelledReply, IsSpelled}
use Rattle.dl_calls.specs.Laws.{LinesTellEntries, JournalsTellHistories}
use Rattle.dl_calls.proofs.Words.{tails, apart, same_front, fronts_differ, regroup, number_tells, counted_tells, NoDigit, no_number}
use Rattle.dl_calls.proofs.Statements.{first_of_all, rest_of_all}
use Rattle.dl_calls.proofs.Edits.{edit_tells, no_edit, refusal_tells, no_unpublished}

-- The call stands before a space and a bar.
call_tells : (x y : Call) (t u : List ℕ) → IsSpelledCall x → IsSpelledCall y → call_text x ++ (32 ∷ 124 ∷ t) ≡ call_text y ++ (32 ∷ 124 ∷ u) → (x ≡ y) × (t ≡ u)
call_tells Enrol Enrol t u h k e = (refl, tails (tails (same_front (codes "enrol") _ _ e)))
call_tells (Edit a) (Edit b) t u h k e = let w = edit_tells a b t u h k e in (ap Edit w.0, w.1)
call_tells Publish Publish t u h k e = (refl, tails (tails (same_front (codes "publish") _ _ e)))
call_tells (Hold m) (Hold n) t u h k e =
    let w = counted_tells (codes "hold ") m n (32 ∷ 124 ∷ t) (32 ∷ 124 ∷ u) h k refl refl e in
    (ap Hold w.0, tails (tails w.1))
call_tells (Edit a) Enrol t u h k e = no_edit a (32 ∷ 124 ∷ t) 101 _ refl refl e
call_tells (Edit a) Publish t u h k e = no_edit a (32 ∷ 124 ∷ t) 112 _ refl refl e
call_tells (Edit a) (Hold n) t u h k e = no_edit a (32 ∷ 124 ∷ t) 104 _ refl refl e
call_tells Enrol (Edit b) t u h k e = no_edit b (32 ∷ 124 ∷ u) 101 _ refl refl (sym e)
call_tells Publish (Edit b) t u h k e = no_edit b (32 ∷ 124 ∷ u) 112 _ refl refl (sym e)
call_tells (Hold m) (Edit b) t u h k e = no_edit b (32 ∷ 124 ∷ u) 104 _ refl refl (sym e)
call_tells Enrol Publish t u h k e = apart 101 112 refl e
call_tells Enrol (Hold n) t u h k e = apart 101 104 refl e
call_tells Publish Enrol t u h k e = apart 112 101 refl e
call_tells Publish (Hold n) t u h k e = apart 112 104 refl e
call_tells (Hold m) Enrol t u h k e = apart 104 101 refl e
call_tells (Hold m) Publish t u h k e = apart 104 112 refl e

unpublished_tells : (a b p q : ℕ) (t u : List ℕ) → IsCount a → IsCount b → IsCount p → IsCount q → unpublished_text a p ++ 10 ∷ t ≡ unpublished_text b q ++ 10 ∷ u → (a ≡ b) × (p ≡ q) × (t ≡ u)
unpublished_tells a b p q t u f g h k e =
    let asked = counted_tells (codes "refused unpublished ") a b ((codes " of " ++ decimal p) ++ 10 ∷ t) ((codes " of " ++ decimal q) ++ 10 ∷ u) f g refl refl
    (regroup (codes "refused unpublished " ++ decimal a) (codes " of " ++ decimal p) (10 ∷ t) (codes "refused unpublished " ++ decimal b) (codes " of " ++ decimal q) (10 ∷ u) e) in
    let published = counted_tells (codes " of ") p q (10 ∷ t) (10 ∷ u) h k refl refl asked.1 in
    (asked.0, published.0, tails published.1)

-- how a reply begins
first_word : Reply → List ℕ
first_word (Enrolled n) = codes "enrolled "
first_word Edited = codes "ok"
first_word (EditRefused x) = codes "refused "
first_word (Edition n) = codes "edition "
first_word (Holding n) = codes "holding "
first_word (Unpublished asked published) = codes "refused "

-- The reply stands before the end of the line.
reply_tells : (x y : Reply) (t u : List ℕ) → IsSpelledReply x → IsSpelledReply y → reply_text x ++ 10 ∷ t ≡ reply_text y ++ 10 ∷ u → (x ≡ y) × (t ≡ u)
unfolding first_word
reply_tells (Enrolled m) (Enrolled n) t u h k e =
    let w = counted_tells (codes "enrolled ") m n (10 ∷ t) (10 ∷ u) h k refl refl e in
    (ap Enrolled w.0, tails w.1)
reply_tells Edited Edited t u h k e = (refl, tails (same_front (codes "ok") _ _ e))
reply_tells (EditRefused x) (EditRefused y) t u h k e =
    let w = refusal_tells x y t u h k (same_front (codes "refused ") (refusal_text x ++ 10 ∷ t) (refusal_text y ++ 10 ∷ u) e) in
    (ap EditRefused w.0, w.1)
reply_tells (Edition m) (Edition n) t u h k e =
    let w = counted_tells (codes "edition ") m n (10 ∷ t) (10 ∷ u) h k refl refl e in
    (ap Edition w.0, tails w.1)
reply_tells (Holding m) (Holding n) t u h k e =
    let w = counted_tells (codes "holding ") m n (10 ∷ t) (10 ∷ u) h k refl refl e in
    (ap Holding w.0, tails w.1)
reply_tells (Unpublished a p) (Unpublished b q) t u h k e =
    let w = unpublished_tells a b p q t u h.0 k.0 h.1 k.1 e in
    (λ i. Unpublished (w.0 i) (w.1 i), w.2)
reply_tells (EditRefused x) (Unpublished b q) t u h k e =
    no_unpublished x (10 ∷ t) ((decimal b ++ (codes " of " ++ decimal q)) ++ 10 ∷ u) (same_front (codes "refused ") _ _ e)
reply_tells (Unpublished a p) (EditRefused y) t u h k e =
    no_unpublished y (10 ∷ u) ((decimal a ++ (codes " of " ++ decimal p)) ++ 10 ∷ t) (sym (same_front (codes "refused ") _ _ e))
reply_tells x y t u h k e = fronts_differ (first_word x) (first_word y) _ _ refl e

-- lines, each before others

line_shape : (e : Entry) (r : List ℕ) → entry_text e ++ r ≡ decimal e.seat ++ (32 ∷ 124 ∷ 32 ∷ (call_text e.call ++ (32 ∷ 124 ∷ 32 ∷ (reply_text e.reply ++ 10 ∷ r))))
line_shape e r =
    append_assoc (decimal e.seat ++ (codes " | " ++ call_text e.call)) (codes " | " ++ (reply_text e.reply ++ 10 ∷ [])) r
    ∙ ap (λ (l : List ℕ). (decimal e.seat ++ (codes " | " ++ call_text e.call)) ++ (32 ∷ 124 ∷ 32 ∷ l)) (append_assoc (reply_text e.reply) (10 ∷ []) r)
    ∙ append_assoc (decimal e.seat) (codes " | " ++ call_text e.call) (32 ∷ 124 ∷ 32 ∷ (reply_text e.reply ++ 10 ∷ r))

pub line_tells : (x y : Entry) (r s : List ℕ) → IsSpelled x → IsSpelled y → entry_text x ++ r ≡ entry_text y ++ s → (x ≡ y) × (r ≡ s)
line_tells x y r s h k e =
    let seat = number_tells x.seat y.seat (32 ∷ 124 ∷ 32 ∷ (call_text x.call ++ (32 ∷ 124 ∷ 32 ∷ (reply_text x.reply ++ 10 ∷ r))))
    (32 ∷ 124 ∷ 32 ∷ (call_text y.call ++ (32 ∷ 124 ∷ 32 ∷ (reply_text y.reply ++ 10 ∷ s)))) h.seat k.seat refl refl (sym (line_shape x r) ∙ e ∙ line_shape y s) in
    let call = call_tells x.call y.call (32 ∷ (reply_text x.reply ++ 10 ∷ r)) (32 ∷ (reply_text y.reply ++ 10 ∷ s)) h.call k.call (same_front (codes " | ") _ _ seat.1) in
    let reply = reply_tells x.reply y.reply r s h.reply k.reply (tails call.1) in
    (λ i. record { seat = seat.0 i; call = call.0 i; reply = reply.0 i }, reply.1)

pub lines_tell_entries : LinesTellEntries
lines_tell_entries x y h k e = (line_tells x y [] [] h k (ap (λ (l : List ℕ). l ++ []) e)).0

-- no line begins without a digit
no_line : {P : Type 0} (x : Entry) (t r : List ℕ) → IsSpelled x → NoDigit r → r ≡ entry_text x ++ t → P
no_line x t r h n e = no_number x.seat _ r h.seat n (e ∙ line_shape x t)

-- journals, each before what begins with no digit
pub journal_tells : (xs ys : List Entry) (r s : List ℕ) → All IsSpelled xs → All IsSpelled ys → NoDigit r → NoDigit s → journal_text xs ++ r ≡ journal_text ys ++ s → (xs ≡ ys) × (r ≡ s)
journal_tells [] [] r s h k m n e = (refl, e)
journal_tells [] (y ∷ ys) r s h k m n e = no_line y (journal_text ys ++ s) r (first_of_all IsSpelled y ys k) m (e ∙ append_assoc (entry_text y) (journal_text ys) s)
journal_tells (x ∷ xs) [] r s h k m n e = no_line x (journal_text xs ++ r) s (first_of_all IsSpelled x xs h) n (sym e ∙ append_assoc (entry_text x) (journal_text xs) r)
journal_tells (x ∷ xs) (y ∷ ys) r s h k m n e =
    let one = line_tells x y (journal_text xs ++ r) (journal_text ys ++ s) (first_of_all IsSpelled x xs h) (first_of_all IsSpelled y ys k)
    (regroup (entry_text x) (journal_text xs) r (entry_text y) (journal_text ys) s e) in
    let rest = journal_tells xs ys r s (rest_of_all IsSpelled x xs h) (rest_of_all IsSpelled y ys k) m n one.1 in
    (λ i. one.0 i ∷ rest.0 i, rest.1)

pub journals_tell_histories : JournalsTellHistories
journals_tell_histories xs ys h k e = (journal_tells xs ys [] [] h k tt tt (ap (λ (l : List ℕ). l ++ []) e)).0
