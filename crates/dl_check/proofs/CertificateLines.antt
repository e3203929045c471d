-- Lines of a certificate, one after another.
use Rattle.std.proofs.Common.{◌≡◌, ℕ, ◌+◌, Bool, true, false, List, [], ◌∷◌, ◌++◌, length, inl, inr, ◌⊎◌, refl, sym, ap, subst, ◌∙◌, append_assoc, length-append, arith}
use Rattle.std.specs.Prelude.{All, Contains, Ok, Err, Result, MatchResult, codes}
use Rattle.std.specs.List.{AllZip}
use Rattle.std.proofs.lemmas.List.Elements.{All-nil, All-cons, All-head, All-tail, All-contains, Contains-append_right, Contains-get_or}
use Rattle.dl_lit.specs.declared.literal.Tagged.{Tagged}
use Rattle.dl_lit.specs.declared.literal.Family.{Family}
use Rattle.dl_lit.specs.declared.literal.Family.TheVariants as family
use Rattle.dl_theory.specs.declared.answer.Certificate.{Certificate}
use Rattle.dl_theory.specs.declared.answer.Certificate.TheVariants.{Derivation, Gap}
use Rattle.dl_print.specs.Text.{plus_byte, family_letter}
use Rattle.dl_read.specs.declared.statement.LineStop.TheVariants as line_stop
use Rattle.dl_read.specs.Grammar.{has_variables}
use Rattle.dl_read.specs.Tagged.{IsTagged, IsBareTagged}
use Rattle.dl_read.proofs.Unique.{spelled_plain}
use Rattle.dl_check.specs.declared.flaw.CertStop.{CertStop}
use Rattle.dl_check.specs.declared.flaw.CertStop.TheVariants.{BadLine, Memory}
use Rattle.dl_check.specs.declared.certificate.Heading.{Heading}
use Rattle.dl_check.specs.declared.certificate.Heading.TheVariants as heading
use Rattle.dl_check.specs.Headings.{heading_line, with_heading}
use Rattle.dl_check.specs.Certificates.{IsCertificate, IsFirstLine, IsMemberLine, BeginCertificate, IsOutside, IsFirstBadLine, IsCertStop, IsMemberStop, IsOnlyMember, IsMembersStop, IsOnlyCertificate}

-- a tagged literal has no `(`

tag_plain : (p : Bool) (f : Family) (rest : List ℕ) → has_variables (plus_byte p ∷ family_letter f ∷ rest) ≡ has_variables rest
tag_plain true family.Definite rest = refl
tag_plain true family.Blocking rest = refl
tag_plain true family.Propagating rest = refl
tag_plain true family.Support rest = refl
tag_plain false family.Definite rest = refl
tag_plain false family.Blocking rest = refl
tag_plain false family.Propagating rest = refl
tag_plain false family.Support rest = refl

tagged_plain : (line : List ℕ) (x : Tagged) → IsTagged line x → has_variables line ≡ false
tagged_plain line x h = ap has_variables h.order ∙ tag_plain x.plus x.family h.rest ∙ spelled_plain h.literal.0 h.rest h.literal.1

pub outside_if_variables : (line : List ℕ) → has_variables line ≡ true → ¬ IsMemberLine line
outside_if_variables line v m = let p : has_variables line ≡ false = tagged_plain line m.0 m.1.0 in cc

-- members, line by line

-- these lines were read, and these are left
pub record IsReadTo (all left : List (List ℕ)) (number : ℕ) (members : List Tagged) : Type 0 where
  pub before : List (List ℕ)
  pub order : all ≡ before ++ left
  pub says : AllZip IsOnlyMember before members
  pub place : number ≡ 2 + length before

zip_push : (lines : List (List ℕ)) (members : List Tagged) (line : List ℕ) (x : Tagged) → AllZip IsOnlyMember lines members → IsOnlyMember line x
    → AllZip IsOnlyMember (lines ++ line ∷ []) (members ++ x ∷ [])
zip_push [] [] line x h i = (i, tt)
zip_push [] (y ∷ ys) line x h i = absurd h
zip_push (l ∷ ls) [] line x h i = absurd h
zip_push (l ∷ ls) (y ∷ ys) line x h i = (h.0, zip_push ls ys line x h.1 i)

pub read_none : (all : List (List ℕ)) → IsReadTo all all 2 []
read_none all = record { before = []; order = refl; says = tt; place = omega arith }

pub read_more : (all left later : List (List ℕ)) (number : ℕ) (members : List Tagged) (line : List ℕ) (x : Tagged) → IsReadTo all left number members → left ≡ line ∷ later → IsOnlyMember line x
    → IsReadTo all later (number + 1) (members ++ x ∷ [])
read_more all left later number members line x h e i = record {
  before = h.before ++ line ∷ [];
  order = h.order ∙ ap (λ (l : List (List ℕ)). h.before ++ l) e ∙ sym (append_assoc h.before (line ∷ []) later);
  says = zip_push h.before members line x h.says i;
  place = let p = h.place in omega (arith, length-append h.before (line ∷ []));
}

pub read_end : (all left : List (List ℕ)) (number : ℕ) (members : List Tagged) (line : List ℕ) (x : Tagged) → IsReadTo all left number members → left ≡ line ∷ [] → IsOnlyMember line x
    → AllZip IsOnlyMember all (members ++ x ∷ [])
read_end all left number members line x h e i =
    subst (λ (l : List (List ℕ)). AllZip IsOnlyMember l (members ++ x ∷ [])) (sym (h.order ∙ ap (λ (l : List (List ℕ)). h.before ++ l) e))
    (zip_push h.before members line x h.says i)

member_lines : (lines : List (List ℕ)) (members : List Tagged) → AllZip IsOnlyMember lines members → All IsMemberLine lines
member_lines [] [] h = All-nil IsMemberLine
member_lines [] (x ∷ xs) h = absurd h
member_lines (l ∷ ls) [] h = absurd h
member_lines (l ∷ ls) (x ∷ xs) h = All-cons IsMemberLine l ls (x, h.0.0) (member_lines ls xs h.1)

pub read_stop : (all left later : List (List ℕ)) (number : ℕ) (members : List Tagged) (line : List ℕ) (stop : CertStop) → IsReadTo all left number members → left ≡ line ∷ later
    → IsMemberStop line number stop → IsMembersStop all 2 stop
read_stop all left later number members line (BadLine k) h e i = record {
  before = h.before;
  line = line;
  after = later;
  order = h.order ∙ ap (λ (l : List (List ℕ)). h.before ++ l) e;
  place = i.0 ∙ h.place;
  fine = member_lines h.before members h.says;
  bad = i.1;
}
read_stop all left later number members line Memory h e i = tt

-- the whole

bare_zip : (lines : List (List ℕ)) (members : List Tagged) → AllZip IsOnlyMember lines members → AllZip IsBareTagged lines members
bare_zip [] [] h = tt
bare_zip [] (x ∷ xs) h = absurd h
bare_zip (l ∷ ls) [] h = absurd h
bare_zip (l ∷ ls) (x ∷ xs) h = (h.0.0, bare_zip ls xs h.1)

bare_lines : (lines : List (List ℕ)) (members : List Tagged) → AllZip IsBareTagged lines members → All IsMemberLine lines
bare_lines [] [] h = All-nil IsMemberLine
bare_lines [] (x ∷ xs) h = absurd h
bare_lines (l ∷ ls) [] h = absurd h
bare_lines (l ∷ ls) (x ∷ xs) h = All-cons IsMemberLine l ls (x, h.0) (bare_lines ls xs h.1)

one_reading : (lines : List (List ℕ)) (members others : List Tagged) → AllZip IsOnlyMember lines members → AllZip IsBareTagged lines others → others ≡ members
one_reading [] [] [] h k = refl
one_reading [] [] (y ∷ ys) h k = absurd k
one_reading [] (x ∷ xs) ys h k = absurd h
one_reading (l ∷ ls) [] ys h k = absurd h
one_reading (l ∷ ls) (x ∷ xs) [] h k = absurd k
one_reading (l ∷ ls) (x ∷ xs) (y ∷ ys) h k = λ i. h.0.1 y k.0 i ∷ one_reading ls xs ys h.1 k.1 i

words_apart : codes "derivation" ≡ codes "gap" → ⊥
words_apart e = let n = ap (λ (l : List ℕ). length l) e in omega (arith, n)

derivation_only : (line : List ℕ) (more : List (List ℕ)) (members : List Tagged) → line ≡ codes "derivation" → AllZip IsOnlyMember more members
    → (other : Certificate) → IsCertificate (line ∷ more) other → other ≡ Derivation members
derivation_only line more members i z (Derivation others) k = ap Derivation (one_reading more members others z k.1)
derivation_only line more members i z (Gap others) k = absurd (words_apart (sym i ∙ k.0))

gap_only : (line : List ℕ) (more : List (List ℕ)) (members : List Tagged) → line ≡ codes "gap" → AllZip IsOnlyMember more members
    → (other : Certificate) → IsCertificate (line ∷ more) other → other ≡ Gap members
gap_only line more members i z (Gap others) k = ap Gap (one_reading more members others z k.1)
gap_only line more members i z (Derivation others) k = absurd (words_apart (sym k.0 ∙ i))

with_line : (line : List ℕ) (more : List (List ℕ)) (heading : Heading) (members : List Tagged) → line ≡ heading_line heading → AllZip IsOnlyMember more members
    → IsOnlyCertificate (line ∷ more) (with_heading heading members)
with_line line more heading.Derivation members i z = ((i, bare_zip more members z), derivation_only line more members i z)
with_line line more heading.Gap members i z = ((i, bare_zip more members z), gap_only line more members i z)

pub whole_certificate : (lines : List (List ℕ)) (line : List ℕ) (more : List (List ℕ)) (heading : Heading) (members : List Tagged) → lines ≡ line ∷ more → line ≡ heading_line heading
    → AllZip IsOnlyMember more members → IsOnlyCertificate lines (with_heading heading members)
whole_certificate lines line more heading members e h z =
    subst (λ (l : List (List ℕ)). IsOnlyCertificate l (with_heading heading members)) (sym e) (with_line line more heading members h z)

first_line : (line : List ℕ) (heading : Heading) → line ≡ heading_line heading → IsFirstLine line
first_line line heading.Derivation h = inl h
first_line line heading.Gap h = inr h

pub bad_first : (lines : List (List ℕ)) (line : List ℕ) (after : List (List ℕ)) → lines ≡ line ∷ after → (¬ IsFirstLine line) → IsFirstBadLine lines 1
bad_first lines line after e h = record { before = []; line = line; after = after; order = e; place = refl; fine = tt; bad = h }

pub bad_later : (lines : List (List ℕ)) (line : List ℕ) (more : List (List ℕ)) (heading : Heading) (stop : CertStop) → lines ≡ line ∷ more → line ≡ heading_line heading
    → IsMembersStop more 2 stop → IsCertStop lines stop
bad_later lines line more heading (BadLine k) e h s = record {
  before = line ∷ s.before;
  line = s.line;
  after = s.after;
  order = e ∙ ap (λ (l : List (List ℕ)). line ∷ l) s.order;
  place = let p = s.place in omega (arith, p);
  fine = (first_line line heading h, s.fine);
  bad = s.bad;
}
bad_later lines line more heading Memory e h s = tt

-- a certificate has no bad line, and lines have one first bad line at most

certificate_fine : (line : List ℕ) (lines : List (List ℕ)) (cert : Certificate) → IsCertificate (line ∷ lines) cert → IsFirstLine line × All IsMemberLine lines
certificate_fine line lines (Derivation members) h = (inl h.0, bare_lines lines members h.1)
certificate_fine line lines (Gap members) h = (inr h.0, bare_lines lines members h.1)

split_head : {X : Type 0} (x y : X) (xs ys : List X) → x ∷ xs ≡ y ∷ ys → (x ≡ y) × (xs ≡ ys)
split_head x y xs ys e = (cc, cc)

none_bad : (before : List (List ℕ)) (lines : List (List ℕ)) (line : List ℕ) (after : List (List ℕ)) → All IsMemberLine lines → lines ≡ before ++ line ∷ after → ¬ (¬ IsMemberLine line)
none_bad before lines line after h e bad =
    bad (All-contains IsMemberLine lines line h
    (subst (λ (l : List (List ℕ)). Contains l line) (sym e) (Contains-append_right before (line ∷ after) line (Contains-get_or (line ∷ after) 0 line (omega arith)))))

no_bad : (lines before : List (List ℕ)) (line : List ℕ) (after : List (List ℕ)) (cert : Certificate) → IsCertificate lines cert → lines ≡ before ++ line ∷ after → ¬ IsOutside before line
no_bad [] before line after cert h e bad = absurd h
no_bad (l ∷ ls) [] line after cert h e bad = let s = split_head l line ls after e in bad (subst (λ (x : List ℕ). IsFirstLine x) s.0 (certificate_fine l ls cert h).0)
no_bad (l ∷ ls) (b ∷ bs) line after cert h e bad = let s = split_head l b ls (bs ++ line ∷ after) e in none_bad bs ls line after (certificate_fine l ls cert h).1 s.1 bad

same_split : (Good : List ℕ → Type 0) (xs ys : List (List ℕ)) (x y : List ℕ) (us vs : List (List ℕ)) → xs ++ x ∷ us ≡ ys ++ y ∷ vs → All Good xs → All Good ys → (¬ Good x) → (¬ Good y) → length xs ≡ length ys
same_split Good [] [] x y us vs e f g h k = refl
same_split Good [] (b ∷ bs) x y us vs e f g h k = let s = split_head x b us (bs ++ y ∷ vs) e in absurd (h (subst Good (sym s.0) (All-head Good b bs g)))
same_split Good (a ∷ rest) [] x y us vs e f g h k = let s = split_head a y (rest ++ x ∷ us) vs e in absurd (k (subst Good s.0 (All-head Good a rest f)))
same_split Good (a ∷ rest) (b ∷ bs) x y us vs e f g h k =
    let s = split_head a b (rest ++ x ∷ us) (bs ++ y ∷ vs) e in
    let n = same_split Good rest bs x y us vs s.1 (All-tail Good a rest f) (All-tail Good b bs g) h k in omega (arith, n)

one_place : (xs ys : List (List ℕ)) (x y : List ℕ) (us vs : List (List ℕ)) → xs ++ x ∷ us ≡ ys ++ y ∷ vs → BeginCertificate xs → BeginCertificate ys → IsOutside xs x → IsOutside ys y → length xs ≡ length ys
one_place [] [] x y us vs e f g h k = refl
one_place [] (b ∷ bs) x y us vs e f g h k = let s = split_head x b us (bs ++ y ∷ vs) e in absurd (h (subst (λ (l : List ℕ). IsFirstLine l) (sym s.0) g.0))
one_place (a ∷ rest) [] x y us vs e f g h k = let s = split_head a y (rest ++ x ∷ us) vs e in absurd (k (subst (λ (l : List ℕ). IsFirstLine l) s.0 f.0))
one_place (a ∷ rest) (b ∷ bs) x y us vs e f g h k =
    let s = split_head a b (rest ++ x ∷ us) (bs ++ y ∷ vs) e in
    let n = same_split IsMemberLine rest bs x y us vs s.1 f.1 g.1 h k in omega (arith, n)

pub answer_reads : (lines : List (List ℕ)) (r : Result Certificate CertStop) → MatchResult r (IsOnlyCertificate lines) (IsCertStop lines) → (cert : Certificate) → IsCertificate lines cert
    → MatchResult r (λ read. read ≡ cert) (λ stop. stop ≡ Memory)
answer_reads lines (Ok read) h cert k = sym (h.1 cert k)
answer_reads lines (Err (BadLine n)) h cert k = absurd (no_bad lines h.before h.line h.after cert k h.order h.bad)
answer_reads lines (Err Memory) h cert k = refl

pub answer_stops : (lines : List (List ℕ)) (r : Result Certificate CertStop) → MatchResult r (IsOnlyCertificate lines) (IsCertStop lines) → (k : ℕ) → IsFirstBadLine lines k
    → MatchResult r (λ _. ⊥) (λ stop. (stop ≡ BadLine k) ⊎ (stop ≡ Memory))
answer_stops lines (Ok read) h k b = no_bad lines b.before b.line b.after read h.0 b.order b.bad
answer_stops lines (Err (BadLine n)) h k b =
    let e = one_place h.before b.before h.line b.line h.after b.after (sym h.order ∙ b.order) h.fine b.fine h.bad b.bad in
    inl (ap BadLine (h.place ∙ ap (λ (m : ℕ). m + 1) e ∙ sym b.place))
answer_stops lines (Err Memory) h k b = inr refl
