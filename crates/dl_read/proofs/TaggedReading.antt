-- Tagged literals, from a line and back.
use Rattle.std.proofs.Common.{◌≡◌, ℕ, Bool, true, false, ◌==◌, List, [], ◌∷◌, Option, Some, None, refl, sym, ap, subst, ◌∙◌}
use Rattle.std.specs.Prelude.{Ok, Err, option_and_then}
use Rattle.std.specs.List.{list_all, list_any}
use Rattle.dl_lit.specs.declared.literal.Literal.{Literal}
use Rattle.dl_lit.specs.declared.literal.Tag.{Tag}
use Rattle.dl_lit.specs.declared.literal.Tagged.{Tagged}
use Rattle.dl_lit.specs.declared.literal.Family.{Family}
use Rattle.dl_lit.specs.declared.literal.Family.TheVariants.{Definite, Blocking, Propagating, Support}
use Rattle.dl_print.specs.Text.{plus_byte, family_letter}
use Rattle.dl_read.specs.declared.statement.LineStop.{LineStop}
use Rattle.dl_read.specs.declared.statement.LineStop.TheVariants as line_stop
use Rattle.dl_read.specs.Grammar.{is_blank, begins_with, has_variables, IsLiteral, Reads}
use Rattle.dl_read.specs.Tagged.{begins_comment, IsTagged, IsBareTagged, HasNoComment, HasTag, plus_of, family_of, tag_of}
use Rattle.dl_read.proofs.Parts.{some_is}
use Rattle.dl_read.proofs.Scanning.{plain, by_test, eq_of}
use Rattle.dl_read.proofs.WordLemmas.{plain_front}
use Rattle.dl_read.proofs.Readings.{reads_ok, reads_err}

tag_known : (p : Bool) (f : Family) → tag_of (plus_byte p) (family_letter f) ≡ Some (record { plus = p; family = f })
tag_known true Definite = refl
tag_known true Blocking = refl
tag_known true Propagating = refl
tag_known true Support = refl
tag_known false Definite = refl
tag_known false Blocking = refl
tag_known false Propagating = refl
tag_known false Support = refl

tag_plain : (p : Bool) (f : Family) → list_all plain (plus_byte p ∷ family_letter f ∷ []) ≡ true
tag_plain true Definite = refl
tag_plain true Blocking = refl
tag_plain true Propagating = refl
tag_plain true Support = refl
tag_plain false Definite = refl
tag_plain false Blocking = refl
tag_plain false Propagating = refl
tag_plain false Support = refl

head_is : (a b : ℕ) (xs ys : List ℕ) → a ∷ xs ≡ b ∷ ys → (a ≡ b) × (xs ≡ ys)
head_is a b xs ys h = (cc, cc)

-- a line with a tag has that one
pub tag_at : (s l : ℕ) (rest : List ℕ) (x : Tagged) (h : IsTagged (s ∷ l ∷ rest) x) → (tag_of s l ≡ Some (record { plus = x.plus; family = x.family })) × (h.rest ≡ rest)
tag_at s l rest x h =
    let one = head_is s (plus_byte x.plus) (l ∷ rest) (family_letter x.family ∷ h.rest) h.order in
    let two = head_is l (family_letter x.family) rest h.rest one.1 in
    (ap (λ (b : ℕ). tag_of b l) one.0 ∙ ap (λ (b : ℕ). tag_of (plus_byte x.plus) b) two.0 ∙ tag_known x.plus x.family, sym two.1)

pub no_tag_empty : (x : Tagged) → IsTagged [] x → ⊥
no_tag_empty x h = let e = h.order in cc

pub no_tag_short : (s : ℕ) (x : Tagged) → IsTagged (s ∷ []) x → ⊥
no_tag_short s x h = let e = (head_is s (plus_byte x.plus) [] (family_letter x.family ∷ h.rest) h.order).1 in cc

pub no_tag : (s l : ℕ) (rest : List ℕ) (x : Tagged) → tag_of s l ≡ None → IsTagged (s ∷ l ∷ rest) x → ⊥
no_tag s l rest x e h = let f = (tag_at s l rest x h).0 in cc

pub no_blank : (s l : ℕ) (rest : List ℕ) (x : Tagged) → begins_with is_blank rest ≡ false → IsTagged (s ∷ l ∷ rest) x → ⊥
no_blank s l rest x e h =
    let f : begins_with is_blank rest ≡ true = subst (λ (r : List ℕ). begins_with is_blank r ≡ true) (tag_at s l rest x h).1 h.blank in cc

plus_is : (b : ℕ) (p : Bool) → plus_of b ≡ Some p → b ≡ plus_byte p
plus_is b p =
    let P : Option Bool → Type 0 = λ o. o ≡ Some p → b ≡ plus_byte p in
    by_test P (b == 43) _ _ (λ h e. eq_of b 43 h ∙ ap plus_byte (some_is true p e))
    (λ _. by_test P (b == 45) _ _ (λ h e. eq_of b 45 h ∙ ap plus_byte (some_is false p e)) (λ _ e. cc))

family_is : (b : ℕ) (f : Family) → family_of b ≡ Some f → b ≡ family_letter f
family_is b f =
    let P : Option Family → Type 0 = λ o. o ≡ Some f → b ≡ family_letter f in
    by_test P (b == 68) _ _ (λ h e. eq_of b 68 h ∙ ap family_letter (some_is Definite f e))
    (λ _. by_test P (b == 100) _ _ (λ h e. eq_of b 100 h ∙ ap family_letter (some_is Blocking f e))
    (λ _. by_test P (b == 97) _ _ (λ h e. eq_of b 97 h ∙ ap family_letter (some_is Propagating f e))
    (λ _. by_test P (b == 115) _ _ (λ h e. eq_of b 115 h ∙ ap family_letter (some_is Support f e)) (λ _ e. cc))))

tag_parts : (o : Option Bool) (q : Option Family) (tag : Tag) → option_and_then (λ p. option_and_then (λ f. Some (record { plus = p; family = f })) q) o ≡ Some tag
    → (o ≡ Some tag.plus) × (q ≡ Some tag.family)
tag_parts None q tag h = cc
tag_parts (Some p) None tag h = cc
tag_parts (Some p) (Some f) tag h =
    let made : Tag = record { plus = p; family = f } in
    let e = some_is made tag h in
    (ap (λ (t : Tag). Some t.plus) e, ap (λ (t : Tag). Some t.family) e)

pub tag_is : (s l : ℕ) (rest : List ℕ) (tag : Tag) → tag_of s l ≡ Some tag → begins_with is_blank rest ≡ true → HasTag (s ∷ l ∷ rest) tag rest
tag_is s l rest tag h b =
    let parts = tag_parts (plus_of s) (family_of l) tag h in
    record {
      order = ap (λ (x : ℕ). x ∷ l ∷ rest) (plus_is s tag.plus parts.0) ∙ ap (λ (x : ℕ). plus_byte tag.plus ∷ x ∷ rest) (family_is l tag.family parts.1);
      blank = b;
    }

-- the tagged literal of a tag and a literal
abbrev IsOf : Tag → Literal → Tagged → Type 0
IsOf tag q x = x ≡ record { plus = tag.plus; family = tag.family; literal = q }

tag_variables : (line rest : List ℕ) (tag : Tag) → HasTag line tag rest → has_variables line ≡ has_variables rest
tag_variables line rest tag h = ap has_variables h.order ∙ plain_front (plus_byte tag.plus ∷ family_letter tag.family ∷ []) rest (tag_plain tag.plus tag.family)

tag_into : (line rest : List ℕ) (tag : Tag) → HasTag line tag rest → (q : Literal) (x : Tagged) → IsOf tag q x → IsLiteral rest q → IsTagged line x
tag_into line rest tag h q x i l =
    subst (λ (y : Tagged). IsTagged line y) (sym i) (record { rest = rest; order = h.order; blank = h.blank; literal = l })

same_tagged : (tag : Tag) (x : Tagged) (made : Tag) → Some made ≡ Some tag → made ≡ record { plus = x.plus; family = x.family } → IsOf tag x.literal x
same_tagged tag x made h e = ap (λ (t : Tag). record { plus = t.plus; family = t.family; literal = x.literal }) (sym e ∙ some_is made tag h)

tag_back : (line rest : List ℕ) (tag : Tag) → HasTag line tag rest → (x : Tagged) → IsTagged line x → (q : Literal) × IsOf tag q x × IsLiteral rest q
tag_back line rest tag h x t =
    let made : Tag = record { plus = x.plus; family = x.family } in
    let s : IsTagged (plus_byte tag.plus ∷ family_letter tag.family ∷ rest) x = subst (λ (l : List ℕ). IsTagged l x) h.order t in
    let a = tag_at (plus_byte tag.plus) (family_letter tag.family) rest x s in
    let e : Some made ≡ Some tag = sym a.0 ∙ tag_known tag.plus tag.family in
    (x.literal, same_tagged tag x made e refl, subst (λ (r : List ℕ). IsLiteral r x.literal) a.1 s.literal)

pub tagged_ok : (line rest : List ℕ) (tag : Tag) (q : Literal) → HasTag line tag rest → Reads IsLiteral rest (Ok q)
    → Reads IsTagged line (Ok (record { plus = tag.plus; family = tag.family; literal = q }))
tagged_ok line rest tag q h r =
    reads_ok IsLiteral IsTagged rest line (tag_variables line rest tag h) (IsOf tag) (tag_into line rest tag h) (tag_back line rest tag h) q _ refl (λ z i. i) r

pub tagged_err : (line rest : List ℕ) (tag : Tag) (x : LineStop) → HasTag line tag rest → Reads IsLiteral rest (Err x) → Reads IsTagged line (Err x)
tagged_err line rest tag x h r =
    reads_err IsLiteral IsTagged rest line (tag_variables line rest tag h) (IsOf tag) (tag_into line rest tag h) (tag_back line rest tag h) x r

pub bare_ok : (line : List ℕ) (x : Tagged) → Reads IsTagged line (Ok x) → HasNoComment line → Reads IsBareTagged line (Ok x)
bare_ok line x h n = (h.0, (h.1, n), λ y i. h.2 y i.0)

pub bare_not : (line : List ℕ) (x : Tagged) → Reads IsTagged line (Ok x) → list_any begins_comment line ≡ true → Reads IsBareTagged line (Err line_stop.Bad)
bare_not line x h n = (h.0, λ y i. (let e : list_any begins_comment line ≡ false = i.1 in cc))

pub bare_err : (line : List ℕ) (x : LineStop) → Reads IsTagged line (Err x) → Reads IsBareTagged line (Err x)
bare_err line line_stop.Bad h = (h.0, λ y i. h.1 y i.0)
bare_err line line_stop.Variables h = h
bare_err line line_stop.Memory h = tt
