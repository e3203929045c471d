-- Lists of lists that agree, and the marks of one fact more.
use Rattle.std.proofs.Common.{◌≡◌, ◌≢◌, ◌≤◌, ◌<◌, ℕ, Bool, true, false, List, [], ◌∷◌, ◌++◌, length, get_or, set, refl, sym, ap, subst, ◌∙◌, arith, inl, inr, get_or-set_same, get_or-set_other}
use Rattle.std.specs.Prelude.{All, Contains, flat_map}
use Rattle.std.specs.Set.{is_member}
use Rattle.std.proofs.Math.ListN.{length-set}
use Rattle.std.proofs.lemmas.Bool.{cases_eq, cases_lt}
use Rattle.std.proofs.lemmas.Bool.Decides.{Decides-like, same_from_decides}
use Rattle.std.proofs.lemmas.List.{get_or_past}
use Rattle.std.proofs.lemmas.List.Elements.{All-head, All-tail, Contains-append_left, Contains-append_cases, Contains-push}
use Rattle.std.proofs.lemmas.Map.Made.{is_member-Decides}
use Rattle.dl_base.specs.Paths.{IsDistinct}
use Rattle.dl_base.proofs.Members.{only}
use Rattle.dl_lit.specs.declared.literal.Literal.{Literal}
use Rattle.dl_lit.specs.Literal.{literal_eq}
use Rattle.dl_lit.specs.Order.{literal_eq-Decides}
use Rattle.dl_names.specs.Paired.{number_in}
use Rattle.dl_names.proofs.NameLemmas.{number_at, number_within}
use Rattle.dl_graph.specs.Numbers.{no_literal}
use Rattle.dl_graph.specs.Named.{HasFacts}

-- ---- lists of lists

module _ {X : Type 0} (f g : X → List ℕ) where
  pub flat_agree : (xs : List X) → All (λ x. f x ≡ g x) xs → flat_map f xs ≡ flat_map g xs
  flat_agree [] h = refl
  flat_agree (x ∷ xs) h = λ i. All-head (λ y. f y ≡ g y) x xs h i ++ flat_agree xs (All-tail (λ y. f y ≡ g y) x xs h) i

pub flat_none : {X : Type 0} (f : X → List ℕ) (xs : List X) → All (λ x. f x ≡ []) xs → flat_map f xs ≡ []
flat_none f [] h = refl
flat_none f (x ∷ xs) h = λ i. All-head (λ y. f y ≡ []) x xs h i ++ flat_none f xs (All-tail (λ y. f y ≡ []) x xs h) i

-- ---- one fact more

pub facts_joined : (ls facts : List Literal) (marks : List Bool) (q : Literal) → IsDistinct ls → Contains ls q → number_in ls q < length marks
    → HasFacts ls facts marks → HasFacts ls (facts ++ q ∷ []) (set marks (number_in ls q) true)
facts_joined ls facts marks q distinct there room h = record {
  marked = λ n lt. elim (cases_eq n (number_in ls q)) [
    | inl e ↦
        let here : get_or ls n no_literal ≡ q = ap (λ k. get_or ls k no_literal) e ∙ (number_within ls q distinct there).1 no_literal in
        ap (λ k. get_or (set marks (number_in ls q) true) k false) e
        ∙ get_or-set_same marks (number_in ls q) true false room
        ∙ sym ((is_member-Decides literal_eq-Decides (facts ++ q ∷ []) (get_or ls n no_literal)).1
        (subst (λ (y : Literal). Contains (facts ++ q ∷ []) y) (sym here) (Contains-push facts q)))
    | inr apart ↦
        let other : get_or ls n no_literal ≢ q = λ e. apart (sym (number_at ls n no_literal distinct lt) ∙ ap (number_in ls) e) in
        get_or-set_other marks (number_in ls q) n true false apart ∙ h.marked n lt
        ∙ same_from_decides (is_member literal_eq facts (get_or ls n no_literal)) (is_member literal_eq (facts ++ q ∷ []) (get_or ls n no_literal))
        (is_member-Decides literal_eq-Decides facts (get_or ls n no_literal))
        (Decides-like (is_member literal_eq (facts ++ q ∷ []) (get_or ls n no_literal))
        (λ m. elim (Contains-append_cases facts (q ∷ []) (get_or ls n no_literal) m) [ inl old ↦ old | inr one ↦ absurd (other (only q (get_or ls n no_literal) one)) ])
        (λ m. Contains-append_left facts (q ∷ []) (get_or ls n no_literal) m)
        (is_member-Decides literal_eq-Decides (facts ++ q ∷ []) (get_or ls n no_literal)))
  ];
  within = omega (arith, h.within, length-set marks (number_in ls q) true);
}

-- marks that go on with no fact
pub facts_longer : (ls facts : List Literal) (marks marks' : List Bool) → ((n : ℕ) → n < length marks → get_or marks' n false ≡ get_or marks n false)
    → ((n : ℕ) → length marks ≤ n → n < length ls → get_or marks' n false ≡ false) → length marks' ≤ length ls → HasFacts ls facts marks → HasFacts ls facts marks'
facts_longer ls facts marks marks' same added few h = record {
  marked = λ n lt. elim (cases_lt n (length marks)) [
    | inl before ↦ same n before ∙ h.marked n lt
    | inr past ↦ added n past lt ∙ sym (get_or_past marks n false past) ∙ h.marked n lt
  ];
  within = few;
}
