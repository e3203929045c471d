-- Marks that are copied from the whole to a part.
use Rattle.std.proofs.Common.{◌≡◌, ℕ, ◌<◌, Bool, true, false, not, List, length, inl, inr, refl, sym, subst, ap, ◌∙◌, true≢false, arith}
use Rattle.std.specs.Prelude.{All, Contains}
use Rattle.std.specs.Bool.{Decides}
use Rattle.std.proofs.lemmas.List.Elements.{All-contains, Contains-get_or}
use Rattle.dl_base.proofs.Members.{Contains-mapped, mapped_from}
use Rattle.dl_lit.specs.declared.literal.Literal.{Literal}
use Rattle.dl_lit.specs.declared.literal.Tag.{Tag}
use Rattle.dl_lit.specs.declared.literal.Family.{Family}
use Rattle.dl_lit.specs.declared.literal.Family.TheVariants.{Definite, Blocking, Propagating, Support}
use Rattle.dl_lit.specs.Literal.{tagged}
use Rattle.dl_theory.specs.Lists.{TheoryLists}
use Rattle.dl_theory.specs.Derivations.{Follows}
use Rattle.dl_theory.specs.Listings.{Occurs}
use Rattle.dl_theory.specs.Marks.{AreRight}
use Rattle.dl_theory.proofs.Steps.{is_coherent}
use Rattle.dl_theory.proofs.Unmentioned.{refuted}
use Rattle.dl_marks.specs.Marks.{Marking, places, marked}
use Rattle.dl_graph.specs.Numbers.{NetLists, IsNumbered, no_literal, literal_at, number}
use Rattle.dl_fill.specs.Before.{tag_of}
use Rattle.dl_fill.specs.Filled.{stands}
use Rattle.dl_fill.proofs.Written.{right_decides, decides_right}
use Rattle.dl_derive.specs.Part.{AreExactAt, Copies, HasAllBehind, IsOf, IsPart}
use Rattle.dl_derive.proofs.Parts.{follows_whole, follows_part}

pub each_family : (P : Family → Type 0) → P Definite → P Blocking → P Propagating → P Support → (f : Family) → P f
each_family P d b p s Definite = d
each_family P d b p s Blocking = b
each_family P d b p s Propagating = p
each_family P d b p s Support = s

pub each_sign : (P : Bool → Type 0) → P true → P false → (b : Bool) → P b
each_sign P plus minus true = plus
each_sign P plus minus false = minus

pub copies_then : (m : Marking) (from to : ℕ) (a b c : Marking) → Copies m from to a b → Copies m from to b c → Copies m from to a c
copies_then m from to a b c g h = record {
  kept = λ t e. h.kept t (g.kept t e);
  others = λ t n apart. h.others t n apart ∙ g.others t n apart;
  places = h.places ∙ g.places;
  owned = λ n. h.owned n ∙ g.owned n;
}

-- a literal that is at none of the numbers
module _ (N : NetLists) (numbered : IsNumbered N) (numbers : List ℕ) (within : All (λ n. n < length N.names) numbers) where
  pub named_of : (q : Literal) → IsOf N numbers q → Contains N.names q
  named_of q of =
      let m = mapped_from (literal_at N) numbers q of in
      subst (Contains N.names) m.2 (Contains-get_or N.names m.0 no_literal (All-contains (λ n. n < length N.names) numbers m.0 within m.1))

  pub number_of : (q : Literal) (n : ℕ) → n < length N.names → literal_at N n ≡ q → IsOf N numbers q → Contains numbers n
  number_of q n lt is of =
      let m = mapped_from (literal_at N) numbers q of in
      let inside : m.0 < length N.names = All-contains (λ k. k < length N.names) numbers m.0 within m.1 in
      let same : m.0 ≡ n = sym (numbered.distinct m.0 inside) ∙ ap (number N) (m.2 ∙ sym is) ∙ numbered.distinct n lt in
      subst (Contains numbers) same m.1

module _ (S : Literal → Type 0) (T P : TheoryLists) (closed : HasAllBehind T S) (part : IsPart S T P) where
  -- the part speaks of no other literals
  absent : (q : Literal) → (¬ S q) → ¬ Occurs P q
  absent q never (inl fact) = never ((part.facts q).0 fact).1
  absent q never (inr rule) =
      let m = (part.rules rule.1).0 (rule.0, rule.2, rule.3) in
      elim rule.4 [
        | inl head ↦ never (subst S head m.1)
        | inr body ↦ never (All-contains S rule.1.body q (closed.bodies rule.1 m.0 m.1) body)
      ]

  -- at another literal the minus tags follow, and no others
  fresh_decides : (q : Literal) → (¬ S q) → (plus : Bool) (f : Family) → Decides (not plus) (Follows P (tagged plus f q))
  fresh_decides q never true f = (
    λ e. absurd (true≢false (sym e)),
    λ follows. absurd (is_coherent P (tagged true f q) follows (refuted P q (absent q never) f)),
  )
  fresh_decides q never false f = (λ e. refuted P q (absent q never) f, λ follows. refl)

  pub whole_decides : (x : Literal) (b : Bool) (plus : Bool) (f : Family) → S x → Decides b (Follows T (tagged plus f x)) → Decides b (Follows P (tagged plus f x))
  whole_decides x b plus f sx d = (
    λ e. follows_part S T P closed part (tagged plus f x) sx (d.0 e),
    λ follows. d.1 (follows_whole S T P closed part (tagged plus f x) sx follows),
  )

module _ (N M : NetLists) (m : Marking) (right : AreRight N.theory N.names (places m) (stands m)) (numbers : List ℕ)
    (closed : HasAllBehind N.theory (IsOf N numbers)) (part : IsPart (IsOf N numbers) N.theory M.theory) (copy : Marking) (n : ℕ) where
  pub fresh_exact : (¬ IsOf N numbers (literal_at M n)) → ((t : Tag) → marked copy t n ≡ not t.plus) → AreExactAt M copy n
  fresh_exact never fresh = λ t.
      subst (λ (b : Bool). Decides b (Follows M.theory (tagged t.plus t.family (literal_at M n)))) (sym (fresh t))
      (fresh_decides (IsOf N numbers) N.theory M.theory closed part (literal_at M n) never t.plus t.family)

  pub copied_exact : (from : ℕ) → from < length N.names → Contains numbers from → literal_at N from ≡ literal_at M n
      → ((t : Tag) → marked copy t n ≡ marked m t from) → AreExactAt M copy n
  copied_exact from lt there same copied = λ t.
      let there : IsOf N numbers (literal_at N from) = Contains-mapped (literal_at N) numbers from there in
      let whole : Decides (marked m t from) (Follows N.theory (tagged t.plus t.family (literal_at N from))) =
      right_decides N m t.plus t.family from lt (right.right t.family t.plus from (omega (arith, lt, right.room))) in
      subst (λ (b : Bool). Decides b (Follows M.theory (tagged t.plus t.family (literal_at M n)))) (sym (copied t))
      (subst (λ (x : Literal). Decides (marked m t from) (Follows M.theory (tagged t.plus t.family x))) same
      (whole_decides (IsOf N numbers) N.theory M.theory closed part (literal_at N from) (marked m t from) t.plus t.family there whole))

pub exact_elsewhere : (M : NetLists) (old new : Marking) (n : ℕ) → ((t : Tag) → marked new t n ≡ marked old t n) → AreExactAt M old n → AreExactAt M new n
exact_elsewhere M old new n same exact = λ t.
    subst (λ (b : Bool). Decides b (Follows M.theory (tagged t.plus t.family (literal_at M n)))) (sym (same t)) (exact t)

pub exact_right : (M : NetLists) (copy : Marking) → places copy ≡ length M.names → ((n : ℕ) → n < length M.names → AreExactAt M copy n)
    → AreRight M.theory M.names (places copy) (stands copy)
exact_right M copy size exact = record {
  room = omega (arith, size);
  right = λ f plus n lt.
      let inside : n < length M.names = omega (arith, lt, size) in
      decides_right M copy plus f n inside (exact n inside (tag_of plus f));
}
