-- What does not follow, of what matters, is what the marks of a region leave open.
use Rattle.std.proofs.Common.{◌≡◌, ℕ, ◌<◌, ◌+◌, Bool, true, false, cond, Some, List, [], ◌∷◌, ◌++◌, length, take, get_or, inl, inr, sym, subst, ap, refl, ◌∙◌, arith, true≢false}
use Rattle.std.specs.Prelude.{All, Contains, slice_get}
use Rattle.std.specs.List.{flat_map}
use Rattle.std.proofs.lemmas.List.{append-nil, take_more}
use Rattle.std.proofs.lemmas.List.Concat.{flat_map-cons}
use Rattle.std.proofs.lemmas.Grind.{flat_map-append}
use Rattle.std.proofs.lemmas.Option.{slice_get_within, get_or_from_slice_get}
use Rattle.std.specs.declared.cmp.Ordering.{Ordering}
use Rattle.std.proofs.lemmas.List.Elements.{All-contains, All-append, All-cons, All-nil, All-weaker, Contains-append_left, Contains-append_right}
use Rattle.dl_lit.specs.declared.literal.Literal.{Literal}
use Rattle.dl_lit.specs.declared.literal.Tagged.{Tagged}
use Rattle.dl_lit.specs.declared.literal.Family.{Family}
use Rattle.dl_lit.specs.Literal.{tagged}
use Rattle.dl_lit.specs.Order.{tagged_cmp}
use Rattle.dl_theory.specs.Derivations.{Follows}
use Rattle.dl_theory.specs.Listings.{IsListOf}
use Rattle.dl_theory.specs.Verdicts.{Back, needs, Matters, IsExactGap}
use Rattle.dl_graph.specs.Region.{Numbers}
use Rattle.dl_graph.specs.Numbers.{NetLists, IsNumbered, number, literal_at}
use Rattle.dl_fill.specs.Before.{Before, tag_of, IsExact}
use Rattle.dl_fill.proofs.Links.{number_finds, number_inside}
use Rattle.dl_fill.proofs.Gating.{known}
use Rattle.dl_base.proofs.Members.{in_flat_map}
use Rattle.dl_derive.proofs.Spread.{all_flat_map}
use Rattle.dl_derive.specs.Back.{IsBack}
use Rattle.dl_derive.proofs.Resting.{back_named}
use Rattle.dl_derive.specs.Gap.{open_tag, open_family, open_number, open_members}

-- a list of what has P is one of what has Q, where these are the same
pub list_like : {A : Type 0} (R : A → A → Ordering) (P Q : A → Type 0) (xs : List A) → ((x : A) → P x → Q x) → ((x : A) → Q x → P x) → IsListOf R P xs → IsListOf R Q xs
list_like R P Q xs to from h = record { in_order = h.in_order; sound = All-weaker P Q to xs h.sound; complete = λ x q. h.complete x (from x q) }

-- one more member
pub flat_take : {A B : Type 0} (f : A → List B) (xs : List A) (i : ℕ) (x : A) → slice_get xs i ≡ Some x
    → flat_map f (take (i + 1) xs) ≡ flat_map f (take i xs) ++ f x
flat_take {A} {B} f xs i x e =
    ap (flat_map f) (take_more xs i x (slice_get_within xs i x e))
    ∙ flat_map-append f (take i xs) (get_or xs i x ∷ [])
    ∙ ap (λ (ys : List B). flat_map f (take i xs) ++ ys)
    (flat_map-cons f (get_or xs i x) [] ∙ append-nil (f (get_or xs i x)) ∙ ap f (get_or_from_slice_get xs i x x e))

module _ (N : NetLists) (numbered : IsNumbered N) (b : Before) (f : Family) (exact : (g : Family) → Contains (needs f) g → IsExact N b g)
    (q : ℕ) (lt : q < length N.names) (region : Numbers) (all : IsBack N q region) where
  abbrev IsOpen : Tagged → Type 0
  IsOpen x = Matters N.theory f (literal_at N q) x × (¬ Follows N.theory x)

  open_by : (P : Tagged → Type 0) (c : Bool) (x : Tagged) → (c ≡ false → P x) → All P (cond c [] (x ∷ []))
  open_by P true x h = All-nil P
  open_by P false x h = All-cons P x [] (h refl) (All-nil P)

  has_open : (c : Bool) (x : Tagged) → c ≡ false → Contains (cond c [] (x ∷ [])) x
  has_open true x e = absurd (true≢false e)
  has_open false x e = (0, omega arith, refl)

  tag_sound : (n : ℕ) → Contains region.members n → (g : Family) → Contains (needs f) g → (plus : Bool) → All IsOpen (open_tag N b.marked g plus n)
  tag_sound n m g needed plus =
      let s = (all.members n).0 m in
      open_by IsOpen (b.marked (tag_of plus g) n) (tagged plus g (literal_at N n))
      (λ e. ((s.1, needed), λ follows. true≢false (sym ((exact g needed plus n s.0).1 follows) ∙ e)))

  all_open : All IsOpen (open_members N b.marked f region.members)
  all_open =
      all_flat_map (open_number N b.marked f) IsOpen region.members
      (λ n m. all_flat_map (open_family N b.marked n) IsOpen (needs f)
      (λ g needed. All-append IsOpen (open_tag N b.marked g true n) (open_tag N b.marked g false n) (tag_sound n m g needed true) (tag_sound n m g needed false)))

  in_family : (n : ℕ) (g : Family) (plus : Bool) → b.marked (tag_of plus g) n ≡ false → Contains (open_family N b.marked n g) (tagged plus g (literal_at N n))
  in_family n g true e =
      Contains-append_left (open_tag N b.marked g true n) (open_tag N b.marked g false n) (tagged true g (literal_at N n))
      (has_open (b.marked (tag_of true g) n) (tagged true g (literal_at N n)) e)
  in_family n g false e =
      Contains-append_right (open_tag N b.marked g true n) (open_tag N b.marked g false n) (tagged false g (literal_at N n))
      (has_open (b.marked (tag_of false g) n) (tagged false g (literal_at N n)) e)

  open_has : (x : Tagged) → IsOpen x → Contains (open_members N b.marked f region.members) x
  open_has x h =
      let there = back_named N numbered q lt x.literal h.0.0 in
      let e : literal_at N (number N x.literal) ≡ x.literal = number_finds N numbered x.literal there in
      let inside : number N x.literal < length N.names = number_inside N numbered x.literal there in
      let m = (all.members (number N x.literal)).1 (inside, subst (Back N.theory (literal_at N q)) (sym e) h.0.0) in
      let unmarked : b.marked (tag_of x.plus x.family) (number N x.literal) ≡ false =
      elim (known (b.marked (tag_of x.plus x.family) (number N x.literal))) [
        | inr unmarked ↦ unmarked
        | inl marked ↦
            absurd (h.1 (subst (λ (c : Literal). Follows N.theory (tagged x.plus x.family c)) e ((exact x.family h.0.1 x.plus (number N x.literal) inside).0 marked)))
      ] in
      in_flat_map (open_number N b.marked f) region.members (number N x.literal) x m
      (in_flat_map (open_family N b.marked (number N x.literal)) (needs f) x.family x h.0.1
      (subst (λ (c : Literal). Contains (open_family N b.marked (number N x.literal) x.family) (tagged x.plus x.family c)) e
      (in_family (number N x.literal) x.family x.plus unmarked)))

  pub is_exact_gap : (xs : List Tagged) → IsListOf tagged_cmp (Contains (open_members N b.marked f region.members)) xs
      → IsExactGap N.theory f (literal_at N q) xs
  is_exact_gap xs h =
      list_like tagged_cmp (Contains (open_members N b.marked f region.members)) IsOpen xs
      (λ x m. All-contains IsOpen (open_members N b.marked f region.members) x all_open m) open_has h
