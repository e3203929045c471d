-- What meets its condition over what follows, follows; and the table is the least closed list.
use Rattle.std.proofs.Common.{◌≡◌, List, [], ◌∷◌, ◌++◌, inl, inr, Bool, true, false, sym, subst, ap, refl, get_or}
use Rattle.std.specs.Prelude.{All, Contains, not}
use Rattle.std.proofs.lemmas.List.Elements.{All-nil, All-cons, All-push, All-head, All-tail, All-weaker, All-contains, All-contains_itself, Contains-push, Contains-append_left, Contains-get_or}
use Rattle.dl_lit.specs.declared.literal.Literal.{Literal}
use Rattle.dl_lit.specs.declared.literal.Tagged.{Tagged}
use Rattle.dl_lit.specs.Literal.{complement}
use Rattle.dl_base.proofs.Members.{only}
use Rattle.dl_theory.specs.Lists.{TheoryLists}
use Rattle.dl_lit.specs.declared.literal.Family.{Family}
use Rattle.dl_theory.specs.Verdicts.{needs, Reaches, Back}
use Rattle.dl_theory.specs.Conditions.{Meets}
use Rattle.dl_theory.specs.Derivations.{Derives, IsDerivation, Follows}
use Rattle.dl_theory.specs.Listings.{Occurs, Mentions, Concludes, IsTable, IsClosed}
use Rattle.dl_theory.specs.Laws.{IsLeastClosed}
use Rattle.dl_theory.proofs.Within.{meets_more, IsClosedUnder}
use Rattle.dl_theory.proofs.Steps.{derives_cut, derives_join, member_follows, follows_all, anything_closed}
use Rattle.dl_theory.proofs.Deciding.{tagged_in}
use Rattle.dl_theory.proofs.Finite.{meets_rests}

not_twice : (b : Bool) → not (not b) ≡ b
not_twice true = refl
not_twice false = refl

pub complement_twice : (q : Literal) → complement (complement q) ≡ q
complement_twice q = ap (λ b. record q { positive = b }) (not_twice q.positive)

module _ (T : TheoryLists) where
  -- more may count as derived
  pub meets_grows : (got more : Tagged → Type 0) → ((y : Tagged) → got y → more y) → (x : Tagged) → Meets T got x → Meets T more x
  meets_grows got more f x = meets_more T (λ _. Unit {0}) (λ _. Unit {0}) (anything_closed T) got more (λ y _ _. f y) x tt tt

  pub derives_push : (steps : List Tagged) (x : Tagged) → IsDerivation T steps → (¬ Contains steps x) → Meets T (Contains steps) x → IsDerivation T (steps ++ x ∷ [])
  derives_push steps x h new meets = derives_join T [] steps (x ∷ []) h (new, meets, tt)

  -- a derivation that has all members of two
  record Both (P rest : List Tagged) : Type 0 where
    steps : List Tagged
    derivation : IsDerivation T steps
    first : All (Contains steps) P
    second : All (Contains steps) rest

  merge : (P before rest : List Tagged) → IsDerivation T P → All (Contains P) before → Derives T before rest → Both P rest
  merge P before [] h inside k =
      record { steps = P; derivation = h; first = All-contains_itself P; second = All-nil (Contains P) }
  merge P before (x ∷ rest) h inside k =
      let meets = meets_grows (Contains before) (Contains P) (λ y m. All-contains (Contains P) before y inside m) x k.1 in
      elim (tagged_in P x) as (λ _. Both P (x ∷ rest)) [
        | inl there ↦
            let more = merge P (before ++ x ∷ []) rest h (All-push (Contains P) before x inside there) k.2 in
            record {
              steps = more.steps;
              derivation = more.derivation;
              first = more.first;
              second = All-cons (Contains more.steps) x rest (All-contains (Contains more.steps) P x more.first there) more.second;
            }
        | inr new ↦
            let Q : List Tagged = P ++ x ∷ [] in
            let keeps = Contains-append_left P (x ∷ []) in
            let more = merge Q (before ++ x ∷ []) rest (derives_push P x h new meets)
            (All-push (Contains Q) before x (All-weaker (Contains P) (Contains Q) keeps before inside) (Contains-push P x)) k.2 in
            record {
              steps = more.steps;
              derivation = more.derivation;
              first = All-weaker (Contains Q) (Contains more.steps) (λ y m. All-contains (Contains more.steps) Q y more.first m) P
                  (All-weaker (Contains P) (Contains Q) keeps P (All-contains_itself P));
              second = All-cons (Contains more.steps) x rest (All-contains (Contains more.steps) Q x more.first (Contains-push P x)) more.second;
            }
      ]

  -- a derivation of all of a list, each of which follows
  gather : (xs : List Tagged) → All (Follows T) xs → (steps : List Tagged) × IsDerivation T steps × All (Contains steps) xs
  gather [] h = ([], tt, All-nil (Contains []))
  gather (x ∷ xs) h =
      let rest = gather xs (All-tail (Follows T) x xs h) in
      let f : Follows T x = All-head (Follows T) x xs h in
      let own : List Tagged = f.before ++ x ∷ [] in
      let both = merge rest.0 [] own rest.1 (All-nil (Contains rest.0)) f.derivation in (
        both.steps,
        both.derivation,
        All-cons (Contains both.steps) x xs
            (All-contains (Contains both.steps) own x both.second (Contains-push f.before x))
            (All-weaker (Contains rest.0) (Contains both.steps) (λ y m. All-contains (Contains both.steps) rest.0 y both.first m) xs rest.2),
      )

  -- what meets its condition over members that follow, follows
  pub follows_over : (xs : List Tagged) (x : Tagged) → All (Follows T) xs → Meets T (Contains xs) x → Follows T x
  follows_over xs x h meets =
      let all = gather xs h in
      elim (tagged_in all.0 x) as (λ _. Follows T x) [
        | inl there ↦ member_follows T all.0 x all.1 there
        | inr new ↦ record {
          before = all.0;
          derivation = derives_push all.0 x all.1 new
              (meets_grows (Contains xs) (Contains all.0) (λ y m. All-contains (Contains all.0) xs y all.2 m) x meets);
        }
      ]

  pub follows_step : (got : Tagged → Type 0) → ((y : Tagged) → got y → Follows T y) → (x : Tagged) → Meets T got x → Follows T x
  follows_step got f x meets =
      let r = meets_rests T got x meets in
      follows_over r.0 x (All-weaker got (Follows T) f r.0 r.1) r.2

  -- what follows meets its condition over what follows
  pub follows_meets : (x : Tagged) → Follows T x → Meets T (Follows T) x
  follows_meets x f =
      let parts = derives_cut T [] f.before (x ∷ []) f.derivation in
      meets_grows (Contains f.before) (Follows T) (λ y m. member_follows T f.before y parts.0 m) x parts.1.1

  pub mentions_complement : (q : Literal) → Mentions T q → Mentions T (complement q)
  mentions_complement q (inl o) = inr (subst (λ (c : Literal). Occurs T c) (sym (complement_twice q)) o)
  mentions_complement q (inr o) = inl o

  pub mentions_closed : (F : Family → Type 0) → ((f g : Family) → Contains (needs f) g → F f → F g) → IsClosedUnder T F (Mentions T)
  mentions_closed F families = record {
    families = families;
    attacked = λ q c h m. subst (λ (d : Literal). Mentions T d) (sym (only (complement q) c m)) (mentions_complement q h);
    bodies = λ r m h k d lt. inl (inr (m.0, r, m.1, m.2, inr (Contains-get_or r.body k d lt)));
  }

  pub table_is_closed : (xs : List Tagged) → IsTable T xs → IsClosed T xs
  table_is_closed xs table = record {
    within = All-weaker (Concludes T) (λ x. Mentions T x.literal) (λ x h. h.0) xs table.sound;
    closed = λ x mentioned meets.
        table.complete x (mentioned, follows_over xs x (All-weaker (Concludes T) (Follows T) (λ y h. h.1) xs table.sound) meets);
  }

  -- what follows is got, where what meets its condition is got, within families and literals that are enough by themselves
  pub saturated_has : (F : Family → Type 0) (S : Literal → Type 0) → IsClosedUnder T F S → (got : Tagged → Type 0)
      → ((x : Tagged) → F x.family → S x.literal → Meets T got x → got x)
      → (x : Tagged) → Follows T x → F x.family → S x.literal → got x
  saturated_has F S closed got saturated =
      follows_all T (λ y. F y.family → S y.literal → got y)
      (λ done x all meets fam inside.
      saturated x fam inside
      (meets_more T F S closed (Contains done) got
      (λ y near within m. All-contains (λ z. F z.family → S z.literal → got z) done y all m near within)
      x fam inside meets))

pub is_least_closed : (T : TheoryLists) → IsLeastClosed T
is_least_closed T xs table = record {
  closed = table_is_closed T xs table;
  least = λ ys closed k d lt.
      let h = table.sound k d lt in
      saturated_has T (λ _. Unit {0}) (Mentions T) (mentions_closed T (λ _. Unit {0}) (λ _ _ _ _. tt)) (Contains ys) (λ x _. closed.closed x) _ h.1 tt h.0;
}

-- what rests on a literal, and the families that matter, are enough by themselves
pub back_closed : (T : TheoryLists) (F : Family → Type 0) → ((f g : Family) → Contains (needs f) g → F f → F g) → (q : Literal) → IsClosedUnder T F (Back T q)
back_closed T F families q = record {
  families = families;
  attacked = λ p c h m. Reaches.step p c h (inl m);
  bodies = λ r m h k d lt. Reaches.step r.head (get_or r.body k d) h (inr (m.0, r, m.1, m.2, (refl, Contains-get_or r.body k d lt)));
}
