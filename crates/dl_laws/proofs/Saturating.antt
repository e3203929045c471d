-- A derivation of all that follows over the literals of a theory, and the table that it gives.
use Rattle.std.proofs.Common.{◌≡◌, Bool, true, false, ◌&&◌, List, [], ◌⊎◌, inl, inr}
use Rattle.std.specs.Prelude.{Contains, IsTrue, filter}
use Rattle.std.specs.Bool.{Decides}
use Rattle.std.proofs.lemmas.Bool.Decides.{Decides-and}
use Rattle.std.proofs.lemmas.List.Elements.{All-contains, All-weaker, filter_passes}
use Rattle.std.proofs.lemmas.List.Kept.{AllPairs-filter}
use Rattle.std.specs.declared.cmp.Ordering.TheVariants.{Less}
use Rattle.dl_base.proofs.Filters.{Contains-kept}
use Rattle.dl_lit.specs.declared.literal.Literal.{Literal}
use Rattle.dl_lit.specs.declared.literal.Tagged.{Tagged}
use Rattle.dl_lit.specs.declared.literal.Family.{Family}
use Rattle.dl_lit.specs.Literal.{tagged}
use Rattle.dl_lit.specs.Order.{tagged_cmp, tagged_total, exact_tagged}
use Rattle.dl_theory.specs.Lists.{TheoryLists}
use Rattle.dl_theory.specs.Conditions.{Meets}
use Rattle.dl_theory.specs.Derivations.{IsDerivation, Follows}
use Rattle.dl_theory.specs.Listings.{Occurs, Mentions, Concludes, IsTable}
use Rattle.dl_theory.specs.Tests as test
use Rattle.dl_theory.proofs.Steps.{follows_all, member_follows, is_coherent}
use Rattle.dl_theory.proofs.Deciding.{decided, tagged_in}
use Rattle.dl_theory.proofs.Decided.{decides_meets, decides_member}
use Rattle.dl_theory.proofs.Closure.{meets_grows, derives_push, follows_step, follows_meets, mentions_closed, saturated_has}
use Rattle.dl_theory.proofs.Unmentioned.{refuted}
use Rattle.dl_laws.specs.Conclusions.{FollowsIsLeast}
use Rattle.dl_laws.proofs.Searching.{search}
use Rattle.dl_laws.proofs.Candidates.{literals, has_literal, mentions, decides_mentions, tags_of, has_tags}
use Rattle.dl_laws.proofs.Listing.{listed}

module _ (T : TheoryLists) where
  -- a derivation to which nothing over the literals of the theory can be added
  record Saturated : Type 0 where
    steps : List Tagged
    derivation : IsDerivation T steps
    saturated : (x : Tagged) → Mentions T x.literal → Meets T (Contains steps) x → Contains steps x

  meets_or_not : (steps : List Tagged) (x : Tagged) → Meets T (Contains steps) x ⊎ (¬ Meets T (Contains steps) x)
  meets_or_not steps x = decided (test.meets T (test.has steps) x) (decides_meets T (test.has steps) (Contains steps) (decides_member steps) x)

  saturated_one : Saturated
  saturated_one =
      let s =
      search (λ x. Mentions T x.literal) (λ x. x) (λ steps x. Meets T (Contains steps) x) (IsDerivation T) meets_or_not tagged_in
      (λ steps x h meets new. derives_push T steps x h new meets) (tags_of (literals T)) [] tt
      (λ x m. has_tags (literals T) x (has_literal T x.literal m)) in
      record { steps = s.seen; derivation = s.keeps; saturated = s.complete }

  has_all : (s : Saturated) → (x : Tagged) → Concludes T x → Contains s.steps x
  has_all s x h =
      saturated_has T (λ _. Unit {0}) (Mentions T) (mentions_closed T (λ _. Unit {0}) (λ _ _ _ _. tt)) (Contains s.steps)
      (λ y _ m meets. s.saturated y m meets) x h.1 tt h.0

  -- of the tagged literals over the literals of the theory, in order, those of the derivation
  abbrev keep : List Tagged → Tagged → Bool
  keep steps x = mentions T x.literal && test.has steps x

  decides_keep : (steps : List Tagged) (x : Tagged) → Decides (keep steps x) (Mentions T x.literal × Contains steps x)
  decides_keep steps x = Decides-and (mentions T x.literal) (test.has steps x) (decides_mentions T x.literal) (decides_member steps x)

  table_of : (s : Saturated) → (xs : List Tagged) × IsTable T xs
  table_of s =
      let all = listed tagged_total exact_tagged (tags_of (literals T)) in
      let kept = filter (keep s.steps) all.list in (
        kept,
        record {
          in_order = AllPairs-filter (λ x y. tagged_cmp x y ≡ Less) (keep s.steps) all.list all.in_order;
          sound = All-weaker (λ x. keep s.steps x ≡ true) (Concludes T)
              (λ x passes. let h = (decides_keep s.steps x).0 passes in (h.0, member_follows T s.steps x s.derivation h.1))
              kept (filter_passes (keep s.steps) all.list);
          complete = λ x h.
              Contains-kept (keep s.steps) all.list x
              (All-contains (Contains all.list) (tags_of (literals T)) x all.complete (has_tags (literals T) x (has_literal T x.literal h.0)))
              ((decides_keep s.steps x).1 (h.0, has_all s x h));
        },
      )

  -- a literal that is not mentioned is refuted, and so not proved
  unmentioned : (x : Tagged) → (¬ Mentions T x.literal) → Follows T x ⊎ (¬ Follows T x)
  unmentioned x none = by x.plus x.family x.literal (λ o. none (inl o))
    where
      by : (plus : Bool) (f : Family) (q : Literal) → (¬ Occurs T q) → Follows T (tagged plus f q) ⊎ (¬ Follows T (tagged plus f q))
      by false f q absent = inl (refuted T q absent f)
      by true f q absent = inr (λ proved. is_coherent T (tagged true f q) proved (refuted T q absent f))

  follows_or_not : (s : Saturated) → (x : Tagged) → Follows T x ⊎ (¬ Follows T x)
  follows_or_not s x =
      elim (decided (mentions T x.literal) (decides_mentions T x.literal)) [
        | inr none ↦ unmentioned x none
        | inl mentioned ↦ elim (tagged_in s.steps x) [
          | inl there ↦ inl (member_follows T s.steps x s.derivation there)
          | inr new ↦ inr (λ follows. new (has_all s x (mentioned, follows)))
        ]
      ]

pub follows_is_least : (T : TheoryLists) → FollowsIsLeast T
follows_is_least T = record {
  closed = follows_step T (Follows T) (λ y f. f);
  founded = follows_meets T;
  least = λ C closed.
      follows_all T (λ x. IsTrue (C x))
      (λ done x all meets.
      closed x (meets_grows T (Contains done) (λ y. IsTrue (C y)) (λ y m. All-contains (λ z. IsTrue (C z)) done y all m) x meets));
  has_table = table_of T (saturated_one T);
  decided = follows_or_not T (saturated_one T);
}
