use Rattle.std.proofs.Common.{◌≡◌, ℕ, List, [], ◌∷◌, ◌++◌, Option, inl, inr, sym, ap, subst, ◌∙◌}
use Rattle.std.specs.Prelude.{Contains, MatchOption}
use Rattle.std.proofs.lemmas.List.{get_or_append_left, map_push}
use Rattle.std.proofs.lemmas.List.Elements.{Contains-push_cases}
use Rattle.dl_sup.specs.Searching.{items_of, item_at}
use Rattle.dl_sup.proofs.search.advance.Goals as goal

pub returns-in-None-place : goal.returns-in-None-place
returns-in-None-place c =
    let old = c.args.front.now in
    let new = c.step.new.front in
    let pushed : new.visits ≡ old.visits ++ (c.in-Some.item, old.next) ∷ [] =
    subst (λ (o : Option ℕ). MatchOption o (new.visits ≡ old.visits) (λ item. new.visits ≡ old.visits ++ (item, old.next) ∷ [])) c.in-Some.is c.in_ok-step.ensures.met in (
      record {
        front = c.in_ok-step.ensures.front;
        first =
            ap (λ (vs : List (ℕ × ℕ)). item_at vs 0) pushed
            ∙ ap (λ (v : ℕ × ℕ). v.0) (get_or_append_left old.visits ((c.in-Some.item, old.next) ∷ []) (0, 0) 0 c.requires.front.started);
      },
      c.in_ok-step.ensures.less,
      λ x m.
          let there = subst (λ (l : List ℕ). Contains l x) (ap items_of pushed ∙ map_push (λ (v : ℕ × ℕ). v.0) old.visits (c.in-Some.item, old.next)) m in
          elim (Contains-push_cases (items_of old.visits) c.in-Some.item x there) [
            | inl was ↦ inl was
            | inr new ↦ inr (λ k. c.in-None-place.ensures (subst (Contains (items_of c.args.other.now)) (sym new) k))
          ],
    )
