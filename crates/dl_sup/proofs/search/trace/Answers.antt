use Rattle.std.proofs.Common.{◌≡◌, ℕ, zero, suc, ◌<◌, ◌≤◌, List, [], ◌∷◌, ◌++◌, append_assoc, ap, ◌∙◌, arith}
use Rattle.dl_sup.specs.Searching.{item_at, from_at, trail, trail_by}
use Rattle.dl_sup.proofs.search.trace.Goals as goal

trail_step : (n at : ℕ) (visits : List (ℕ × ℕ)) (items total : List ℕ) → 0 < at → at ≤ n → from_at visits at < at → items ++ trail_by n visits at ≡ total
    → (m : ℕ) × (from_at visits at ≤ m) × ((items ++ item_at visits (from_at visits at) ∷ []) ++ trail_by m visits (from_at visits at) ≡ total)
trail_step zero at visits items total above fits falls h = absurd (omega (arith, above, fits))
trail_step (suc n) zero visits items total above fits falls h = absurd (omega (arith, above))
trail_step (suc n) (suc at) visits items total above fits falls h =
    (n, omega (arith, fits, falls), append_assoc items (item_at visits (from_at visits (suc at)) ∷ []) (trail_by n visits (from_at visits (suc at))) ∙ h)

pub loop-at-preserved : goal.loop-at-preserved
loop-at-preserved c =
    let visits = c.args.visits.now in
    let falls : from_at visits c.loop-at.at < c.loop-at.at = c.requires.falls c.loop-at.at c.loop-at-test.true c.loop-at.invariant.within in
    let from : c.from-at.result ≡ from_at visits c.loop-at.at = c.from-at.ensures in
    let so_far = c.loop-at.invariant.so_far in
    let next = trail_step so_far.0 c.loop-at.at visits c.loop-at.items.items (c.args.items.now.items ++ trail visits c.args.place) c.loop-at-test.true so_far.1 falls so_far.2 in
    record {
      within = omega (arith, from, falls, c.loop-at.invariant.within);
      so_far = (
        next.0,
        omega (arith, from, next.1),
        ap (λ (xs : List ℕ). xs ++ trail_by next.0 visits c.from-at.result) c.in_ok-push.ensures.items
            ∙ ap (λ x. (c.loop-at.items.items ++ x ∷ []) ++ trail_by next.0 visits c.from-at.result) (c.item.ensures ∙ ap (item_at visits) from)
            ∙ ap (λ n. (c.loop-at.items.items ++ item_at visits (from_at visits c.loop-at.at) ∷ []) ++ trail_by next.0 visits n) from
            ∙ next.2,
      );
    }
