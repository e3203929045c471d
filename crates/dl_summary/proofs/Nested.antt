-- What the inclusions say of counts.
use Rattle.std.proofs.Common.{◌≡◌, ◌≤◌, Bool, true, false, cond, List, [], ◌∷◌, map, refl, sym, true≢false, arith}
use Rattle.std.specs.Prelude.{count_by}
use Rattle.std.proofs.lemmas.List.Sums.{sum_by-cons}
use Rattle.dl_lit.specs.declared.literal.Literal.{Literal}
use Rattle.dl_lit.specs.declared.literal.Family.{Family}
use Rattle.dl_lit.specs.Literal.{tagged}
use Rattle.dl_theory.specs.declared.answer.Verdict.{Verdict}
use Rattle.dl_theory.specs.declared.answer.Verdict.TheVariants.{Proved, Refuted, Neither}
use Rattle.dl_theory.specs.Lists.{TheoryLists}
use Rattle.dl_theory.specs.Laws.{Includes}
use Rattle.dl_theory.specs.Verdicts.{IsVerdict}
use Rattle.dl_theory.proofs.Steps.{is_coherent}
use Rattle.dl_check.specs.declared.accepted.Accepted.{Accepted}
use Rattle.dl_summary.specs.Survey.{is_proved, is_refuted}
use Rattle.dl_summary.specs.Answers.{AreAnswers, verdict_of}

module _ (T : TheoryLists) (f g : Family) (q : Literal) where
  -- what is proved in f is proved in g
  proved_kept : Includes T true f g → (v w : Verdict) → IsVerdict T f q v → IsVerdict T g q w → is_proved v ≡ true → is_proved w ≡ true
  proved_kept more Proved Proved h k e = refl
  proved_kept more Proved Refuted h k e = absurd (is_coherent T (tagged true g q) (more q h) k)
  proved_kept more Proved Neither h k e = absurd (k.0 (more q h))
  proved_kept more Refuted w h k e = absurd (true≢false (sym e))
  proved_kept more Neither w h k e = absurd (true≢false (sym e))

  refuted_kept : Includes T false f g → (v w : Verdict) → IsVerdict T f q v → IsVerdict T g q w → is_refuted v ≡ true → is_refuted w ≡ true
  refuted_kept more Refuted Refuted h k e = refl
  refuted_kept more Refuted Proved h k e = absurd (is_coherent T (tagged false g q) (more q h) k)
  refuted_kept more Refuted Neither h k e = absurd (k.1 (more q h))
  refuted_kept more Proved w h k e = absurd (true≢false (sym e))
  refuted_kept more Neither w h k e = absurd (true≢false (sym e))

no_more : (b c : Bool) → (b ≡ true → c ≡ true) → cond b 1 0 ≤ cond c 1 0
no_more false true h = omega arith
no_more false false h = omega arith
no_more true true h = omega arith
no_more true false h = absurd (true≢false (sym (h refl)))

module _ (T : TheoryLists) (f g : Family) (p : Verdict → Bool)
    (kept : (q : Literal) (v w : Verdict) → IsVerdict T f q v → IsVerdict T g q w → p v ≡ true → p w ≡ true) where
  counted_kept : (qs : List Literal) (xs ys : List Accepted) → AreAnswers T f qs xs → AreAnswers T g qs ys → count_by p (map verdict_of xs) ≤ count_by p (map verdict_of ys)
  counted_kept [] [] [] h k = omega arith
  counted_kept [] [] (y ∷ ys) h k = absurd k
  counted_kept [] (x ∷ xs) ys h k = absurd h
  counted_kept (q ∷ qs) [] ys h k = absurd h
  counted_kept (q ∷ qs) (x ∷ xs) [] h k = absurd k
  counted_kept (q ∷ qs) (x ∷ xs) (y ∷ ys) h k =
      let first = no_more (p x.verdict) (p y.verdict) (kept q x.verdict y.verdict h.0.right k.0.right) in
      let rest = counted_kept qs xs ys h.1 k.1 in
      omega (arith, first, rest, sum_by-cons (λ w. cond (p w) 1 0) x.verdict (map verdict_of xs), sum_by-cons (λ w. cond (p w) 1 0) y.verdict (map verdict_of ys))

module _ (T : TheoryLists) (f g : Family) (qs : List Literal) (xs ys : List Accepted) (h : AreAnswers T f qs xs) (k : AreAnswers T g qs ys) where
  pub proved_more : Includes T true f g → count_by is_proved (map verdict_of xs) ≤ count_by is_proved (map verdict_of ys)
  proved_more more = counted_kept T f g is_proved (λ q. proved_kept T f g q more) qs xs ys h k

  pub refuted_more : Includes T false f g → count_by is_refuted (map verdict_of xs) ≤ count_by is_refuted (map verdict_of ys)
  refuted_more more = counted_kept T f g is_refuted (λ q. refuted_kept T f g q more) qs xs ys h k
