-- What right marks say of literals, one by one.
use Rattle.std.proofs.Common.{◌≡◌, ℕ, ◌<◌, ◌≤◌, Bool, true, false, None, List, length, map, refl, sym, subst, arith, if◌then◌else◌}
use Rattle.std.specs.Prelude.{◌↔◌, Decides}
use Rattle.std.proofs.lemmas.List.Elements.{All-map, All-weaker}
use Rattle.std.proofs.lemmas.Simd.{map-map}
use Rattle.dl_lit.specs.declared.literal.Literal.{Literal}
use Rattle.dl_lit.specs.declared.literal.Family.{Family}
use Rattle.dl_lit.specs.Literal.{tagged}
use Rattle.dl_theory.specs.Lists.{TheoryLists}
use Rattle.dl_theory.specs.Derivations.{Follows}
use Rattle.dl_theory.specs.Listings.{AreLiterals}
use Rattle.dl_theory.specs.Verdicts.{IsVerdict}
use Rattle.dl_theory.specs.declared.answer.Verdict.TheVariants.{Proved, Refuted, Neither}
use Rattle.dl_marks.specs.Marks.{Marking, places, marked}
use Rattle.dl_graph.specs.Numbers.{NetLists, literal_at}
use Rattle.dl_fill.specs.Before.{tag_of}
use Rattle.dl_fill.specs.Filled.{IsRight}
use Rattle.dl_fill.proofs.Written.{right_decides}
use Rattle.dl_conclusions.specs.declared.conclusion.Conclusion.{Conclusion}
use Rattle.dl_conclusions.specs.Conclusions.{AreConclusions, verdict_at, conclusion_at}
use Rattle.dl_conclusions.specs.Orders.{IsOrder}

module _ (T : TheoryLists) (f : Family) (q : Literal) where
  verdict_by : (p r : Bool) → Decides p (Follows T (tagged true f q)) → Decides r (Follows T (tagged false f q))
      → IsVerdict T f q (if p then Proved else if r then Refuted else Neither)
  verdict_by true r proved refuted = proved.0 refl
  verdict_by false true proved refuted = refuted.0 refl
  verdict_by false false proved refuted = (λ h. let e = proved.1 h in cc, λ h. let e = refuted.1 h in cc)

module _ (N : NetLists) (m : Marking) (f : Family) (room : length N.names ≤ places m) (right : IsRight N m f) where
  decided : (plus : Bool) (n : ℕ) → n < length N.names → Decides (marked m (tag_of plus f) n) (Follows N.theory (tagged plus f (literal_at N n)))
  decided plus n lt = right_decides N m plus f n lt (right plus n (omega (arith, room, lt)))

  pub verdict_right : (n : ℕ) → n < length N.names → IsVerdict N.theory f (literal_at N n) (verdict_at m f n)
  verdict_right n lt =
      verdict_by N.theory f (literal_at N n) (marked m (tag_of true f) n) (marked m (tag_of false f) n) (decided true n lt) (decided false n lt)

  pub are_conclusions : (order : List ℕ) → IsOrder N order → AreConclusions N.theory f (map (conclusion_at N m f) order)
  are_conclusions order h = record {
    listed = subst (AreLiterals N.theory) (sym (map-map (λ (c : Conclusion). c.literal) (conclusion_at N m f) order)) h.listed;
    right = All-map (λ (c : Conclusion). IsVerdict N.theory f c.literal c.verdict) (conclusion_at N m f) order
        (All-weaker (λ n. n < length N.names) (λ n. IsVerdict N.theory f (literal_at N n) (verdict_at m f n)) verdict_right order h.within);
  }

-- the order of what is read of a net is that of the net
pub order_read : (N M : NetLists) (order : List ℕ) → M ≡ record N { pending = None; frozen = false } → IsOrder M order ↔ IsOrder N order
order_read N M order is = (
  λ h. let o = subst (λ (G : NetLists). IsOrder G order) is h in record { within = o.within; listed = o.listed },
  λ h. subst (λ (G : NetLists). IsOrder G order) (sym is) (record { within = h.within; listed = h.listed }),
)
