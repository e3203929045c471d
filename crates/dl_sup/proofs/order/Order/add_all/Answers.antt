use Rattle.std.proofs.Common.{◌≡◌, ℕ, ◌<◌, List, [], ◌∷◌, ◌++◌, take, length, get_or, append_assoc, refl, sym, ap, subst, ◌∙◌, arith}
use Rattle.std.proofs.lemmas.List.{take_more}
use Rattle.std.proofs.lemmas.Option.{slice_get-get_or}
use Rattle.dl_sup.specs.declared.link.Link.{Link}
use Rattle.dl_sup.specs.declared.stop.SupStop.{SupStop}
use Rattle.dl_sup.specs.declared.stop.SupStop.TheVariants.{There, Cycle, Memory}
use Rattle.dl_sup.specs.declared.stop.LoadStop.{LoadStop}
use Rattle.dl_sup.specs.Settling.{IsSettled}
use Rattle.dl_sup.specs.Links.{IsOrder, link}
use Rattle.dl_sup.specs.Loading.{HasFront}
use Rattle.dl_sup.specs.Adding.{IsAddable, AreAddable, IsSupStop, StopsAt, IsLoadStop}
use Rattle.dl_sup.proofs.Cycles.{order_addable, AreAddable-push}
use Rattle.dl_sup.proofs.order.Order.add_all.Goals as goal

pub loop-at-init : goal.loop-at-init
loop-at-init c =
    let f = subst (λ (ps : List Link). HasFront ps c.args.links.now c.load_front.new.best c.in_ok-loaded.loaded) c.self.view_is c.in_ok-loaded.ensures in
    record {
      within = f.within;
      front = order_addable c.args.self.now (take c.in_ok-loaded.loaded c.args.links.now) (subst (λ (ps : List Link). IsOrder ps) f.front.added f.front.order);
      added = f.front.added;
      held = refl;
    }

stops : (old fresh new links : List Link) (at : ℕ) (stop : SupStop) → at < length links → AreAddable old (take at links) → fresh ≡ old ++ take at links → new ≡ fresh
    → IsSupStop fresh (get_or links at (link 0 0)) stop → StopsAt old new links at stop
stops old fresh new links at stop within front added kept cause = record {
  refused = get_or links at (link 0 0);
  stands = slice_get-get_or links at (link 0 0) within;
  front = front;
  added = kept ∙ added;
  cause = subst (λ (ps : List Link). IsSupStop ps (get_or links at (link 0 0)) stop) (sym kept) cause;
}

settled : (old fresh new links : List Link) (at : ℕ) (result : LoadStop) (stop : SupStop) → IsSettled old fresh new at result stop → StopsAt old fresh links at stop
    → IsLoadStop old new links result
settled old fresh new links at result There s h =
    subst (IsLoadStop old new links) (sym s.1) (subst (λ (ps : List Link). StopsAt old ps links at There) (sym s.0) h)
settled old fresh new links at result (Cycle track) s h =
    subst (IsLoadStop old new links) (sym s.1) (subst (λ (ps : List Link). StopsAt old ps links at (Cycle track)) (sym s.0) h)
settled old fresh new links at result Memory s h = subst (IsLoadStop old new links) (sym s.1) s.0

pub returns-in-Err-clause-stopped : goal.returns-in-Err-clause-stopped
returns-in-Err-clause-stopped c =
    let inv = c.loop-at.invariant in
    settled c.args.self.now c.add.new.self c.settle.new.order c.args.links.now c.loop-at.at c.settle.result c.in-Err.stop
    (subst (λ (ps : List Link). IsSettled ps c.add.new.self c.settle.new.order c.loop-at.at c.settle.result c.in-Err.stop) inv.held c.settle.ensures)
    (stops c.args.self.now c.loop-at.fresh c.add.new.self c.args.links.now c.loop-at.at c.in-Err.stop c.loop-at-test.true inv.front inv.added c.in-Err.ensures.kept
    c.in-Err.ensures.stopped)

pub loop-at-preserved : goal.loop-at-preserved
loop-at-preserved c =
    let links = c.args.links.now in
    let old = c.args.self.now in
    let at = c.loop-at.at in
    let pair = get_or links at (link 0 0) in
    let inv = c.loop-at.invariant in
    let more = take_more links at (link 0 0) c.loop-at-test.true in
    record {
      within = omega (arith, c.loop-at-test.true);
      front =
          subst (AreAddable old) (sym more)
          (AreAddable-push old (take at links) pair inv.front (subst (λ (ps : List Link). IsAddable ps pair) inv.added c.in-Ok.ensures.accepted));
      added =
          c.in-Ok.ensures.added
          ∙ ap (λ (ps : List Link). ps ++ pair ∷ []) inv.added
          ∙ append_assoc old (take at links) (pair ∷ [])
          ∙ ap (λ (ps : List Link). old ++ ps) (sym more);
      held = inv.held;
    }
