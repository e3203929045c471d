use Rattle.std.proofs.Common.{◌≡◌, ℕ, zero, suc, List, [], ◌∷◌, ◌++◌, Some, take, append_assoc, sym, subst}
use Rattle.std.specs.Prelude.{slice_get}
use Rattle.std.proofs.lemmas.List.{append-nil}
use Rattle.dl_sup.specs.declared.link.Link.{Link}
use Rattle.dl_sup.specs.declared.stop.LoadStop.{LoadStop}
use Rattle.dl_sup.specs.declared.stop.LoadStop.TheVariants.{There, Cycle, Memory}
use Rattle.dl_sup.specs.declared.stop.SupStop.{SupStop}
use Rattle.dl_sup.specs.declared.stop.SupStop.TheVariants as sup_stop
use Rattle.dl_sup.specs.Links.{IsOrder}
use Rattle.dl_sup.specs.Adding.{IsAddable, AreAddable, StopsAt, IsLoadStop}
use Rattle.dl_sup.specs.Extending.{place_of_stop}
use Rattle.dl_sup.proofs.Cycles.{order_addable}
use Rattle.dl_sup.proofs.extend.load.Goals as goal

addable_at : (old links : List Link) (at : ℕ) (p : Link) → AreAddable old links → slice_get links at ≡ Some p → IsAddable (old ++ take at links) p
addable_at old [] at p h e = cc
addable_at old (q ∷ more) zero p h e =
    let same : q ≡ p = cc in
    subst (λ (ps : List Link). IsAddable ps p) (sym (append-nil old)) (subst (IsAddable old) same h.0)
addable_at old (q ∷ more) (suc at) p h e =
    subst (λ (ps : List Link). IsAddable ps p) (append_assoc old (q ∷ []) (take at more)) (addable_at (old ++ q ∷ []) more at p h.1 e)

not_refused : (links new : List Link) (at : ℕ) (stop : SupStop) → IsOrder links → (h : StopsAt [] new links at stop) → IsAddable new h.refused
not_refused links new at stop order h =
    subst (λ (ps : List Link). IsAddable ps h.refused) (sym h.added) (addable_at [] links at h.refused (order_addable [] links order) h.stands)

never_refused : (links new : List Link) (stop : LoadStop) (at : ℕ) → IsOrder links → IsLoadStop [] new links stop → place_of_stop stop ≡ Some at → ⊥
never_refused links new (There place) at order h e = (not_refused links new place sup_stop.There order h).0 h.cause
never_refused links new (Cycle place track) at order h e = (not_refused links new place (sup_stop.Cycle track) order h).1 (track, h.cause.1)
never_refused links new Memory at order h e = cc

pub unreachable-requires : goal.unreachable-requires
unreachable-requires c =
    never_refused c.args.links.now c.add_all.new.self c.in-Err.stop c.in-Some.field-0 c.requires
    (subst (λ (ps : List Link). IsLoadStop ps c.add_all.new.self c.args.links.now c.in-Err.stop) c.make-order.ensures c.in-Err.ensures.stopped)
    (sym c.in-Some.ensures)
