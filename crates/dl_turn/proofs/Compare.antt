-- What a look at the place tells after a join: the longer of the two beginnings begins with both.
use Rattle.std.proofs.Common.{◌≡◌, ℕ, List, sym, subst}
use Rattle.crossbeam_queue.specs.Fifo.{Learns}
use Rattle.dl_turn.specs.History.{StartsWith}
use Rattle.dl_turn.specs.Steps.{joined}
use Rattle.dl_turn.specs.Rules.{Holds}
use Rattle.dl_turn.specs.declared.view.PassView.{PassView}
use Rattle.dl_turn.specs.declared.view.Stage.TheVariants.{Seated}
use Rattle.dl_turn.proofs.Kept.{seated_kept}
use Rattle.dl_turn.proofs.Lists.{longer_begins}

pub compares : {B L S : Type 0} (start : B → S) (history : B → List L) (enrolled : B → ℕ) (number : L → ℕ) (none : S) (p : ℕ) (v : PassView L S)
    → v.stage ≡ Seated → Learns (Holds start history enrolled number none) p v (λ items. (h : List L) × StartsWith h v.seen × StartsWith h v.also_seen)
compares start history enrolled number none p v seated items views rule at =
    let k = seated_kept start history enrolled number none items views p v seated at rule in let f = k.fits p v at in (k.h, f.seen, f.also_seen)

pub joined_begins : {L S : Type 0} (v u w : PassView L S) → w ≡ joined v u → ((h : List L) × StartsWith h w.seen × StartsWith h w.also_seen) → StartsWith w.seen v.seen × StartsWith w.seen u.seen
joined_begins {L} {S} v u w e f =
    let P : PassView L S → Type 0 = λ x. ((h : List L) × StartsWith h x.seen × StartsWith h x.also_seen) → StartsWith x.seen v.seen × StartsWith x.seen u.seen in
    subst P (sym e) (λ f. longer_begins v.seen u.seen f.0 f.1 f.2) f
