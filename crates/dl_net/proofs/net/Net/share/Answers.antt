use Rattle.std.proofs.Common.{◌≡◌, Option, None, Some, true, sym, ap, subst, refl, ◌∙◌}
use Rattle.std.specs.Arc.{arc_value}
use Rattle.dl_graph.specs.Numbers.{NetLists}
use Rattle.dl_net.specs.declared.held.Held.{Held}
use Rattle.dl_net.specs.declared.ready.Ready.{Ready}
use Rattle.dl_net.specs.declared.tables.Tables.{Tables}
use Rattle.dl_net.specs.Kept.{net_in}
use Rattle.dl_net.specs.KeptNet.{IsOwn, edit_in, tables_in}
use Rattle.dl_net.proofs.net.Net.share.Goals as goal

-- nothing is prepared in tables that are not the net's own
none_pending : (pending : Option Ready) → ((¬ (pending ≡ None)) → ⊥) → pending ≡ None
none_pending None owned = refl
none_pending (Some e) owned = absurd (owned (λ is. cc))

pub returns : goal.returns
returns c =
    let held : arc_value c.in_ok-clone-in-Shared.field-0 ≡ tables_in c.self.inside.held =
    c.in_ok-clone-in-Shared.ensures.cases ∙ ap tables_in (sym c.in-Shared.is) in
    let frozen : c.self.inside.frozen ≡ true = ap (λ (N : NetLists). N.frozen) c.self.view_is ∙ c.requires in
    let pending : c.self.inside.pending ≡ None =
    none_pending c.self.inside.pending (λ some. subst (λ (h : Held). IsOwn h) c.in-Shared.is (c.self.invariant.owned some)) in
    ap (λ (t : Tables). record (net_in t) { pending = None; frozen = true }) held
    ∙ (λ i. record (net_in (tables_in c.self.inside.held)) { pending = edit_in (sym pending i); frozen = sym frozen i })
    ∙ c.self.view_is
