use Rattle.std.proofs.Common.{◌≡◌, ◌≤◌, ◌+◌, ◌<◌, ℕ, Bool, List, length, refl, sym, subst, ap, arith, ◌∙◌}
use Rattle.std.specs.Prelude.{Contains, IsTrue, Option, None, false}
use Rattle.std.proofs.lemmas.List.Elements.{All-weaker, All-contains_itself}
use Rattle.dl_lit.specs.declared.literal.Literal.{Literal}
use Rattle.dl_net.specs.Edited.{edit_literals}
use Rattle.dl_graph.specs.Numbers.{NetLists, IsNumbered}
use Rattle.dl_theory.specs.Marks.{AreRight}
use Rattle.dl_theory.specs.Lists.{TheoryLists}
use Rattle.dl_theory.specs.declared.edit.Edit.{Edit}
use Rattle.dl_theory.specs.declared.rule.Rule.{Rule}
use Rattle.dl_theory.specs.Edits.{IsAccepted, after_edit}
use Rattle.dl_marks.specs.Marks.{Marking, places, is_owned}
use Rattle.dl_cone.specs.Walked.{IsConeOf}
use Rattle.dl_fill.specs.Filled.{IsReady, stands}
use Rattle.dl_update.specs.declared.draft.Draft.TheInside.{Inside}
use Rattle.dl_update.specs.declared.families.Families.TheVariants.{All}
use Rattle.dl_update.specs.KeptDraft.{draft_of}
use Rattle.dl_update.specs.Drafts.{DraftLists, GrowsBy, IsEnough}
use Rattle.dl_update.specs.Bound.{IsWithinNew, IsWithinCone}
use Rattle.dl_update.specs.RightIn.{AreRightIn}
use Rattle.dl_update.specs.Room.{HasRoom}
use Rattle.dl_update.proofs.Bounds.{within_new, within_cone}
use Rattle.dl_update.proofs.Clearing.{cone_ready}
use Rattle.dl_update.proofs.Growth.{names_distinct, more_rules, right_prepared, longer, to_all, from_all}
use Rattle.dl_update.proofs.Room.{less_room}
use Rattle.dl_update.proofs.draft.Draft.change.Goals as goal

-- what a graph of a net is
abbrev read : NetLists → NetLists
read N = record N { pending = None; frozen = false }

-- a draft that keeps all families holds them
all : (d : Inside) (draft : DraftLists) → draft_of d ≡ draft → draft.families ≡ All → d.families ≡ All
all d draft is families = ap (λ (v : DraftLists). v.families) is ∙ families

right_in : (d : Inside) (draft : DraftLists) → draft_of d ≡ draft → draft.families ≡ All → (T : TheoryLists) (names : List Literal) (m : Marking)
    → AreRight T names (places m) (stands m) → AreRightIn d.families T names m
right_in d draft is families T names m = from_all d.families T names m (all d draft is families)

-- the steps for what an edit is the first to name are within those for its cone
few_steps : (d : Inside) (draft : DraftLists) → draft_of d ≡ draft → (G : NetLists) → G ≡ read d.net → (e : Edit) (before after : ℕ)
    → IsWithinNew G.names e before after → IsWithinCone draft.theory draft.names e before after
few_steps d draft is G same e before after few =
    subst (λ (v : DraftLists). IsWithinCone v.theory v.names e before after) is
    (within_new d.net.theory d.net.names e before after (subst (λ (N : NetLists). IsWithinNew N.names e before after) same few))

-- marks that are ready for what a graph may come to name are so for its net
ready_for : (N G : NetLists) → G ≡ read N → (e : Edit) (m : Marking)
    → ((names : List Literal) → GrowsBy (edit_literals e) G.names names → AreRight G.theory names (places m) (stands m))
    → (names : List Literal) → GrowsBy (edit_literals e) N.names names → AreRight N.theory names (places m) (stands m)
ready_for N G same e m h =
    subst (λ (K : NetLists). (names : List Literal) → GrowsBy (edit_literals e) K.names names → AreRight K.theory names (places m) (stands m)) same h

pub grow-requires : goal.grow-requires
grow-requires g c =
    subst (λ (N : NetLists). AreRight N.theory N.names (places c.self.inside.marks) (stands c.self.inside.marks)) (sym c.graph.ensures)
    (to_all c.self.inside.families c.self.inside.net.theory c.self.inside.net.names c.self.inside.marks
    (all c.self.inside c.args.self.now c.self.view_is c.requires) c.self.invariant.right)

pub invariant_of-self : goal.invariant_of-self
invariant_of-self g c = record {
  right = right_in c.self.inside c.args.self.now c.self.view_is c.requires c.self.inside.net.theory c.self.inside.net.names c.grow.new.marks
      (subst (λ (N : NetLists). AreRight N.theory N.names (places c.grow.new.marks) (stands c.grow.new.marks)) c.graph.ensures c.grow.ensures.right);
  cone = c.self.invariant.cone;
  net_frozen = λ e. absurd cc;
  marks_frozen = λ e. absurd cc;
}

pub returns-in_err-count-clause-steps : goal.returns-in_err-count-clause-steps
returns-in_err-count-clause-steps g c =
    few_steps c.self.inside c.args.self.now c.self.view_is c.graph.result c.graph.ensures c.args.edit.now c.args.steps.now c.grow.new.steps c.grow.ensures.steps

pub invariant_of-self-in_err-reserve_edit : goal.invariant_of-self-in_err-reserve_edit
invariant_of-self-in_err-reserve_edit g c = record {
  right = right_in c.self.inside c.args.self.now c.self.view_is c.requires c.self.inside.net.theory c.self.inside.net.names c.grow.new.marks
      (subst (λ (N : NetLists). AreRight N.theory N.names (places c.grow.new.marks) (stands c.grow.new.marks)) c.graph.ensures c.grow.ensures.right);
  cone = c.self.invariant.cone;
  net_frozen = λ e. absurd cc;
  marks_frozen = λ e. absurd cc;
}

pub returns-in_err-reserve_edit-clause-steps : goal.returns-in_err-reserve_edit-clause-steps
returns-in_err-reserve_edit-clause-steps g c =
    few_steps c.self.inside c.args.self.now c.self.view_is c.graph.result c.graph.ensures c.args.edit.now c.args.steps.now c.grow.new.steps c.grow.ensures.steps

pub invariant_of-self-in_err-ready : goal.invariant_of-self-in_err-ready
invariant_of-self-in_err-ready g c =
    let N : NetLists = c.prepare-prepared.new.self in
    let old : NetLists = c.self.inside.net in
    let marks : Marking = c.grow.new.marks in
    record {
      right = right_in c.self.inside c.args.self.now c.self.view_is c.requires N.theory N.names marks
          (right_prepared old.theory N c.graph-3.result old.names c.args.edit.now marks marks c.graph-3.ensures c.names-names.ensures.numbered
          c.prepare-prepared.ensures.names c.prepare-prepared.ensures.theory refl (λ t n. refl)
          (ready_for old c.graph.result c.graph.ensures c.args.edit.now marks c.in_ok-count.ensures.ready));
      cone = omega (arith, c.self.invariant.cone, longer old.names N.names c.args.edit.now c.prepare-prepared.ensures.names);
      net_frozen = λ e. absurd cc;
      marks_frozen = λ e. absurd cc;
    }

pub returns-in_err-ready-clause-steps : goal.returns-in_err-ready-clause-steps
returns-in_err-ready-clause-steps g c =
    few_steps c.self.inside c.args.self.now c.self.view_is c.graph.result c.graph.ensures c.args.edit.now c.args.steps.now c.grow.new.steps c.grow.ensures.steps

pub widen-requires : goal.widen-requires
widen-requires g c =
    omega (
      arith,
      c.self.invariant.cone,
      c.clear.ensures.bound,
      c.names-names.ensures.len,
      ap (λ (N : NetLists). length N.names) c.graph-3.ensures,
      longer c.self.inside.net.names c.prepare-prepared.new.self.names c.args.edit.now c.prepare-prepared.ensures.names,
    )

pub invariant_of-self-in_err-widen : goal.invariant_of-self-in_err-widen
invariant_of-self-in_err-widen g c =
    let N : NetLists = c.prepare-prepared.new.self in
    let old : NetLists = c.self.inside.net in
    let marks : Marking = c.grow.new.marks in
    record {
      right = right_in c.self.inside c.args.self.now c.self.view_is c.requires N.theory N.names marks
          (right_prepared old.theory N c.graph-3.result old.names c.args.edit.now marks marks c.graph-3.ensures c.names-names.ensures.numbered
          c.prepare-prepared.ensures.names c.prepare-prepared.ensures.theory refl (λ t n. refl)
          (ready_for old c.graph.result c.graph.ensures c.args.edit.now marks c.in_ok-count.ensures.ready));
      cone = omega (arith, c.self.invariant.cone, c.clear.ensures.bound, c.in_err-widen.ensures.same, longer old.names N.names c.args.edit.now c.prepare-prepared.ensures.names);
      net_frozen = λ e. absurd cc;
      marks_frozen = λ e. absurd cc;
    }

pub returns-in_err-widen-clause-steps : goal.returns-in_err-widen-clause-steps
returns-in_err-widen-clause-steps g c =
    few_steps c.self.inside c.args.self.now c.self.view_is c.graph.result c.graph.ensures c.args.edit.now c.args.steps.now c.grow.new.steps c.grow.ensures.steps

pub own_members-requires : goal.own_members-requires
own_members-requires g c =
    let N : NetLists = c.prepare-prepared.new.self in
    let old : NetLists = c.self.inside.net in
    let marks : Marking = c.grow.new.marks in
    let members : List ℕ = c.walk.new.region.members in
    let walked : IsConeOf (read N) c.args.edit.now c.walk.new.region =
    subst (λ (K : NetLists). IsConeOf K c.args.edit.now c.walk.new.region) c.graph-4.ensures c.walk.ensures in
    let right = right_prepared old.theory N c.graph-3.result old.names c.args.edit.now marks marks c.graph-3.ensures c.names-names.ensures.numbered
    c.prepare-prepared.ensures.names c.prepare-prepared.ensures.theory refl (λ t n. refl)
    (ready_for old c.graph.result c.graph.ensures c.args.edit.now marks c.in_ok-count.ensures.ready) in
    All-weaker (Contains members) (λ n. n < places marks) (λ n m. omega (arith, ((walked.members n).0 m).0, right.room)) members
    (All-contains_itself members)

pub invariant_of-self-in_err-own_members : goal.invariant_of-self-in_err-own_members
invariant_of-self-in_err-own_members g c =
    let N : NetLists = c.prepare-prepared.new.self in
    let old : NetLists = c.self.inside.net in
    let marks : Marking = c.own_members.new.marks in
    record {
      right = right_in c.self.inside c.args.self.now c.self.view_is c.requires N.theory N.names marks
          (right_prepared old.theory N c.graph-3.result old.names c.args.edit.now c.grow.new.marks marks c.graph-3.ensures c.names-names.ensures.numbered
          c.prepare-prepared.ensures.names c.prepare-prepared.ensures.theory c.own_members.ensures.places c.own_members.ensures.same
          (ready_for old c.graph.result c.graph.ensures c.args.edit.now c.grow.new.marks c.in_ok-count.ensures.ready));
      cone = omega (arith, c.walk.ensures.bound, ap (λ (K : NetLists). length K.names) c.graph-4.ensures);
      net_frozen = λ e. absurd cc;
      marks_frozen = λ e. absurd cc;
    }

pub returns-in_err-own_members-clause-steps : goal.returns-in_err-own_members-clause-steps
returns-in_err-own_members-clause-steps g c =
    few_steps c.self.inside c.args.self.now c.self.view_is c.graph.result c.graph.ensures c.args.edit.now c.args.steps.now c.grow.new.steps c.grow.ensures.steps

pub fill_all-requires-clause-room : goal.fill_all-requires-clause-room
fill_all-requires-clause-room g c =
    let N : NetLists = c.prepare-prepared.new.self in
    let M : NetLists = c.commit.new.self in
    let by : GrowsBy (edit_literals c.args.edit.now) c.self.inside.net.names N.names =
    (names_distinct (read N) (subst IsNumbered c.graph-3.ensures c.names-names.ensures.numbered), c.prepare-prepared.ensures.names) in
    let enough : IsEnough c.self.inside.net.names (edit_literals c.args.edit.now) c.in_ok-count.count =
    subst (λ (K : NetLists). IsEnough K.names (edit_literals c.args.edit.now) c.in_ok-count.count) c.graph.ensures c.in_ok-count.ensures.enough in
    let few : length M.rules ≤ length c.graph-2.result.rules + 1 =
    omega (
      arith,
      ap (λ (rs : List (Option Rule)). length rs) c.commit.ensures.rules,
      more_rules N.rules c.in_ok-ready.ready.edit,
      c.prepare-prepared.ensures.few,
      ap (λ (K : NetLists). length K.rules) c.graph-2.ensures,
    ) in
    let short : length M.names ≤ c.in_ok-count.count = omega (arith, ap (λ (ls : List Literal). length ls) c.commit.ensures.names, enough N.names by) in
    subst (λ (K : NetLists). HasRoom (length K.rules) (length K.names) c.reserve_edit.new.self) (sym c.graph-5.ensures)
    (less_room (length c.graph-2.result.rules + 1) c.in_ok-count.count (length M.rules) (length M.names) few short c.reserve_edit.new.self c.in_ok-reserve_edit.ensures)

pub fill_all-requires-clause-ready : goal.fill_all-requires-clause-ready
fill_all-requires-clause-ready g c =
    let N : NetLists = c.prepare-prepared.new.self in
    let old : NetLists = c.self.inside.net in
    let e : Edit = c.args.edit.now in
    let marks : Marking = c.own_members.new.marks in
    let walked : IsConeOf (read N) e c.walk.new.region = subst (λ (K : NetLists). IsConeOf K e c.walk.new.region) c.graph-4.ensures c.walk.ensures in
    let right : AreRight N.theory N.names (places marks) (stands marks) =
    right_prepared old.theory N c.graph-3.result old.names e c.grow.new.marks marks c.graph-3.ensures c.names-names.ensures.numbered
    c.prepare-prepared.ensures.names c.prepare-prepared.ensures.theory c.own_members.ensures.places c.own_members.ensures.same
    (ready_for old c.graph.result c.graph.ensures e c.grow.new.marks c.in_ok-count.ensures.ready) in
    subst (λ (K : NetLists). IsReady K (λ _. Unit {0}) c.clear_members.new.marks c.walk.new.region) (sym c.graph-5.ensures)
    (cone_ready (read N) (read c.commit.new.self) e c.walk.new.region marks c.clear_members.new.marks
    (subst (λ (T : TheoryLists). IsAccepted T e) (sym c.prepare-prepared.ensures.theory) c.in_ok-ready.ensures.answered)
    (c.commit.ensures.theory ∙ ap (after_edit N.theory) c.in_ok-ready.ensures.ready) c.commit.ensures.names
    walked right c.clear_members.ensures.places
    (All-weaker (λ n. IsTrue (is_owned marks n)) (λ n. IsTrue (is_owned c.clear_members.new.marks n))
    (λ n o. subst (λ (b : Bool). IsTrue b) (sym (c.clear_members.ensures.owned n)) o) c.walk.new.region.members c.in_ok-own_members.ensures.owned)
    c.clear_members.ensures.cleared c.clear_members.ensures.others)

pub invariant_of-self-2 : goal.invariant_of-self-2
invariant_of-self-2 g c =
    let marks : Marking = c.fill_all.new.marks in
    record {
      right = right_in c.self.inside c.args.self.now c.self.view_is c.requires c.commit.new.self.theory c.commit.new.self.names marks
          (subst (λ (K : NetLists). AreRight K.theory K.names (places marks) (stands marks)) c.graph-5.ensures c.fill_all.ensures.right);
      cone = omega (
        arith,
        c.walk.ensures.bound,
        ap (λ (K : NetLists). length K.names) c.graph-4.ensures,
        ap (λ (ls : List Literal). length ls) c.commit.ensures.names,
      );
      net_frozen = λ e. absurd cc;
      marks_frozen = λ e. absurd cc;
    }

pub returns-clause-steps : goal.returns-clause-steps
returns-clause-steps g c =
    let N : NetLists = c.prepare-prepared.new.self in
    let e : Edit = c.args.edit.now in
    let old : NetLists = c.self.inside.net in
    let region = c.walk.new.region in
    let before : ℕ = c.args.steps.now in
    let after : ℕ = c.fill_all.new.steps in
    subst (λ (d : DraftLists). IsWithinCone d.theory d.names e before after) c.self.view_is
    (subst (λ (T : TheoryLists). IsWithinCone T old.names e before after) c.prepare-prepared.ensures.theory
    (within_cone (read N) e old.names region before c.grow.new.steps after (subst IsNumbered c.graph-3.ensures c.names-names.ensures.numbered)
    c.own_members.ensures.region (subst (λ (K : NetLists). IsConeOf K e region) c.graph-4.ensures c.walk.ensures)
    (subst (λ (K : NetLists). IsWithinNew K.names e before c.grow.new.steps) c.graph.ensures c.grow.ensures.steps)
    (omega (arith, c.clear_members.ensures.steps, c.fill_all.ensures.steps))))
