use Rattle.std.proofs.Common.{◌≡◌, ℕ, List, subst, sym, arith}
use Rattle.dl_lists.specs.declared.rule_labels.Ready.{Ready}
use Rattle.dl_lists.specs.declared.rule_labels.Ready.TheVariants.{Nothing, New, Again}
use Rattle.dl_lists.specs.declared.rule_labels.RuleLabels.TheInside.{Inside}
use Rattle.dl_lists.specs.KeptLabels.{IsKeptLabels, HasRoom}
use Rattle.dl_lists.proofs.EntryLemmas.{entered_new, entered_again}
use Rattle.dl_lists.proofs.LabelLemmas.{entered_is}
use Rattle.dl_lists.proofs.rule_labels.RuleLabels.put.Goals as goal
use Rattle.dl_lists.proofs.rule_labels.RuleLabels.put.Goals.{in-New, in-Again}

pub invariant_of-self : goal.invariant_of-self
invariant_of-self c =
    let es : List ℕ = c.self.inside.entries.entries in
    let count : ℕ = c.self.inside.entries.count in
    let room : (r : Ready) → c.self.inside.ready ≡ r → HasRoom c.self.inside.entries c.self.inside.names r =
    λ r e. subst (λ (s : Ready). HasRoom c.self.inside.entries c.self.inside.names s) e c.self.invariant.room in
    elim c.match-self.branch [
      | in-New w ↦
          let has = room New w.in-New.is in
          subst (λ (i : Inside). IsKeptLabels (record i { ready = Nothing })) (sym w.self-inside-is)
          (record {
            entered = entered_is _ _ _ _ (entered_new es count c.self.invariant.entered) w.push_new.ensures.entries w.push_new.ensures.count;
            room = omega (arith, has.0, w.push_new.ensures.count);
          })
      | in-Again w ↦
          let has = room (Again w.in-Again.entry) w.in-Again.is in
          subst (λ (i : Inside). IsKeptLabels (record i { ready = Nothing })) (sym w.self-inside-is)
          (record {
            entered = entered_is _ _ _ _ (entered_again es count w.in-Again.entry c.self.invariant.entered has.2)
                w.push_again.ensures.entries w.push_again.ensures.count;
            room = omega (arith, has.0, w.push_again.ensures.count);
          })
    ]
