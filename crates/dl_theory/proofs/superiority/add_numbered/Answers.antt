use Rattle.std.proofs.Common.{◌≡◌, ◌++◌, ◌∷◌, [], List, Err, sym, ap, subst, ◌∙◌}
use Rattle.std.specs.Prelude.{Contains, OnOk, OnErr, filter, not}
use Rattle.dl_sup.specs.declared.link.Link.{Link}
use Rattle.dl_sup.specs.Links.{same_link}
use Rattle.dl_theory.specs.declared.rule.Pair.{Pair}
use Rattle.dl_theory.specs.Pairs.{IsNumbered}
use Rattle.dl_theory.proofs.Numbers.{numbered_push, not_closing, new_link, link_stop, append_stop, same_link-Decides, without_pushed, after_drop}
use Rattle.dl_theory.proofs.superiority.add_numbered.Goals as goal

pub returns-in-Err-clause-stopped : goal.returns-in-Err-clause-stopped
returns-in-Err-clause-stopped c =
    link_stop c.args.items.now c.args.order.now c.args.pairs.now.items c.requires.numbered c.args.link c.args.pair c.requires.number c.in-Err.stop c.in-Err.ensures.stopped

pub returns-in-Ok-append_pair-clause-numbered : goal.returns-in-Ok-append_pair-clause-numbered
returns-in-Ok-append_pair-clause-numbered c =
    subst (λ (ps : List Pair). IsNumbered c.args.items.now c.add_link.new.order ps) (sym c.in-Ok-append_pair.ensures.ok)
    (subst (λ (ls : List Link). IsNumbered c.args.items.now ls (c.args.pairs.now.items ++ c.args.pair ∷ [])) (sym c.in-Ok.ensures.added)
    (numbered_push c.args.items.now c.args.order.now c.args.pairs.now.items c.requires.numbered c.args.link c.args.pair c.requires.number))

pub returns-in-Ok-append_pair-clause-accepted : goal.returns-in-Ok-append_pair-clause-accepted
returns-in-Ok-append_pair-clause-accepted c =
    not_closing c.args.items.now c.args.order.now c.args.pairs.now.items c.requires.numbered c.args.link c.args.pair c.requires.number c.in-Ok.ensures.accepted

pub returns-in-Err-append_pair-clause-numbered : goal.returns-in-Err-append_pair-clause-numbered
returns-in-Err-append_pair-clause-numbered c =
    let old : List Link = c.args.order.now in
    let absent = new_link c.args.items.now old c.args.pairs.now.items c.requires.numbered c.args.link c.args.pair c.requires.number c.requires.new in
    let undone : c.drop_pair.new.self ≡ old =
    after_drop (old ++ c.args.link ∷ []) c.drop_pair.new.self c.args.link c.drop_pair.result
    (subst (λ (ls : List Link). OnOk c.drop_pair.result (c.drop_pair.new.self ≡ filter (λ p. not (same_link p c.args.link)) ls)) c.in-Ok.ensures.added c.drop_pair.ensures.dropped)
    (subst (λ (ls : List Link). OnErr c.drop_pair.result (¬ Contains ls c.args.link)) c.in-Ok.ensures.added c.drop_pair.ensures.absent)
    (subst (λ (ls : List Link). OnErr c.drop_pair.result (c.drop_pair.new.self ≡ ls)) c.in-Ok.ensures.added c.drop_pair.ensures.kept)
    ∙ without_pushed same_link same_link-Decides old c.args.link absent in
    subst (λ (ps : List Pair). IsNumbered c.args.items.now c.drop_pair.new.self ps) (sym c.in-Err-append_pair.ensures.err)
    (subst (λ (ls : List Link). IsNumbered c.args.items.now ls c.args.pairs.now.items) (sym undone) c.requires.numbered)

pub returns-in-Err-append_pair-clause-stopped : goal.returns-in-Err-append_pair-clause-stopped
returns-in-Err-append_pair-clause-stopped c =
    append_stop c.args.pairs.now.items c.args.pair c.in-Err-append_pair.stop
    (not_closing c.args.items.now c.args.order.now c.args.pairs.now.items c.requires.numbered c.args.link c.args.pair c.requires.number c.in-Ok.ensures.accepted)
    (λ e. c.append_pair.ensures.full (c.in-Err-append_pair.is ∙ ap Err e))
    (λ path e. c.append_pair.ensures.no_cycle path (c.in-Err-append_pair.is ∙ ap Err e))
