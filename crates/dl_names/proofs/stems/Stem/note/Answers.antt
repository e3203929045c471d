use Rattle.std.proofs.Common.{inl, inr, refl, subst}
use Rattle.dl_names.specs.declared.stems.Stem.{Stem}
use Rattle.dl_names.specs.Stems.{IsNoted}
use Rattle.dl_names.proofs.StemLemmas.{put_noted, none_noted}
use Rattle.dl_names.proofs.stems.Stem.note.Goals as goal
use Rattle.dl_names.proofs.stems.Stem.note.Goals.{then-self-eq0, else-self-eq0}

pub returns-then-is_of : goal.returns-then-is_of
returns-then-is_of c =
    λ a n noted. elim (put_noted c.if-self-eq0.self c.put.new.self c.args.name.now c.args.split.prefix c.args.split.digits c.args.split.value c.args.number
    c.put.ensures.prefix c.put.ensures.digits c.put.ensures.numbers (c.if-is_of.ensures.prefix refl) (c.if-is_of.ensures.digits refl)
    c.requires.whole c.requires.digits c.requires.value a n noted) [
      | inl here ↦ inl here
      | inr was ↦ elim c.if-self-eq0.branch [
        | then-self-eq0 w ↦ absurd (none_noted w.begin.new.self w.begin.ensures a n (subst (λ (s : Stem). IsNoted s a n) w.self-is was))
        | else-self-eq0 w ↦ inr (subst (λ (s : Stem). IsNoted s a n) w.self-is was)
      ]
    ]
