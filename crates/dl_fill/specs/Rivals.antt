-- Superior rules on either side of an attack.
use Rattle.std.specs.Prelude.{IsTrue}
use Rattle.dl_theory.specs.declared.rule.Rule.{Rule}
use Rattle.dl_theory.specs.Lists.{TheoryLists, Opposes, Beats, can_support}

-- t supports its head, which that of u attacks, and is superior to u
abbrev pub Defending : TheoryLists → Rule → Rule → Type 0
Defending T u t = Beats T t u × Opposes T t.head u × IsTrue (can_support t.kind)

-- u is superior to t, and the head of t attacks that of u
abbrev pub Countering : TheoryLists → Rule → Rule → Type 0
Countering T t u = Beats T u t × Opposes T u.head t
