-- What one literal attacks, where each is attacked by its complement alone.
use Rattle.std.proofs.Common.{◌≡◌, sym, ap, ◌∙◌, arith}
use Rattle.std.specs.Prelude.{Contains}
use Rattle.dl_base.proofs.Members.{only}
use Rattle.dl_lit.specs.declared.literal.Literal.{Literal}
use Rattle.dl_lit.specs.Literal.{complement}
use Rattle.dl_theory.specs.Lists.{TheoryLists, attackers}
use Rattle.dl_theory.proofs.Closure.{complement_twice}

-- attack goes both ways
pub attack_turns : (T : TheoryLists) (q c : Literal) → Contains (attackers T q) c → Contains (attackers T c) q
attack_turns T q c m = (0, omega arith, ap complement (only (complement q) c m) ∙ complement_twice q)

-- what attacks two literals attacks one
pub attack_meets : (T : TheoryLists) (p q c : Literal) → Contains (attackers T p) c → Contains (attackers T q) c → p ≡ q
attack_meets T p q c m n =
    sym (complement_twice p) ∙ ap complement (sym (only (complement p) c m) ∙ only (complement q) c n) ∙ complement_twice q
