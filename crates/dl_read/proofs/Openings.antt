-- What stands behind a label opens as a fact or a rule.
use Rattle.std.proofs.Common.{◌≡◌, ℕ, true, false, List, [], ◌∷◌, Option, Some, None, refl}
use Rattle.dl_lit.specs.declared.literal.Literal.{Literal}
use Rattle.dl_theory.specs.declared.rule.Kind.{Kind}
use Rattle.dl_read.specs.declared.token.Token.{Token}
use Rattle.dl_read.specs.declared.token.Mark.TheVariants.{Facts}
use Rattle.dl_read.specs.declared.opening.Opening.TheVariants.{Fact, Rule}
use Rattle.dl_read.specs.Tokens.{next, as_arrow, is_mark}
use Rattle.dl_read.specs.Parsing.{Parse, ◌>>=◌, literal_at, in_front, more_at, rule_at, rule_behind, rule_from, labelled_at}
use Rattle.dl_read.specs.Opening.{body_at, opened_at}

pub fact_opens : (label m : Option (List ℕ)) (t : Token) (ts : List Token) → is_mark Facts t ≡ true → labelled_at label m t ts ≡ opened_at (Fact m) ts
unfolding labelled_at opened_at
fact_opens label m t ts h = rw h refl

by_arrow : (o : Option Kind) (p : Parse Literal) (label m : Option (List ℕ)) (ts : List Token)
    → elim o [
      | Some kind ↦ rule_at label m [] kind ts
      | None ↦ p >>= λ q. in_front (q.0 ∷ []) (more_at (next q.1).0 (next q.1).1) >>= λ b. rule_at label m b.0.0 b.0.1 b.1
    ]
    ≡ (elim o [
      | Some kind ↦ Some (([], kind), ts)
      | None ↦ p >>= λ q. in_front (q.0 ∷ []) (more_at (next q.1).0 (next q.1).1)
    ] >>= λ b. rule_at label m b.0.0 b.0.1 b.1)
by_arrow (Some kind) p label m ts = refl
by_arrow None None label m ts = refl
by_arrow None (Some q) label m ts = refl

pub rule_opens : (label m : Option (List ℕ)) (t : Token) (ts : List Token) → is_mark Facts t ≡ false → labelled_at label m t ts ≡ opened_at (Rule label m None t) ts
unfolding labelled_at rule_from rule_behind opened_at body_at
rule_opens label m t ts h = rw h (by_arrow (as_arrow t) (literal_at t ts) label m ts)
