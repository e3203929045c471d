-- Rules by their kinds, and by what is derived of their bodies.
use Rattle.std.specs.Prelude.{Bool, true, not, ◌&&◌}
use Rattle.dl_lit.specs.declared.literal.Tagged.{Tagged}
use Rattle.dl_lit.specs.declared.literal.Family.{Family}
use Rattle.dl_theory.specs.declared.rule.Rule.{Rule}
use Rattle.dl_theory.specs.declared.rule.Kind.{Kind}
use Rattle.dl_theory.specs.Lists.{can_support, is_strict}
use Rattle.dl_theory.specs.Tests.{is_on, is_off}
use Rattle.dl_check.specs.declared.band.Band.{Band}
use Rattle.dl_check.specs.declared.band.Kinds.{Kinds}
use Rattle.dl_check.specs.declared.band.Kinds.TheVariants.{All, Supporting, Strict}
use Rattle.dl_check.specs.declared.band.Bodies.{Bodies}
use Rattle.dl_check.specs.declared.band.Bodies.TheVariants.{On, NotOff}

abbrev pub on : Kinds → Family → Band
on k f = record { kinds = k; bodies = On; family = f }

abbrev pub not_off : Kinds → Family → Band
not_off k f = record { kinds = k; bodies = NotOff; family = f }

abbrev pub has_kind : Kinds → Kind → Bool
has_kind All k = true
has_kind Supporting k = can_support k
has_kind Strict k = is_strict k

abbrev pub has_body : (Tagged → Bool) → Bodies → Family → Rule → Bool
has_body got On f r = is_on got f r
has_body got NotOff f r = not (is_off got f r)

-- whether a rule is in a band
abbrev pub is_in : (Tagged → Bool) → Band → Rule → Bool
is_in got b r = has_kind b.kinds r.kind && has_body got b.bodies b.family r
