-- How the conditions put their tests together, and how the checker does.
use Rattle.std.proofs.Common.{◌≡◌, Bool, true, false, not, ◌&&◌, ◌||◌, refl, sym}
use Rattle.dl_check.proofs.Quantified.{and_false}

-- h: the head fits; s: the kind fits; o: on, or off; b: beaten by it
pub not_off_shape : (h s o : Bool) → not (not (h && s) || o) ≡ (h && (s && not o))
not_off_shape true true o = refl
not_off_shape true false o = refl
not_off_shape false s o = refl

pub answered_shape : (h o r : Bool) → not (not (h || false) || (o || r)) ≡ (h && (not o && not r))
answered_shape true true r = refl
answered_shape true false r = refl
answered_shape false o r = refl

pub team_shape : (h s b o : Bool) → (((h && s) && b) && o) ≡ ((h && b) && (s && o))
team_shape true true b o = refl
team_shape true false b o = sym (and_false b)
team_shape false s b o = refl

pub standing_shape : (h s o b : Bool) → not (not (h && s) || (o || not b)) ≡ ((h && b) && (s && not o))
standing_shape true true true b = sym (and_false b)
standing_shape true true false true = refl
standing_shape true true false false = refl
standing_shape true false o b = sym (and_false b)
standing_shape false s o b = refl

pub defeated_shape : (h o a : Bool) → (((h || false) && o) && a) ≡ (h && (o && a))
defeated_shape true o a = refl
defeated_shape false o a = refl

pub threat_shape : (h o b : Bool) → not (not (h || false) || (o || not b)) ≡ ((h && b) && not o)
threat_shape true true b = sym (and_false b)
threat_shape true false true = refl
threat_shape true false false = refl
threat_shape false o b = refl

pub supported_shape : (h s o a : Bool) → (((h && s) && o) && a) ≡ (h && ((s && o) && a))
supported_shape true s o a = refl
supported_shape false s o a = refl

pub unsupported_shape : (h s o y : Bool) → not (not (h && s) || (o || y)) ≡ (h && ((s && not o) && not y))
unsupported_shape true true true y = refl
unsupported_shape true true false y = refl
unsupported_shape true false o y = refl
unsupported_shape false s o y = refl
