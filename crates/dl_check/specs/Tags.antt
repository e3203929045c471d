-- Tags by test.
use Rattle.std.specs.Prelude.{◌==◌, Bool, ◌&&◌}
use Rattle.std.specs.Bool.{beq}
use Rattle.dl_lit.specs.declared.literal.Tag.{Tag}
use Rattle.dl_lit.specs.declared.literal.Tagged.{Tagged}
use Rattle.dl_lit.specs.declared.literal.Family.{Family}
use Rattle.dl_lit.specs.Order.{family_index}

-- whether a tag has this sign and this family
abbrev pub is_tag : Bool → Family → Tag → Bool
is_tag p f t = beq t.plus p && family_index t.family == family_index f

abbrev pub tag_of : Tagged → Tag
tag_of x = record { plus = x.plus; family = x.family }
