-- What counts as derived while a list is checked.
use Rattle.std.specs.Prelude.{Bool, not, List}
use Rattle.std.specs.List.{list_any}
use Rattle.dl_lit.specs.declared.literal.Tagged.{Tagged}
use Rattle.dl_lit.specs.Literal.{literal_eq}
use Rattle.dl_check.specs.declared.derived.Members.{Members}
use Rattle.dl_check.specs.declared.derived.Derived.{Derived}
use Rattle.dl_check.specs.declared.derived.Reading.{Reading}
use Rattle.dl_check.specs.declared.derived.Reading.TheVariants.{Inside, Outside}
use Rattle.dl_check.specs.Groups.{group, IsGrouped}
use Rattle.dl_check.specs.Tags.{is_tag, tag_of}

-- whether a tagged literal is a member
abbrev pub stands : Members → Tagged → Bool
stands m x = list_any (is_tag x.plus x.family) (group literal_eq m.tags.groups.entries x.literal)

-- the members are those of a list
abbrev pub HasMembers : Members → List Tagged → Type 0
HasMembers m xs = IsGrouped literal_eq (λ x. x.literal) tag_of m.tags.groups.entries xs

-- what the reading makes of being a member
abbrev pub by_reading : Reading → Bool → Bool
by_reading Inside b = b
by_reading Outside b = not b

-- whether a tagged literal counts as derived
abbrev pub is_derived : Derived → Tagged → Bool
is_derived d x = by_reading d.reading (stands d.members x)
