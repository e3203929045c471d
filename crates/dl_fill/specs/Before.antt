-- What stands before a fill, and how the gates of literals read it.
use Rattle.std.specs.Prelude.{◌≡◌, ℕ, ◌<◌, Bool, true, false, not, ◌&&◌, ◌||◌, cond, None, is_some, List, length, get_or, nat_lt}
use Rattle.std.specs.Bool.{Decides}
use Rattle.std.specs.List.{list_all, list_any}
use Rattle.dl_lit.specs.declared.literal.Tag.{Tag}
use Rattle.dl_lit.specs.declared.literal.Family.{Family}
use Rattle.dl_lit.specs.declared.literal.Family.TheVariants.{Definite}
use Rattle.dl_lit.specs.Literal.{tagged}
use Rattle.dl_theory.specs.Derivations.{Follows}
use Rattle.dl_marks.specs.Marks.{Marking, marked}
use Rattle.dl_graph.specs.Region.{Numbers}
use Rattle.dl_graph.specs.Counting.{times}
use Rattle.dl_graph.specs.Numbers.{NetLists, literal_at, attackers_row, back}
use Rattle.dl_graph.specs.declared.link.Link.TheVariants.{Uses}
use Rattle.dl_fill.specs.declared.wire.Gate.{Gate}
use Rattle.dl_fill.specs.declared.wire.Gate.TheVariants.{Every, Either, Now, Never}

-- the region, and the marks
pub record Before : Type 0 where
  pub inside : ℕ → Bool
  pub marked : Tag → ℕ → Bool

abbrev pub is_inside : List ℕ → ℕ → Bool
is_inside members q = nat_lt 0 (times q members)

abbrev pub before_of : Marking → Numbers → Before
before_of m region = record { inside = is_inside region.members; marked = marked m }

abbrev pub tag_of : Bool → Family → Tag
tag_of plus f = record { plus = plus; family = f }

-- whether a number has a rule
abbrev pub is_rule : NetLists → ℕ → Bool
is_rule N r = is_some (get_or N.rules r None)

-- each literal that attacks q is refuted in the definite family
abbrev pub attack_fails : NetLists → (Tag → ℕ → Bool) → ℕ → Bool
attack_fails N marked q = list_all (λ c. marked (tag_of false Definite) c) (attackers_row N (literal_at N q))

-- some literal that attacks q is concluded in the definite family
abbrev pub attack_holds : NetLists → (Tag → ℕ → Bool) → ℕ → Bool
attack_holds N marked q = list_any (λ c. marked (tag_of true Definite) c) (attackers_row N (literal_at N q))

-- each literal of the rule's body that stands outside the region is concluded
abbrev pub outside_is_on : NetLists → Before → Family → ℕ → Bool
outside_is_on N b f r = list_all (λ i. b.inside i || b.marked (tag_of true f) i) (back N Uses r)

-- some literal of the rule's body that stands outside the region is refuted
abbrev pub outside_is_off : NetLists → Before → Family → ℕ → Bool
outside_is_off N b f r = list_any (λ i. not (b.inside i) && b.marked (tag_of false f) i) (back N Uses r)

-- a rule is on once each literal of its body inside is concluded, where each outside is
abbrev pub on_gate : Bool → Gate
on_gate outside_is_on = cond outside_is_on Every Never

-- a rule is off once some literal of its body inside is refuted, and at once where one outside is
abbrev pub off_gate : Bool → Gate
off_gate outside_is_off = cond outside_is_off Now Either

-- a literal is concluded at once where it is definite; else once it prevails, where no attack holds for sure
abbrev pub plus_gate : Bool → Bool → Gate
plus_gate surely attack_fails = cond surely Now (cond attack_fails Every Never)

-- a literal can be refuted only where it is not definite for sure; at once where an attack holds for sure
abbrev pub minus_gate : Bool → Bool → Gate
minus_gate surely_not attack_holds = cond surely_not (cond attack_holds Now Either) Never

-- a literal is concluded at once where it holds for sure, else once some rule for it does its part
abbrev pub some_gate : Bool → Gate
some_gate surely = cond surely Now Either

-- a literal is refuted once each rule for it does its part, where it may be refuted at all
abbrev pub each_gate : Bool → Gate
each_gate may = cond may Every Never

-- at the number of a literal the mark stands exactly where the tagged literal follows
abbrev pub IsExactAt : NetLists → Before → Bool → Family → ℕ → Type 0
IsExactAt N b plus f q = Decides (b.marked (tag_of plus f) q) (Follows N.theory (tagged plus f (literal_at N q)))

-- the marks of a family are right
abbrev pub IsExact : NetLists → Before → Family → Type 0
IsExact N b f = (plus : Bool) (q : ℕ) → q < length N.names → IsExactAt N b plus f q

-- the marks of a family are right outside the region
abbrev pub IsExactOutside : NetLists → Before → Family → Type 0
IsExactOutside N b f = (plus : Bool) (q : ℕ) → q < length N.names → b.inside q ≡ false → IsExactAt N b plus f q
