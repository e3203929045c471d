-- What is asked of a table of wires, by tests of the table.
use Rattle.std.proofs.Common.{◌≡◌, ℕ, zero, suc, ◌/◌, ◌%◌, ◌<◌, ◌≤◌, ◌&&◌, ◌||◌, Bool, true, false, not, Option, None, Some, List, [], ◌∷◌, length, refl, sym, subst, arith, true≢false}
use Rattle.std.specs.Prelude.{nat_lt}
use Rattle.std.proofs.lemmas.Bool.{and_parts, ltb-true}
use Rattle.dl_lit.specs.declared.literal.Tag.{Tag}
use Rattle.dl_graph.specs.declared.link.Link.{Link}
use Rattle.dl_graph.specs.declared.link.Link.TheVariants.{Same, Uses, Backs, Proves, Opposes, Defends, Counters}
use Rattle.dl_fill.specs.declared.wire.Wire.{Wire}
use Rattle.dl_fill.specs.Steps.{tag_at}
use Rattle.dl_fill.specs.Wires.{AreKinds, IsLive}
use Rattle.dl_fill.specs.Tables.{AreOfLiterals, IsTable}

-- each kind is below a width
abbrev are_kinds : ℕ → List Wire → Bool
are_kinds s [] = true
are_kinds s (w ∷ ws) = nat_lt w.from s && (nat_lt w.to s && are_kinds s ws)

kinds_tested : (s : ℕ) (wires : List Wire) → are_kinds s wires ≡ true → AreKinds s wires
kinds_tested s [] e = tt
kinds_tested s (w ∷ ws) e =
    let from = and_parts (nat_lt w.from s) (nat_lt w.to s && are_kinds s ws) e in
    let to = and_parts (nat_lt w.to s) (are_kinds s ws) from.1 in
    (ltb-true w.from s from.0, ltb-true w.to s to.0, kinds_tested s ws to.1)

abbrev leads_to_bodies : Link → Bool
leads_to_bodies Same = false
leads_to_bodies Uses = true
leads_to_bodies Backs = false
leads_to_bodies Proves = false
leads_to_bodies Opposes = false
leads_to_bodies Defends = false
leads_to_bodies Counters = false

-- kinds whose nodes lead to bodies are below a number
abbrev of_literals : ℕ → List Wire → Bool
of_literals n [] = true
of_literals n (w ∷ ws) = (not (leads_to_bodies w.link) || nat_lt w.from n) && of_literals n ws

uses_passes : (l : Link) (b : Bool) → (not (leads_to_bodies l) || b) ≡ true → l ≡ Uses → b ≡ true
uses_passes Same b e u = absurd (cc u)
uses_passes Uses b e u = e
uses_passes Backs b e u = absurd (cc u)
uses_passes Proves b e u = absurd (cc u)
uses_passes Opposes b e u = absurd (cc u)
uses_passes Defends b e u = absurd (cc u)
uses_passes Counters b e u = absurd (cc u)

bodies_tested : (n : ℕ) (wires : List Wire) → of_literals n wires ≡ true → AreOfLiterals n wires
bodies_tested n [] e = tt
bodies_tested n (w ∷ ws) e =
    let p = and_parts (not (leads_to_bodies w.link) || nat_lt w.from n) (of_literals n ws) e in
    (λ u. ltb-true w.from n (uses_passes w.link (nat_lt w.from n) p.0 u), bodies_tested n ws p.1)

pub table_tested : (s literals : ℕ) (wires : List Wire) → literals < s → length wires ≤ 32 → are_kinds s wires ≡ true → of_literals literals wires ≡ true
    → IsTable s literals wires
table_tested s literals wires width few kinds bodies =
    record { rules = width; few = few; kinds = kinds_tested s wires kinds; bodies = bodies_tested literals wires bodies }

-- a node is inside where it leads to bodies, if it is inside where it is one of a literal
pub live_here : (inside : ℕ → Bool) (s literals x : ℕ) (wires : List Wire) → AreOfLiterals literals wires → (x % s < literals → inside (x / s) ≡ true)
    → IsLive inside s wires x
live_here inside s literals x [] bodies here = tt
live_here inside s literals x (w ∷ ws) bodies here =
    (λ u f. here (subst (λ (v : ℕ). v < literals) f (bodies.0 u)), live_here inside s literals x ws bodies.1 here)

-- kinds whose nodes lead to bodies stand for a tag
abbrev is_tag : Option Tag → Bool
is_tag None = false
is_tag (Some x) = true

abbrev pub bodies_tagged : List (Option Tag) → List Wire → Bool
bodies_tagged tags [] = true
bodies_tagged tags (w ∷ ws) = (not (leads_to_bodies w.link) || is_tag (tag_at tags w.from)) && bodies_tagged tags ws

-- a node is inside where it leads to bodies, if it is inside where it stands for a tag
module _ (inside : ℕ → Bool) (s x : ℕ) (tags : List (Option Tag)) (here : (t : Tag) → tag_at tags (x % s) ≡ Some t → inside (x / s) ≡ true) where
  here_by : (o : Option Tag) → tag_at tags (x % s) ≡ o → is_tag o ≡ true → inside (x / s) ≡ true
  here_by None e h = absurd (true≢false (sym h))
  here_by (Some t) e h = here t e

  pub live_tagged : (wires : List Wire) → bodies_tagged tags wires ≡ true → IsLive inside s wires x
  live_tagged [] e = tt
  live_tagged (w ∷ ws) e =
      let p = and_parts (not (leads_to_bodies w.link) || is_tag (tag_at tags w.from)) (bodies_tagged tags ws) e in (
        λ u f.
            here_by (tag_at tags (x % s)) refl
            (subst (λ (v : ℕ). is_tag (tag_at tags v) ≡ true) f (uses_passes w.link (is_tag (tag_at tags w.from)) p.0 u)),
        live_tagged ws p.1,
      )

-- a kind that stands for a tag is one of them
pub tag_within : (tags : List (Option Tag)) (k : ℕ) (t : Tag) → tag_at tags k ≡ Some t → k < length tags
tag_within [] k t e = absurd (cc e)
tag_within (o ∷ os) zero t e = omega arith
tag_within (o ∷ os) (suc k) t e = omega (arith, tag_within os k t e)
