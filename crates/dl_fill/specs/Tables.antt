-- Tables of wires that can be run.
use Rattle.std.specs.Prelude.{◌≡◌, ℕ, ◌<◌, ◌≤◌, List, [], ◌∷◌, length}
use Rattle.dl_graph.specs.declared.link.Link.TheVariants.{Uses}
use Rattle.dl_fill.specs.declared.wire.Wire.{Wire}
use Rattle.dl_fill.specs.Wires.{AreKinds}

-- wires that lead to bodies come from kinds of literals, which are those below a number
abbrev pub AreOfLiterals : ℕ → List Wire → Type 0
AreOfLiterals literals [] = Unit {0}
AreOfLiterals literals (w ∷ ws) = (w.link ≡ Uses → w.from < literals) × AreOfLiterals literals ws

-- a family has kinds of literals and of rules, and few wires
pub record IsTable (width literals : ℕ) (wires : List Wire) : Type 0 where
  pub rules : literals < width
  pub few : length wires ≤ 32
  pub kinds : AreKinds width wires
  pub bodies : AreOfLiterals literals wires
