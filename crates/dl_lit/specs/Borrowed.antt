-- Literals whose names stand elsewhere.
use Rattle.std.specs.Prelude.{Bool}
use Rattle.std.specs.declared.cmp.Ordering.{Ordering}
use Rattle.std.specs.Ordering.{on}
use Rattle.std.specs.Option.{option_copied}
use Rattle.std.specs.Cmp.{IsEquivalence, IsTotalOrder, on_equiv, on_total}
use Rattle.dl_lit.specs.declared.borrowed.LiteralRef.{LiteralRef}
use Rattle.dl_lit.specs.declared.literal.Literal.{Literal}
use Rattle.dl_lit.specs.Literal.{literal_eq, literal_equiv}
use Rattle.dl_lit.specs.Order.{literal_cmp, literal_total}

-- the literal that is borrowed
abbrev pub literal_of : LiteralRef → Literal
literal_of q = record { mode = option_copied q.mode; atom = q.atom.now; positive = q.positive }

abbrev pub borrowed_eq : LiteralRef → LiteralRef → Bool
borrowed_eq = on literal_of literal_eq

pub borrowed_equiv : IsEquivalence borrowed_eq
borrowed_equiv = on_equiv literal_of literal_equiv

-- as literals
abbrev pub borrowed_cmp : LiteralRef → LiteralRef → Ordering
borrowed_cmp = on literal_of literal_cmp

pub borrowed_total : IsTotalOrder borrowed_cmp
borrowed_total = on_total literal_of literal_total
