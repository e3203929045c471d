-- The canonical text of a tagged literal and of an edit, read back.
use Rattle.std.proofs.Common.{◌≡◌, ℕ, List, [], ◌∷◌, ◌++◌, Some, refl, inl, inr}
use Rattle.std.specs.Prelude.{codes}
use Rattle.dl_lit.specs.declared.literal.Tagged.{Tagged}
use Rattle.dl_theory.specs.declared.edit.Edit.{Edit}
use Rattle.dl_theory.specs.declared.edit.Edit.TheVariants.{AddRule, DropRule, AddFact, DropFact, AddPair, DropPair}
use Rattle.dl_print.specs.Text.{literal_text, fact_text, rule_text, pair_text, tagged_text, edit_text}
use Rattle.dl_read.specs.declared.token.Token.{Token}
use Rattle.dl_read.specs.declared.token.Token.TheVariants.{Name, Mark}
use Rattle.dl_read.specs.declared.token.Mark.TheVariants.{Facts, Above}
use Rattle.dl_read.specs.declared.statement.Statement.{Statement}
use Rattle.dl_read.specs.declared.statement.Statement.TheVariants as says
use Rattle.dl_read.specs.Grammar.{AreTokensOf, literal_tokens, Named, Says}
use Rattle.dl_read.specs.Named.{IsNamedEdit}
use Rattle.dl_read.specs.Tagged.{IsTagged}
use Rattle.dl_read.specs.EditLines.{BeginsWith, added, Drops, IsEditLine}
use Rattle.dl_read.proofs.Canonical.{blank, name_spelled, literal_back, fact_spelled, fact_back, rule_back, pair_spelled, pair_back}

pub tagged_back : (x : Tagged) → Named x.literal → IsTagged (tagged_text x) x
tagged_back x n =
    let q = literal_back x.literal n in
    record {
      rest = 32 ∷ literal_text x.literal;
      order = refl;
      blank = refl;
      literal = (q.0, blank q.0 (literal_text x.literal) q.1, q.2);
    }

begins : (word rest : List ℕ) → BeginsWith word (word ++ 32 ∷ rest) (32 ∷ rest)
begins word rest = record { blanks = []; are_blank = refl; order = refl; spaced = refl }

-- a statement behind `add `
adds : (s : Statement) (text : List ℕ) (e : Edit) → Says text s → added s ≡ Some e → IsEditLine (codes "add " ++ text) e
adds s text e h i = inl (32 ∷ text, begins (codes "add") text, (s, (h.0, blank h.0 text h.1, h.2), i))

drops : (ts : List Token) (text : List ℕ) (e : Edit) → AreTokensOf ts text → Drops (32 ∷ text) e → IsEditLine (codes "drop " ++ text) e
drops ts text e h d = inr (32 ∷ text, begins (codes "drop") text, d)

pub edit_back : (e : Edit) → IsNamedEdit e → IsEditLine (edit_text e) e
edit_back (AddRule r) n = adds (says.Rule (Some r.label) r.kind r.body r.head) (rule_text r) (AddRule r) (rule_back r n.label n.body n.head) refl
edit_back (AddFact q) n = adds (says.Fact q) (fact_text q) (AddFact q) (fact_back q n) refl
edit_back (AddPair p) n = adds (says.Pair p) (pair_text p) (AddPair p) (pair_back p n.upper n.lower) refl
edit_back (DropRule label) n =
    let h = name_spelled label n in
    drops (Name label ∷ []) label (DropRule label) h (Name label ∷ [], blank (Name label ∷ []) label h, refl)
edit_back (DropFact q) n =
    let h = fact_spelled q n in
    drops (Mark Facts ∷ literal_tokens q) (fact_text q) (DropFact q) h (Mark Facts ∷ literal_tokens q, blank (Mark Facts ∷ literal_tokens q) (fact_text q) h, refl)
edit_back (DropPair p) n =
    let ts : List Token = Name p.upper ∷ Mark Above ∷ Name p.lower ∷ [] in
    let h = pair_spelled p n.upper n.lower in
    drops ts (pair_text p) (DropPair p) h (ts, blank ts (pair_text p) h, refl)
