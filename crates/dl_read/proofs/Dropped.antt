-- What a request drops, from its tokens and back.
use Rattle.std.proofs.Common.{◌≡◌, ℕ, true, List, [], ◌∷◌, Option, Some, None, refl, sym, ap, subst, ◌∙◌, inl, inr}
use Rattle.std.specs.List.{list_all}
use Rattle.dl_lit.specs.declared.literal.Literal.{Literal}
use Rattle.dl_theory.specs.declared.edit.Edit.{Edit}
use Rattle.dl_theory.specs.declared.edit.Edit.TheVariants.{AddRule, DropRule, AddFact, DropFact, AddPair, DropPair}
use Rattle.dl_read.specs.declared.token.Token.{Token}
use Rattle.dl_read.specs.declared.token.Token.TheVariants.{Name, Arrow, Mark, End, Foreign}
use Rattle.dl_read.specs.declared.token.Mark.TheVariants.{Facts, Above}
use Rattle.dl_read.specs.Grammar.{literal_tokens}
use Rattle.dl_read.specs.EditLines.{AreDropped, Drops}
use Rattle.dl_read.specs.Tokens.{next, same_mark, tokens}
use Rattle.dl_read.specs.Parsing.{Parse, ◌>>=◌, name_at, end_at, pair_at, dropped_at, dropped_from, dropped_named}
use Rattle.dl_read.proofs.Parts.{bind_ok, some_is, chosen, same_mark_is}
use Rattle.dl_read.proofs.Sound.{pair_tokens, head_takes}
use Rattle.dl_read.proofs.Complete.{head_again}
use Rattle.dl_read.proofs.Lexing.{past_spelled, is_known, known_literal}
use Rattle.dl_read.proofs.Lines.{tokens_again, under_none}

named_takes : (name : List ℕ) (ts : List Token) (e : Edit × List Token) → dropped_named name (next ts).0 (next ts).1 ≡ Some e → AreDropped (Name name ∷ ts) e.0
unfolding dropped_named
named_takes name [] e h = let P : Edit × List Token → Type 0 = λ x. AreDropped (Name name ∷ []) x.0 in subst P (some_is _ _ h) refl
named_takes name (Name n ∷ ts) e h = cc
named_takes name (Arrow kind ∷ ts) e h = cc
named_takes name (Mark own ∷ ts) e h =
    elim (chosen (same_mark own Above) _ _ _ h) [
      | inl p ↦ (let a = bind_ok _ _ _ p.1 in
          let P : Edit × List Token → Type 0 = λ x. AreDropped (Name name ∷ Mark own ∷ ts) x.0 in
          subst P (some_is _ _ a.2) (ap (λ x. Name name ∷ Mark x ∷ ts) (same_mark_is own Above p.0) ∙ pair_tokens name ts a.0 a.1))
      | inr p ↦ (let f : ◌≡◌ {A = Option (Edit × List Token)} None (Some e) = p.1 in cc)
    ]
named_takes name (End ∷ ts) e h = cc
named_takes name (Foreign ∷ ts) e h = cc

pub dropped_takes : (ts : List Token) (e : Edit × List Token) → dropped_at ts ≡ Some e → AreDropped ts e.0
unfolding dropped_at dropped_from
dropped_takes [] e h = cc
dropped_takes (Name n ∷ ts) e h = named_takes n ts e h
dropped_takes (Arrow kind ∷ ts) e h = cc
dropped_takes (Mark own ∷ ts) e h =
    elim (chosen (same_mark own Facts) _ _ _ h) [
      | inl p ↦ (let a = bind_ok _ _ _ p.1 in
          let b = head_takes None ts a.0 a.1 in
          let same : a.0.0 ≡ b.0 = b.1 ∙ under_none b.0 in
          let P : Edit × List Token → Type 0 = λ x. AreDropped (Mark own ∷ ts) x.0 in
          subst P (some_is _ _ a.2) (ap (λ x. Mark x ∷ ts) (same_mark_is own Facts p.0) ∙ ap (λ (x : List Token). Mark Facts ∷ x) (b.2 ∙ ap literal_tokens (sym same))))
      | inr p ↦ (let f : ◌≡◌ {A = Option (Edit × List Token)} None (Some e) = p.1 in cc)
    ]
dropped_takes (End ∷ ts) e h = cc
dropped_takes (Foreign ∷ ts) e h = cc

label_again : (label : List ℕ) → dropped_at (Name label ∷ []) ≡ Some (DropRule label, [])
unfolding dropped_at dropped_from dropped_named
label_again label = refl

pair_again : (upper lower : List ℕ) → dropped_at (Name upper ∷ Mark Above ∷ Name lower ∷ []) ≡ Some (DropPair (record { upper = upper; lower = lower }), [])
unfolding dropped_at dropped_from dropped_named pair_at name_at end_at
pair_again upper lower = refl

fact_again : (q : Literal) → dropped_at (Mark Facts ∷ literal_tokens q) ≡ Some (DropFact q, [])
unfolding dropped_at dropped_from
fact_again q = ap (λ (o : Parse Literal). o >>= (λ x. Some (DropFact x.0, x.1))) (head_again None q ∙ ap (λ (x : Literal). Some (x, [])) (under_none q))

pub dropped_again : (ts : List Token) (e : Edit) → AreDropped ts e → dropped_at ts ≡ Some (e, [])
dropped_again ts (DropRule label) h = ap dropped_at h ∙ label_again label
dropped_again ts (DropFact q) h = ap dropped_at h ∙ fact_again q
dropped_again ts (DropPair p) h = ap dropped_at h ∙ pair_again p.upper p.lower
dropped_again ts (AddRule r) h = absurd h
dropped_again ts (AddFact q) h = absurd h
dropped_again ts (AddPair p) h = absurd h

known_dropped : (ts : List Token) (e : Edit) → AreDropped ts e → list_all is_known ts ≡ true
known_dropped ts (DropRule label) h = ap (list_all is_known) h
known_dropped ts (DropFact q) h = ap (list_all is_known) h ∙ known_literal q
known_dropped ts (DropPair p) h = ap (list_all is_known) h
known_dropped ts (AddRule r) h = absurd h
known_dropped ts (AddFact q) h = absurd h
known_dropped ts (AddPair p) h = absurd h

pub dropped_sound : (line : List ℕ) (e : Edit) (r : List Token) → dropped_at (tokens line) ≡ Some (e, r) → Drops line e
unfolding tokens
dropped_sound line e r h =
    let i : AreDropped (tokens line) e = dropped_takes (tokens line) (e, r) h in
    (tokens line, past_spelled 0 line (known_dropped (tokens line) e i), i)

pub dropped_complete : (line : List ℕ) (e : Edit) → Drops line e → dropped_at (tokens line) ≡ Some (e, [])
dropped_complete line e h = ap dropped_at (tokens_again h.0 line h.1) ∙ dropped_again h.0 e h.2
