use Rattle.std.proofs.Common.{◌≡◌, ℕ, ◌≤◌, List, Bool, true, false, Option, Some, cond, eqb, length, get_or, refl, ap, ◌∙◌, arith}
use Rattle.std.proofs.lemmas.Bool.Decides.{Decides-eqb}
use Rattle.std.proofs.lemmas.List.{get_or_past}
use Rattle.std.specs.Option.{unwrap_or}
use Rattle.dl_sup.specs.HeadLists.{HeadLists, head_of}
use Rattle.dl_sup.proofs.heads.Heads.put.Goals as goal

unwrap_or-cond : (b : Bool) (n : ℕ) (o : Option ℕ) → unwrap_or (cond b (Some n) o) 0 ≡ cond b n (unwrap_or o 0)
unwrap_or-cond true n o = refl
unwrap_or-cond false n o = refl

get_or-cond : (b : Bool) (near : List ℕ) (q head other : ℕ) → (b ≡ true → length near ≤ q) → get_or near q (cond b head other) ≡ cond b head (get_or near q other)
get_or-cond true near q head other past = get_or_past near q head (past refl)
get_or-cond false near q head other past = refl

pub returns-clause-put : goal.returns-clause-put
returns-clause-put c = λ q.
    ap (λ (o : Option ℕ). get_or c.self.inside.near.items q (unwrap_or o 0)) (c.in_ok-insert.ensures.updates.0 q)
    ∙ ap (get_or c.self.inside.near.items q) (unwrap_or-cond (eqb c.args.item q) c.args.head _)
    ∙ get_or-cond (eqb c.args.item q) c.self.inside.near.items q c.args.head _ (λ e. omega (arith, (Decides-eqb c.args.item q).0 e, c.if-item-len.false))
    ∙ ap (λ (heads : HeadLists). cond (eqb c.args.item q) c.args.head (head_of heads q)) c.self.view_is
