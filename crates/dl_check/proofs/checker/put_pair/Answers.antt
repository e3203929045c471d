use Rattle.std.proofs.Common.{◌≡◌, ℕ, cond, List, [], ◌∷◌, ◌++◌, subst}
use Rattle.std.specs.Str.{bytes_eq}
use Rattle.std.proofs.lemmas.Result.{on_ok_weaker}
use Rattle.std.proofs.lemmas.Slice.Eq.{bytes_eq-Decides}
use Rattle.dl_check.specs.Groups.{group}
use Rattle.dl_check.proofs.Grouped.{grouped_push}
use Rattle.dl_check.proofs.checker.put_pair.Goals as goal

pub returns : goal.returns
returns c =
    let old = c.args.groups.now.groups.entries in
    let new = c.push.new.self.groups.entries in
    let p = c.args.pair.now in
    let lower : c.in_ok-lower.lower ≡ p.lower = c.in_ok-lower.ensures in
    let upper : c.in_ok-upper.upper ≡ p.upper = c.in_ok-upper.ensures in
    on_ok_weaker c.push.result
    (λ step pairs h. grouped_push bytes_eq (λ x. x.lower) (λ x. x.upper) bytes_eq-Decides old new pairs p h
    (subst (λ (v : List ℕ). (k : List ℕ) → group bytes_eq new k ≡ cond (bytes_eq p.lower k) (group bytes_eq old p.lower ++ v ∷ []) (group bytes_eq old k)) upper
    (subst (λ (l : List ℕ). (k : List ℕ) → group bytes_eq new k ≡ cond (bytes_eq l k) (group bytes_eq old l ++ c.in_ok-upper.upper ∷ []) (group bytes_eq old k))
    lower step)))
    c.push.ensures
