use Rattle.std.proofs.Common.{◌≡◌, ℕ, ◌≤◌, ◌-◌, ◌++◌, List, length, take, ap, subst, sym, ◌∙◌, arith}
use Rattle.std.proofs.lemmas.List.{length-append}
use Rattle.dl_base.specs.Paths.{IsDistinct}
use Rattle.dl_lists.specs.Names.{NameLists}
use Rattle.dl_lists.specs.KeptNames.{shared_in}
use Rattle.dl_lists.proofs.NameLemmas.{distinct_take, cut_behind}
use Rattle.dl_lists.proofs.label_names.LabelNames.truncate.Goals as goal

cut : (c : goal.After-truncate) → shared_in c.self.inside.shared ++ c.truncate.new.self.keys ≡ take c.args.count (shared_in c.self.inside.shared ++ c.self.inside.later.keys)
cut c =
    let ss : List (List ℕ) = shared_in c.self.inside.shared in
    let ks : List (List ℕ) = c.self.inside.later.keys in
    let count : ℕ = c.args.count in
    let enough : length ss ≤ count =
    omega (arith, c.requires, length-append ss ks, ap (λ (v : NameLists). length v.keys) c.self.view_is, ap (λ (v : NameLists). v.later) c.self.view_is) in
    ap (λ (ls : List (List ℕ)). ss ++ ls) (c.truncate.ensures.keys ∙ ap (λ (n : ℕ). take (count - n) ks) c.shared_len-before.ensures)
    ∙ sym (cut_behind ss ks count enough)

pub invariant_of-self : goal.invariant_of-self
invariant_of-self c =
    subst (λ (ls : List (List ℕ)). IsDistinct ls) (sym (cut c))
    (distinct_take (shared_in c.self.inside.shared ++ c.self.inside.later.keys) c.args.count c.self.invariant)

pub returns : goal.returns
returns c = cut c ∙ ap (λ (v : NameLists). take c.args.count v.keys) c.self.view_is
