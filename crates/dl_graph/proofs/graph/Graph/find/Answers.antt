use Rattle.std.proofs.Common.{◌≡◌, ◌<◌, ℕ, Option, None, Some, List, length, position, sym, subst}
use Rattle.std.specs.Prelude.{IfSome}
use Rattle.dl_base.specs.Paths.{IsDistinct}
use Rattle.dl_lit.specs.declared.literal.Literal.{Literal}
use Rattle.dl_lit.specs.Literal.{literal_eq}
use Rattle.dl_graph.specs.Numbers.{NetLists, number}
use Rattle.dl_names.specs.Paired.{number_in}
use Rattle.dl_names.proofs.NameLemmas.{found_at, number_found}
use Rattle.dl_graph.proofs.graph.Graph.find.Goals as goal

find_there : (o : Option ℕ) (ls : List Literal) (q : Literal) → IsDistinct ls → o ≡ position (literal_eq q) ls
    → IfSome o (λ n. (n < length ls) × (n ≡ number_in ls q))
find_there None ls q distinct e = tt
find_there (Some n) ls q distinct e = ((found_at ls q n (sym e)).0, sym (number_found ls q n distinct (sym e)))

pub returns-clause-there : goal.returns-clause-there
returns-clause-there c =
    subst (λ (v : NetLists). IfSome c.find.result (λ n. (n < length v.names) × (n ≡ number v c.args.literal.now))) c.self.view_is
    (find_there c.find.result c.self.inside.names.now.literals c.args.literal.now c.find.ensures.distinct c.find.ensures.number)
