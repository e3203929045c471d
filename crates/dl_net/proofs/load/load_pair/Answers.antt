use Rattle.std.proofs.lemmas.Result.{on_ok_weaker}
use Rattle.std.proofs.Common.{◌∷◌, [], ◌++◌, ℕ, List, set, ap, ◌∙◌}
use Rattle.dl_rows.specs.Tables.{list_of}
use Rattle.dl_net.proofs.AboveLemmas.{lowers_none, lowers_joined, uppers_none, uppers_joined}
use Rattle.dl_net.proofs.load.load_pair.Goals as goal

pub returns-then-not-meet-clause-lowers : goal.returns-then-not-meet-clause-lowers
returns-then-not-meet-clause-lowers c = λ N p are pair F e.
    e ∙ lowers_none N c.args.names.now.literals c.args.index.now.lines are c.len-count.ensures.distinct c.len-count.ensures.paired p
    c.args.upper c.args.lower pair c.meet.result c.meet.ensures c.if-not-meet.true F

pub returns-then-not-meet-clause-uppers : goal.returns-then-not-meet-clause-uppers
returns-then-not-meet-clause-uppers c = λ N p are pair F e.
    e ∙ uppers_none N c.args.names.now.literals c.args.index.now.lines are c.len-count.ensures.distinct c.len-count.ensures.paired p
    c.args.upper c.args.lower pair c.meet.result c.meet.ensures c.if-not-meet.true F

pub returns-clause-lowers : goal.returns-clause-lowers
returns-clause-lowers c =
    let u : ℕ = c.args.upper in
    let l : ℕ = c.args.lower in
    on_ok_weaker c.append_link.result
    (λ put N p are pair F e.
    put ∙ ap (λ (xs : List (List ℕ)). set xs u (list_of xs u ++ l ∷ [])) e
    ∙ lowers_joined N c.args.names.now.literals c.args.index.now.lines are c.len-count.ensures.distinct c.len-count.ensures.paired p
    u l pair c.meet.result c.meet.ensures c.if-not-meet.false F)
    c.append_link.ensures.lowers

pub returns-clause-uppers : goal.returns-clause-uppers
returns-clause-uppers c =
    let u : ℕ = c.args.upper in
    let l : ℕ = c.args.lower in
    on_ok_weaker c.append_link.result
    (λ put N p are pair F e.
    put ∙ ap (λ (xs : List (List ℕ)). set xs l (list_of xs l ++ u ∷ [])) e
    ∙ uppers_joined N c.args.names.now.literals c.args.index.now.lines are c.len-count.ensures.distinct c.len-count.ensures.paired p
    u l pair c.meet.result c.meet.ensures c.if-not-meet.false F)
    c.append_link.ensures.uppers
