use Rattle.std.proofs.Common.{ℕ, List, [], get_or, ap, ◌∙◌}
use Rattle.dl_rows.proofs.TableLemmas.{constant_at}
use Rattle.dl_rules.proofs.rule_lists.RuleLists.with_room.Goals as goal

pub returns-clause-heads : goal.returns-clause-heads
returns-clause-heads c = λ n. ap (λ (ls : List (List ℕ)). get_or ls n []) c.in_ok-with_room.ensures ∙ constant_at [] c.as_slice.result.now n

pub returns-clause-uses : goal.returns-clause-uses
returns-clause-uses c = λ n. ap (λ (ls : List (List ℕ)). get_or ls n []) c.in_ok-with_room-2.ensures ∙ constant_at [] c.as_slice-2.result.now n
