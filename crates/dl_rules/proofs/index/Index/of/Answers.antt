use Rattle.std.proofs.Common.{◌≡◌, ℕ, List, [], get_or, map, ap, ◌∙◌, arith}
use Rattle.dl_rows.specs.Tables.{RowLists, list_at}
use Rattle.dl_rules.proofs.LinkLemmas.{HasLinks-none}
use Rattle.dl_rules.proofs.NumberLemmas.{numbered_none}
use Rattle.dl_rules.proofs.ThereLemmas.{live_all}
use Rattle.dl_rows.proofs.TableLemmas.{constant_at}
use Rattle.dl_rules.proofs.index.Index.of.Goals as goal

-- lists that were made with room are empty
no_list : (t : RowLists) (counts : List ℕ) → t.lists ≡ map (λ _. []) counts → (n : ℕ) → list_at t n ≡ []
no_list t counts made n = ap (λ (ls : List (List ℕ)). get_or ls n []) made ∙ constant_at [] counts n

pub invariant_of-result : goal.invariant_of-result
invariant_of-result c = record {
  rules = c.in_ok-lists.ensures;
  links = HasLinks-none c.args.lines.items c.in_ok-lowers.lowers c.in_ok-uppers.uppers
      (no_list c.in_ok-lowers.lowers c.as_slice.result.now c.in_ok-lowers.ensures)
      (no_list c.in_ok-uppers.uppers c.as_slice-2.result.now c.in_ok-uppers.ensures);
  few = omega (arith, c.requires.few);
  live = c.len-live.ensures ∙ live_all c.args.lines.items c.args.names c.requires.within;
  room = tt;
}

pub returns-clause-lowers : goal.returns-clause-lowers
returns-clause-lowers c =
    numbered_none c.args.lines.items c.in_ok-lowers.lowers (no_list c.in_ok-lowers.lowers c.as_slice.result.now c.in_ok-lowers.ensures)

pub returns-clause-uppers : goal.returns-clause-uppers
returns-clause-uppers c =
    numbered_none c.args.lines.items c.in_ok-uppers.uppers (no_list c.in_ok-uppers.uppers c.as_slice-2.result.now c.in_ok-uppers.ensures)
