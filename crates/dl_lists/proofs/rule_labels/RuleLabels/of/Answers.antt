use Rattle.std.proofs.Common.{ℕ, None, List, length, map, sym, ap, ◌∙◌}
use Rattle.std.specs.List.{range_with_len}
use Rattle.dl_lists.specs.Names.{NameLists, name_at}
use Rattle.dl_lists.proofs.EntryLemmas.{entered_all}
use Rattle.dl_lists.proofs.LabelLemmas.{entered_is, labels_all}
use Rattle.dl_lists.proofs.rule_labels.RuleLabels.of.Goals as goal

pub invariant_of-result : goal.invariant_of-result
invariant_of-result c =
    let names : List (List ℕ) = c.args.names.keys in
    record {
      entered = entered_is _ _ _ _ (entered_all (length names)) (c.of-entries.ensures.entries ∙ ap (range_with_len 0) c.len.ensures.len)
          (c.of-entries.ensures.count ∙ c.len.ensures.len);
      room = ap (λ (v : NameLists). length v.keys) c.of.ensures ∙ sym (c.of-entries.ensures.count ∙ c.len.ensures.len);
    }

pub returns : goal.returns
returns c =
    let names : List (List ℕ) = c.args.names.keys in
    let labels =
    (λ i. map (name_at (c.of.ensures i).keys) ((c.of-entries.ensures.entries ∙ ap (range_with_len 0) c.len.ensures.len) i)) ∙ labels_all names in
    λ i. record { labels = labels i; ready = None }
