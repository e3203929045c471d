-- The same theory over another index of the same rules.
use Rattle.std.proofs.Common.{◌≡◌, Option, List, length, sym, ap, subst, ◌∙◌}
use Rattle.dl_theory.specs.Lists.{IsWellFormed}
use Rattle.dl_rules.specs.Lines.{Line, IndexLists, IsThere}
use Rattle.dl_graph.specs.Numbers.{NetLists, IsNumbered}
use Rattle.dl_graph.specs.Tables.{TableLists, AreTables, HasTables, net_of}

module _ (t : TableLists) (x : IndexLists) (lines : x.lines ≡ t.index.lines) where
  -- a net reads the rules alone of an index
  pub net_anew : net_of (record t { index = x }) ≡ net_of t
  net_anew = ap (λ (ls : List (Option Line)). net_of (record t { index = record t.index { lines = ls } })) lines

  pub tables_anew : x.lowers ≡ t.index.lowers → x.uppers ≡ t.index.uppers → AreTables t → AreTables (record t { index = x })
  tables_anew lowers uppers h = record {
    as_long = h.as_long ∙ ap length (sym lines);
    facts_within = h.facts_within;
    formed = subst (λ (N : NetLists). IsWellFormed N.theory) (sym net_anew) h.formed;
    numbered = subst IsNumbered (sym net_anew) h.numbered;
    paired = h.paired;
    tables = subst (λ (N : NetLists). HasTables N t.marks x) (sym net_anew) (record {
      facts_named = h.tables.facts_named;
      rules_named = h.tables.rules_named;
      facts = h.tables.facts;
      index = record { lines = lines ∙ h.tables.index.lines; lowers = lowers ∙ h.tables.index.lowers; uppers = uppers ∙ h.tables.index.uppers };
    });
    latest = λ n there. h.latest n (subst (λ (ls : List (Option Line)). IsThere ls n) lines there);
    joined = λ l n has. let both = h.joined l n has in (
      subst (λ (ls : List (Option Line)). IsThere ls l.upper) (sym lines) both.0,
      subst (λ (ls : List (Option Line)). IsThere ls l.lower) (sym lines) both.1,
    );
  }
