use Rattle.std.proofs.Common.{◌≡◌, ℕ, Option, List, [], length, get_or, sym, ap, subst, ◌∙◌, arith}
use Rattle.std.specs.Prelude.{All, Contains}
use Rattle.dl_rows.specs.Rows.{places}
use Rattle.dl_rows.specs.Tables.{RowLists}
use Rattle.dl_rows.specs.There.{there}
use Rattle.dl_rules.specs.Lines.{Line, IsThere, heads_row, uses_row}
use Rattle.dl_rules.specs.Indexes.{HasRules, HasLinks}
use Rattle.dl_rules.proofs.index.Index.copy.Goals as goal

module _ (ls ls' : List (Option Line)) (same : ls' ≡ ls) where
  rules_same : (h h' u u' : RowLists) → h'.lists ≡ h.lists → u'.lists ≡ u.lists → HasRules ls h u → HasRules ls' h' u'
  rules_same h h' u u' eh eu k = record {
    by_head = λ n. ap (λ (xs : List (List ℕ)). get_or xs n []) eh ∙ k.by_head n ∙ ap (λ (xs : List (Option Line)). places heads_row xs n) (sym same);
    by_use = λ n. ap (λ (xs : List (List ℕ)). get_or xs n []) eu ∙ k.by_use n ∙ ap (λ (xs : List (Option Line)). places uses_row xs n) (sym same);
    as_wide = omega (arith, ap (λ (xs : List (List ℕ)). length xs) eh, ap (λ (xs : List (List ℕ)). length xs) eu, k.as_wide);
  }

  there_same : (t t' : RowLists) → t'.lists ≡ t.lists → ((s : ℕ) → All (IsThere ls) (get_or t.lists s [])) → (s : ℕ) → All (IsThere ls') (get_or t'.lists s [])
  there_same t t' e h s =
      subst (λ (xs : List (Option Line)). All (IsThere xs) (get_or t'.lists s [])) (sym same)
      (subst (λ (xs : List (List ℕ)). All (IsThere ls) (get_or xs s [])) (sym e) (h s))

  turned_same : (t t' v v' : RowLists) → t'.lists ≡ t.lists → v'.lists ≡ v.lists
      → ((s r : ℕ) → Contains (get_or t.lists s []) r → Contains (get_or v.lists r []) s)
      → (s r : ℕ) → Contains (get_or t'.lists s []) r → Contains (get_or v'.lists r []) s
  turned_same t t' v v' e f h s r m =
      subst (λ (xs : List (List ℕ)). Contains (get_or xs r []) s) (sym f)
      (h s r (subst (λ (xs : List (List ℕ)). Contains (get_or xs s []) r) e m))

  links_same : (t t' v v' : RowLists) → t'.lists ≡ t.lists → v'.lists ≡ v.lists → HasLinks ls t v → HasLinks ls' t' v'
  links_same t t' v v' e f k = record {
    lower_there = there_same t t' e k.lower_there;
    upper_there = there_same v v' f k.upper_there;
    turned = turned_same t t' v v' e f k.turned;
    turned_back = λ s r. turned_same v v' t t' f e (λ a b. k.turned_back b a) r s;
  }

pub invariant_of-result : goal.invariant_of-result
invariant_of-result c =
    let ls : List (Option Line) = c.self.inside.lines.items in
    let same = c.in_ok-lines.ensures in
    record {
      rules = rules_same ls c.in_ok-lines.lines.items same c.self.inside.heads c.in_ok-heads.heads c.self.inside.uses c.in_ok-uses.uses c.in_ok-heads.ensures
          c.in_ok-uses.ensures c.self.invariant.rules;
      links = links_same ls c.in_ok-lines.lines.items same c.self.inside.lowers c.in_ok-lowers.lowers c.self.inside.uppers c.in_ok-uppers.uppers c.in_ok-lowers.ensures
          c.in_ok-uppers.ensures c.self.invariant.links;
      few = omega (arith, ap (λ (xs : List (Option Line)). length xs) same, c.self.invariant.few);
      live = c.self.invariant.live ∙ ap (λ (xs : List (Option Line)). length (there xs)) (sym same);
      room = tt;
    }
