use Rattle.std.proofs.Common.{ℕ, Bool, true, false, cond, List, [], ◌∷◌, ◌++◌, sym, subst, ◌∙◌, true≢false}
use Rattle.std.specs.Prelude.{Contains}
use Rattle.std.specs.Bool.{Decides}
use Rattle.std.specs.List.{list_any}
use Rattle.std.specs.Str.{bytes_eq}
use Rattle.std.proofs.lemmas.Option.{get_or_from_slice_get}
use Rattle.std.proofs.lemmas.Map.Made.{is_member-Decides}
use Rattle.std.proofs.lemmas.Slice.Eq.{bytes_eq-Decides}
use Rattle.indexmap.specs.IndexSet.{insert_key}
use Rattle.dl_base.specs.Paths.{IsDistinct}
use Rattle.dl_base.proofs.Distinct.{distinct_push}
use Rattle.dl_theory.proofs.superiority.number.Goals as goal

-- a label goes last only where it is new
inserted_distinct : (labels : List (List ℕ)) (label : List ℕ) → IsDistinct labels → IsDistinct (insert_key bytes_eq labels label)
inserted_distinct labels label h = by (list_any (bytes_eq label) labels) (is_member-Decides bytes_eq-Decides labels label)
  where
    by : (there : Bool) → Decides there (Contains labels label) → IsDistinct (cond there labels (labels ++ label ∷ []))
    by true d = h
    by false d = distinct_push labels label h (λ m. true≢false (sym (d.1 m)))

pub returns-clause-distinct : goal.returns-clause-distinct
returns-clause-distinct c =
    subst (λ (labels : List (List ℕ)). IsDistinct labels) (sym c.in_ok-at.ensures.keys)
    (inserted_distinct c.args.items.now.keys c.in_ok-copy.field-0 c.requires)

pub returns-clause-names : goal.returns-clause-names
returns-clause-names c =
    let found = c.in_ok-at.ensures.stored in
    get_or_from_slice_get c.insert_full.new.self.keys c.in_ok-at.at found.0 [] found.1
    ∙ sym ((bytes_eq-Decides c.in_ok-copy.field-0 found.0).0 found.2)
    ∙ c.in_ok-copy.ensures
