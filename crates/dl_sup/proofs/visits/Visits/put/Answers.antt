use Rattle.std.proofs.Common.{◌≡◌, ℕ, eqb, List, [], ◌∷◌, ◌++◌, Option, None, Some, refl, ap, subst, sym, ◌∙◌}
use Rattle.std.specs.Prelude.{Contains, IsSome}
use Rattle.std.specs.Map.{lookup}
use Rattle.std.proofs.lemmas.Map.Views.{exact_unsigned_eq, Contains-keys_from_lookup}
use Rattle.indexmap.proofs.CallerLemmas.{insert_entry-new}
use Rattle.dl_sup.specs.Searching.{items_of}
use Rattle.dl_sup.proofs.visits.Visits.put.Goals as goal

no_entry : (visits : List (ℕ × ℕ)) (item : ℕ) → (¬ Contains (items_of visits) item) → lookup (eqb item) visits ≡ None
no_entry visits item absent = by (lookup (eqb item) visits) refl
  where
    by : (o : Option ℕ) → lookup (eqb item) visits ≡ o → o ≡ None
    by None e = refl
    by (Some x) e = absurd (absent (Contains-keys_from_lookup exact_unsigned_eq item visits (subst IsSome (sym e) refl)))

pub returns-clause-put : goal.returns-clause-put
returns-clause-put c =
    c.in_ok-insert.ensures.entries
    ∙ insert_entry-new eqb c.self.inside.map c.args.item c.args.from
    (no_entry c.self.inside.map.entries c.args.item (subst (λ (vs : List (ℕ × ℕ)). ¬ Contains (items_of vs) c.args.item) (sym c.self.view_is) c.requires))
    ∙ ap (λ (vs : List (ℕ × ℕ)). vs ++ (c.args.item, c.args.from) ∷ []) c.self.view_is
