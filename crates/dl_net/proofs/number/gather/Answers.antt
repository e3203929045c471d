use Rattle.std.proofs.Common.{◌≡◌, ℕ, ◌++◌, ◌∷◌, [], Bool, false, true, List, take, get_or, refl, sym, ap, subst, ◌∙◌}
use Rattle.std.specs.Prelude.{Contains}
use Rattle.std.proofs.lemmas.Bool.{false≢true}
use Rattle.std.proofs.lemmas.List.{take_more}
use Rattle.dl_rows.specs.Counting.{each_once, is_in}
use Rattle.dl_rules.proofs.OnceLemmas.{stands, each_once-inserted}
use Rattle.dl_net.proofs.number.gather.Goals as goal

-- one number more goes last, unless it was there
gathered : (old new done : List ℕ) (b : ℕ) → old ≡ each_once done → (Contains old b → new ≡ old) → ((¬ Contains old b) → new ≡ old ++ b ∷ [])
    → new ≡ each_once (done ++ b ∷ [])
gathered old new done b is there put = by (is_in (each_once done) b) refl
  where
    by : (v : Bool) → is_in (each_once done) b ≡ v → new ≡ each_once (done ++ b ∷ [])
    by true e =
        there (subst (λ (xs : List ℕ). Contains xs b) (sym is) ((stands (each_once done) b).0 e))
        ∙ is ∙ each_once-inserted done b true e
    by false e =
        put (λ m. false≢true (sym e ∙ (stands (each_once done) b).1 (subst (λ (xs : List ℕ). Contains xs b) is m)))
        ∙ ap (λ (xs : List ℕ). xs ++ b ∷ []) is ∙ each_once-inserted done b false e

pub loop-number-preserved : goal.loop-number-preserved
loop-number-preserved c =
    let xs : List ℕ = c.args.numbers.now in
    let i : ℕ = c.loop-number.number-index in
    let b : ℕ = get_or xs i 0 in
    record {
      bound = c.put.ensures.bound ∙ c.loop-number.invariant.bound;
      members = gathered c.loop-number.seen.members c.put.new.self.members (take i xs) b c.loop-number.invariant.members c.put.ensures.there c.put.ensures.new
          ∙ sym (ap each_once (take_more xs i 0 c.loop-number-test.true));
    }
