use Rattle.std.proofs.Common.{ℕ, List, ◌++◌, ◌∷◌, [], length, map, take, refl, sym, ap, subst, ◌∙◌, arith}
use Rattle.std.specs.Prelude.{All}
use Rattle.std.proofs.lemmas.List.{take_all, take_more, map-append}
use Rattle.std.proofs.lemmas.List.Elements.{All-more, All-push}
use Rattle.std.proofs.lemmas.Option.{slice_get_read}
use Rattle.dl_sup.specs.declared.link.Link.{Link}
use Rattle.dl_theory.specs.declared.rule.Pair.{Pair}
use Rattle.dl_theory.specs.Edits.{AreThere, MissesAt}
use Rattle.dl_theory.specs.Pairs.{named, IsWithin}
use Rattle.dl_theory.proofs.Numbers.{has_labels}
use Rattle.dl_theory.proofs.labelled.labelled_front.Goals as goal

pub returns-in-None : goal.returns-in-None
returns-in-None c = record {
  front =
      subst (λ (at : ℕ). MissesAt c.args.labels.now.keys c.args.pairs.now at c.in_ok-missing_label-in-None.field-0) (sym c.loop-pair.invariant.as_many)
      (record {
        pair = c.pair-item.result;
        stands =
            slice_get_read c.args.pairs.now (length c.args.pairs.now) c.loop-pair.pair-index c.pair-item.result refl c.loop-pair-test.true
            c.pair-item.is;
        front = c.loop-pair.invariant.labelled;
        missing = c.in_ok-missing_label-in-None.ensures;
      });
  within = c.loop-pair.invariant.within;
  named = c.loop-pair.invariant.names ∙ ap (λ n. take n c.args.pairs.now) (sym c.loop-pair.invariant.as_many);
}

pub loop-pair-preserved : goal.loop-pair-preserved
loop-pair-preserved c =
    let keys : List (List ℕ) = c.args.labels.now.keys in
    let pairs : List Pair = c.args.pairs.now in
    let at : ℕ = c.loop-pair.pair-index in
    let links : List Link = c.loop-pair.links.items in
    record {
      labelled =
          All-more (AreThere keys) pairs at c.pair-item.result c.loop-pair-test.true c.loop-pair.invariant.labelled
          (subst (λ (p : Pair). AreThere keys p) c.pair-item.is (has_labels keys c.in-Some.link c.pair-item.result c.in-Some.ensures.number));
      as_many = omega (arith, c.in_ok-push-in-Some.ensures.len, c.loop-pair.invariant.as_many);
      within =
          subst (λ (ls : List Link). All (IsWithin keys) ls) (sym c.in_ok-push-in-Some.ensures.items)
          (All-push (IsWithin keys) links c.in-Some.link c.loop-pair.invariant.within c.in-Some.ensures.number.within);
      names =
          ap (map (named keys)) c.in_ok-push-in-Some.ensures.items
          ∙ map-append (named keys) links (c.in-Some.link ∷ [])
          ∙ ap (λ ps. ps ++ named keys c.in-Some.link ∷ []) c.loop-pair.invariant.names
          ∙ ap (λ p. take at pairs ++ p ∷ []) (c.in-Some.ensures.number.names ∙ c.pair-item.is)
          ∙ sym (take_more pairs at c.pair-item.result c.loop-pair-test.true);
    }

pub returns : goal.returns
returns c = record {
  front = (
    subst (λ (ps : List Pair). All (AreThere c.args.labels.now.keys) ps) (take_all c.loop-pair.pair-index c.args.pairs.now c.loop-pair-test.false) c.loop-pair.invariant.labelled,
    omega (arith, c.loop-pair.invariant.as_many, c.loop-pair-test.false),
  );
  within = c.loop-pair.invariant.within;
  named = c.loop-pair.invariant.names ∙ ap (λ n. take n c.args.pairs.now) (sym c.loop-pair.invariant.as_many);
}
