use Rattle.std.proofs.Common.{◌≡◌, [], ◌∷◌, ◌++◌, ◌+◌, ◌<◌, ◌≤◌, ℕ, List, Option, None, length, take, map, get_or, sym, ap, subst, ◌∙◌, arith}
use Rattle.std.specs.Prelude.{flat_map, slice_get}
use Rattle.std.proofs.lemmas.List.{take_more, take_all, length-map}
use Rattle.dl_sup.specs.declared.link.Link.{Link}
use Rattle.dl_theory.specs.declared.rule.Rule.{Rule}
use Rattle.dl_theory.specs.declared.rule.Pair.{Pair}
use Rattle.dl_rules.specs.Lines.{Line, IsThere, line_at}
use Rattle.dl_rules.proofs.ThereLemmas.{there_within}
use Rattle.dl_graph.specs.Above.{lower_step, upper_step}
use Rattle.dl_graph.specs.Numbers.{NetLists, of_rule}
use Rattle.dl_net.specs.Linking.{AreRules, ArePairs, IsPairOf, pair_at}
use Rattle.dl_net.proofs.AboveLemmas.{flat_map-push}
use Rattle.dl_net.proofs.PairRules.{told, told_all, told_pair}
use Rattle.dl_net.proofs.load.load_pairs.Goals as goal

-- what stands for a pair past the end
no_pair : Pair
no_pair = record { upper = []; lower = [] }

more_steps : (f : Pair → Rule → List ℕ) (pairs : List Pair) (i : ℕ) (rules : List (Option Rule)) → i < length pairs
    → map (of_rule (λ t. flat_map (λ q. f q t) (take i pairs) ++ f (get_or pairs i no_pair) t)) rules
    ≡ map (of_rule (λ t. flat_map (λ q. f q t) (take (i + 1) pairs))) rules
more_steps f pairs i rules lt =
    let p : Pair = get_or pairs i no_pair in
    let more : take (i + 1) pairs ≡ take i pairs ++ p ∷ [] = take_more pairs i no_pair lt in
    λ j. map (of_rule (λ t. sym (ap (flat_map (λ q. f q t)) more ∙ flat_map-push (λ q. f q t) (take i pairs) p) j)) rules

pub loop-at-preserved : goal.loop-at-preserved
loop-at-preserved c =
    let i : ℕ = c.loop-at.at in
    let links : List Link = c.args.pairs.now in
    let step = c.in_ok-load_pair-in-Some.ensures in
    let within : (N : NetLists) → ArePairs N links → i < length N.theory.pairs =
    λ N h. omega (arith, c.loop-at-test.true, c.len-at-end.ensures, ap length h.are, length-map links (pair_at N)) in
    let pair : (N : NetLists) → ArePairs N links → IsPairOf N (get_or N.theory.pairs i no_pair) c.in-Some.upper c.in-Some.lower =
    λ N h. told_pair N links h i c.in-Some.upper c.in-Some.lower
    (told (slice_get links i) c.in-Some.upper c.in-Some.lower (sym c.rules_of.ensures ∙ c.in-Some.is)) no_pair in
    let kept : (N : NetLists) → AreRules N c.args.names.now.literals c.args.index.now.lines → AreRules N c.args.names.now.literals c.loop-at.index.lines =
    λ N r. record { names = r.names; numbered = r.numbered; distinct = r.distinct; are = c.loop-at.invariant.lines ∙ r.are } in
    record {
      lines = step.lines ∙ c.loop-at.invariant.lines;
      lowers = λ N r h e.
          step.lowers N (get_or N.theory.pairs i no_pair) (kept N r) (pair N h) (λ t. flat_map (λ q. lower_step N q t) (take i N.theory.pairs))
          (c.loop-at.invariant.lowers N r h e)
          ∙ more_steps (lower_step N) N.theory.pairs i N.rules (within N h);
      uppers = λ N r h e.
          step.uppers N (get_or N.theory.pairs i no_pair) (kept N r) (pair N h) (λ u. flat_map (λ q. upper_step N q u) (take i N.theory.pairs))
          (c.loop-at.invariant.uppers N r h e)
          ∙ more_steps (upper_step N) N.theory.pairs i N.rules (within N h);
    }

pub load_pair-requires-clause-head : goal.load_pair-requires-clause-head
load_pair-requires-clause-head c =
    let lines : List (Option Line) = c.args.index.now.lines in
    let u : ℕ = c.in-Some.upper in
    let there : IsThere lines u =
    (told_all (λ (l : Link). IsThere lines l.upper × IsThere lines l.lower) c.args.pairs.now c.requires.rules c.loop-at.at u c.in-Some.lower
    (told (slice_get c.args.pairs.now c.loop-at.at) u c.in-Some.lower (sym c.rules_of.ensures ∙ c.in-Some.is))).0 in
    subst (λ (xs : List (Option Line)). (line_at xs u).head < length c.args.names.now.literals) (sym c.loop-at.invariant.lines)
    (c.requires.heads u None (there_within lines u there)).1.0

-- all pairs are entered
whole : (f : Pair → Rule → List ℕ) (N : NetLists) (links : List Link) → ArePairs N links → (n : ℕ) → length links ≤ n
    → map (of_rule (λ t. flat_map (λ p. f p t) (take n N.theory.pairs))) N.rules ≡ map (of_rule (λ t. flat_map (λ p. f p t) N.theory.pairs)) N.rules
whole f N links h n past =
    ap (λ (ps : List Pair). map (of_rule (λ t. flat_map (λ p. f p t) ps)) N.rules)
    (take_all n N.theory.pairs (omega (arith, past, ap length h.are, length-map links (pair_at N))))

pub returns-clause-lowers : goal.returns-clause-lowers
returns-clause-lowers c = λ N r h e.
    c.loop-at.invariant.lowers N r h e
    ∙ whole (lower_step N) N c.args.pairs.now h c.loop-at.at (omega (arith, c.len-at-end.ensures, c.loop-at-test.false))

pub returns-clause-uppers : goal.returns-clause-uppers
returns-clause-uppers c = λ N r h e.
    c.loop-at.invariant.uppers N r h e
    ∙ whole (upper_step N) N c.args.pairs.now h c.loop-at.at (omega (arith, c.len-at-end.ensures, c.loop-at-test.false))
