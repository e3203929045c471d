use Rattle.std.proofs.Common.{◌≡◌, ℕ, ◌+◌, ◌<◌, ◌≤◌, List, [], ◌∷◌, ◌++◌, take, drop, length, get_or, ap, sym, ◌∙◌, arith}
use Rattle.std.proofs.lemmas.List.{take_more, take_all, take-append-drop, get_or_default}
use Rattle.dl_graph.specs.Counting.{times}
use Rattle.dl_fill.proofs.Times.{times_push_other}
use Rattle.dl_derive.proofs.way.cut_behind.Goals as goal

pub returns-then-index-node : goal.returns-then-index-node
returns-then-index-node c =
    let nodes : List ℕ = c.args.nodes.now.items in
    let lt : c.loop-place.place < length nodes = omega (arith, c.loop-place-test.true, c.len-place-end.ensures, c.args.nodes.now.ok) in
    let here : get_or nodes c.loop-place.place 0 ≡ c.args.node =
    sym (c.index.ensures ∙ ap (λ (xs : List ℕ). get_or xs c.loop-place.place c.index.result.now) c.loop-place.invariant.same
    ∙ get_or_default nodes c.loop-place.place c.index.result.now 0 lt)
    ∙ omega (arith, c.if-index-node.true) in
    let cut : c.truncate.new.self.items ≡ take (c.loop-place.place + 1) nodes =
    c.truncate.ensures.items ∙ ap (λ (xs : List ℕ). take (c.loop-place.place + 1) xs) c.loop-place.invariant.same in
    record {
      before = take c.loop-place.place nodes;
      ends =
          cut ∙ take_more nodes c.loop-place.place 0 lt
          ∙ ap (λ (v : ℕ). take c.loop-place.place nodes ++ v ∷ []) here;
      rest = drop (c.loop-place.place + 1) nodes;
      whole =
          sym (take-append-drop (c.loop-place.place + 1) nodes)
          ∙ ap (λ (xs : List ℕ). xs ++ drop (c.loop-place.place + 1) nodes) (sym cut);
    }

pub loop-place-preserved : goal.loop-place-preserved
loop-place-preserved c =
    let nodes : List ℕ = c.args.nodes.now.items in
    let lt : c.loop-place.place < length nodes = omega (arith, c.loop-place-test.true, c.len-place-end.ensures, c.args.nodes.now.ok) in
    let here : c.index.result.now ≡ get_or nodes c.loop-place.place 0 =
    c.index.ensures ∙ ap (λ (xs : List ℕ). get_or xs c.loop-place.place c.index.result.now) c.loop-place.invariant.same
    ∙ get_or_default nodes c.loop-place.place c.index.result.now 0 lt in
    record {
      same = c.loop-place.invariant.same;
      later =
          ap (times c.args.node) (take_more nodes c.loop-place.place 0 lt)
          ∙ times_push_other c.args.node (get_or nodes c.loop-place.place 0) (take c.loop-place.place nodes)
          (λ e. omega (arith, e, here, c.if-index-node.false))
          ∙ c.loop-place.invariant.later;
    }

pub unreachable-requires : goal.unreachable-requires
unreachable-requires c =
    let nodes : List ℕ = c.args.nodes.now.items in
    let all : length nodes ≤ c.loop-place.place = omega (arith, c.loop-place-test.false, c.len-place-end.ensures, c.args.nodes.now.ok) in
    omega (arith, c.requires, c.loop-place.invariant.later, ap (times c.args.node) (take_all c.loop-place.place nodes all))
