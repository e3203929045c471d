use Rattle.std.proofs.Common.{◌≡◌, ◌+◌, ◌≤◌, None, Some, List, [], ◌∷◌, ◌++◌, length, take, sym, ap, ◌∙◌, arith, inl, inr, length-append}
use Rattle.std.specs.Prelude.{slice_get, option_map}
use Rattle.std.proofs.lemmas.Bool.{cases_lt}
use Rattle.std.proofs.lemmas.List.{take_more, take_all}
use Rattle.std.proofs.lemmas.Option.{slice_get_within, slice_get-get_or, get_or_from_slice_get}
use Rattle.dl_lit.specs.declared.literal.Literal.{Literal}
use Rattle.dl_lit.specs.Borrowed.{literal_of}
use Rattle.dl_graph.specs.Numbers.{no_literal}
use Rattle.dl_graph.proofs.rule_ref.RuleRef.copied_body.Goals as goal

one_more : (xs old new : List Literal) (q : Literal) → old ≡ take (length old) xs → slice_get xs (length old) ≡ Some q → new ≡ old ++ q ∷ []
    → (new ≡ take (length new) xs) × (length new ≤ length xs)
one_more xs old new q h at is =
    let lt = slice_get_within xs (length old) q at in
    let long : length new ≡ length old + 1 = omega (arith, ap length is, length-append old (q ∷ [])) in (
      is
          ∙ (λ i. h i ++ sym (get_or_from_slice_get xs (length old) q q at) i ∷ [])
          ∙ sym (take_more xs (length old) q lt)
          ∙ ap (λ n. take n xs) (sym long),
      omega (arith, long, lt),
    )

all_there : (xs old : List Literal) → old ≡ take (length old) xs → slice_get xs (length old) ≡ None → old ≡ xs
all_there xs old h none =
    elim (cases_lt (length old) (length xs)) [
      | inl lt ↦ let some = sym none ∙ slice_get-get_or xs (length old) no_literal lt in cc
      | inr past ↦ h ∙ take_all (length old) xs past
    ]

pub loop-body-preserved : goal.loop-body-preserved
loop-body-preserved c =
    let xs : List Literal = c.args.self.now.body in
    let here : slice_get xs (length c.loop-body.body) ≡ Some c.in_ok-copy.field-0 =
    sym (ap (slice_get xs) c.len.ensures)
    ∙ sym c.body.ensures
    ∙ ap (option_map literal_of) c.in-Some.is
    ∙ ap Some (sym c.in_ok-copy.ensures) in
    let more = one_more xs c.loop-body.body c.push.new.self c.in_ok-copy.field-0 c.loop-body.invariant.copied here c.in_ok-push.ensures.ok in
    record { copied = more.0; within = more.1 }

pub returns : goal.returns
returns c =
    all_there c.args.self.now.body c.loop-body.body c.loop-body.invariant.copied
    (sym (ap (slice_get c.args.self.now.body) c.len.ensures) ∙ sym c.body.ensures ∙ ap (option_map literal_of) c.in_default.is)
