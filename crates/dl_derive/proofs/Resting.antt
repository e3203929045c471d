-- What a literal rests on, by numbers, and what is reached along that.
use Rattle.std.proofs.Common.{◌≡◌, ℕ, ◌+◌, ◌<◌, ◌≤◌, List, [], ◌∷◌, Option, None, Some, length, length-append, replicate, suc, ◌==◌, Bool, true, false, cond, get_or, inl, inr, sym, subst, ap, refl, ◌∙◌, arith}
use Rattle.std.specs.Prelude.{All, Contains, slice_get}
use Rattle.std.specs.List.{range_with_len}
use Rattle.std.proofs.lemmas.Bool.{cases_lt}
use Rattle.std.proofs.lemmas.List.FromFn.{length-range_with_len, get_or-range_with_len}
use Rattle.dl_base.proofs.Distinct.{no_longer}
use Rattle.std.proofs.lemmas.List.{get_or_default, get_or_append_left, length-replicate}
use Rattle.std.proofs.lemmas.List.Elements.{All-nil, All-cons, All-contains, All-append, Contains-get_or, Contains-append_left}
use Rattle.std.proofs.lemmas.Option.{slice_get_within, get_or_from_slice_get}
use Rattle.dl_base.proofs.Members.{Contains-mapped, mapped_from}
use Rattle.dl_lit.specs.declared.literal.Literal.{Literal}
use Rattle.dl_theory.specs.declared.rule.Rule.{Rule}
use Rattle.dl_theory.specs.Lists.{attackers}
use Rattle.dl_theory.specs.Verdicts.{RestsOn, Back, Reaches}
use Rattle.dl_graph.specs.Region.{Numbers, IsRegion}
use Rattle.dl_graph.specs.Counting.{times}
use Rattle.dl_graph.specs.Rows.{places_from}
use Rattle.dl_graph.specs.Numbers.{NetLists, IsNumbered, HasRule, of_rule, heads, head_row, back, number, literal_at, rule_at, no_literal}
use Rattle.dl_graph.specs.declared.link.Link.TheVariants.{Uses}
use Rattle.dl_graph.proofs.Slots.{rule_in, number_of_rule}
use Rattle.dl_fill.proofs.Links.{number_finds, number_inside, attacker_named, heads_listing, body_in, body_sound, body_complete}
use Rattle.dl_fill.proofs.Written.{contains_times, times_contains}
use Rattle.dl_derive.specs.Back.{Gains, RestsAt, IsBack}

-- there are no more rules with a head than numbers of rules
heads_few : (N : NetLists) (q k : ℕ) (rs : List (Option Rule)) → length (places_from (of_rule (head_row N)) k rs q) ≤ length rs
heads_few N q k [] = omega arith
heads_few N q k (None ∷ rs) =
    let rest : length (places_from (of_rule (head_row N)) k (None ∷ rs) q) ≤ length rs = heads_few N q (suc k) rs in
    omega (arith, rest)
heads_few N q k (Some r ∷ rs) =
    omega (
      arith,
      length-append (replicate (times q (number N r.head ∷ [])) k) (places_from (of_rule (head_row N)) (suc k) rs q),
      length-replicate (times q (number N r.head ∷ [])) k,
      one_most (q == number N r.head),
      heads_few N q (suc k) rs,
    )
  where
    one_most : (b : Bool) → cond b 1 0 ≤ 1
    one_most true = omega arith
    one_most false = omega arith

pub few_heads : (N : NetLists) (q : ℕ) → length (heads N q) ≤ length N.rules
few_heads N q = heads_few N q 0 N.rules

-- there are no more members than numbers below the bound
pub few_members : (r : Numbers) → IsRegion r → length r.members ≤ r.bound
few_members r region =
    let fit = no_longer r.members (range_with_len 0 r.bound) region.distinct
    (λ k d within.
    let n : ℕ = get_or r.members k d in
    let small : n < r.bound = region.below k d within in
    (n, rw (length-range_with_len 0 r.bound) small, get_or-range_with_len 0 r.bound n n small ∙ omega arith)) in
    omega (arith, fit, length-range_with_len 0 r.bound)

-- the members of which the first `at` have been followed
pub record IsGathered (N : NetLists) (q at : ℕ) (r : Numbers) : Type 0 where
  pub bound : r.bound ≡ length N.names
  pub sound : All (λ n. (n < length N.names) × Back N.theory (literal_at N q) (literal_at N n)) r.members
  pub start : Contains r.members q
  pub closed : (k : ℕ) → k < at → k < length r.members → (n : ℕ) → RestsAt N (get_or r.members k 0) n → Contains r.members n

module _ (N : NetLists) (numbered : IsNumbered N) where
  pub rule_inside : (q r : ℕ) → q < length N.names → Contains (heads N q) r → HasRule N r
  rule_inside q r lt m = ((heads_listing N numbered q lt).sound r (contains_times r (heads N q) m)).0

  pub body_inside : (r n : ℕ) → HasRule N r → Contains (back N Uses r) n → n < length N.names
  body_inside r n has m = (body_sound N numbered r has n (contains_times n (back N Uses r) m)).1

  -- a number on which q rests stands for a literal on which that of q rests
  pub rests_sound : (q n : ℕ) → q < length N.names → RestsAt N q n → (n < length N.names) × RestsOn N.theory (literal_at N q) (literal_at N n)
  rests_sound q n lt (inl h) =
      let c = mapped_from (number N) (attackers N.theory (literal_at N q)) h.0 h.1 in
      let named = attacker_named N numbered (literal_at N q) c.0 (Contains-get_or N.names q no_literal lt) c.1 in
      let e : number N c.0 ≡ n = c.2 ∙ sym h.2 in (
        subst (λ (v : ℕ). v < length N.names) e (number_inside N numbered c.0 named),
        inl (subst (Contains (attackers N.theory (literal_at N q))) (sym (number_finds N numbered c.0 named) ∙ ap (literal_at N) e) c.1),
      )
  rests_sound q n lt (inr h) =
      let r = (heads_listing N numbered q lt).sound h.0 (contains_times h.0 (heads N q) h.1) in
      let there : Contains (back N Uses h.0) n = subst (Contains (back N Uses h.0)) (sym h.2.2) h.2.1 in
      let b = body_sound N numbered h.0 r.0 n (contains_times n (back N Uses h.0) there) in
      let m = rule_in N numbered h.0 r.0 in
      (b.1, inr (m.0, rule_at N h.0, m.1, m.2, (r.1, b.0)))

  -- what a literal rests on has a number on which its own rests
  pub rests_complete : (q : ℕ) (c : Literal) → q < length N.names → RestsOn N.theory (literal_at N q) c → Contains N.names c × RestsAt N q (number N c)
  rests_complete q c lt (inl m) = (
    attacker_named N numbered (literal_at N q) c (Contains-get_or N.names q no_literal lt) m,
    inl (number N c, Contains-mapped (number N) (attackers N.theory (literal_at N q)) c m, refl),
  )
  rests_complete q c lt (inr h) =
      let at = number_of_rule N numbered h.1 (h.0, h.2, h.3) in
      let head : (rule_at N at.0).head ≡ literal_at N q = subst (λ (r : Rule). r.head ≡ literal_at N q) (sym at.2) h.4.0 in
      let inside : Contains (rule_at N at.0).body c = subst (λ (r : Rule). Contains r.body c) (sym at.2) h.4.1 in
      let here : 0 < times (number N c) (back N Uses at.0) =
      subst (λ (x : Literal). 0 < times (number N x) (back N Uses at.0)) inside.2 (body_complete N numbered at.0 at.1 inside.0 c inside.1) in (
        body_in N numbered at.0 at.1 c inside,
        inr (
          at.0,
          times_contains at.0 (heads N q) ((heads_listing N numbered q lt).complete at.0 at.1 head),
          (number N c, times_contains (number N c) (back N Uses at.0) here, refl),
        ),
      )

  -- what matters has a number
  next_named : (x y : Literal) → Contains N.names x → RestsOn N.theory x y → Contains N.names y
  next_named x y m rests =
      (rests_complete (number N x) y (number_inside N numbered x m)
      (subst (λ (v : Literal). RestsOn N.theory v y) (sym (number_finds N numbered x m)) rests)).0

  pub back_named : (q : ℕ) → q < length N.names → (c : Literal) → Back N.theory (literal_at N q) c → Contains N.names c
  back_named q lt c (Reaches.start x e) = subst (Contains N.names) (sym e) (Contains-get_or N.names q no_literal lt)
  back_named q lt c (Reaches.step x y b rests) = next_named x y (back_named q lt x b) rests

  module _ (q : ℕ) (lt : q < length N.names) where
    pub gathered_one : (r : Numbers) → r.bound ≡ length N.names → r.members ≡ q ∷ [] → IsGathered N q 0 r
    gathered_one r bound e = record {
      bound = bound;
      sound =
          subst (All (λ n. (n < length N.names) × Back N.theory (literal_at N q) (literal_at N n))) (sym e)
          (All-cons (λ n. (n < length N.names) × Back N.theory (literal_at N q) (literal_at N n)) q [] (lt, Reaches.start (literal_at N q) refl)
          (All-nil (λ n. (n < length N.names) × Back N.theory (literal_at N q) (literal_at N n))));
      start = subst (λ (xs : List ℕ). Contains xs q) (sym e) (0, omega arith, refl);
      closed = λ k before inside n rests. absurd (omega (arith, before));
    }

    pub gathered_inside : (at x : ℕ) (r : Numbers) → slice_get r.members at ≡ Some x → IsGathered N q at r → x < length N.names
    gathered_inside at x r e h =
        (All-contains (λ n. (n < length N.names) × Back N.theory (literal_at N q) (literal_at N n)) r.members x h.sound
        (at, slice_get_within r.members at x e, get_or_from_slice_get r.members at x x e)).0

    pub gathered_next : (at x : ℕ) (r s : Numbers) → slice_get r.members at ≡ Some x → IsGathered N q at r → Gains (RestsAt N x) r s → IsGathered N q (at + 1) s
    gathered_next at x r s e h g =
        let within : at < length r.members = slice_get_within r.members at x e in
        let here : get_or r.members at 0 ≡ x = get_or_from_slice_get r.members at x 0 e in
        let mine = All-contains (λ n. (n < length N.names) × Back N.theory (literal_at N q) (literal_at N n)) r.members x h.sound (at, within, get_or_from_slice_get r.members at x x e) in
        record {
          bound = g.bound ∙ h.bound;
          sound =
              subst (All (λ n. (n < length N.names) × Back N.theory (literal_at N q) (literal_at N n))) (sym g.behind)
              (All-append (λ n. (n < length N.names) × Back N.theory (literal_at N q) (literal_at N n)) r.members g.more h.sound
              (λ k d inside.
              let n : ℕ = get_or g.more k d in
              let rests = rests_sound x (get_or g.more k d) mine.0 (g.sound k d inside) in
              (rests.0, Reaches.step (literal_at N x) (literal_at N (get_or g.more k d)) mine.1 rests.1)));
          start = subst (λ (xs : List ℕ). Contains xs q) (sym g.behind) (Contains-append_left r.members g.more q h.start);
          closed = λ k before inside n rests.
              elim (cases_lt k at) [
                | inl early ↦
                    let old : k < length r.members = omega (arith, early, within) in
                    let same : get_or s.members k 0 ≡ get_or r.members k 0 =
                    ap (λ (xs : List ℕ). get_or xs k 0) g.behind ∙ get_or_append_left r.members g.more 0 k old in
                    subst (λ (xs : List ℕ). Contains xs n) (sym g.behind)
                    (Contains-append_left r.members g.more n (h.closed k early old n (subst (λ (v : ℕ). RestsAt N v n) same rests)))
                | inr late ↦
                    let this : k ≡ at = omega (arith, before, late) in
                    let same : get_or s.members k 0 ≡ x =
                    ap (λ (i : ℕ). get_or s.members i 0) this ∙ ap (λ (xs : List ℕ). get_or xs at 0) g.behind
                    ∙ get_or_append_left r.members g.more 0 at within ∙ here in
                    g.complete n (subst (λ (v : ℕ). RestsAt N v n) same rests)
              ];
        }

    module _ (at : ℕ) (r : Numbers) (past : length r.members ≤ at) (h : IsGathered N q at r) where
      abbrev Has : Literal → Type 0
      Has c = Contains N.names c × Contains r.members (number N c)

      follow : (x y : Literal) → Has x → RestsOn N.theory x y → Has y
      follow x y has rests =
          let e : literal_at N (number N x) ≡ x = number_finds N numbered x has.0 in
          let c = rests_complete (number N x) y (number_inside N numbered x has.0) (subst (λ (v : Literal). RestsOn N.theory v y) (sym e) rests) in
          let k = has.1 in
          let same : get_or r.members k.0 0 ≡ number N x = get_or_default r.members k.0 0 (number N x) k.1 ∙ k.2 in
          (c.0, h.closed k.0 (omega (arith, k.1, past)) k.1 (number N y) (subst (λ (v : ℕ). RestsAt N v (number N y)) (sym same) c.1))

      begin : (x : Literal) → x ≡ literal_at N q → Has x
      begin x e =
          subst Has (sym e)
          (Contains-get_or N.names q no_literal lt, subst (Contains r.members) (sym (numbered.distinct q lt)) h.start)

      reach : (c : Literal) → Back N.theory (literal_at N q) c → Has c
      reach c (Reaches.start x e) = begin x e
      reach c (Reaches.step x y b rests) = follow x y (reach x b) rests

      pub gathered_all : IsBack N q r
      gathered_all = record {
        bound = h.bound;
        members = λ n. (
          λ m. All-contains (λ n. (n < length N.names) × Back N.theory (literal_at N q) (literal_at N n)) r.members n h.sound m,
          λ b. subst (Contains r.members) (numbered.distinct n b.0) (reach (literal_at N n) b.1).1,
        );
      }
