-- What gates of rules and literals say of the nodes below them, over a family and the family that its attackers are judged by. A lemma
-- that ends in _sound goes from nodes to their meaning, one that ends in _passes from a meaning to the gate.
use Rattle.std.proofs.Common.{◌≡◌, ℕ, ◌+◌, ◌*◌, ◌<◌, ◌&&◌, ◌||◌, Bool, true, false, cond, List, [], ◌∷◌, ◌++◌, length, get_or, inl, inr, ◌⊎◌, sym, subst, ap, refl, ◌∙◌, arith, true≢false}
use Rattle.std.specs.Prelude.{All, Any, nat_lt, not, filter}
use Rattle.std.specs.List.{list_all, list_any}
use Rattle.dl_theory.specs.Derivations.{Follows}
use Rattle.dl_fill.specs.Before.{Before, tag_of, is_rule, outside_is_on, outside_is_off, on_gate, off_gate, IsExactOutside}
use Rattle.dl_fill.proofs.Times.{times_cons_same, times_cons_other}
use Rattle.dl_fill.proofs.Once.{times-filter_le, times-filter_kept}
use Rattle.std.proofs.lemmas.Bool.{cases_eq, ltb-true, lt-ltb}
use Rattle.std.proofs.lemmas.List.Elements.{All-contains}
use Rattle.dl_lit.specs.declared.literal.Literal.{Literal}
use Rattle.dl_lit.specs.declared.literal.Tagged.{Tagged}
use Rattle.dl_lit.specs.declared.literal.Family.{Family}
use Rattle.dl_lit.specs.Literal.{tagged}
use Rattle.dl_theory.specs.declared.rule.Rule.{Rule}
use Rattle.dl_theory.specs.Lists.{Supports}
use Rattle.dl_theory.specs.Conditions.{IsOn, IsOff}
use Rattle.dl_graph.specs.Counting.{times}
use Rattle.dl_graph.specs.Numbers.{NetLists, IsNumbered, HasRule, literal_at, rule_at, number, back}
use Rattle.dl_graph.specs.declared.link.Link.{Link}
use Rattle.dl_graph.specs.declared.link.Link.TheVariants.{Uses, Backs}
use Rattle.dl_fill.specs.Meanings.{HasTag, IsOnAt, IsOffAt, IsSupported, IsUnsupported, IsAnsweredBy, IsUnansweredBy}
use Rattle.dl_fill.specs.declared.wire.Gate.{Gate}
use Rattle.dl_fill.specs.declared.wire.Gate.TheVariants.{Every, Either, Never}
use Rattle.dl_fill.specs.Wires.{through}
use Rattle.dl_fill.specs.Gates.{Passes}
use Rattle.dl_fill.proofs.Links.{IsListing, number_finds, number_inside, number_of, body_in, body_sound, body_complete, backs_listing, single, single_has}
use Rattle.dl_fill.proofs.Members.{every_one, every_one_back, either_one, either_one_back, every_first, every_second, every_both, either_of, either_first, either_second, any_from, any_to, all_from, all_to}

pub open_gate : (P : ℕ → Type 0) (b : Bool) (g : Gate) (xs : List ℕ) → Passes P (cond b g Never) xs → (b ≡ true) × Passes P g xs
open_gate P true g xs h = (refl, h)
open_gate P false g xs h = absurd h

pub close_gate : (P : ℕ → Type 0) (b : Bool) (g : Gate) (xs : List ℕ) → b ≡ true → Passes P g xs → Passes P (cond b g Never) xs
close_gate P true g xs e h = h
close_gate P false g xs e h = absurd (true≢false (sym e))

-- one way or the other
pub known : (x : Bool) → (x ≡ true) ⊎ (x ≡ false)
known true = inl refl
known false = inr refl

on_cases : (P : ℕ → Type 0) (o : Bool) (xs : List ℕ) → Passes P (on_gate o) xs → (o ≡ true) × ((x : ℕ) → 0 < times x xs → P x)
on_cases P true xs h = (refl, h)
on_cases P false xs h = absurd h

on_every : (P : ℕ → Type 0) (o : Bool) (xs : List ℕ) → o ≡ true → ((x : ℕ) → 0 < times x xs → P x) → Passes P (on_gate o) xs
on_every P true xs e h = h
on_every P false xs e h = absurd (true≢false (sym e))

off_cases : (P : ℕ → Type 0) (o : Bool) (xs : List ℕ) → Passes P (off_gate o) xs → (o ≡ true) ⊎ ((x : ℕ) × (0 < times x xs) × P x)
off_cases P true xs h = inl refl
off_cases P false xs h = inr h

off_now : (P : ℕ → Type 0) (o : Bool) (xs : List ℕ) → o ≡ true → Passes P (off_gate o) xs
off_now P true xs e = tt
off_now P false xs e = absurd (true≢false (sym e))

off_either : (P : ℕ → Type 0) (o : Bool) (xs : List ℕ) → (x : ℕ) × (0 < times x xs) × P x → Passes P (off_gate o) xs
off_either P true xs h = tt
off_either P false xs h = h

right_of : (i m : Bool) → i ≡ false → (i || m) ≡ true → m ≡ true
right_of true m e h = absurd (true≢false e)
right_of false m e h = h

out_and : (i m : Bool) → (not i && m) ≡ true → (i ≡ false) × (m ≡ true)
out_and true m h = absurd (true≢false (sym h))
out_and false m h = (refl, h)

both_true : (a b : Bool) → (a && b) ≡ true → (a ≡ true) × (b ≡ true)
both_true true b h = (refl, h)
both_true false b h = absurd (true≢false (sym h))

one_true : (a b : Bool) → (a || b) ≡ true → (a ≡ true) ⊎ (b ≡ true)
one_true true b h = inl refl
one_true false b h = inr h

all_true : (p : ℕ → Bool) (xs : List ℕ) (i : ℕ) → 0 < times i xs → list_all p xs ≡ true → p i ≡ true
all_true p [] i m h = absurd (omega arith)
all_true p (x ∷ xs) i m h =
    let b = both_true (p x) (list_all p xs) h in
    elim (cases_eq i x) [
      | inl is ↦ ap p is ∙ b.0
      | inr other ↦ all_true p xs i (omega (arith, m, times_cons_other i x xs other)) b.1
    ]

true_all : (p : ℕ → Bool) (xs : List ℕ) → ((i : ℕ) → 0 < times i xs → p i ≡ true) → list_all p xs ≡ true
true_all p [] h = refl
true_all p (x ∷ xs) h =
    ap (λ (a : Bool). a && list_all p xs) (h x (omega (arith, times_cons_same x x xs refl))) ∙ true_all p xs (λ i m. h i (omega (arith, m)))

any_true : (p : ℕ → Bool) (xs : List ℕ) → list_any p xs ≡ true → (i : ℕ) × (0 < times i xs) × (p i ≡ true)
any_true p [] h = absurd (true≢false (sym h))
any_true p (x ∷ xs) h = elim (one_true (p x) (list_any p xs) h) [
  | inl e ↦ (x, omega (arith, times_cons_same x x xs refl), e)
  | inr e ↦ let r = any_true p xs e in (r.0, omega (arith, r.1), r.2)
]

or_true : (a : Bool) → (a || true) ≡ true
or_true true = refl
or_true false = refl

true_any : (p : ℕ → Bool) (xs : List ℕ) (i : ℕ) → 0 < times i xs → p i ≡ true → list_any p xs ≡ true
true_any p [] i m h = absurd (omega arith)
true_any p (x ∷ xs) i m h = elim (cases_eq i x) [
  | inl is ↦ ap (λ (a : Bool). a || list_any p xs) (ap p (sym is) ∙ h)
  | inr other ↦
      ap (λ (c : Bool). p x || c) (true_any p xs i (omega (arith, m, times_cons_other i x xs other)) h) ∙ or_true (p x)
]

picked_true : (p : ℕ → Bool) (i x : ℕ) (fs : List ℕ) (c : Bool) → p x ≡ c → (0 < times i fs → p i ≡ true) → 0 < times i (cond c (x ∷ fs) fs) → p i ≡ true
picked_true p i x fs true e f h = elim (cases_eq i x) [
  | inl is ↦ ap p is ∙ e
  | inr other ↦ f (omega (arith, h, times_cons_other i x fs other))
]
picked_true p i x fs false e f h = f h

times-filter_true : (p : ℕ → Bool) (i : ℕ) (xs : List ℕ) → 0 < times i (filter p xs) → p i ≡ true
times-filter_true p i [] h = absurd (omega arith)
times-filter_true p i (x ∷ xs) h = picked_true p i x (filter p xs) (p x) refl (λ m. times-filter_true p i xs m) h

-- a gate that is open below a bound
abbrev pub below : ℕ → ℕ → Gate → Gate
below i bound g = cond (nat_lt i bound) g Never

-- a gate that is open at the number of a rule
abbrev pub at_rule : NetLists → ℕ → Gate → Gate
at_rule N r g = cond (is_rule N r) g Never

module _ (N : NetLists) (numbered : IsNumbered N) (got : Tagged → Type 0) (P : ℕ → Type 0) (s : ℕ) where
  -- some rule of a kind that leads to the literal has Q, or each has
  module _ (R : Rule → Type 0) (rules : List ℕ) (listing : IsListing N R rules) (Q : Rule → Type 0) (k : ℕ) (small : k < s) where
    pub some_sound : ((i : ℕ) → P (i * s + k) → HasRule N i × Q (rule_at N i)) → Passes P Either (through s k rules ++ [])
        → Any (λ r. R r × Q r) N.theory.rules
    some_sound into h =
        let m = either_one P s k k small small rules [] h in
        any_from N numbered R rules listing Q m.0 m.1 (into m.0 m.2).1

    pub some_passes : Any (λ r. R r × Q r) N.theory.rules → ((r : ℕ) → R (rule_at N r) → HasRule N r × Q (rule_at N r) → P (r * s + k))
        → Passes P Either (through s k rules ++ [])
    some_passes h from =
        let r = any_to N numbered R rules listing Q h in
        let lt = listing.sound r.0 r.1 in
        either_one_back P s k k small small rules [] r.0 r.1 (from r.0 lt.1 (lt.0, r.2))

    pub each_sound : ((i : ℕ) → P (i * s + k) → HasRule N i × Q (rule_at N i)) → Passes P Every (through s k rules ++ [])
        → All (λ r. R r → Q r) N.theory.rules
    each_sound into h = all_from N numbered R rules listing Q (λ r m. (into r (every_one P s k k small small rules [] h r m)).1)

    pub each_passes : All (λ r. R r → Q r) N.theory.rules → ((r : ℕ) → R (rule_at N r) → HasRule N r × Q (rule_at N r) → P (r * s + k))
        → Passes P Every (through s k rules ++ [])
    each_passes h from =
        every_one_back P s k k small small rules []
        (λ r n. let lt = listing.sound r n in from r lt.1 (lt.0, all_to N numbered R rules listing Q h r n))

  -- a literal is supported, or not
  module _ (f : Family) (k : ℕ) (small : k < s) (q : ℕ) where
    pub supported_sound : ((i : ℕ) → P (i * s + k) → IsOnAt N got f i)
        → Passes P (below q (length N.names) Either) (through s k (back N Backs q) ++ []) → IsSupported N got f q
    supported_sound into h =
        let o = open_gate P (nat_lt q (length N.names)) Either (through s k (back N Backs q) ++ []) h in
        let lt : q < length N.names = ltb-true q (length N.names) o.0 in
        (lt, some_sound (Supports (literal_at N q)) (back N Backs q) (backs_listing N numbered q lt) (IsOn got f) k small into o.1)

    pub supported_passes : IsSupported N got f q → ((r : ℕ) → Supports (literal_at N q) (rule_at N r) → IsOnAt N got f r → P (r * s + k))
        → Passes P (below q (length N.names) Either) (through s k (back N Backs q) ++ [])
    supported_passes m from =
        close_gate P (nat_lt q (length N.names)) Either (through s k (back N Backs q) ++ []) (lt-ltb q (length N.names) m.0)
        (some_passes (Supports (literal_at N q)) (back N Backs q) (backs_listing N numbered q m.0) (IsOn got f) k small m.1 from)

    pub unsupported_sound : ((i : ℕ) → P (i * s + k) → IsOffAt N got f i)
        → Passes P (below q (length N.names) Every) (through s k (back N Backs q) ++ []) → IsUnsupported N got f q
    unsupported_sound into h =
        let o = open_gate P (nat_lt q (length N.names)) Every (through s k (back N Backs q) ++ []) h in
        let lt : q < length N.names = ltb-true q (length N.names) o.0 in
        (lt, each_sound (Supports (literal_at N q)) (back N Backs q) (backs_listing N numbered q lt) (IsOff got f) k small into o.1)

    pub unsupported_passes : IsUnsupported N got f q → ((r : ℕ) → Supports (literal_at N q) (rule_at N r) → IsOffAt N got f r → P (r * s + k))
        → Passes P (below q (length N.names) Every) (through s k (back N Backs q) ++ [])
    unsupported_passes m from =
        close_gate P (nat_lt q (length N.names)) Every (through s k (back N Backs q) ++ []) (lt-ltb q (length N.names) m.0)
        (each_passes (Supports (literal_at N q)) (back N Backs q) (backs_listing N numbered q m.0) (IsOff got f) k small m.1 from)

  -- a rule is answered: off by nodes of kind k, or one of its rivals is on, of kind l
  module _ (Rival : Rule → Rule → Type 0) (link : Link) (listing : (u : ℕ) → HasRule N u → IsListing N (Rival (rule_at N u)) (back N link u))
      (f against : Family) (k l : ℕ) (small : k < s) (small' : l < s) (u : ℕ) where
    pub answered_sound : ((i : ℕ) → P (i * s + k) → IsOffAt N got against i) → ((i : ℕ) → P (i * s + l) → IsOnAt N got f i)
        → Passes P (at_rule N u Either) (through s k (u ∷ []) ++ (through s l (back N link u) ++ [])) → IsAnsweredBy N got Rival f against u
    answered_sound off on h =
        let o = open_gate P (is_rule N u) Either (through s k (u ∷ []) ++ (through s l (back N link u) ++ [])) h in
        let lt : HasRule N u = o.0 in (
          lt,
          elim (either_of P s k l small small' (u ∷ []) (back N link u) o.1) [
            | inl m ↦ inl (subst (λ (i : ℕ). IsOff got against (rule_at N i)) (single m.0 u m.1) (off m.0 m.2).1)
            | inr m ↦ inr (any_from N numbered (Rival (rule_at N u)) (back N link u) (listing u lt) (IsOn got f) m.0 m.1 (on m.0 m.2).1)
          ],
        )

    pub answered_passes : IsAnsweredBy N got Rival f against u → (IsOffAt N got against u → P (u * s + k))
        → ((t : ℕ) → Rival (rule_at N u) (rule_at N t) → IsOnAt N got f t → P (t * s + l))
        → Passes P (at_rule N u Either) (through s k (u ∷ []) ++ (through s l (back N link u) ++ []))
    answered_passes m off on =
        close_gate P (is_rule N u) Either (through s k (u ∷ []) ++ (through s l (back N link u) ++ [])) m.0
        (elim m.1 [
          | inl h ↦ either_first P s k l small small' (u ∷ []) (back N link u) u (single_has u u refl) (off (m.0, h))
          | inr h ↦
              let r = any_to N numbered (Rival (rule_at N u)) (back N link u) (listing u m.0) (IsOn got f) h in
              let d = (listing u m.0).sound r.0 r.1 in
              either_second P s k l small small' (u ∷ []) (back N link u) r.0 r.1 (on r.0 d.1 (d.0, r.2))
        ])

    -- a rule is on by nodes of kind k, and each of its rivals is off, of kind l
    pub unanswered_sound : ((i : ℕ) → P (i * s + k) → IsOnAt N got against i) → ((i : ℕ) → P (i * s + l) → IsOffAt N got f i)
        → Passes P (at_rule N u Every) (through s k (u ∷ []) ++ (through s l (back N link u) ++ [])) → IsUnansweredBy N got Rival f against u
    unanswered_sound on off h =
        let o = open_gate P (is_rule N u) Every (through s k (u ∷ []) ++ (through s l (back N link u) ++ [])) h in
        let lt : HasRule N u = o.0 in (
          lt,
          (
            (on u (every_first P s k l small small' (u ∷ []) (back N link u) o.1 u (single_has u u refl))).1,
            all_from N numbered (Rival (rule_at N u)) (back N link u) (listing u lt) (IsOff got f)
                (λ t m. (off t (every_second P s k l small small' (u ∷ []) (back N link u) o.1 t m)).1),
          ),
        )

    pub unanswered_passes : IsUnansweredBy N got Rival f against u → (IsOnAt N got against u → P (u * s + k))
        → ((t : ℕ) → Rival (rule_at N u) (rule_at N t) → IsOffAt N got f t → P (t * s + l))
        → Passes P (at_rule N u Every) (through s k (u ∷ []) ++ (through s l (back N link u) ++ []))
    unanswered_passes m on off =
        close_gate P (is_rule N u) Every (through s k (u ∷ []) ++ (through s l (back N link u) ++ [])) m.0
        (every_both P s k l small small' (u ∷ []) (back N link u)
        (λ i n. subst (λ (v : ℕ). P (v * s + k)) (sym (single i u n)) (on (m.0, m.1.0)))
        (λ t n.
        let d = (listing u m.0).sound t n in
        off t d.1 (d.0, all_to N numbered (Rival (rule_at N u)) (back N link u) (listing u m.0) (IsOff got f) m.1.1 t n)))

-- what is marked outside the region is got
abbrev pub IsGotOutside : NetLists → Before → Family → (Tagged → Type 0) → Type 0
IsGotOutside N b f got =
    (plus : Bool) (i : ℕ) → i < length N.names → b.inside i ≡ false → b.marked (tag_of plus f) i ≡ true → got (tagged plus f (literal_at N i))

pub right_outside : (N : NetLists) (b : Before) (f : Family) → IsExactOutside N b f → IsGotOutside N b f (Follows N.theory)
right_outside N b f exact plus i lt out e = (exact plus i lt out).0 e

-- a rule's body: inside by nodes, outside by marks
module _ (N : NetLists) (numbered : IsNumbered N) (b : Before) (f : Family) (got : Tagged → Type 0) (outer : IsGotOutside N b f got)
    (P : ℕ → Type 0) (s k : ℕ) (small : k < s) (r : ℕ) where
  body_all : (p : ℕ → Bool) (i : ℕ) → 0 < times i (back N Uses r) → list_all p (back N Uses r) ≡ true → p i ≡ true
  body_all p i m h = all_true p (back N Uses r) i m h

  -- a rule is on
  pub on_sound : ((i : ℕ) → P (i * s + k) → HasTag N got true f i)
      → Passes P (at_rule N r (on_gate (outside_is_on N b f r))) (through s k (filter b.inside (back N Uses r)) ++ []) → IsOnAt N got f r
  on_sound into h =
      let o = open_gate P (is_rule N r) (on_gate (outside_is_on N b f r)) (through s k (filter b.inside (back N Uses r)) ++ []) h in
      let lt : HasRule N r = o.0 in
      let c = on_cases P (outside_is_on N b f r) (through s k (filter b.inside (back N Uses r)) ++ []) o.1 in (
        lt,
        λ j d inside.
            let x : Literal = get_or (rule_at N r).body j d in
            let i : ℕ = number N (get_or (rule_at N r).body j d) in
            let m : 0 < times (number N (get_or (rule_at N r).body j d)) (back N Uses r) = body_complete N numbered r lt j d inside in
            let in_names : number N (get_or (rule_at N r).body j d) < length N.names = (body_sound N numbered r lt (number N (get_or (rule_at N r).body j d)) m).1 in
            subst (λ (q : Literal). got (tagged true f q)) (number_of N numbered (get_or (rule_at N r).body j d) in_names)
            (elim (known (b.inside (number N (get_or (rule_at N r).body j d)))) [
              | inl here ↦
                  (into (number N (get_or (rule_at N r).body j d))
                  (every_one P s k k small small (filter b.inside (back N Uses r)) [] c.1 (number N (get_or (rule_at N r).body j d))
                  (subst (λ (n : ℕ). 0 < n) (sym (times-filter_kept b.inside (number N (get_or (rule_at N r).body j d)) (back N Uses r) here)) m))).1
              | inr out ↦
                  outer true (number N (get_or (rule_at N r).body j d)) in_names out
                  (right_of (b.inside (number N (get_or (rule_at N r).body j d))) (b.marked (tag_of true f) (number N (get_or (rule_at N r).body j d))) out
                  (body_all (λ i. b.inside i || b.marked (tag_of true f) i) (number N (get_or (rule_at N r).body j d)) m c.0))
            ]),
      )

  -- a rule is off
  pub off_sound : ((i : ℕ) → P (i * s + k) → HasTag N got false f i)
      → Passes P (at_rule N r (off_gate (outside_is_off N b f r))) (through s k (filter b.inside (back N Uses r)) ++ []) → IsOffAt N got f r
  off_sound into h =
      let o = open_gate P (is_rule N r) (off_gate (outside_is_off N b f r)) (through s k (filter b.inside (back N Uses r)) ++ []) h in
      let lt : HasRule N r = o.0 in (
        lt,
        elim (off_cases P (outside_is_off N b f r) (through s k (filter b.inside (back N Uses r)) ++ []) o.1) [
          | inl some ↦
              let i = any_true (λ i. not (b.inside i) && b.marked (tag_of false f) i) (back N Uses r) some in
              let e = out_and (b.inside i.0) (b.marked (tag_of false f) i.0) i.2 in
              let c = body_sound N numbered r lt i.0 i.1 in
              (c.0.0, literal_at N i.0, c.0.1, c.0.2, outer false i.0 c.1 e.0 e.1)
          | inr either ↦
              let m = either_one P s k k small small (filter b.inside (back N Uses r)) [] either in
              let c = body_sound N numbered r lt m.0 (omega (arith, m.1, times-filter_le b.inside m.0 (back N Uses r))) in
              (c.0.0, literal_at N m.0, c.0.1, c.0.2, (into m.0 m.2).1)
        ],
      )

-- the same from a meaning, where the marks outside are right
module _ (N : NetLists) (numbered : IsNumbered N) (b : Before) (f : Family) (outside : IsExactOutside N b f) (P : ℕ → Type 0) (s k : ℕ) (small : k < s) (r : ℕ) where
  pub on_passes : (got : Tagged → Type 0) → ((y : Tagged) → got y → Follows N.theory y) → IsOnAt N got f r → ((i : ℕ) → b.inside i ≡ true → HasTag N got true f i → P (i * s + k))
      → Passes P (at_rule N r (on_gate (outside_is_on N b f r))) (through s k (filter b.inside (back N Uses r)) ++ [])
  on_passes got follows m from =
      let each : (i : ℕ) → 0 < times i (back N Uses r) → HasTag N got true f i =
      λ i n. let c = body_sound N numbered r m.0 i n in (c.1, All-contains (λ x. got (tagged true f x)) (rule_at N r).body (literal_at N i) m.1 c.0) in
      close_gate P (is_rule N r) (on_gate (outside_is_on N b f r)) (through s k (filter b.inside (back N Uses r)) ++ []) m.0
      (on_every P (outside_is_on N b f r) (through s k (filter b.inside (back N Uses r)) ++ [])
      (true_all (λ i. b.inside i || b.marked (tag_of true f) i) (back N Uses r)
      (λ i n. elim (known (b.inside i)) [
        | inl here ↦ ap (λ (x : Bool). x || b.marked (tag_of true f) i) here
        | inr out ↦
            let h = each i n in
            ap (λ (x : Bool). x || b.marked (tag_of true f) i) out ∙ (outside true i h.0 out).1 (follows (tagged true f (literal_at N i)) h.1)
      ]))
      (every_one_back P s k k small small (filter b.inside (back N Uses r)) []
      (λ i n.
      let in_body : 0 < times i (back N Uses r) = omega (arith, n, times-filter_le b.inside i (back N Uses r)) in
      from i (times-filter_true b.inside i (back N Uses r) n) (each i in_body))))

  pub off_passes : (got : Tagged → Type 0) → ((y : Tagged) → got y → Follows N.theory y) → IsOffAt N got f r → ((i : ℕ) → b.inside i ≡ true → HasTag N got false f i → P (i * s + k))
      → Passes P (at_rule N r (off_gate (outside_is_off N b f r))) (through s k (filter b.inside (back N Uses r)) ++ [])
  off_passes got follows m from =
      let there = body_in N numbered r m.0 m.1.1 (m.1.0, m.1.2, m.1.3) in
      let i : ℕ = number N m.1.1 in
      let inside_names : number N m.1.1 < length N.names = number_inside N numbered m.1.1 there in
      let in_body : 0 < times (number N m.1.1) (back N Uses r) =
      subst (λ (y : Literal). 0 < times (number N y) (back N Uses r)) m.1.3 (body_complete N numbered r m.0 m.1.0 m.1.1 m.1.2) in
      let g : got (tagged false f (literal_at N (number N m.1.1))) = subst (λ (y : Literal). got (tagged false f y)) (sym (number_finds N numbered m.1.1 there)) m.1.4 in
      close_gate P (is_rule N r) (off_gate (outside_is_off N b f r)) (through s k (filter b.inside (back N Uses r)) ++ []) m.0
      (elim (known (b.inside (number N m.1.1))) [
        | inl here ↦
            off_either P (outside_is_off N b f r) (through s k (filter b.inside (back N Uses r)) ++ [])
            (either_one_back P s k k small small (filter b.inside (back N Uses r)) [] (number N m.1.1)
            (subst (λ (n : ℕ). 0 < n) (sym (times-filter_kept b.inside (number N m.1.1) (back N Uses r) here)) in_body)
            (from (number N m.1.1) here (inside_names, g)))
        | inr out ↦
            off_now P (outside_is_off N b f r) (through s k (filter b.inside (back N Uses r)) ++ [])
            (true_any (λ i. not (b.inside i) && b.marked (tag_of false f) i) (back N Uses r) (number N m.1.1) in_body
            (ap (λ (x : Bool). not x && b.marked (tag_of false f) (number N m.1.1)) out
            ∙ (outside false (number N m.1.1) inside_names out).1 (follows (tagged false f (literal_at N (number N m.1.1))) g)))
      ])
