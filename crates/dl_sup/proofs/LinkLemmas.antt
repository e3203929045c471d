-- When two pairs are one.
use Rattle.std.proofs.Common.{◌≡◌, ◌≢◌, ℕ, Bool, true, false, List, [], ◌∷◌, refl, sym, ap, ◌∙◌, cond, true≢false}
use Rattle.std.specs.Prelude.{All, filter, not, ◌||◌, ◌&&◌, ◌==◌}
use Rattle.std.specs.Bool.{Decides}
use Rattle.std.proofs.lemmas.Bool.Decides.{Decides-eqb}
use Rattle.std.proofs.lemmas.List.Elements.{All-head, All-tail}
use Rattle.dl_sup.specs.declared.link.Link.{Link}
use Rattle.dl_sup.specs.Links.{same_link, names_item}

pub false_unless : {P : Type 0} (b : Bool) → Decides b P → (¬ P) → b ≡ false
false_unless true d fails = absurd (fails (d.0 refl))
false_unless false d fails = refl

pub alike : (a b : ℕ) → a ≡ b → (a == b) ≡ true
alike a b e = (Decides-eqb a b).1 e

and_true : (a b : Bool) → a ≡ true → b ≡ true → (a && b) ≡ true
and_true true b h k = k
and_true false b h k = h

from_and : (a b : Bool) → (a && b) ≡ true → (a ≡ true) × (b ≡ true)
from_and true b h = (refl, h)
from_and false b h = absurd (true≢false (sym h))

pub or_left : (a b : Bool) → a ≡ true → (a || b) ≡ true
or_left true b h = refl
or_left false b h = absurd (true≢false (sym h))

pub or_right : (a b : Bool) → b ≡ true → (a || b) ≡ true
or_right true b h = refl
or_right false b h = h

pub same_link_same : (p q : Link) → p ≡ q → same_link p q ≡ true
same_link_same p q e =
    and_true (p.upper == q.upper) (p.lower == q.lower) (alike p.upper q.upper (ap (λ (l : Link). l.upper) e)) (alike p.lower q.lower (ap (λ (l : Link). l.lower) e))

pub same_link_true : (p q : Link) → same_link p q ≡ true → p ≡ q
same_link_true p q e =
    let both = from_and (p.upper == q.upper) (p.lower == q.lower) e in
    λ i. record { upper = (Decides-eqb p.upper q.upper).0 both.0 i; lower = (Decides-eqb p.lower q.lower).0 both.1 i }

pub Decides-same_link : (p q : Link) → Decides (same_link p q) (p ≡ q)
Decides-same_link p q = (same_link_true p q, same_link_same p q)

pub same_link_apart : (p q : Link) → p ≢ q → same_link p q ≡ false
same_link_apart p q differ = false_unless (same_link p q) (Decides-same_link p q) differ

pub not_false : (b : Bool) → b ≡ true → not b ≡ false
not_false b e = ap not e

pub not_true : (b : Bool) → b ≡ false → not b ≡ true
not_true b e = ap not e

-- a filter that all pass
pub filter_all : {X : Type 0} (p : X → Bool) (xs : List X) → All (λ x. p x ≡ true) xs → filter p xs ≡ xs
filter_all p [] h = refl
filter_all p (x ∷ xs) h =
    ap (λ (b : Bool). cond b (x ∷ filter p xs) (filter p xs)) (All-head (λ y. p y ≡ true) x xs h)
    ∙ ap (λ ys. x ∷ ys) (filter_all p xs (All-tail (λ y. p y ≡ true) x xs h))

or_false : (a b : Bool) → a ≡ false → b ≡ false → (a || b) ≡ false
or_false true b h k = h
or_false false b h k = k

pub names_neither : (item : ℕ) (p : Link) → p.upper ≢ item → p.lower ≢ item → not (names_item item p) ≡ true
names_neither item p above below =
    ap not (or_false (p.upper == item) (p.lower == item) (false_unless (p.upper == item) (Decides-eqb p.upper item) above) (false_unless (p.lower == item) (Decides-eqb p.lower item) below))
