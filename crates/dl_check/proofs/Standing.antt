-- What stands among members, and what a condition that is tested over them says.
use Rattle.std.proofs.Common.{◌≡◌, Bool, not, ◌&&◌, List, sym, ap, ◌∙◌}
use Rattle.std.specs.Prelude.{Contains, filter}
use Rattle.std.specs.Bool.{Decides}
use Rattle.std.specs.List.{list_any}
use Rattle.std.proofs.lemmas.Bool.Decides.{same_from_decides, Decides-like, Decides-at}
use Rattle.dl_lit.specs.declared.literal.Tagged.{Tagged}
use Rattle.dl_lit.specs.Literal.{literal_eq}
use Rattle.dl_lit.specs.Order.{tagged_eq, tagged_eq-Decides}
use Rattle.dl_theory.specs.Lists.{TheoryLists}
use Rattle.dl_theory.specs.Conditions.{Meets}
use Rattle.dl_theory.specs.Tests as test
use Rattle.dl_theory.proofs.Decided.{decides_member, decides_lacks, decides_meets}
use Rattle.dl_check.specs.declared.derived.Members.{Members}
use Rattle.dl_check.specs.declared.derived.Derived.{Derived}
use Rattle.dl_check.specs.declared.derived.Reading.{Reading}
use Rattle.dl_check.specs.declared.derived.Reading.TheVariants.{Inside, Outside}
use Rattle.dl_check.specs.Tags.{is_tag, tag_of}
use Rattle.dl_check.specs.Derived.{stands, HasMembers, by_reading, is_derived}
use Rattle.dl_check.proofs.Quantified.{any_congr, any_filter, any_map, and_turned}

tagged_turned : (x y : Tagged) → tagged_eq y x ≡ tagged_eq x y
tagged_turned x y = same_from_decides (tagged_eq y x) (tagged_eq x y) (tagged_eq-Decides y x) (Decides-like (tagged_eq x y) sym sym (tagged_eq-Decides x y))

pub stands_is : (m : Members) (xs : List Tagged) → HasMembers m xs → (x : Tagged) → stands m x ≡ test.has xs x
stands_is m xs h x =
    ap (list_any (is_tag x.plus x.family)) (h x.literal)
    ∙ any_map (is_tag x.plus x.family) tag_of (filter (λ y. literal_eq y.literal x.literal) xs)
    ∙ any_filter (λ y. is_tag x.plus x.family (tag_of y)) (λ y. literal_eq y.literal x.literal) xs
    ∙ any_congr (λ y. literal_eq y.literal x.literal && is_tag x.plus x.family (tag_of y)) (tagged_eq x)
    (λ y. and_turned (literal_eq y.literal x.literal) (is_tag x.plus x.family (tag_of y)) ∙ tagged_turned x y) xs

pub stands_decides : (m : Members) (xs : List Tagged) → HasMembers m xs → (x : Tagged) → Decides (stands m x) (Contains xs x)
stands_decides m xs h x = Decides-at (stands m x) (test.has xs x) (stands_is m xs h x) (decides_member xs x)

-- where the members count as derived
pub meets_inside : (T : TheoryLists) (d : Derived) (xs : List Tagged) → d.reading ≡ Inside → HasMembers d.members xs
    → (x : Tagged) (b : Bool) → b ≡ test.meets T (is_derived d) x → Decides b (Meets T (Contains xs) x)
meets_inside T d xs r h x b e =
    Decides-at b (test.meets T (is_derived d) x) e
    (decides_meets T (is_derived d) (Contains xs)
    (λ y. Decides-at (is_derived d y) (stands d.members y) (ap (λ (v : Reading). by_reading v (stands d.members y)) r) (stands_decides d.members xs h y)) x)

-- where what is no member counts as derived
pub meets_outside : (T : TheoryLists) (d : Derived) (xs : List Tagged) → d.reading ≡ Outside → HasMembers d.members xs
    → (x : Tagged) (b : Bool) → b ≡ test.meets T (is_derived d) x → Decides b (Meets T (λ y. ¬ Contains xs y) x)
meets_outside T d xs r h x b e =
    Decides-at b (test.meets T (is_derived d) x) e
    (decides_meets T (is_derived d) (λ y. ¬ Contains xs y)
    (λ y. Decides-at (is_derived d y) (test.lacks xs y)
    (ap (λ (v : Reading). by_reading v (stands d.members y)) r ∙ ap not (stands_is d.members xs h y)) (decides_lacks xs y)) x)
