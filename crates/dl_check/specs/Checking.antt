-- How the fields of a checker stand for a theory, and the conditions over them.
use Rattle.std.specs.Prelude.{◌≡◌, ℕ, Bool, true, false, not, ◌&&◌, ◌||◌, List}
use Rattle.std.specs.List.{list_any}
use Rattle.std.specs.Set.{is_member}
use Rattle.std.specs.Str.{bytes_eq}
use Rattle.dl_lit.specs.declared.literal.Literal.{Literal}
use Rattle.dl_lit.specs.declared.literal.Tagged.{Tagged}
use Rattle.dl_lit.specs.declared.literal.Family.{Family}
use Rattle.dl_lit.specs.declared.literal.Family.TheVariants.{Definite}
use Rattle.dl_lit.specs.Literal.{literal_eq, tagged}
use Rattle.dl_theory.specs.declared.rule.Rule.{Rule}
use Rattle.dl_theory.specs.Lists.{TheoryLists}
use Rattle.dl_check.specs.declared.checker.Checker.{Checker}
use Rattle.dl_check.specs.declared.band.Band.{Band}
use Rattle.dl_check.specs.declared.band.Kinds.TheVariants.{All, Supporting, Strict}
use Rattle.dl_check.specs.Groups.{group, IsGrouped}
use Rattle.dl_check.specs.Bands.{is_in, on, not_off}

-- the checker has the facts, the rules by their heads, and for each label the upper labels of its pairs, all in list order
pub record StandsFor (c : Checker) (T : TheoryLists) : Type 0 where
  pub facts : c.facts.keys ≡ T.facts
  pub rules : IsGrouped literal_eq (λ r. r.head) (λ r. r) c.rules.groups.entries T.rules
  pub above : IsGrouped bytes_eq (λ p. p.lower) (λ p. p.upper) c.above.groups.entries T.pairs

abbrev pub is_fact : Checker → Literal → Bool
is_fact c q = is_member literal_eq c.facts.keys q

-- the rules with a head
abbrev pub row : Checker → Literal → List Rule
row c q = group literal_eq c.rules.groups.entries q

-- the labels that are superior to a label
abbrev pub above : Checker → List ℕ → List (List ℕ)
above c label = group bytes_eq c.above.groups.entries label

-- whether some rule for q is in a band
abbrev pub some_in : Checker → (Tagged → Bool) → Band → Literal → Bool
some_in c got b q = list_any (is_in got b) (row c q)

-- labels has the labels of the rules for q that are in a band
abbrev pub HasLabels : Checker → (Tagged → Bool) → Band → Literal → List (List ℕ) → Type 0
HasLabels c got b q labels = (l : List ℕ) → is_member bytes_eq labels l ≡ list_any (λ r. bytes_eq r.label l && is_in got b r) (row c q)

-- whether one of the labels is superior to that of the rule
abbrev pub is_beaten : Checker → List (List ℕ) → Rule → Bool
is_beaten c labels r = list_any (is_member bytes_eq labels) (above c r.label)

-- whether some rule for q is in a band, and none of the labels is superior to its own
abbrev pub some_unbeaten : Checker → (Tagged → Bool) → Band → Literal → List (List ℕ) → Bool
some_unbeaten c got b q labels = list_any (λ r. is_in got b r && not (is_beaten c labels r)) (row c q)

-- The conditions

abbrev pub definite : Checker → (Tagged → Bool) → Bool → Literal → Bool
definite c got true q = is_fact c q || some_in c got (on Strict Definite) q
definite c got false q = not (is_fact c q) && not (some_in c got (not_off Strict Definite) q)

-- opposite: the complement of q; team: the labels of the supporting rules for q that are on
abbrev pub prevails : Checker → (Tagged → Bool) → Family → Family → Literal → Literal → List (List ℕ) → Bool
prevails c got f against q opposite team =
    (some_in c got (on Supporting f) q && got (tagged false Definite opposite)) && not (some_unbeaten c got (not_off All against) opposite team)

-- opposite: the complement of q; standing: the labels of the supporting rules for q that are not off
abbrev pub fails : Checker → (Tagged → Bool) → Family → Family → Literal → Literal → List (List ℕ) → Bool
fails c got f against q opposite standing =
    (not (some_in c got (not_off Supporting f) q) || got (tagged true Definite opposite)) || some_unbeaten c got (on All against) opposite standing
