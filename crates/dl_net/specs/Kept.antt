-- What the tables of a net hold, what an edit of them keeps and changes, and the room for one that is prepared.
use Rattle.std.specs.Prelude.{◌≡◌, ◌⊎◌, ◌<◌, ◌==◌, ℕ, Bool, true, not, Option, None, Some, List, [], ◌∷◌, ◌++◌, length, map, get_or, Contains}
use Rattle.std.specs.Str.{bytes_eq}
use Rattle.dl_lit.specs.declared.literal.Literal.{Literal}
use Rattle.dl_sup.specs.declared.link.Link.{Link}
use Rattle.dl_theory.specs.declared.rule.Rule.{Rule}
use Rattle.dl_theory.specs.declared.rule.Pair.{Pair}
use Rattle.dl_theory.specs.declared.edit.Edit.{Edit}
use Rattle.dl_theory.specs.declared.edit.Edit.TheVariants.{AddRule, DropRule, AddFact, DropFact, AddPair, DropPair}
use Rattle.dl_theory.specs.Lists.{TheoryLists}
use Rattle.dl_theory.specs.Edits.{IsAccepted, after_edit}
use Rattle.dl_theory.specs.Pairs.{named}
use Rattle.dl_rows.specs.There.{there, kept_if}
use Rattle.dl_rules.specs.Lines.{IndexLists, IsThere, line_at}
use Rattle.dl_names.specs.Paired.{IsNear, Grows, flip, number_in}
use Rattle.dl_graph.specs.Numbers.{NetLists}
use Rattle.dl_graph.specs.Named.{HasLiterals, line_in}
use Rattle.dl_graph.specs.Tables.{TableLists, AreTables, net_of, rules_of, theory_of}
use Rattle.dl_pages.specs.Paged.{Owns}
use Rattle.dl_net.specs.declared.tables.Tables.{Tables}
use Rattle.dl_net.specs.PairEdits.{IsLinkOf}

-- ---- what tables hold

abbrev pub lists_of : Tables → TableLists
lists_of t = record {
  names = t.names.literals;
  labels = t.labels.labels;
  facts = t.facts.items;
  pairs = t.pairs.items;
  marks = t.marks.items;
  index = t.index;
}

-- the net of the tables, of which no edit is prepared
abbrev pub net_in : Tables → NetLists
net_in t = net_of (lists_of t)

abbrev pub theory_in : Tables → TheoryLists
theory_in t = theory_of (lists_of t)

-- the order, where it is there, has the pairs, and the one that is prepared, which is not among them
abbrev pub HasOrder : Option (List Link) → List (Option Link) → Option Link → Type 0
HasOrder None pairs ready = Unit {0}
HasOrder (Some order) pairs None = order ≡ there pairs
HasOrder (Some order) pairs (Some l) = (order ≡ there pairs ++ l ∷ []) × (¬ Contains (there pairs) l)

-- the tables stand for a theory, and the order of pairs is theirs
pub record AreKept (t : Tables) : Type 0 where
  pub tables : AreTables (lists_of t)
  pub order : HasOrder t.order t.pairs.items t.pairs.ready

-- ---- room for an edit

-- no rule and no pair is prepared
pub record AreSettled (t : Tables) : Type 0 where
  pub label : t.labels.ready ≡ None
  pub pair : t.pairs.ready ≡ None

-- whether the head of the rule at one number is attacked by that of the rule at another
abbrev pub meets : IndexLists → Link → Bool
meets x l = (line_at x.lines l.lower).head == flip (line_at x.lines l.upper).head

pub record HasRuleRoom (t : Tables) (r : Rule) : Type 0 where
  pub named : HasLiterals t.names.literals r
  pub label : t.labels.ready ≡ Some r.label
  pub line : t.index.ready ≡ Some (line_in t.names.literals r)
  pub pair : t.pairs.ready ≡ None

pub record HasFactRoom (t : Tables) (q : Literal) : Type 0 where
  pub named : Contains t.names.literals q
  pub marked : number_in t.names.literals q < length t.marks.items
  pub owned : Owns t.marks (number_in t.names.literals q)
  pub ready : t.facts.ready ≡ Some (number_in t.names.literals q)
  pub settled : AreSettled t

-- room for a pair of two rules; where their heads meet, the lower one can go below the upper one
pub record HasPairRoom (t : Tables) (p : Pair) : Type 0 where
  pub link : Link
  pub ready : t.pairs.ready ≡ Some link
  pub names : named t.labels.labels link ≡ p
  pub upper : IsThere t.index.lines link.upper
  pub lower : IsThere t.index.lines link.lower
  pub below : meets t.index link ≡ true → t.index.linking ≡ Some (record { upper = link.upper; lower = link.lower })
  pub label : t.labels.ready ≡ None

-- a rule can go with its pairs
pub record HasRuleDropRoom (t : Tables) (name : List ℕ) : Type 0 where
  pub number : ℕ
  pub there : IsThere t.index.lines number
  pub label : get_or t.labels.labels number [] ≡ name
  pub taking : t.index.taking ≡ Some number
  pub clearing : t.pairs.clearing ≡ Some number
  pub settled : AreSettled t

-- a fact can go
pub record HasFactDropRoom (t : Tables) (q : Literal) : Type 0 where
  pub named : Contains t.names.literals q
  pub owned : Owns t.marks (number_in t.names.literals q)
  pub leaving : t.facts.leaving ≡ Some (number_in t.names.literals q)
  pub settled : AreSettled t

-- the pair of two rules can go
pub record HasPairDropRoom (t : Tables) (p : Pair) : Type 0 where
  pub link : Link
  pub leaving : t.pairs.leaving ≡ Some link
  pub unlinking : t.index.unlinking ≡ Some (record { upper = link.upper; lower = link.lower })
  pub is : IsLinkOf t link p
  pub settled : AreSettled t

-- room for what an edit adds, and for all that changes where something goes
abbrev pub HasEditRoom : Tables → Edit → Type 0
HasEditRoom t (AddRule r) = HasRuleRoom t r
HasEditRoom t (DropRule l) = HasRuleDropRoom t l
HasEditRoom t (AddFact q) = HasFactRoom t q
HasEditRoom t (DropFact q) = HasFactDropRoom t q
HasEditRoom t (AddPair p) = HasPairRoom t p
HasEditRoom t (DropPair p) = HasPairDropRoom t p

-- an edit that is prepared is accepted, and has its room
abbrev pub HasPending : Tables → Option Edit → Type 0
HasPending t None = AreSettled t
HasPending t (Some e) = IsAccepted (theory_in t) e × HasEditRoom t e

-- ---- what an edit keeps and changes

-- all stays but the names, which literals like these have joined
pub record KeepsTables (qs : List Literal) (old new : Tables) : Type 0 where
  pub kept : AreKept new
  pub net : net_in new ≡ record (net_in old) { names = new.names.literals }
  pub names : Grows (IsNear qs) old.names.literals new.names.literals

-- the rules by number after an edit that is accepted: an added one goes last, and one that goes leaves its number empty
abbrev pub rules_after : List (Option Rule) → Edit → List (Option Rule)
rules_after rs (AddRule r) = rs ++ Some r ∷ []
rules_after rs (DropRule l) = map (kept_if (λ r. not (bytes_eq r.label l))) rs
rules_after rs (AddFact q) = rs
rules_after rs (DropFact q) = rs
rules_after rs (AddPair p) = rs
rules_after rs (DropPair p) = rs

-- an edit was made, and nothing is prepared any more
pub record MakesEdit (old : Tables) (e : Edit) (new : Tables) : Type 0 where
  pub kept : AreKept new
  pub theory : theory_in new ≡ after_edit (theory_in old) e
  pub rules : rules_of (lists_of new) ≡ rules_after (rules_of (lists_of old)) e
  pub names : new.names.literals ≡ old.names.literals
  pub settled : AreSettled new

-- where rules are numbered anew, they stand in the same order, and no number is empty
abbrev pub KeepsNumbers : List (Option Rule) → List (Option Rule) → Type 0
KeepsNumbers old new = (new ≡ old) ⊎ (new ≡ map (λ r. Some r) (there old))

-- the same net where facts, rules and pairs have numbers anew: they stand in the same order, and no number is empty
abbrev pub numbered_anew : NetLists → NetLists
numbered_anew N = record N { facts = map Some (there N.facts); rules = map Some (there N.rules); pairs = map Some (there N.pairs) }

-- the theory stays, under the same numbers or under new ones, and literals like these have joined the names
pub record KeepsTheory (qs : List Literal) (old new : Tables) : Type 0 where
  pub kept : AreKept new
  pub theory : theory_in new ≡ theory_in old
  pub rules : KeepsNumbers (rules_of (lists_of old)) (rules_of (lists_of new))
  pub names : Grows (IsNear qs) old.names.literals new.names.literals
