-- A table is sound where each gate keeps what the nodes of its kinds mean, and where the node of a literal fires that meets its condition.
use Rattle.std.proofs.Common.{◌≡◌, ℕ, ◌+◌, ◌*◌, ◌/◌, ◌%◌, ◌<◌, ◌≤◌, Bool, true, false, Option, None, Some, List, [], length, inl, inr, ◌⊎◌, sym, subst, ◌∙◌, arith, true≢false}
use Rattle.std.specs.Prelude.{◌↔◌, All, Contains, IsTrue, MatchOption}
use Rattle.dl_lit.specs.declared.literal.Tagged.{Tagged}
use Rattle.dl_lit.specs.declared.literal.Tag.{Tag}
use Rattle.dl_lit.specs.declared.literal.Family.{Family}
use Rattle.dl_lit.specs.declared.literal.Family.TheVariants.{Definite}
use Rattle.dl_lit.specs.Literal.{tagged}
use Rattle.dl_theory.specs.Conditions.{Condition, Meets}
use Rattle.dl_theory.specs.Derivations.{Derives, Follows}
use Rattle.dl_theory.specs.Verdicts.{Back, Matters, needs}
use Rattle.dl_theory.proofs.Closure.{back_closed, follows_step}
use Rattle.dl_marks.specs.Marks.{Marking}
use Rattle.dl_graph.specs.Counting.{times}
use Rattle.dl_graph.specs.Numbers.{NetLists, IsNumbered, literal_at}
use Rattle.dl_graph.specs.Region.{Numbers}
use Rattle.dl_fill.specs.declared.wire.Gate.{Gate}
use Rattle.dl_fill.specs.declared.basis.Basis.{Basis}
use Rattle.dl_fill.specs.Before.{Before, before_of, tag_of, is_inside, IsExact, IsExactOutside}
use Rattle.dl_fill.specs.Counters.{CounterLists}
use Rattle.dl_fill.specs.Families.{FamilyTable, IsSound}
use Rattle.dl_fill.specs.Filled.{HasFired, IsSolved}
use Rattle.dl_fill.specs.Gates.{Passes}
use Rattle.dl_fill.specs.Meanings.{HasTag}
use Rattle.dl_fill.specs.Passing.{IsOrdered}
use Rattle.dl_fill.specs.Prepared.{is_touched_at}
use Rattle.dl_fill.specs.Reads.{Reads, basis_at}
use Rattle.dl_fill.specs.Runs.{HasRun}
use Rattle.dl_fill.specs.Steps.{tag_at, steps_of}
use Rattle.dl_fill.specs.Tables.{IsTable}
use Rattle.dl_fill.specs.Touched.{Touches}
use Rattle.dl_fill.specs.Wires.{inputs, inputs_at, IsLive}
use Rattle.dl_fill.proofs.Concluding.{reads_more, reads_follow}
use Rattle.dl_fill.proofs.Derived.{IsFamily, Knows, read_derives, read_matters}
use Rattle.dl_fill.proofs.Exact.{fired_means, fires, touched_literal}
use Rattle.dl_fill.proofs.Gating.{IsGotOutside, right_outside}
use Rattle.dl_fill.proofs.Nodes.{kind_of, place_of}
use Rattle.dl_fill.proofs.Solved as solved
use Rattle.dl_fill.proofs.Solved.{needs_all}
use Rattle.dl_fill.proofs.Tables.{bodies_tagged, live_tagged, tag_within}

-- of a tag, where there is one
match_more : (A : Type 0) (P Q : Tag → Type 0) (o : Option Tag) → MatchOption o A P → ((x : Tag) → P x → Q x) → MatchOption o A Q
match_more A P Q None h f = h
match_more A P Q (Some x) h f = f x h

match_twice : (A : Type 0) (P Q : Tag → Type 0) (o : Option Tag) → MatchOption o A P → MatchOption o (MatchOption o A Q) P
match_twice A P Q None h = h
match_twice A P Q (Some x) h = h

-- Part tells what a node of a kind means that stands for no tag, where `got` tells what counts as derived
module _ (t : FamilyTable) (Part : NetLists → (Tagged → Type 0) → ℕ → ℕ → Type 0) where
  -- what a node of a kind at a place means: if it stands for a tag, that its literal has it
  abbrev pub Means : NetLists → List ℕ → (Tagged → Type 0) → ℕ → ℕ → Type 0
  Means N members got k i = MatchOption (tag_at t.tags k) (Part N got k i) (λ x. (is_inside members i ≡ true) × HasTag N got x.plus x.family i)

  abbrev pub MeansNode : NetLists → List ℕ → (Tagged → Type 0) → ℕ → Type 0
  MeansNode N members got y = Means N members got (y % t.width) (y / t.width)

  pub meant_at : (N : NetLists) (members : List ℕ) (got : Tagged → Type 0) (k i : ℕ) → k < t.width → MeansNode N members got (i * t.width + k) → Means N members got k i
  meant_at N members got k i small m =
      subst (λ (v : ℕ). Means N members got v i) (kind_of t.width i k small)
      (subst (λ (v : ℕ). Means N members got ((i * t.width + k) % t.width) v) (place_of t.width i k small) m)

  -- a literal meets its condition, and another node has its part
  abbrev pub Concludes : NetLists → List ℕ → (Tagged → Type 0) → ℕ → ℕ → Type 0
  Concludes N members got k i =
      MatchOption (tag_at t.tags k) (Part N got k i)
      (λ x. (is_inside members i ≡ true) × (i < length N.names) × Meets N.theory got (tagged x.plus x.family (literal_at N i)))

  module _ (gate : NetLists → Before → ℕ → ℕ → Gate) where
    -- a gate that is passed by nodes that have their meaning
    abbrev pub Keeps : Type 1
    Keeps =
        (N : NetLists) → IsNumbered N → (m : Marking) (region : Numbers) → ((f : Family) → Contains t.below f → IsExact N (before_of m region) f)
        → (got : Tagged → Type 0) → ((f : Family) → IsTrue (t.fills f) → IsGotOutside N (before_of m region) f got)
        → (k i : ℕ) → (k < t.literals → is_inside region.members i ≡ true)
        → Reads N (before_of m region) (λ plus c. got (tagged plus Definite c)) i (basis_at t.bases k)
        → Passes (MeansNode N region.members got) (gate N (before_of m region) k i) (inputs_at N (is_inside region.members) t.width t.wires k i)
        → Concludes N region.members got k i

    -- nodes that have fired, among them each that is touched and whose gate these pass: the node of a literal is one that meets its condition by them
    abbrev pub Saturates : Type 1
    Saturates =
        (N : NetLists) → IsNumbered N → (m : Marking) (region : Numbers) → ((f : Family) → Contains t.below f → IsExact N (before_of m region) f)
        → ((f : Family) → IsTrue (t.fills f) → IsExactOutside N (before_of m region) f)
        → (rules : List ℕ) → Touches N region.members rules → (places : ℕ) → length N.names ≤ places → length N.rules ≤ places
        → (Fired : ℕ → Type 0)
        → ((k i : ℕ) → k < t.width → i < places → is_touched_at t.literals region.members rules k i ≡ true
        → Passes Fired (gate N (before_of m region) k i) (inputs_at N (is_inside region.members) t.width t.wires k i) → Fired (i * t.width + k))
        → (got : Tagged → Type 0) → ((y : Tagged) → got y → Follows N.theory y)
        → ((f : Family) → IsTrue (t.fills f) → (p : Bool) (q : ℕ) → is_inside region.members q ≡ true → HasTag N got p f q → Fired (q * t.width + t.kind f p))
        → (f : Family) → IsTrue (t.fills f) → (p : Bool) (q : ℕ) → is_inside region.members q ≡ true → q < length N.names
        → Condition N.theory got p f (literal_at N q) → Fired (q * t.width + t.kind f p)

    -- what a family shows of its table
    pub record Shows : Type 1 where
      pub table : IsTable t.width t.literals t.wires
      pub few : length t.tags ≤ t.width
      pub bodies : bodies_tagged t.tags t.wires ≡ true
      pub tags : (f : Family) → IsTrue (t.fills f) → (plus : Bool) → tag_at t.tags (t.kind f plus) ≡ Some (tag_of plus f)
      pub own : (k : ℕ) → MatchOption (tag_at t.tags k) (Unit {0}) (λ x. IsTrue (t.fills x.family) × (t.kind x.family x.plus ≡ k))
      pub needed : (f g : Family) → IsTrue (t.fills f) → Contains t.below g ⊎ IsTrue (t.fills g) → Contains (needs f) g
      pub apart : (f : Family) → Contains t.below f → t.fills f ≡ false
      pub base : (t.bases ≡ []) ⊎ Contains t.below Definite
      pub keeps : Keeps
      pub saturates : Saturates

    module _ (shows : Shows) where
      small : (f : Family) → IsTrue (t.fills f) → (plus : Bool) → t.kind f plus < t.width
      small f e plus = omega (arith, tag_within t.tags (t.kind f plus) (tag_of plus f) (shows.tags f e plus), shows.few)

      module _ (N : NetLists) (numbered : IsNumbered N) (m : Marking) (region : Numbers) (right : (f : Family) → Contains t.below f → IsExact N (before_of m region) f) where
        abbrev b : Before
        b = before_of m region

        abbrev inside : ℕ → Bool
        inside q = is_inside region.members q

        -- at the end of a run
        module _ (outside : (f : Family) → IsTrue (t.fills f) → IsExactOutside N (before_of m region) f) (rules : List ℕ) (w : CounterLists)
            (run : HasRun N (before_of m region) region.members t.width t.literals t.wires (gate N (before_of m region)) rules w) where
          abbrev MeansAt : ℕ → ℕ → Type 0
          MeansAt = Means N region.members (Follows N.theory)

          with_tag : (k i : ℕ) (x : Tag) → tag_at t.tags k ≡ Some x → MeansAt k i → (is_inside region.members i ≡ true) × HasTag N (Follows N.theory) x.plus x.family i
          with_tag k i x e h =
              subst (λ (o : Option Tag). MatchOption o (Part N (Follows N.theory) k i) (λ x. (is_inside region.members i ≡ true) × HasTag N (Follows N.theory) x.plus x.family i)) e h

          live : (y : ℕ) → MeansAt (y % t.width) (y / t.width) → IsLive (is_inside region.members) t.width t.wires y
          live y h =
              live_tagged (is_inside region.members) t.width y t.tags (λ x e. (with_tag (y % t.width) (y / t.width) x e h).0) t.wires shows.bodies

          reads : (i : ℕ) (k : ℕ) → Reads N b (λ plus c. Follows N.theory (tagged plus Definite c)) i (basis_at t.bases k)
          reads i k = elim shows.base [
            | inl none ↦
                subst (λ (bs : List Basis). Reads N b (λ plus c. Follows N.theory (tagged plus Definite c)) i (basis_at bs k)) (sym none) (λ lt here. tt)
            | inr definite ↦ reads_follow N numbered b (right Definite definite) i (basis_at t.bases k)
          ]

          step : (k i : ℕ) → is_touched_at t.literals region.members rules k i ≡ true
              → Passes (MeansNode N region.members (Follows N.theory)) (gate N b k i) (inputs_at N inside t.width t.wires k i) → MeansAt k i
          step k i touched h =
              match_more _ _ _ (tag_at t.tags k)
              (shows.keeps N numbered m region right (Follows N.theory) (λ f e. right_outside N b f (outside f e)) k i
              (λ lt. touched_literal t.literals region.members rules k i lt touched) (reads i k) h)
              (λ x c. (c.0, (c.1, follows_step N.theory (Follows N.theory) (λ y h. h) (tagged x.plus x.family (literal_at N i)) c.2)))

          fired_at : (k i : ℕ) → k < t.width → 0 < times (i * t.width + k) w.queue → MeansAt k i
          fired_at = fired_means N b region.members t.width t.literals t.wires shows.table.kinds (gate N b) MeansAt live rules step w run

          means : (f : Family) → t.fills f ≡ true → (p : Bool) (q : ℕ) → HasFired t.width (t.kind f) w p q → HasTag N (Follows N.theory) p f q
          means f e p q h = (with_tag (t.kind f p) q (tag_of p f) (shows.tags f e p) (fired_at (t.kind f p) q (small f e p) h)).1

          pub solves : ((q : ℕ) → 0 < times q region.members → q < length N.names) → (places : ℕ) → length w.need ≡ places * t.width → length N.names ≤ places
              → length N.rules ≤ places → (f : Family) → IsTrue (t.fills f) → IsSolved N region.members (HasFired t.width (t.kind f) w) f
          solves within places size names_fit rules_fit =
              solved.solved N numbered region.members t.width t.fills t.kind w within means
              (shows.saturates N numbered m region right outside rules run.touches places names_fit rules_fit (λ x. 0 < times x w.queue)
              (fires N b region.members t.width t.literals t.wires shows.table.kinds (gate N b) MeansAt live rules step w run places size)
              (solved.Got N numbered region.members t.width t.fills t.kind w) (solved.follows N numbered region.members t.width t.fills t.kind w)
              (solved.fired N numbered region.members t.width t.fills t.kind w))

        -- over all that matters for a literal, behind a derivation of what gates read
        module _ (q : ℕ) (all : (n : ℕ) → (is_inside region.members n ≡ true) ↔ ((n < length N.names) × Back N.theory (literal_at N q) (literal_at N n)))
            (D : List Tagged) (before : (x : Tagged) → Contains D x → Contains t.below x.family) (f : Family) (filled : IsTrue (t.fills f)) (pos : 0 < t.width) where
          keeps_behind : (got : Tagged → Type 0) → ((x : Tagged) → (Back N.theory (literal_at N q) x.literal → Contains D x) → got x)
              → (k i : ℕ) → (k < t.literals → is_inside region.members i ≡ true) → Reads N b (λ plus c. Contains D (tagged plus Definite c)) i (basis_at t.bases k)
              → Passes (MeansNode N region.members got) (gate N b k i) (inputs_at N inside t.width t.wires k i) → Concludes N region.members got k i
          keeps_behind got has k i here reads =
              shows.keeps N numbered m region right got
              (λ g e plus n lt out stands. has (tagged plus g (literal_at N n)) (λ r. absurd (true≢false (sym ((all n).1 (lt, r)) ∙ out)))) k i here
              (reads_more N b (λ plus c. Contains D (tagged plus Definite c)) (λ plus c. got (tagged plus Definite c)) (λ plus c m. has (tagged plus Definite c) (λ r. m)) i
              (basis_at t.bases k) reads)

          own_meaning : (got : Tagged → Type 0) (i : ℕ) (A : Type 0) (o : Option Tag)
              → MatchOption o (Unit {0}) (λ x. is_inside region.members i ≡ true → i < length N.names → got (tagged x.plus x.family (literal_at N i))
              → MatchOption o A (λ x. (is_inside region.members i ≡ true) × HasTag N got x.plus x.family i))
          own_meaning got i A None = tt
          own_meaning got i A (Some x) = λ here lt g. (here, (lt, g))

          family : IsFamily N t.width t.tags (is_inside region.members) numbered pos (Contains (needs f)) (Back N.theory (literal_at N q))
              (back_closed N.theory (Contains (needs f)) (λ g h n d. needs_all f g h n d) (literal_at N q)) D (inputs N (is_inside region.members) t.width t.wires)
              (λ y. gate N (before_of m region) (y % t.width) (y / t.width)) (MeansNode N region.members) (Knows N (before_of m region) t.width t.literals t.bases D) t.kind
          family = record {
            region = λ n e. (all n).0 e;
            ours = λ k. match_more _ _ _ (tag_at t.tags k) (shows.own k) (λ x h. shows.needed f x.family filled (inr h.0));
            apart = λ k. match_more _ _ _ (tag_at t.tags k) (shows.own k) (λ x h. h.1);
            fresh = λ k.
                match_more _ _ _ (tag_at t.tags k) (shows.own k) (λ x h c m. true≢false (sym h.0 ∙ shows.apart x.family (before (tagged x.plus x.family c) m)));
            concludes = λ got has y knows h. match_twice _ _ _ (tag_at t.tags (y % t.width)) (keeps_behind got has (y % t.width) (y / t.width) knows.0 knows.1 h);
            means = λ got y. own_meaning got (y / t.width) (Part N got (y % t.width) (y / t.width)) (tag_at t.tags (y % t.width));
          }

          pub derives : (nodes : List ℕ) → IsOrdered N (before_of m region) t.width t.literals t.wires (gate N (before_of m region)) nodes
              → ((y : ℕ) → 0 < times y nodes → Reads N (before_of m region) (λ plus c. Contains D (tagged plus Definite c)) (y / t.width) (basis_at t.bases (y % t.width)))
              → Derives N.theory D (steps_of N t.width t.tags (is_inside region.members) nodes)
              × All (Matters N.theory f (literal_at N q)) (steps_of N t.width t.tags (is_inside region.members) nodes)
          derives nodes ordered reads = (
            read_derives N t.width t.tags (is_inside region.members) numbered pos (Contains (needs f)) (Back N.theory (literal_at N q))
                (back_closed N.theory (Contains (needs f)) (λ g h n d. needs_all f g h n d) (literal_at N q)) D (inputs N (is_inside region.members) t.width t.wires)
                (λ y. gate N (before_of m region) (y % t.width) (y / t.width)) (MeansNode N region.members) (Knows N (before_of m region) t.width t.literals t.bases D) t.kind
                family nodes (λ y h. (ordered.here y h, reads y h)) ordered.passing,
            read_matters N t.width t.tags (is_inside region.members) numbered pos (Contains (needs f)) (Back N.theory (literal_at N q))
                (back_closed N.theory (Contains (needs f)) (λ g h n d. needs_all f g h n d) (literal_at N q)) D (inputs N (is_inside region.members) t.width t.wires)
                (λ y. gate N (before_of m region) (y % t.width) (y / t.width)) (MeansNode N region.members) (Knows N (before_of m region) t.width t.literals t.bases D) t.kind
                family nodes,
          )

      pub sound : IsSound t gate
      sound = record {
        table = shows.table;
        kinds = small;
        tags = shows.tags;
        needed = shows.needed;
        base = shows.base;
        solves = λ N numbered m region right outside within rules w run places size names_fit rules_fit.
            solves N numbered m region right outside rules w run within places size names_fit rules_fit;
        derives = λ N numbered m region q right all D before nodes ordered reads f filled.
            derives N numbered m region right q all D before f filled (omega (arith, shows.table.rules)) nodes ordered reads;
      }
