-- Rules by number, from their columns.
use Rattle.std.proofs.Common.{◌≡◌, ℕ, zero, suc, ◌<◌, ◌≤◌, Option, None, Some, List, [], ◌∷◌, ◌++◌, length, get_or, set, refl, sym, ap, ◌∙◌, arith, true≢false}
use Rattle.std.specs.Prelude.{IsSome, is_some, unwrap_or, option_map, ◌&&◌, Bool, true, false}
use Rattle.dl_rows.proofs.NumberLists.{and_false}
use Rattle.std.proofs.lemmas.List.{get_or_default, get_or_past}
use Rattle.dl_theory.specs.declared.rule.Kind.{Kind}
use Rattle.dl_rules.specs.declared.slot.Slot.{Slot}
use Rattle.dl_rules.specs.declared.slot.Slot.TheVariants.{Strict, Defeasible, Defeater, Gone}
use Rattle.dl_rules.specs.declared.lines.Lines.TheInside.{Inside}
use Rattle.dl_pages.specs.Paged.{PagedItems}
use Rattle.dl_rules.specs.Lines.{Line, no_line, line_at, IsThere}
use Rattle.dl_rules.specs.KeptLines.{kind_in, line_of, joined, both, AreAsLong, lines_of, IsKeptLines}
use Rattle.dl_rules.proofs.ThereLemmas.{there_within}

tail_long : {s : Slot} {h : ℕ} {b : List ℕ} {ss : List Slot} {hs : List ℕ} {bs : List (List ℕ)} → AreAsLong (s ∷ ss) (h ∷ hs) (b ∷ bs) → AreAsLong ss hs bs
tail_long e = record { heads = omega (arith, e.heads); bodies = omega (arith, e.bodies) }

joined_length : (ss : List Slot) (hs : List ℕ) (bs : List (List ℕ)) → AreAsLong ss hs bs → length (joined ss hs bs) ≡ length ss
joined_length [] hs bs e = refl
joined_length (s ∷ ss) [] bs e = absurd (omega (arith, e.heads))
joined_length (s ∷ ss) (h ∷ hs) [] e = absurd (omega (arith, e.bodies))
joined_length (s ∷ ss) (h ∷ hs) (b ∷ bs) e =
    omega (arith, joined_length ss hs bs (tail_long e))

joined_at : (ss : List Slot) (hs : List ℕ) (bs : List (List ℕ)) → AreAsLong ss hs bs → (n : ℕ) → n < length ss → (s : Slot) (h : ℕ) (b : List ℕ)
    → get_or (joined ss hs bs) n None ≡ line_of (kind_in (get_or ss n s)) (get_or hs n h) (get_or bs n b)
joined_at [] hs bs e n lt s h b = absurd (omega (arith, lt))
joined_at (x ∷ ss) [] bs e n lt s h b = absurd (omega (arith, e.heads))
joined_at (x ∷ ss) (y ∷ hs) [] e n lt s h b = absurd (omega (arith, e.bodies))
joined_at (x ∷ ss) (y ∷ hs) (z ∷ bs) e zero lt s h b = refl
joined_at (x ∷ ss) (y ∷ hs) (z ∷ bs) e (suc n) lt s h b =
    joined_at ss hs bs (tail_long e) n (omega (arith, lt)) s h b

joined_push : (ss : List Slot) (hs : List ℕ) (bs : List (List ℕ)) → AreAsLong ss hs bs → (s : Slot) (h : ℕ) (b : List ℕ)
    → joined (ss ++ s ∷ []) (hs ++ h ∷ []) (bs ++ b ∷ []) ≡ joined ss hs bs ++ line_of (kind_in s) h b ∷ []
joined_push [] [] [] e s h b = refl
joined_push [] (y ∷ hs) bs e s h b = absurd (omega (arith, e.heads))
joined_push [] [] (z ∷ bs) e s h b = absurd (omega (arith, e.bodies))
joined_push (x ∷ ss) [] bs e s h b = absurd (omega (arith, e.heads))
joined_push (x ∷ ss) (y ∷ hs) [] e s h b = absurd (omega (arith, e.bodies))
joined_push (x ∷ ss) (y ∷ hs) (z ∷ bs) e s h b =
    ap (λ (ls : List (Option Line)). line_of (kind_in x) y z ∷ ls)
    (joined_push ss hs bs (tail_long e) s h b)

joined_gone : (ss : List Slot) (hs : List ℕ) (bs : List (List ℕ)) → AreAsLong ss hs bs → (n : ℕ) (b : List ℕ)
    → joined (set ss n Gone) hs (set bs n b) ≡ set (joined ss hs bs) n None
joined_gone [] hs bs e n b = refl
joined_gone (x ∷ ss) [] bs e n b = absurd (omega (arith, e.heads))
joined_gone (x ∷ ss) (y ∷ hs) [] e n b = absurd (omega (arith, e.bodies))
joined_gone (x ∷ ss) (y ∷ hs) (z ∷ bs) e zero b = refl
joined_gone (x ∷ ss) (y ∷ hs) (z ∷ bs) e (suc n) b =
    ap (λ (ls : List (Option Line)). line_of (kind_in x) y z ∷ ls)
    (joined_gone ss hs bs (tail_long e) n b)

-- ---- what holds of both at a place

both_at : (xs ys : List Bool) (n : ℕ) → get_or (both xs ys) n false ≡ (get_or xs n false && get_or ys n false)
both_at [] ys n = refl
both_at (x ∷ xs) [] zero = sym (and_false x)
both_at (x ∷ xs) [] (suc n) = sym (and_false (get_or xs n false))
both_at (x ∷ xs) (y ∷ ys) zero = refl
both_at (x ∷ xs) (y ∷ ys) (suc n) = both_at xs ys n

pub both_parts : (xs ys : List Bool) (n : ℕ) → get_or (both xs ys) n false ≡ true → (get_or xs n false ≡ true) × (get_or ys n false ≡ true)
both_parts xs ys n h = by (get_or xs n false) (get_or ys n false) (sym (both_at xs ys n) ∙ h)
  where
    by : (a b : Bool) → (a && b) ≡ true → (a ≡ true) × (b ≡ true)
    by true true e = (refl, refl)
    by true false e = absurd (true≢false (sym e))
    by false b e = absurd (true≢false (sym e))

pub both_made : (xs ys : List Bool) (n : ℕ) → get_or xs n false ≡ true → get_or ys n false ≡ true → get_or (both xs ys) n false ≡ true
both_made xs ys n here there = both_at xs ys n ∙ ap (λ b. b && get_or ys n false) here ∙ there

-- ---- what is read of one rule

found_in : (o : Option Kind) (h : ℕ) (b : List ℕ) → o ≡ option_map (λ (l : Line). l.kind) (line_of o h b)
found_in None h b = refl
found_in (Some k) h b = refl

head_in : (o : Option Kind) (h : ℕ) (b : List ℕ) → IsSome (line_of o h b) → h ≡ (unwrap_or (line_of o h b) no_line).head
head_in None h b there = absurd (true≢false (sym there))
head_in (Some k) h b there = refl

body_in : (s : Slot) (h : ℕ) (b : List ℕ) → (s ≡ Gone → b ≡ []) → b ≡ (unwrap_or (line_of (kind_in s) h b) no_line).body
body_in Strict h b bare = refl
body_in Defeasible h b bare = refl
body_in Defeater h b bare = refl
body_in Gone h b bare = bare refl

-- what the columns of a list of rules say of it
module _ (a : Inside) (kept : IsKeptLines a) (v : PagedItems (Option Line)) (is : lines_of a ≡ v) where
  pub items_length : length a.slots.items ≡ length v.items
  items_length = sym (joined_length a.slots.items a.heads.items a.bodies.items kept.long) ∙ ap (λ (l : PagedItems (Option Line)). length l.items) is

  pub items_pushed : (s : Slot) (k : Kind) (h : ℕ) (b : List ℕ) (ss : List Slot) (hs : List ℕ) (bs : List (List ℕ)) → kind_in s ≡ Some k → ss ≡ a.slots.items ++ s ∷ []
      → hs ≡ a.heads.items ++ h ∷ [] → bs ≡ a.bodies.items ++ b ∷ [] → joined ss hs bs ≡ v.items ++ Some (record { kind = k; head = h; body = b }) ∷ []
  items_pushed s k h b ss hs bs some slots heads bodies =
      (λ i. joined (slots i) (heads i) (bodies i))
      ∙ joined_push a.slots.items a.heads.items a.bodies.items kept.long s h b
      ∙ ap (λ (o : Option Kind). joined a.slots.items a.heads.items a.bodies.items ++ line_of o h b ∷ []) some
      ∙ ap (λ (ls : PagedItems (Option Line)). ls.items ++ Some (record { kind = k; head = h; body = b }) ∷ []) is

  pub items_gone : (x : ℕ) (ss : List Slot) (bs : List (List ℕ)) → ss ≡ set a.slots.items x Gone → bs ≡ set a.bodies.items x []
      → joined ss a.heads.items bs ≡ set v.items x None
  items_gone x ss bs slots bodies =
      (λ i. joined (slots i) a.heads.items (bodies i))
      ∙ joined_gone a.slots.items a.heads.items a.bodies.items kept.long x []
      ∙ ap (λ (ls : PagedItems (Option Line)). set ls.items x None) is

  module _ (n : ℕ) (lt : n < length v.items) where
    pub in_slots : n < length a.slots.items
    in_slots = omega (arith, items_length, lt)

    pub in_heads : n < length a.heads.items
    in_heads = omega (arith, in_slots, kept.long.heads)

    pub in_bodies : n < length a.bodies.items
    in_bodies = omega (arith, in_slots, kept.long.bodies)

    item_is : (s : Slot) (h : ℕ) (b : List ℕ) → line_of (kind_in (get_or a.slots.items n s)) (get_or a.heads.items n h) (get_or a.bodies.items n b) ≡ get_or v.items n None
    item_is s h b =
        sym (joined_at a.slots.items a.heads.items a.bodies.items kept.long n in_slots s h b) ∙ ap (λ (l : PagedItems (Option Line)). get_or l.items n None) is

    pub kind_is : (s : Slot) → s ≡ get_or a.slots.items n s → kind_in s ≡ option_map (λ (l : Line). l.kind) (get_or v.items n None)
    kind_is s read =
        ap kind_in read ∙ found_in (kind_in (get_or a.slots.items n s)) (get_or a.heads.items n 0) (get_or a.bodies.items n [])
        ∙ ap (option_map (λ (l : Line). l.kind)) (item_is s 0 [])

    pub body_is : (b : List ℕ) → b ≡ get_or a.bodies.items n b → b ≡ (line_at v.items n).body
    body_is b read =
        read ∙ get_or_default a.bodies.items n b [] in_bodies
        ∙ body_in (get_or a.slots.items n Gone) (get_or a.heads.items n 0) (get_or a.bodies.items n []) (kept.bare n in_slots)
        ∙ ap (λ (o : Option Line). (unwrap_or o no_line).body) (item_is Gone 0 [])

  pub kind_past : (n : ℕ) → length v.items ≤ n → ◌≡◌ {A = Option Kind} None (option_map (λ (l : Line). l.kind) (get_or v.items n None))
  kind_past n past = sym (ap (option_map (λ (l : Line). l.kind)) (get_or_past v.items n None past))

  pub head_is : (n h : ℕ) → IsThere v.items n → h ≡ get_or a.heads.items n h → h ≡ (line_at v.items n).head
  head_is n h there read =
      let lt : n < length v.items = there_within v.items n there in
      let is_item = item_is n lt Gone h [] in
      read ∙ head_in (kind_in (get_or a.slots.items n Gone)) (get_or a.heads.items n h) (get_or a.bodies.items n []) (ap is_some is_item ∙ there)
      ∙ ap (λ (o : Option Line). (unwrap_or o no_line).head) is_item
