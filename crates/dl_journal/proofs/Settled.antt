-- A house after streams were settled.
use Rattle.std.proofs.Common.{◌≡◌, ◌∙◌, ◌⊎◌, ◌≤◌, ◌<◌, inl, inr, ℕ, zero, suc, List, [], ◌∷◌, ◌++◌, Bool, true, false, refl, sym, ap, subst, arith, cond, length, take, Some, map, get_or, string_bytes, length-append}
use Rattle.std.specs.Prelude.{◌||◌, slice_get}
use Rattle.std.specs.Str.{bytes_eq}
use Rattle.std.proofs.lemmas.List.{map-append, length-map}
use Rattle.dl_io.specs.Outside.{raised}
use Rattle.dl_io.specs.House.{HouseState}
use Rattle.dl_words.specs.Names.{output_name, output_names, is_among, AreDistinct}
use Rattle.dl_journal.specs.declared.named.Named.{Named}
use Rattle.dl_sessions.specs.Served.{Told}
use Rattle.dl_journal.specs.Streams.{names_of, settled_pair, settled_all, AreFresh, IsOpen, AreOpen, begun}
use Rattle.std.specs.List.{AllZip}
use Rattle.dl_io.proofs.Names.{bytes_eq-refl}
use Rattle.dl_words.proofs.Names.{same_name, bytes_eq-sym, outputs_eq, among_outputs, or_false, apart_at}

-- the last streams are settled first
pub settled_last : (house : HouseState) (names : List (List ℕ)) (ts : List Told) (t : Told) (name : List ℕ) → slice_get names (length ts) ≡ Some name
    → settled_all house names (ts ++ t ∷ []) ≡ settled_all (settled_pair house name t) names ts
settled_last house [] ts t name e = absurd (cc)
settled_last house (first ∷ names) [] t name e = let same : first ≡ name = cc in ap (λ n. settled_pair house n t) same
settled_last house (first ∷ names) (u ∷ us) t name e = ap (λ h. settled_pair h first u) (settled_last house names us t name e)

pub open_last : (house : HouseState) (names : List (List ℕ)) (ts : List Told) (t : Told) (name : List ℕ) → slice_get names (length ts) ≡ Some name
    → AreOpen house names (ts ++ t ∷ []) → IsOpen house name t
open_last house [] ts t name e whole = absurd (cc)
open_last house (first ∷ names) [] t name e whole = let same : first ≡ name = cc in subst (λ n. IsOpen house n t) same whole.0
open_last house (first ∷ names) (u ∷ us) t name e whole = open_last house names us t name e whole.1

-- the house goes on to have the others whole
pub open_others : (house : HouseState) (names : List (List ℕ)) (ts : List Told) (t : Told) (name : List ℕ) → AreDistinct names → slice_get names (length ts) ≡ Some name
    → AreOpen house names (ts ++ t ∷ []) → AreOpen (settled_pair house name t) names ts
open_others house [] ts t name d e whole = absurd (cc)
open_others house (first ∷ names) [] t name d e whole = tt
open_others house (first ∷ names) (u ∷ us) t name d e whole =
    let other : bytes_eq name first ≡ false = apart_at names (length us) name first d.0 e in (
      record {
        input = ap (λ (b : Bool). cond b false (house.open_in first)) other ∙ whole.0.input;
        output = ap (λ (b : Bool). cond b false (house.open_out (output_name first))) (outputs_eq name first ∙ other) ∙ whole.0.output;
        source_name = whole.0.source_name;
        sink_name = whole.0.sink_name;
      },
      open_others house names us t name d.1 e whole.1,
    )

pub open_within : (house : HouseState) (names : List (List ℕ)) (ts : List Told) → AreOpen house names ts → length ts ≤ length names
open_within house names [] whole = omega arith
open_within house [] (t ∷ ts) whole = absurd whole
open_within house (first ∷ names) (t ∷ ts) whole = let within = open_within house names ts whole.1 in omega (arith, within)

cond_or : {V : Type 0} (b c : Bool) (x y : V) → cond b x (cond c x y) ≡ cond (b || c) x y
cond_or true c x y = refl
cond_or false c x y = refl

-- what is whole after all that was opened has been settled
pub settled_open_in : (house : HouseState) (names : List (List ℕ)) (ts : List Told) (other : List ℕ) → length ts ≤ length names
    → (settled_all house names ts).open_in other ≡ cond (is_among other (take (length ts) names)) false (house.open_in other)
settled_open_in house names [] other w = refl
settled_open_in house [] (t ∷ ts) other w = absurd (omega (arith, w))
settled_open_in house (first ∷ names) (t ∷ ts) other w =
    ap (λ (c : Bool). cond (bytes_eq first other) false c) (settled_open_in house names ts other (omega (arith, w)))
    ∙ cond_or (bytes_eq first other) (is_among other (take (length ts) names)) false (house.open_in other)

pub settled_open_out : (house : HouseState) (names : List (List ℕ)) (ts : List Told) (other : List ℕ) → length ts ≤ length names
    → (settled_all house names ts).open_out other ≡ cond (is_among other (output_names (take (length ts) names))) false (house.open_out other)
settled_open_out house names [] other w = refl
settled_open_out house [] (t ∷ ts) other w = absurd (omega (arith, w))
settled_open_out house (first ∷ names) (t ∷ ts) other w =
    ap (λ (c : Bool). cond (bytes_eq (output_name first) other) false c) (settled_open_out house names ts other (omega (arith, w)))
    ∙ cond_or (bytes_eq (output_name first) other) (is_among other (output_names (take (length ts) names))) false (house.open_out other)

-- what no settling changes
pub record KeepsAsked (old new : HouseState) : Type 0 where
  pub holds : new.holds ≡ old.holds
  pub own : new.own ≡ old.own
  pub asked_in : new.asked_in ≡ old.asked_in
  pub asked_out : new.asked_out ≡ old.asked_out

pub settled_asked : (house : HouseState) (names : List (List ℕ)) (ts : List Told) → KeepsAsked house (settled_all house names ts)
settled_asked house names [] = record { holds = refl; own = refl; asked_in = refl; asked_out = refl }
settled_asked house [] (t ∷ ts) = record { holds = refl; own = refl; asked_in = refl; asked_out = refl }
settled_asked house (first ∷ names) (t ∷ ts) =
    let k = settled_asked house names ts in record { holds = k.holds; own = k.own; asked_in = k.asked_in; asked_out = k.asked_out }

-- Streams that nobody read or wrote leave no trace but that they were there.
module _ (tells : Bool) (old : HouseState) where
  pub fresh_faults : (house : HouseState) (names : List (List ℕ)) (ts : List Told) → AreFresh tells old names ts → (settled_all house names ts).faults ≡ house.faults
  fresh_faults house names [] fresh = refl
  fresh_faults house [] (t ∷ ts) fresh = refl
  fresh_faults house (first ∷ names) (t ∷ ts) fresh =
      let before = fresh_faults house names ts fresh.1 in omega (arith, before, fresh.0.read_faults, fresh.0.write_faults)

  pub fresh_left : (house : HouseState) (names : List (List ℕ)) (ts : List Told) → AreFresh tells old names ts → (other : List ℕ)
      → ((settled_all house names ts).left other ≡ house.left other) ⊎ ((is_among other names ≡ true) × ((settled_all house names ts).left other ≡ old.holds other))
  fresh_left house names [] fresh other = inl refl
  fresh_left house [] (t ∷ ts) fresh other = inl refl
  fresh_left house (first ∷ names) (t ∷ ts) fresh other = by (bytes_eq first other) refl (fresh_left house names ts fresh.1 other)
    where
      Left : Bool → Type 0
      Left b =
          (cond b t.rest ((settled_all house names ts).left other) ≡ house.left other)
          ⊎ (((b || is_among other names) ≡ true) × (cond b t.rest ((settled_all house names ts).left other) ≡ old.holds other))

      by : (b : Bool) → bytes_eq first other ≡ b
          → (((settled_all house names ts).left other ≡ house.left other) ⊎ ((is_among other names ≡ true) × ((settled_all house names ts).left other ≡ old.holds other)))
          → Left (bytes_eq first other)
      by true same more = subst Left (sym same) (inr (refl, fresh.0.rest ∙ ap old.holds (same_name first other same)))
      by false apart more = subst Left (sym apart) more

  pub fresh_wrote : (house : HouseState) (names : List (List ℕ)) (ts : List Told) → AreFresh tells old names ts → (other : List ℕ)
      → ((settled_all house names ts).wrote other ≡ house.wrote other) ⊎ ((settled_all house names ts).wrote other ≡ begun tells)
  fresh_wrote house names [] fresh other = inl refl
  fresh_wrote house [] (t ∷ ts) fresh other = inl refl
  fresh_wrote house (first ∷ names) (t ∷ ts) fresh other = by (bytes_eq (output_name first) other) (fresh_wrote house names ts fresh.1 other)
    where
      by : (b : Bool) → (((settled_all house names ts).wrote other ≡ house.wrote other) ⊎ ((settled_all house names ts).wrote other ≡ begun tells))
          → (cond b t.handed ((settled_all house names ts).wrote other) ≡ house.wrote other) ⊎ (cond b t.handed ((settled_all house names ts).wrote other) ≡ begun tells)
      by true more = inr fresh.0.handed
      by false more = more

-- the name at a place
pub name_at : (names : List Named) (at : ℕ) (named : Named) → at < length names → named ≡ get_or names at named → slice_get (names_of names) at ≡ Some (string_bytes named.name)
name_at [] at named w e = absurd (omega (arith, w))
name_at (first ∷ more) zero named w e = ap (λ (n : Named). Some (string_bytes n.name)) (sym e)
name_at (first ∷ more) (suc at) named w e = name_at more at named (omega (arith, w)) e

-- One turn: the last streams leave the list, and are settled under the name at their place.
module _ {A : Type 0} (f : A → Told) (house : HouseState) (names : List Named) (old new : List A) (x : A) (whole : AreOpen house (names_of names) (map f old)) (last : old ≡ new ++ x ∷ []) where
  told : map f old ≡ map f new ++ f x ∷ []
  told = ap (map f) last ∙ map-append f new (x ∷ [])

  pub turn_within : length new < length names
  turn_within =
      let within = open_within house (names_of names) (map f old) whole in
      omega (arith, within, ap length told, length-append (map f new) (f x ∷ []), length-map new f, length-map names (λ named. string_bytes named.name))

  module _ (at : ℕ) (place : at ≡ length new) (named : Named) (is : named ≡ get_or names at named) (distinct : AreDistinct (names_of names)) where
    abbrev name : List ℕ
    name = string_bytes named.name

    there : slice_get (names_of names) (length (map f new)) ≡ Some name
    there =
        subst (λ (k : ℕ). slice_get (names_of names) k ≡ Some name) (place ∙ sym (length-map new f))
        (name_at names at named (subst (λ (k : ℕ). k < length names) (sym place) turn_within) is)

    split : AreOpen house (names_of names) (map f new ++ f x ∷ [])
    split = subst (λ (l : List Told). AreOpen house (names_of names) l) told whole

    pub turn_open : IsOpen house name (f x)
    turn_open = open_last house (names_of names) (map f new) (f x) name there split

    pub turn_others : AreOpen (settled_pair house name (f x)) (names_of names) (map f new)
    turn_others = open_others house (names_of names) (map f new) (f x) name distinct there split

    pub turn_left : settled_all (settled_pair house name (f x)) (names_of names) (map f new) ≡ settled_all house (names_of names) (map f old)
    turn_left = sym (ap (settled_all house (names_of names)) told ∙ settled_last house (names_of names) (map f new) (f x) name there)

-- what the house has of a name whose streams were settled
pub record IsSettled (old new : HouseState) (name : List ℕ) (t : Told) : Type 0 where
  pub left : new.left name ≡ t.rest
  pub wrote : new.wrote (output_name name) ≡ t.handed
  pub share : new.share name ≡ raised (old.share name) t.read_faults
  pub share_out : new.share_out (output_name name) ≡ raised (old.share_out (output_name name)) t.write_faults

-- other names are as before
pub settled_other : (house : HouseState) (names : List (List ℕ)) (ts : List Told) (other : List ℕ) → is_among other names ≡ false
    → ((settled_all house names ts).left other ≡ house.left other) × ((settled_all house names ts).share other ≡ house.share other)
settled_other house names [] other none = (refl, refl)
settled_other house [] (t ∷ ts) other none = (refl, refl)
settled_other house (first ∷ names) (t ∷ ts) other none =
    let apart = or_false (bytes_eq first other) (is_among other names) none in
    let before = settled_other house names ts other apart.1 in
    let old = settled_all house names ts in (
      ap (λ (b : Bool). cond b t.rest (old.left other)) apart.0 ∙ before.0,
      ap (λ (b : Bool). cond b (raised (old.share first) t.read_faults) (old.share other)) apart.0 ∙ before.1,
    )

pub settled_other_out : (house : HouseState) (names : List (List ℕ)) (ts : List Told) (other : List ℕ) → is_among other (output_names names) ≡ false
    → ((settled_all house names ts).wrote other ≡ house.wrote other) × ((settled_all house names ts).share_out other ≡ house.share_out other)
settled_other_out house names [] other none = (refl, refl)
settled_other_out house [] (t ∷ ts) other none = (refl, refl)
settled_other_out house (first ∷ names) (t ∷ ts) other none =
    let apart = or_false (bytes_eq (output_name first) other) (is_among other (output_names names)) none in
    let before = settled_other_out house names ts other apart.1 in
    let old = settled_all house names ts in (
      ap (λ (b : Bool). cond b t.handed (old.wrote other)) apart.0 ∙ before.0,
      ap (λ (b : Bool). cond b (raised (old.share_out (output_name first)) t.write_faults) (old.share_out other)) apart.0 ∙ before.1,
    )

-- a settling under another name changes nothing of these
settled_more : (start house : HouseState) (name : List ℕ) (t : Told) (names : List (List ℕ)) (ts : List Told) → is_among name names ≡ false → AllZip (IsSettled start house) names ts
    → AllZip (IsSettled start (settled_pair house name t)) names ts
settled_more start house name t [] [] none all = tt
settled_more start house name t [] (u ∷ us) none all = absurd all
settled_more start house name t (first ∷ names) [] none all = absurd all
settled_more start house name t (first ∷ names) (u ∷ us) none all =
    let apart = or_false (bytes_eq first name) (is_among name names) none in
    let other : bytes_eq name first ≡ false = bytes_eq-sym name first ∙ apart.0 in
    let other_out : bytes_eq (output_name name) (output_name first) ≡ false = outputs_eq name first ∙ other in (
      record {
        left = ap (λ (b : Bool). cond b t.rest (house.left first)) other ∙ all.0.left;
        wrote = ap (λ (b : Bool). cond b t.handed (house.wrote (output_name first))) other_out ∙ all.0.wrote;
        share = ap (λ (b : Bool). cond b (raised (house.share name) t.read_faults) (house.share first)) other ∙ all.0.share;
        share_out = ap (λ (b : Bool). cond b (raised (house.share_out (output_name name)) t.write_faults) (house.share_out (output_name first))) other_out ∙ all.0.share_out;
      },
      settled_more start house name t names us apart.1 all.1,
    )

pub are_settled : (house : HouseState) (names : List (List ℕ)) (ts : List Told) → AreDistinct names → length ts ≡ length names → AllZip (IsSettled house (settled_all house names ts)) names ts
are_settled house [] [] d count = tt
are_settled house [] (t ∷ ts) d count = absurd (omega (arith, count))
are_settled house (first ∷ names) [] d count = absurd (omega (arith, count))
are_settled house (first ∷ names) (t ∷ ts) d count =
    let old = settled_all house names ts in
    let same = bytes_eq-refl first in
    let same_out = bytes_eq-refl (output_name first) in
    let others = settled_other house names ts first d.0 in
    let others_out = settled_other_out house names ts (output_name first) (among_outputs first names ∙ d.0) in (
      record {
        left = ap (λ (b : Bool). cond b t.rest (old.left first)) same;
        wrote = ap (λ (b : Bool). cond b t.handed (old.wrote (output_name first))) same_out;
        share = ap (λ (b : Bool). cond b (raised (old.share first) t.read_faults) (old.share first)) same ∙ ap (λ (n : ℕ). raised n t.read_faults) others.1;
        share_out = ap (λ (b : Bool). cond b (raised (old.share_out (output_name first)) t.write_faults) (old.share_out (output_name first))) same_out
            ∙ ap (λ (n : ℕ). raised n t.write_faults) others_out.1;
      },
      settled_more house old first t names ts d.0 (are_settled house names ts d.1 (omega (arith, count))),
    )
