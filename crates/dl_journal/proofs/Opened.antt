-- A house after names were opened, or not all of them.
use Rattle.std.proofs.Common.{◌≡◌, ◌∙◌, ◌≤◌, ℕ, List, [], ◌∷◌, ◌++◌, Bool, true, false, refl, sym, ap, subst, arith, cond, length, take, Some, append-nil, append_assoc}
use Rattle.std.specs.Prelude.{◌||◌, slice_get}
use Rattle.std.specs.Str.{bytes_eq}
use Rattle.std.specs.Option.{option_map}
use Rattle.dl_io.specs.Outside.{at_name}
use Rattle.dl_io.specs.House.{HouseState, standard}
use Rattle.dl_words.specs.Names.{output_name, output_names, is_among}
use Rattle.dl_sessions.specs.Served.{Told}
use Rattle.dl_journal.specs.Streams.{opened_pair, opened_all, IsFresh, AreFresh, AreOpen}
use Rattle.dl_words.proofs.Names.{or_false, or_right, first_among}

-- what no opening changes, and the names that were asked for
pub record Opens (old new : HouseState) (names : List (List ℕ)) : Type 0 where
  pub wrote : new.wrote ≡ old.wrote
  pub left : new.left ≡ old.left
  pub faults : new.faults ≡ old.faults
  pub own : new.own ≡ old.own
  pub share : new.share ≡ old.share
  pub share_out : new.share_out ≡ old.share_out
  pub asked_in : new.asked_in ≡ old.asked_in ++ names
  pub asked_out : new.asked_out ≡ old.asked_out ++ output_names names

pub opens : (house : HouseState) (names : List (List ℕ)) → Opens house (opened_all house names) names
opens house [] = record {
  wrote = refl;
  left = refl;
  faults = refl;
  own = refl;
  share = refl;
  share_out = refl;
  asked_in = sym (append-nil house.asked_in);
  asked_out = sym (append-nil house.asked_out);
}
opens house (name ∷ more) =
    let k = opens (opened_pair house name) more in
    record {
      wrote = k.wrote;
      left = k.left;
      faults = k.faults;
      own = k.own;
      share = k.share;
      share_out = k.share_out;
      asked_in = k.asked_in ∙ append_assoc house.asked_in (name ∷ []) more;
      asked_out = k.asked_out ∙ append_assoc house.asked_out (output_name name ∷ []) (output_names more);
    }

or_cond : (b c d : Bool) → (c || cond b true d) ≡ ((b || c) || d)
or_cond true true d = refl
or_cond true false d = refl
or_cond false c d = refl

pub opened_open_in : (house : HouseState) (names : List (List ℕ)) (other : List ℕ) → (opened_all house names).open_in other ≡ (is_among other names || house.open_in other)
opened_open_in house [] other = refl
opened_open_in house (name ∷ more) other = opened_open_in (opened_pair house name) more other ∙ or_cond (bytes_eq name other) (is_among other more) (house.open_in other)

pub opened_open_out : (house : HouseState) (names : List (List ℕ)) (other : List ℕ)
    → (opened_all house names).open_out other ≡ (is_among other (output_names names) || house.open_out other)
opened_open_out house [] other = refl
opened_open_out house (name ∷ more) other =
    opened_open_out (opened_pair house name) more other ∙ or_cond (bytes_eq (output_name name) other) (is_among other (output_names more)) (house.open_out other)

-- names that are no outputs hold what they held
pub opened_holds : (house : HouseState) (names : List (List ℕ)) (other : List ℕ) → is_among other (output_names names) ≡ false
    → (opened_all house names).holds other ≡ house.holds other
opened_holds house [] other none = refl
opened_holds house (name ∷ more) other none =
    let apart = or_false (bytes_eq (output_name name) other) (is_among other (output_names more)) none in
    opened_holds (opened_pair house name) more other apart.1 ∙ by (bytes_eq (output_name name) standard) apart.0
  where
    by : (b : Bool) → bytes_eq (output_name name) other ≡ false → (cond b house.holds (at_name house.holds (output_name name) (option_map (λ _. []) (house.holds (output_name name))))) other ≡ house.holds other
    by true apart = refl
    by false apart = ap (λ (c : Bool). cond c (option_map (λ _. []) (house.holds (output_name name))) (house.holds other)) apart

pub opened_last : (house : HouseState) (names : List (List ℕ)) (name : List ℕ) → opened_all house (names ++ name ∷ []) ≡ opened_pair (opened_all house names) name
opened_last house [] name = refl
opened_last house (first ∷ more) name = opened_last (opened_pair house first) more name

pub fresh_last : (tells : Bool) (house : HouseState) (names : List (List ℕ)) (ts : List Told) (t : Told) (name : List ℕ) → slice_get names (length ts) ≡ Some name
    → AreFresh tells house names ts → IsFresh tells house name t → AreFresh tells house names (ts ++ t ∷ [])
fresh_last tells house [] ts t name e fresh one = absurd (cc)
fresh_last tells house (first ∷ more) [] t name e fresh one = let same : name ≡ first = cc in (subst (λ n. IsFresh tells house n t) same one, tt)
fresh_last tells house (first ∷ more) (u ∷ us) t name e fresh one = (fresh.0, fresh_last tells house more us t name e fresh.1 one)

-- all that was opened can be settled
pub fresh_open : (tells : Bool) (old house : HouseState) (names : List (List ℕ)) (ts : List Told)
    → ((other : List ℕ) → is_among other (take (length ts) names) ≡ true → house.open_in other ≡ true)
    → ((other : List ℕ) → is_among other (output_names (take (length ts) names)) ≡ true → house.open_out other ≡ true)
    → AreFresh tells old names ts → AreOpen house names ts
fresh_open tells old house names [] ins outs fresh = tt
fresh_open tells old house [] (t ∷ ts) ins outs fresh = absurd fresh
fresh_open tells old house (first ∷ more) (t ∷ ts) ins outs fresh = (
  record {
    input = ins first (first_among first (take (length ts) more));
    output = outs (output_name first) (first_among (output_name first) (output_names (take (length ts) more)));
    source_name = fresh.0.source_name;
    sink_name = fresh.0.sink_name;
  },
  fresh_open tells old house more ts (λ other among. ins other (or_right (bytes_eq first other) (is_among other (take (length ts) more)) among))
      (λ other among. outs other (or_right (bytes_eq (output_name first) other) (is_among other (output_names (take (length ts) more))) among)) fresh.1,
)

pub fresh_within : (tells : Bool) (house : HouseState) (names : List (List ℕ)) (ts : List Told) → AreFresh tells house names ts → length ts ≤ length names
fresh_within tells house names [] fresh = omega arith
fresh_within tells house [] (t ∷ ts) fresh = absurd fresh
fresh_within tells house (first ∷ more) (t ∷ ts) fresh = let within = fresh_within tells house more ts fresh.1 in omega (arith, within)
