-- Labels by number, from the names at the entries of the numbers.
use Rattle.std.proofs.Common.{◌≡◌, ℕ, ◌+◌, ◌<◌, ◌≤◌, Bool, true, false, cond, Option, None, Some, List, [], ◌∷◌, ◌++◌, length, take, map, refl, sym, ap, ◌∙◌, subst, arith, inl, inr}
use Rattle.std.specs.Prelude.{All, Contains, slice_get, option_map, IfNone}
use Rattle.std.proofs.lemmas.Bool.{cases_lt}
use Rattle.std.proofs.lemmas.Option.{slice_get-map}
use Rattle.std.proofs.lemmas.List.{get_or_append_left, get_or-take, get_or_default, get_or_push, map_push}
use Rattle.std.proofs.lemmas.List.Elements.{All-contains, All-weaker, Contains-get_or}
use Rattle.std.specs.List.{range_with_len}
use Rattle.std.proofs.lemmas.List.FromFn.{fill_by_all}
use Rattle.dl_base.specs.Paths.{IsDistinct}
use Rattle.dl_base.proofs.Members.{map_agree, Contains-mapped, mapped_from}
use Rattle.dl_lists.specs.Last.{IsLast}
use Rattle.dl_lists.specs.declared.rule_labels.Ready.{Ready}
use Rattle.dl_lists.specs.declared.rule_labels.Ready.TheVariants.{Nothing, New, Again}
use Rattle.dl_lists.specs.declared.rule_labels.RuleLabels.TheInside.{Inside}
use Rattle.dl_lists.specs.Entries.{EntryLists, AreEntered}
use Rattle.dl_lists.specs.Names.{NameLists, name_at}
use Rattle.dl_lists.specs.KeptLabels.{ready_of, HasRoom, IsKeptLabels}
use Rattle.dl_lists.proofs.LastLemmas.{get_contains}

-- names behind those of the entries change no label
module _ (names : List (List ℕ)) (es : List ℕ) (count : ℕ) (h : All (λ e. e < count) es) (few : count ≤ length names) where
  pub labels_more : (more : List (List ℕ)) → map (name_at (names ++ more)) es ≡ map (name_at names) es
  labels_more more =
      map_agree (name_at (names ++ more)) (name_at names) es
      (All-weaker (λ e. e < count) (λ e. name_at (names ++ more) e ≡ name_at names e)
      (λ e lt. get_or_append_left names more [] e (omega (arith, lt, few))) es h)

  pub labels_cut : map (name_at (take count names)) es ≡ map (name_at names) es
  labels_cut =
      map_agree (name_at (take count names)) (name_at names) es
      (All-weaker (λ e. e < count) (λ e. name_at (take count names) e ≡ name_at names e) (λ e lt. get_or-take count names e [] lt) es h)

  -- whose label a label is
  pub label_from : (l : List ℕ) → Contains (map (name_at names) es) l → (e : ℕ) × (e < count) × (name_at names e ≡ l)
  label_from l m =
      let from = mapped_from (name_at names) es l m in
      (from.0, All-contains (λ e. e < count) es from.0 h from.1, from.2)

  pub label_absent : (l : List ℕ) → (¬ Contains names l) → ¬ Contains (map (name_at names) es) l
  label_absent l none m =
      let from = label_from l m in
      none (subst (λ (k : List ℕ). Contains names k) from.2 (Contains-get_or names from.0 [] (omega (arith, from.1, few))))

  module _ (distinct : IsDistinct names) where
    -- two entries have two names
    pub names_apart : (e f : ℕ) → e < length names → f < length names → name_at names e ≡ name_at names f → e ≡ f
    names_apart e f within within' same =
        elim (cases_lt e f) [
          | inl before ↦ absurd (distinct e f [] before within' same)
          | inr from ↦ elim (cases_lt f e) [
            | inl before ↦ absurd (distinct f e [] before within (sym same))
            | inr from' ↦ omega (arith, from, from')
          ]
        ]

    pub label_past : (e : ℕ) (l : List ℕ) → count ≤ e → e < length names → name_at names e ≡ l → ¬ Contains (map (name_at names) es) l
    label_past e l past within is m =
        let from = label_from l m in
        let same : from.0 ≡ e = names_apart from.0 e (omega (arith, from.1, few)) within (from.2 ∙ sym is) in
        absurd (omega (arith, same, from.1, past))

    mapped_some : (o : Option ℕ) (l : List ℕ) → option_map (name_at names) o ≡ Some l → (e : ℕ) × (o ≡ Some e) × (name_at names e ≡ l)
    mapped_some None l e = cc
    mapped_some (Some k) l e = (k, refl, cc)

    -- the last number with an entry is the last with its name
    pub last_label : (e n : ℕ) → e < count → IsLast es e n → IsLast (map (name_at names) es) (name_at names e) n
    last_label e n within last = record {
      has = slice_get-map (name_at names) es n ∙ ap (option_map (name_at names)) last.has;
      none_later = λ m later same.
          let from = mapped_some (slice_get es m) (name_at names e) (sym (slice_get-map (name_at names) es m) ∙ same) in
          let below : from.0 < count = All-contains (λ k. k < count) es from.0 h (get_contains es m from.0 from.1) in
          let one : from.0 ≡ e = names_apart from.0 e (omega (arith, below, few)) (omega (arith, within, few)) from.2 in
          last.none_later m later (from.1 ∙ ap Some one);
    }

-- where each name is its own entry, the labels are the names
pub labels_all : (names : List (List ℕ)) → map (name_at names) (range_with_len 0 (length names)) ≡ names
labels_all names = sym (fill_by_all (name_at names) names (length names) [] refl (λ k lt. refl))

-- each entry has a number, so its name is a label
pub label_there : (names : List (List ℕ)) (es : List ℕ) (count e : ℕ) → AreEntered es count → e < count
    → Contains (map (name_at names) es) (name_at names e)
label_there names es count e h lt = Contains-mapped (name_at names) es e (h.met e lt)

-- where each name has an entry, the labels are the names
pub label_named : (names : List (List ℕ)) (es : List ℕ) (count : ℕ) (l : List ℕ) → AreEntered es count → length names ≡ count
    → Contains names l → Contains (map (name_at names) es) l
label_named names es count l h long m =
    subst (λ (k : List ℕ). Contains (map (name_at names) es) k) (sym (get_or_default names m.0 l [] m.1) ∙ m.2)
    (label_there names es count m.0 h (omega (arith, m.1, long)))

-- ---- names that are put in

pub if_none : (o : Option ℕ) (P : Type 0) → (o ≡ None → P) → IfNone o P
if_none None P h = h refl
if_none (Some n) P h = tt

-- a new one goes last
pub inserted_new : (keys more : List (List ℕ)) (l : List ℕ) (new : Bool) → more ≡ keys ++ cond new (l ∷ []) []
    → (new ≡ false → Contains keys l) → (¬ Contains keys l) → more ≡ keys ++ l ∷ []
inserted_new keys more l true e there absent = e
inserted_new keys more l false e there absent = absurd (absent (there refl))

-- ---- what is prepared

nothing_ready : (names : List (List ℕ)) (count : ℕ) (r : Ready) → ready_of names count r ≡ None → r ≡ Nothing
nothing_ready names count Nothing e = refl
nothing_ready names count New e = cc
nothing_ready names count (Again entry) e = cc

-- where nothing is prepared, each name is that of an entry
pub none_prepared : (a : Inside) → IsKeptLabels a → ready_of a.names.keys a.entries.count a.ready ≡ None
    → (a.ready ≡ Nothing) × (length a.names.keys ≡ a.entries.count)
none_prepared a h none =
    let nothing : a.ready ≡ Nothing = nothing_ready a.names.keys a.entries.count a.ready none in
    (nothing, subst (λ (r : Ready). HasRoom a.entries a.names r) nothing h.room)

pub names_enough : (entries : EntryLists) (names : NameLists) (r : Ready) → HasRoom entries names r → entries.count ≤ length names.keys
names_enough entries names Nothing h = omega (arith, h)
names_enough entries names New h = omega (arith, h.0)
names_enough entries names (Again entry) h = omega (arith, h.0)

-- names behind those of the entries are not shared
pub names_cut : (entries : EntryLists) (names : NameLists) (r : Ready) → HasRoom entries names r → length names.keys ≤ entries.count + names.later
names_cut entries names Nothing h = omega (arith, h)
names_cut entries names New h = omega (arith, h.0, h.1)
names_cut entries names (Again entry) h = omega (arith, h.0)

pub if_none_more : (o : Option ℕ) {P Q : Type 0} → IfNone o P → (P → Q) → IfNone o Q
if_none_more None h f = f h
if_none_more (Some n) h f = tt

pub entered_is : (es fs : List ℕ) (count more : ℕ) → AreEntered es count → fs ≡ es → more ≡ count → AreEntered fs more
entered_is es fs count more h e f = subst (λ (l : List ℕ). AreEntered l more) (sym e) (subst (λ (n : ℕ). AreEntered es n) (sym f) h)

module _ (names : List (List ℕ)) (es : List ℕ) (count : ℕ) (h : AreEntered es count) (long : length names ≡ count) (l : List ℕ) where
  -- one more name and one more number that has it
  pub labels_new : map (name_at (names ++ l ∷ [])) (es ++ count ∷ []) ≡ map (name_at names) es ++ l ∷ []
  labels_new =
      map_push (name_at (names ++ l ∷ [])) es count
      ∙ (λ i. labels_more names es count h.within (omega (arith, long)) (l ∷ []) i ++ get_or_push names l [] count long i ∷ [])

  -- a name is new exactly where no number has it
  pub label_new : (new : Bool) (labels : List (List ℕ)) → map (name_at names) es ≡ labels
      → (new ≡ false → Contains names l) × (Contains names l → new ≡ false)
      → (new ≡ false → Contains labels l) × (Contains labels l → new ≡ false)
  label_new new labels is told = (
    λ e. subst (λ (ls : List (List ℕ)). Contains ls l) is (label_named names es count l h long (told.0 e)),
    λ m.
        let from = label_from names es count h.within (omega (arith, long)) l (subst (λ (ls : List (List ℕ)). Contains ls l) (sym is) m) in
        told.1 (subst (λ (k : List ℕ). Contains names k) from.2 (Contains-get_or names from.0 [] (omega (arith, from.1, long)))),
  )
