-- One list of a table changes.
use Rattle.std.specs.Prelude.{cond, ◌==◌}
use Rattle.dl_rows.specs.Listed.{Listed}
use Rattle.dl_rows.specs.OpenView.{rooms}
use Rattle.dl_rows.specs.Tables.{RowLists, list_at, KeepsLists}
use Rattle.dl_rows.proofs.NumberLists.{alike, differ}
use Rattle.std.proofs.Common.{◌≡◌, ◌≢◌, ℕ, zero, suc, ◌<◌, ◌≤◌, Bool, true, false, List, [], ◌∷◌, ◌++◌, refl, length, length-append, get_or, set, map, sym, ap, ◌∙◌, subst, arith, inl, inr, get_or-set_same, get_or-set_other}
use Rattle.std.proofs.Math.ListN.{length-map, length-set}
use Rattle.std.proofs.lemmas.List.{map-append, get_or-map, map-set, set-set, get_or_past, get_or_default, get_or_append_left, get_or_push}
use Rattle.std.proofs.Math.Seq.{map-set_same}
use Rattle.std.proofs.lemmas.Bool.{cases_eq, cases_lt}

module _ {X : Type 0} {Y : Type 0} (f : X → Y) (xs : List X) (i : ℕ) (old new : X) (within : i < length xs) (read : old ≡ get_or xs i old) where
  pub map_kept : f new ≡ f old → map f (set xs i new) ≡ map f xs
  map_kept e = map-set_same f xs i new old (e ∙ ap f read)

  pub map_written : (y : Y) → f new ≡ y → map f (set xs i new) ≡ set (map f xs) i y
  map_written y e = map-set f xs i new ∙ ap (λ z. set (map f xs) i z) e

  pub map_at : (e : Y) → get_or (map f xs) i e ≡ f old
  map_at e = get_or-map f xs i old e within ∙ ap f (sym read)

-- ---- the room of lists of which some are shared

abbrev pub nothing : Listed ℕ
nothing = record { items = []; spare = 0 }

rooms_at : (owned : List Bool) (rows : List (Listed ℕ)) (n : ℕ)
    → get_or (rooms owned rows) n 0 ≡ cond (get_or owned n false) (get_or rows n nothing).spare 0
rooms_at owned [] n = sym (none (get_or owned n false))
  where
    none : (b : Bool) → ◌≡◌ {A = ℕ} (cond b 0 0) 0
    none true = refl
    none false = refl
rooms_at [] (row ∷ rows) n = refl
rooms_at (o ∷ owned) (row ∷ rows) zero = refl
rooms_at (o ∷ owned) (row ∷ rows) (suc n) = rooms_at owned rows n

-- only what is owned has room
pub room_owned : (owned : List Bool) (rows : List (Listed ℕ)) (n : ℕ) → 0 < get_or (rooms owned rows) n 0 → get_or owned n false ≡ true
room_owned owned rows n h = by (get_or owned n false) (subst (λ k. 0 < k) (rooms_at owned rows n) h)
  where
    by : (b : Bool) → 0 < cond b (get_or rows n nothing).spare 0 → b ≡ true
    by true lt = refl
    by false lt = absurd (omega (arith, lt))

pub room_within : (owned : List Bool) (rows : List (Listed ℕ)) (n : ℕ) → 0 < get_or (rooms owned rows) n 0 → n < length rows
room_within owned rows n h =
    elim (cases_lt n (length rows)) [
      | inl lt ↦ lt
      | inr past ↦
          let none : get_or rows n nothing ≡ nothing = get_or_past rows n nothing past in
          let full : get_or (rooms owned rows) n 0 ≡ 0 =
          rooms_at owned rows n ∙ ap (λ b. cond b (get_or rows n nothing).spare 0) (room_owned owned rows n h) ∙ ap (λ (r : Listed ℕ). r.spare) none in
          absurd (omega (arith, full, h))
    ]

-- what is owned has the room of its list
pub room_of : (owned : List Bool) (rows : List (Listed ℕ)) (n : ℕ) (row : Listed ℕ) → get_or owned n false ≡ true → n < length rows
    → row ≡ get_or rows n row → get_or (rooms owned rows) n 0 ≡ row.spare
room_of owned rows n row mine within read =
    rooms_at owned rows n ∙ ap (λ b. cond b (get_or rows n nothing).spare 0) mine
    ∙ ap (λ (r : Listed ℕ). r.spare) (get_or_default rows n nothing row within ∙ sym read)

-- no list has less room where none is given away, and none has less of its own
pub rooms_rise : (owned owned' : List Bool) (rows rows' : List (Listed ℕ)) → ((n : ℕ) → get_or owned n false ≡ true → get_or owned' n false ≡ true)
    → ((n : ℕ) → (get_or rows n nothing).spare ≤ (get_or rows' n nothing).spare) → (n : ℕ)
    → get_or (rooms owned rows) n 0 ≤ get_or (rooms owned' rows') n 0
rooms_rise owned owned' rows rows' keeps up n =
    by (get_or owned n false) (get_or owned' n false) (keeps n) (rooms_at owned rows n) (rooms_at owned' rows' n)
  where
    by : (b b' : Bool) → (b ≡ true → b' ≡ true) → get_or (rooms owned rows) n 0 ≡ cond b (get_or rows n nothing).spare 0
        → get_or (rooms owned' rows') n 0 ≡ cond b' (get_or rows' n nothing).spare 0 → get_or (rooms owned rows) n 0 ≤ get_or (rooms owned' rows') n 0
    by false b' keep was is = omega (arith, was)
    by true true keep was is = omega (arith, was, is, up n)
    by true false keep was is = let no : false ≡ true = keep refl in absurd (cc)

-- one list is written
module _ (rows : List (Listed ℕ)) (i : ℕ) (old new : Listed ℕ) (within : i < length rows) (read : old ≡ get_or rows i old) where
  pub spare_rises : old.spare ≤ new.spare → (n : ℕ) → (get_or rows n nothing).spare ≤ (get_or (set rows i new) n nothing).spare
  spare_rises up n =
      elim (cases_eq n i) [
        | inl e ↦
            let was : (get_or rows n nothing).spare ≡ old.spare =
            ap (λ (r : Listed ℕ). r.spare) (ap (λ k. get_or rows k nothing) e ∙ get_or_default rows i nothing old within ∙ sym read) in
            let is : (get_or (set rows i new) n nothing).spare ≡ new.spare =
            ap (λ (r : Listed ℕ). r.spare) (ap (λ k. get_or (set rows i new) k nothing) e ∙ get_or-set_same rows i new nothing within) in
            omega (arith, was, is, up)
        | inr differs ↦
            let same : (get_or (set rows i new) n nothing).spare ≡ (get_or rows n nothing).spare =
            ap (λ (r : Listed ℕ). r.spare) (get_or-set_other rows i n new nothing differs) in
            omega (arith, same)
      ]

  pub rooms_other : (owned : List Bool) (n : ℕ) → n ≢ i → get_or (rooms owned (set rows i new)) n 0 ≡ get_or (rooms owned rows) n 0
  rooms_other owned n differs =
      rooms_at owned (set rows i new) n
      ∙ ap (λ (r : Listed ℕ). cond (get_or owned n false) r.spare 0) (get_or-set_other rows i n new nothing differs)
      ∙ sym (rooms_at owned rows n)

  pub room_here : (owned : List Bool) → get_or owned i false ≡ true → get_or (rooms owned (set rows i new)) i 0 ≡ new.spare
  room_here owned mine =
      room_of owned (set rows i new) i new mine (omega (arith, within, length-set rows i new)) (sym (get_or-set_same rows i new new within))

  -- its numbers become those that a function makes of them
  pub list_written : (f : List ℕ → List ℕ) → new.items ≡ f old.items
      → map (λ v. v.items) (set rows i new) ≡ set (map (λ v. v.items) rows) i (f (get_or (map (λ v. v.items) rows) i []))
  list_written f made = map_written (λ v. v.items) rows i old new within read _ (made ∙ ap f (sym (map_at (λ v. v.items) rows i old new within read [])))

  -- of which only the room grows
  pub kept_lists : (owned owned' : List Bool) → ((n : ℕ) → get_or owned n false ≡ true → get_or owned' n false ≡ true) → new.items ≡ old.items
      → old.spare ≤ new.spare
      → KeepsLists (record { lists = map (λ v. v.items) rows; spare = rooms owned rows })
      (record { lists = map (λ v. v.items) (set rows i new); spare = rooms owned' (set rows i new) })
  kept_lists owned owned' keeps same up = record {
    lists = λ n. ap (λ (ls : List (List ℕ)). get_or ls n []) (map_kept (λ v. v.items) rows i old new within read same);
    wide = omega (arith, ap length (map_kept (λ v. v.items) rows i old new within read same));
    room = rooms_rise owned owned' rows (set rows i new) keeps (spare_rises up);
  }

-- what was taken out of its place comes back changed
pub put_back : {X : Type 0} (xs mid fin : List X) (i : ℕ) (gap new : X) → mid ≡ set xs i gap → fin ≡ set mid i new → fin ≡ set xs i new
put_back xs mid fin i gap new out back = back ∙ ap (λ ys. set ys i new) out ∙ set-set xs i gap new

-- one more list is empty
pub grown_lists : (rows : List (Listed ℕ)) (row : Listed ℕ) (owned owned' : List Bool)
    → ((n : ℕ) → get_or owned n false ≡ true → get_or owned' n false ≡ true) → row.items ≡ []
    → KeepsLists (record { lists = map (λ v. v.items) rows; spare = rooms owned rows })
    (record { lists = map (λ v. v.items) (rows ++ row ∷ []); spare = rooms owned' (rows ++ row ∷ []) })
grown_lists rows row owned owned' keeps empty = record {
  lists = λ n. elim (cases_lt n (length rows)) [
    | inl lt ↦
        ap (λ (ls : List (List ℕ)). get_or ls n []) (map-append (λ v. v.items) rows (row ∷ []))
        ∙ get_or_append_left (map (λ v. v.items) rows) (row.items ∷ []) [] n (omega (arith, lt, length-map rows (λ v. v.items)))
    | inr past ↦
        elim (cases_eq n (length rows)) [
          | inl e ↦
              get_or-map (λ v. v.items) (rows ++ row ∷ []) n row [] (omega (arith, e, length-append rows (row ∷ [])))
              ∙ ap (λ (r : Listed ℕ). r.items) (get_or_push rows row row n (sym e)) ∙ empty
              ∙ sym (get_or_past (map (λ v. v.items) rows) n [] (omega (arith, past, length-map rows (λ v. v.items))))
          | inr more ↦
              get_or_past (map (λ v. v.items) (rows ++ row ∷ [])) n [] (omega (arith, past, more, length-map (rows ++ row ∷ []) (λ v. v.items), length-append rows (row ∷ [])))
              ∙ sym (get_or_past (map (λ v. v.items) rows) n [] (omega (arith, past, length-map rows (λ v. v.items))))
        ]
  ];
  wide = omega (arith, length-map rows (λ v. v.items), length-map (rows ++ row ∷ []) (λ v. v.items), length-append rows (row ∷ []));
  room = rooms_rise owned owned' rows (rows ++ row ∷ []) keeps (λ n. elim (cases_lt n (length rows)) [
    | inl lt ↦
        let same : (get_or (rows ++ row ∷ []) n nothing).spare ≡ (get_or rows n nothing).spare =
        ap (λ (r : Listed ℕ). r.spare) (get_or_append_left rows (row ∷ []) nothing n lt) in
        omega (arith, same)
    | inr past ↦
        let none : (get_or rows n nothing).spare ≡ 0 = ap (λ (r : Listed ℕ). r.spare) (get_or_past rows n nothing past) in
        omega (arith, none)
  ]);
}

-- ---- a list that becomes another, by number

-- a map that changes at one place
pub map_changed : {X Y : Type 0} (f g : X → Y) (xs : List X) (k : ℕ) (d : X) (y : Y) → k < length xs → g (get_or xs k d) ≡ y
    → ((i : ℕ) → i < length xs → i ≢ k → g (get_or xs i d) ≡ f (get_or xs i d)) → map g xs ≡ set (map f xs) k y
map_changed f g [] k d y lt here other = absurd (omega (arith, lt))
map_changed {X} {Y} f g (x ∷ xs) zero d y lt here other = λ i. here i ∷ rest xs (λ j within. other (suc j) (omega (arith, within)) (λ e. absurd (omega (arith, e)))) i
  where
    rest : (ys : List X) → ((j : ℕ) → j < length ys → g (get_or ys j d) ≡ f (get_or ys j d)) → map g ys ≡ map f ys
    rest [] same = refl
    rest (z ∷ ys) same = λ i. same 0 (omega arith) i ∷ rest ys (λ j within. same (suc j) (omega (arith, within))) i
map_changed f g (x ∷ xs) (suc k) d y lt here other =
    λ i. other 0 (omega arith) (λ e. absurd (omega (arith, e))) i
    ∷ map_changed f g xs k d y (omega (arith, lt)) here (λ j within differs. other (suc j) (omega (arith, within)) (λ e. differs (omega (arith, e)))) i

pub written_at : (f : List ℕ → List ℕ) (t t' : RowLists) (h : ℕ) → h < length t.lists → t'.lists ≡ set t.lists h (f (list_at t h)) → (n : ℕ)
    → list_at t' n ≡ cond (n == h) (f (list_at t n)) (list_at t n)
written_at f t t' h within put n =
    elim (cases_eq n h) [
      | inl e ↦ ap (list_at t') e ∙ ap (λ (ls : List (List ℕ)). get_or ls h []) put ∙ get_or-set_same t.lists h (f (list_at t h)) [] within
          ∙ ap (λ k. f (list_at t k)) (sym e) ∙ sym (ap (λ b. cond b (f (list_at t n)) (list_at t n)) (alike n h e))
      | inr d ↦ ap (λ (ls : List (List ℕ)). get_or ls n []) put ∙ get_or-set_other t.lists h n (f (list_at t h)) [] d
          ∙ sym (ap (λ b. cond b (f (list_at t n)) (list_at t n)) (differ n h d))
    ]

-- a list of one value has that value everywhere
pub constant_at : {X Y : Type 0} (y : Y) (xs : List X) (n : ℕ) → get_or (map (λ _. y) xs) n y ≡ y
constant_at y [] n = refl
constant_at y (x ∷ xs) zero = refl
constant_at y (x ∷ xs) (suc n) = constant_at y xs n

-- ---- packed lists, which have no room that is known of

-- they are kept where they are opened
pub opened_keeps : (lists : List (List ℕ)) (opened new : RowLists) → opened.lists ≡ lists → KeepsLists opened new
    → KeepsLists (record { lists = lists; spare = map (λ _. 0) lists }) new
opened_keeps lists opened new e h = record {
  lists = λ n. h.lists n ∙ ap (λ (ls : List (List ℕ)). get_or ls n []) e;
  wide = omega (arith, h.wide, ap length e);
  room = λ n. omega (arith, constant_at {Y = ℕ} 0 lists n);
}
