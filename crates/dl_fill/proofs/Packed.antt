-- A flag and a number in 32 bits.
use Rattle.std.proofs.Common.{◌≡◌, ℕ, zero, suc, ◌-◌, ◌<◌, ◌^◌, ◌==◌, Bool, true, false, cond, not, List, ◌∷◌, get_or, set, sym, ap, refl, ◌∙◌}
use Rattle.std.specs.Prelude.{replicate}
use Rattle.std.proofs.lemmas.Bool.{lt-ltb}
use Rattle.std.proofs.lemmas.List.{map-set, set-get_or}
use Rattle.std.proofs.Math.ListN.{get_or-map}
use Rattle.dl_fill.specs.Cells.{CellLists, flag_of, number_of, flags_of, numbers_of, counted_down}

pub flags-replicate : (n : ℕ) → flags_of (replicate n 0) ≡ replicate n false
flags-replicate zero = refl
flags-replicate (suc n) = ap (λ fs. false ∷ fs) (flags-replicate n)

pub numbers-replicate : (n : ℕ) → numbers_of (replicate n 0) ≡ replicate n 0
numbers-replicate zero = refl
numbers-replicate (suc n) = ap (λ ns. 0 ∷ ns) (numbers-replicate n)

pub as_cells : (fs gs : List Bool) (ns ms : List ℕ) → fs ≡ gs → ns ≡ ms → ◌≡◌ {A = CellLists} (record { flags = fs; numbers = ns }) (record { flags = gs; numbers = ms })
as_cells fs gs ns ms e f = ap (λ (h : List Bool). record { flags = h; numbers = ns }) e ∙ ap (λ (h : List ℕ). record { flags = gs; numbers = h }) f

-- a number of 31 bits is a word without a flag
pub low_flag : (n : ℕ) → n < 2 ^ 31 → flag_of n ≡ false
low_flag n few = ap not (lt-ltb n (2 ^ 31) few)

abbrev below : ℕ → Bool → ℕ
below w flag = cond flag (w - 2 ^ 31) w

pub low_number : (n : ℕ) → n < 2 ^ 31 → number_of n ≡ n
low_number n few = ap (below n) (low_flag n few)

pub flag_at : (ws : List ℕ) (p : ℕ) → get_or (flags_of ws) p false ≡ flag_of (get_or ws p 0)
flag_at ws p = get_or-map flag_of ws p 0

-- a word counts down
module _ (ws : List ℕ) (p word : ℕ) (here : get_or ws p 0 ≡ word) where
  abbrev old : CellLists
  old = record { flags = flags_of ws; numbers = numbers_of ws }

  abbrev put_in : ℕ → CellLists
  put_in new = record { flags = flags_of (set ws p new); numbers = numbers_of (set ws p new) }

  abbrev lowered : Bool → ℕ → CellLists
  lowered on n = cond on old (record { flags = set (flags_of ws) p (n == 1); numbers = set (numbers_of ws) p (n - 1) })

  flag_is : get_or (flags_of ws) p false ≡ flag_of word
  flag_is = flag_at ws p ∙ ap flag_of here

  number_is : get_or (numbers_of ws) p 0 ≡ number_of word
  number_is = get_or-map number_of ws p 0 ∙ ap number_of here

  pub counted : (new : ℕ) → (flag_of word ≡ true → new ≡ word) → (flag_of word ≡ false → flag_of new ≡ (word == 1)) → (flag_of word ≡ false → number_of new ≡ word - 1)
      → put_in new ≡ counted_down old p
  counted new high flag number = by_flag (flag_of word) refl
    where
      by_flag : (on : Bool) → flag_of word ≡ on → put_in new ≡ lowered (get_or (flags_of ws) p false) (get_or (numbers_of ws) p 0)
      by_flag true e =
          ap (λ (vs : List ℕ). record { flags = flags_of vs; numbers = numbers_of vs }) (ap (set ws p) (high e ∙ sym here) ∙ set-get_or ws p 0)
          ∙ sym (ap (λ b. lowered b (get_or (numbers_of ws) p 0)) (flag_is ∙ e))
      by_flag false e =
          as_cells _ _ _ _ (map-set flag_of ws p new ∙ ap (set (flags_of ws) p) (flag e)) (map-set number_of ws p new ∙ ap (set (numbers_of ws) p) (number e))
          ∙ sym (ap (λ b. lowered b (get_or (numbers_of ws) p 0)) (flag_is ∙ e) ∙ ap (lowered false) (number_is ∙ ap (below word) e))
