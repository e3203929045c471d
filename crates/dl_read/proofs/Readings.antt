-- A reader of a part of a line makes a reader of the line.
use Rattle.std.proofs.Common.{◌≡◌, ℕ, List, subst, ◌∙◌}
use Rattle.std.specs.Prelude.{Ok, Err}
use Rattle.dl_read.specs.declared.statement.LineStop.{LineStop}
use Rattle.dl_read.specs.declared.statement.LineStop.TheVariants as line_stop
use Rattle.dl_read.specs.Grammar.{has_variables, Reads}

-- Where M is what the part says, and N what the line says, by a value of it each.
module _ {A B : Type 0} (M : List ℕ → A → Type 0) (N : List ℕ → B → Type 0) (part line : List ℕ) (same : has_variables line ≡ has_variables part)
    (Is : A → B → Type 0) (into : (x : A) (y : B) → Is x y → M part x → N line y) (back : (y : B) → N line y → (x : A) × Is x y × M part x) where
  pub reads_ok : (x : A) (y : B) → Is x y → ((z : B) → Is x z → z ≡ y) → Reads M part (Ok x) → Reads N line (Ok y)
  reads_ok x y i only h = (
    same ∙ h.0,
    into x y i h.1,
    λ z n. (let b = back z n in only z (subst (λ (w : A). Is w z) (h.2 b.0 b.2) b.1)),
  )

  -- what the part says is nothing that the line may say
  pub reads_none : (x : A) → ((y : B) → Is x y → ⊥) → Reads M part (Ok x) → Reads N line (Err line_stop.Bad)
  reads_none x none h = (
    same ∙ h.0,
    λ z n. (let b = back z n in none z (subst (λ (w : A). Is w z) (h.2 b.0 b.2) b.1)),
  )

  pub reads_err : (e : LineStop) → Reads M part (Err e) → Reads N line (Err e)
  reads_err line_stop.Bad h = (same ∙ h.0, λ z n. (let b = back z n in h.1 b.0 b.2))
  reads_err line_stop.Variables h = same ∙ h
  reads_err line_stop.Memory h = tt
