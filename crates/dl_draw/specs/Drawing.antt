-- What calls that draw answer.
use Rattle.std.specs.Prelude.{◌≡◌, ℕ, Result, IfOk}
use Rattle.dl_draw.specs.Generator.{Drawn}

-- the answer is what is drawn, and the state is the one after it, unless there was no memory
abbrev pub Gives : {A E : Type 0} → Drawn A → Result A E → ℕ → Type 0
Gives drawn answer state = IfOk answer (λ it. (it ≡ drawn.value) × (state ≡ drawn.state))
