-- What is still to be read behind the opening of a line.
use Rattle.std.specs.Prelude.{◌≡◌, ℕ, true, List, [], ◌∷◌, Option, Some, None, Result, Ok, Err}
use Rattle.dl_read.specs.declared.token.Token.{Token}
use Rattle.dl_read.specs.declared.statement.Stop.{Stop}
use Rattle.dl_read.specs.declared.statement.Stop.TheVariants as stop
use Rattle.dl_read.specs.declared.statement.Statement.{Statement}
use Rattle.dl_read.specs.declared.statement.Statement.TheVariants as statement
use Rattle.dl_read.specs.declared.opening.Opening.{Opening}
use Rattle.dl_read.specs.declared.opening.Opening.TheVariants.{Pair, Fact, Rule}
use Rattle.dl_read.specs.Grammar.{literal}
use Rattle.dl_read.specs.Tokens.{next, as_arrow}
use Rattle.dl_read.specs.Parsing.{Parse, Body, ◌>>=◌, literal_at, head_at, in_front, more_at, pair_at, rule_at}

-- a body and its arrow, behind an atom that was read, or from the token t on
unfoldable pub body_at : Option (List ℕ) → Token → List Token → Parse Body
body_at (Some atom) t ts = in_front (literal None atom true ∷ []) (more_at t ts)
body_at None t ts =
    elim (as_arrow t) [
      | Some kind ↦ Some (([], kind), ts)
      | None ↦ literal_at t ts >>= λ q. in_front (q.0 ∷ []) (more_at (next q.1).0 (next q.1).1)
    ]

unfoldable pub opened_at : Opening → List Token → Parse Statement
opened_at (Pair upper) ts = pair_at upper ts >>= λ p. Some (statement.Pair p.0, p.1)
opened_at (Fact m) ts = head_at m ts >>= λ h. Some (statement.Fact h.0, h.1)
opened_at (Rule label m atom t) ts = body_at atom t ts >>= λ b. rule_at label m b.0.0 b.0.1 b.1

-- behind this opening the rest says what was to be read
abbrev pub Opens : Result Opening Stop → Parse Statement → List Token → Type 0
Opens (Ok opening) parse rest = parse ≡ opened_at opening rest
Opens (Err stop.Unread) parse rest = parse ≡ None
Opens (Err stop.Memory) parse rest = Unit {0}
