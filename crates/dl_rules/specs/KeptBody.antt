-- How the fields of a body hold its numbers.
use Rattle.std.specs.Prelude.{◌≡◌, ℕ, ◌<◌, ◌^◌, List, length}
use Rattle.dl_rows.specs.Counting.{each_once}
use Rattle.dl_rules.specs.declared.body.Form.{Form}
use Rattle.dl_rules.specs.declared.body.Form.TheVariants.{Plain, Repeating}

abbrev pub body_of : Form → List ℕ
body_of (Plain numbers) = numbers.items
body_of (Repeating lists) = lists.value.body.items

-- the numbers, each where it first stands
abbrev pub once_of : Form → List ℕ
once_of (Plain numbers) = numbers.items
once_of (Repeating lists) = lists.value.once.items

-- the numbers each once are those of the body, which is short
pub record IsKeptBody (form : Form) : Type 0 where
  pub once : once_of form ≡ each_once (body_of form)
  pub short : length (body_of form) < 2 ^ 26
