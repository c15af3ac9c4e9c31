-- By which cell a list goes on, where the lists stand in the order of the cells. Assumes nothing.
use Rattle.std.specs.Prelude.{◌≡◌, ℕ, ◌+◌, ◌<◌, ◌≤◌, Bool, true, false, List, length, Option, MatchOption}
use Rattle.engine.specs.Tails.{passed}
use Rattle.engine.specs.declared.picking.Turn.{Turn}

-- the cell passes a test, and none before it does
pub record Leads (test : ℕ → Bool) (cell : ℕ) : Type 0 where
  pub small : cell < 48
  pub before : (d : ℕ) → d < cell → test d ≡ false
  pub passes : test cell ≡ true

-- the first cell that passes a test, if any does
abbrev pub IsFirst : (ℕ → Bool) → Option ℕ → Type 0
IsFirst test found = MatchOption found ((d : ℕ) → d < 48 → test d ≡ false) (Leads test)

-- of the lists by cells, the one with a number is one of the turn's cell, and has the turn's number among these
pub record Holds (by : ℕ → List (List ℕ)) (number : ℕ) (turn : Turn) : Type 0 where
  pub small : turn.cell < 48
  pub counted : number ≡ passed by turn.cell + turn.number
  pub within : turn.number < length (by turn.cell)

-- the turn of the list with a number, if there are so many
abbrev pub IsTurn : (ℕ → List (List ℕ)) → ℕ → Option Turn → Type 0
IsTurn by number found = MatchOption found (passed by 48 ≤ number) (Holds by number)
