-- Which calls change a sheet, or close or reopen it, without a page, and which question checks a line.
-- Assumes nothing.
use Rattle.std.specs.Prelude.{◌≡◌, Bool, true, false}
use Rattle.course.specs.declared.call.Call.{Call}
use Rattle.course.specs.declared.call.Call.TheVariants.{Load, Add, Drop, Fix, Free, Close, Reopen, Ask}
use Rattle.script.specs.declared.statement.Asks.{Asks}
use Rattle.script.specs.declared.statement.Asks.TheVariants.{Decide as asks-decide, Count as asks-count, Weigh as asks-weigh, Least as asks-least, Pick as asks-pick, Check as asks-check}
use Rattle.script.specs.declared.statement.Statement.{Statement}
use Rattle.script.specs.declared.statement.Statement.TheVariants.{Load as say-load, Change as say-change, Ask as say-ask, Write as say-write}

abbrev pub is_change : Call → Bool
is_change (Load page) = false
is_change (Add setting) = true
is_change (Drop setting) = true
is_change (Fix place key) = true
is_change (Free place) = true
is_change Close = true
is_change Reopen = true
is_change (Ask query question) = false

abbrev pub is_check : Asks → Bool
is_check asks-decide = false
is_check asks-count = false
is_check asks-weigh = false
is_check asks-least = false
is_check (asks-pick number) = false
is_check (asks-check line) = true

-- what is said to be a change is one
abbrev pub ChangesOnly : Statement → Type 0
ChangesOnly (say-load file) = Unit {0}
ChangesOnly (say-change call) = is_change call ≡ true
ChangesOnly (say-ask question) = Unit {0}
ChangesOnly (say-write number) = Unit {0}
