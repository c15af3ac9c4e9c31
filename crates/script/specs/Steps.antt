-- Which calls the steps of a script are. Assumes nothing.
use Rattle.std.specs.Prelude.{◌≡◌, ℕ, List, [], ◌∷◌, Some, None, Ok, Err, vec_items, Option, Result}
use Rattle.rules.specs.declared.refusal.Refusal.{Refusal}
use Rattle.course.specs.declared.call.Query.{Query}
use Rattle.course.specs.declared.call.Call.{Call}
use Rattle.course.specs.declared.call.Call.TheVariants.{Load, Add, Drop, Fix, Free, Close, Reopen, Ask}
use Rattle.course.specs.declared.call.Question.{Question}
use Rattle.course.specs.declared.call.Question.TheVariants.{Decide, Count, Weigh, Pick, Least, Check}
use Rattle.script.specs.declared.gathering.Row.{Row}
use Rattle.script.specs.declared.statement.Asks.{Asks}
use Rattle.script.specs.declared.statement.Asks.TheVariants.{Decide as asks-decide, Count as asks-count, Weigh as asks-weigh, Least as asks-least, Pick as asks-pick, Check as asks-check}
use Rattle.script.specs.declared.step.Step.{Step}
use Rattle.script.specs.declared.step.Step.TheVariants.{Load as step-load, Check as step-check, Other as step_other}

-- the step of a question that is handed a query and a line buffer of so many cells
abbrev pub step_of : Asks → Query → ℕ → Step
step_of asks-decide query cells = step_other (Ask query (Decide cells))
step_of asks-count query cells = step_other (Ask query Count)
step_of asks-weigh query cells = step_other (Ask query Weigh)
step_of asks-least query cells = step_other (Ask query (Least cells))
step_of (asks-pick number) query cells = step_other (Ask query (Pick cells number))
step_of (asks-check line) query cells = step-check query line

-- the page that a call loads
abbrev pub page_in : Call → Option (List ℕ)
page_in (Load page) = Some page.now
page_in (Add setting) = None
page_in (Drop setting) = None
page_in (Fix place key) = None
page_in (Free place) = None
page_in Close = None
page_in Reopen = None
page_in (Ask query question) = None

-- the line that a question checks
abbrev pub checked : Question → Option (List ℕ)
checked (Decide cells) = None
checked Count = None
checked Weigh = None
checked (Pick cells number) = None
checked (Least cells) = None
checked (Check line) = Some line.now

-- is a call the check of a line that is handed a query?
abbrev pub Checks : Query → List ℕ → Call → Type 0
Checks query line (Load page) = ⊥
Checks query line (Add setting) = ⊥
Checks query line (Drop setting) = ⊥
Checks query line (Fix place key) = ⊥
Checks query line (Free place) = ⊥
Checks query line Close = ⊥
Checks query line Reopen = ⊥
Checks query line (Ask other question) = (other ≡ query) × (checked question ≡ Some line)

-- is a call the one that a step makes?
abbrev pub Makes : Step → Call → Type 0
Makes (step-load page) call = page_in call ≡ Some (vec_items page)
Makes (step-check query line) call = Checks query (vec_items line) call
Makes (step_other other) call = call ≡ other

-- a step before others, where there is one
abbrev pub with_step : Result Step Refusal → List Step → List Step
with_step (Ok step) steps = step ∷ steps
with_step (Err refusal) steps = steps

-- the steps of some lines
abbrev pub steps_in : List Row → List Step
steps_in [] = []
steps_in (row ∷ rows) = with_step row.step (steps_in rows)

-- are calls those that steps make, in their order?
abbrev pub MakeAll : List Step → List Call → Type 0
MakeAll [] [] = Unit {0}
MakeAll [] (call ∷ calls) = ⊥
MakeAll (step ∷ steps) [] = ⊥
MakeAll (step ∷ steps) (call ∷ calls) = Makes step call × MakeAll steps calls
