-- What a run holds and tells. Assumes nothing.
use Rattle.std.specs.Prelude.{ℕ, List, length, vec_items}
use Rattle.rules.specs.Courses.{Reached, draft_at, closed_at, page_no, call_no}
use Rattle.rules.specs.Faults.{Told, Away, Refused, Done, Line, Number, Weight}
use Rattle.course.specs.Naming.{Sizes}
use Rattle.course.specs.declared.memory.Memory.{Memory}
use Rattle.course.specs.declared.state.State.{State}
use Rattle.course.specs.declared.state.State.TheVariants.{Open, Shut}
use Rattle.course.specs.declared.answer.Answer.{Answer}
use Rattle.course.specs.declared.answer.Answer.TheVariants as answers

-- the plain sheet of a state
abbrev pub reached_by : State → Reached
reached_by (Open draft) = draft_at draft
reached_by (Shut sheet) = closed_at sheet

-- an answer as the law knows it
abbrev pub told : {M : Type 0} → Answer M → Told M
told answers.Away = Away
told (answers.PageRefused r) = Refused (page_no r)
told (answers.Refused r) = Refused (call_no r)
told answers.Done = Done
told (answers.Line cells) = Line (vec_items cells)
told (answers.Number n) = Number n
told (answers.Weight w) = Weight w

-- how much there is to be lent
abbrev pub sizes_of : {M : Type 0} → Memory M → List ℕ → Sizes
sizes_of memory line = record {
  possible = length memory.possible.now;
  numbers = length memory.numbers.now;
  movements = length memory.movements.now;
  weights = length memory.weights.now;
  line = length line;
}
