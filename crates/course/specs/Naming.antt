-- The calls of a run, as the law over courses knows them. Assumes nothing.
use Rattle.std.specs.Prelude.{ℕ, min, Bool, List, Some, None, Option}
use Rattle.std.specs.List.{slice_get}
use Rattle.counterpoint.specs.declared.moments.Moment.{Moment}
use Rattle.counterpoint.specs.declared.moments.Succession.{Succession}
use Rattle.rules.specs.Compasses.{PlainCompass}
use Rattle.rules.specs.Courses.{Handed, Call, Load, Add, Drop, Fix, Free, Close, Reopen, Decide, Count, Weigh, Pick, Least, Check, Unhanded}
use Rattle.course.specs.declared.call.Query.{Query}
use Rattle.course.specs.declared.call.Question.{Question}
use Rattle.course.specs.declared.call.Question.TheVariants as question
use Rattle.course.specs.declared.call.Call.{Call as Given}
use Rattle.course.specs.declared.call.Call.TheVariants as given

-- how many working values of each kind, and how many cells, there are to be lent
pub record Sizes : Type 0 where
  pub possible : ℕ
  pub numbers : ℕ
  pub movements : ℕ
  pub weights : ℕ
  pub line : ℕ

-- a book and a compass, if there are both
abbrev pub hands : {B : Type 0} → (B → Moment → Bool) → (B → Succession → Bool) → Option B → Option PlainCompass → Option Handed
hands admits allows None compass = None
hands admits allows (Some book) None = None
hands admits allows (Some book) (Some compass) = Some (record { compass = compass; admits = admits book; allows = allows book })

-- those that a question names by their numbers
abbrev pub handing : {B : Type 0} → (B → Moment → Bool) → (B → Succession → Bool) → List B → List PlainCompass → Query → Option Handed
handing admits allows books compasses query = hands admits allows (slice_get books query.book) (slice_get compasses query.compass)

-- a question that is handed this, with so much room, and lent what it says as far as there is so much
abbrev pub as_question : Sizes → ℕ → Question → Handed → Call
as_question s room (question.Decide cells) h = Decide h (min room s.possible) (min cells s.line)
as_question s room question.Count h = Count h (min room s.numbers)
as_question s room question.Weigh h = Weigh h (min room s.weights)
as_question s room (question.Pick cells number) h = Pick h (min room s.numbers) (min cells s.line) number
as_question s room (question.Least cells) h = Least h (min room s.movements) (min cells s.line)
as_question s room (question.Check line) h = Check h line.now

-- the same, if there are the book and the compass that it names
abbrev pub asks : Option Handed → (Handed → Call) → Call
asks None ask = Unhanded
asks (Some h) ask = ask h

abbrev pub as_call : (Query → Option Handed) → Sizes → Given → Call
as_call hand s (given.Load page) = Load page.now
as_call hand s (given.Add setting) = Add setting.jv setting.entry
as_call hand s (given.Drop setting) = Drop setting.jv setting.entry
as_call hand s (given.Fix place key) = Fix place key
as_call hand s (given.Free place) = Free place
as_call hand s given.Close = Close
as_call hand s given.Reopen = Reopen
as_call hand s (given.Ask query asked) = asks (hand query) (as_question s query.room asked)
