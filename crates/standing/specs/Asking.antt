-- What a question in memory asks. Assumes nothing.
use Rattle.std.specs.Prelude.{Bool}
use Rattle.counterpoint.specs.declared.moments.Moment.{Moment}
use Rattle.counterpoint.specs.declared.moments.Succession.{Succession}
use Rattle.standing.specs.declared.asking.Asking.{Asking}
use Rattle.rules.specs.Courses.{Handed}
use Rattle.rules.specs.Questions.{under}
use Rattle.rules.specs.Standing.{Asked}

-- a closed sheet, a compass, and the two sets of a book
abbrev pub asked_by : {B : Type 0} → (B → Moment → Bool) → (B → Succession → Bool) → Asking B → Asked
asked_by admits allows asking = under asking.sheet.now asking.compass.now (admits asking.book.now) (allows asking.book.now)

-- a compass, and the two sets of a book
abbrev pub handed_by : {B : Type 0} → (B → Moment → Bool) → (B → Succession → Bool) → Asking B → Handed
handed_by admits allows asking = record {
  compass = asking.compass.now;
  admits = admits asking.book.now;
  allows = allows asking.book.now;
}
