-- Calls that are not let through. Assumes nothing.
use Rattle.std.proofs.Common.{◌≡◌, ℕ, Bool, false, Some, None, Option, refl}
use Rattle.rules.specs.Courses.{Handed, lets}
use Rattle.counterpoint.specs.declared.moments.Moment.{Moment}
use Rattle.counterpoint.specs.declared.moments.Succession.{Succession}
use Rattle.course.specs.Naming.{Sizes, as_question, asks, hands}
use Rattle.course.specs.declared.call.Question.{Question}
use Rattle.course.specs.declared.call.Question.TheVariants as question

pub ask_barred : (o : Option Handed) (s : Sizes) (room : ℕ) (q : Question) → lets false (asks o (as_question s room q)) ≡ false
ask_barred None s room q = refl
ask_barred (Some h) s room (question.Decide cells) = refl
ask_barred (Some h) s room question.Count = refl
ask_barred (Some h) s room question.Weigh = refl
ask_barred (Some h) s room (question.Pick cells number) = refl
ask_barred (Some h) s room (question.Least cells) = refl
ask_barred (Some h) s room (question.Check line) = refl

-- without a compass nothing is handed
pub hands_none : {B : Type 0} (admits : B → Moment → Bool) (allows : B → Succession → Bool) (book : Option B) → hands admits allows book None ≡ None
hands_none admits allows None = refl
hands_none admits allows (Some book) = refl
