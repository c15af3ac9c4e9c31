-- A layer over a book: what the book below says to a question, and to the same question raised by v.
-- Assumes nothing.
use Rattle.std.specs.Prelude.{Bool, cond, ◌&&◌, ℤ, Ok, Err, Result}
use Rattle.counterpoint.specs.Interval.{shift_in_range}
use Rattle.counterpoint.specs.Moments.{raised, raised_succession}
use Rattle.counterpoint.specs.declared.moments.Moment.{Moment}
use Rattle.counterpoint.specs.declared.moments.Succession.{Succession}
use Rattle.counterpoint.specs.declared.refusal.Refusal.{Refusal}
use Rattle.counterpoint.specs.declared.refusal.Refusal.TheVariants.{ShiftOutOfRange}

abbrev pub vertical_admits : (Moment → Bool) → ℤ → Moment → Bool
vertical_admits admits v m = admits m && admits (raised v m)

abbrev pub vertical_allows : (Succession → Bool) → ℤ → Succession → Bool
vertical_allows allows v s = allows s && allows (raised_succession v s)

-- two layers may be laid only with both shifts in range
abbrev pub shifts_in_range : ℤ → ℤ → Bool
shifts_in_range inner outer = shift_in_range inner && shift_in_range outer

-- what is asked of a book under a layer for each of two shifts: refused unless both are in range
abbrev pub pile_answer : ℤ → ℤ → Bool → Result Bool Refusal
pile_answer inner outer verdict = cond (shifts_in_range inner outer) (Ok verdict) (Err ShiftOutOfRange)
