-- Moments and successions.
-- Assumes nothing.
use Rattle.std.specs.Prelude.{Bool, true, false, cond, not, ◌&&◌, ℤ, ◌+ℤ◌, ◌-ℤ◌, Some, None, Option}
use Rattle.counterpoint.specs.Interval.{interval_in_range, shift_in_range}
use Rattle.counterpoint.specs.declared.moments.Accent.{Accent}
use Rattle.counterpoint.specs.declared.moments.Accent.TheVariants.{Strong, Weak}
use Rattle.counterpoint.specs.declared.moments.Moment.{Moment}
use Rattle.counterpoint.specs.declared.moments.Succession.{Succession}
use Rattle.counterpoint.specs.declared.moments.Voice.{Voice}
use Rattle.counterpoint.specs.declared.moments.Voice.TheVariants.{Struck, Held}

abbrev pub held : Voice → Bool
held Struck = false
held Held = true

abbrev pub strong : Accent → Bool
strong Strong = true
strong Weak = false

-- exactly one voice is held
abbrev pub one_held : Moment → Bool
one_held m = cond (held m.line) (not (held m.theme)) (held m.theme)

-- the second interval follows from the first and the two steps
abbrev pub second_interval : Succession → ℤ
second_interval s = s.first.interval +ℤ s.dx -ℤ s.dc

abbrev pub second_moment : Succession → Moment
second_moment s = record { interval = second_interval s; line = s.line; theme = s.theme; accent = s.accent }

-- a moment whose line is raised by v against the theme
abbrev pub raised : ℤ → Moment → Moment
raised v m = record { interval = m.interval +ℤ v; line = m.line; theme = m.theme; accent = m.accent }

-- a succession raised by v: its first moment is, and so its second is too
abbrev pub raised_succession : ℤ → Succession → Succession
raised_succession v s = record { first = raised v s.first; dx = s.dx; dc = s.dc; line = s.line; theme = s.theme; accent = s.accent }

-- what any book may say yes to: intervals up to 100 and steps up to 23, either way
abbrev pub moment_in_range : Moment → Bool
moment_in_range m = interval_in_range m.interval

abbrev pub succession_in_range : Succession → Bool
succession_in_range s =
    moment_in_range s.first && shift_in_range s.dx && shift_in_range s.dc && moment_in_range (second_moment s)

-- the second moment of a succession in range
abbrev pub second_in_range : Succession → Option Moment
second_in_range s = cond (succession_in_range s) (Some (second_moment s)) None
