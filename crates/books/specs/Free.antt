-- The free book.
-- Assumes nothing.
use Rattle.std.specs.Prelude.{Bool, not, ◌&&◌, ◌||◌, nat_lt, unsigned_abs}
use Rattle.counterpoint.specs.Interval.{dissonant}
use Rattle.books.specs.Motion.{parallel}
use Rattle.counterpoint.specs.Moments.{held, strong, moment_in_range, succession_in_range, second_interval}
use Rattle.counterpoint.specs.declared.moments.Moment.{Moment}
use Rattle.counterpoint.specs.declared.moments.Succession.{Succession}

-- a strong dissonance with both voices struck is refused
abbrev pub free_admits : Moment → Bool
free_admits m =
    moment_in_range m && not (dissonant m.interval && strong m.accent && not (held m.line) && not (held m.theme))

-- a leap of the line beyond 9 is refused, and so are parallel perfect consonances
abbrev pub free_allows : Succession → Bool
free_allows s =
    succession_in_range s && not (nat_lt 9 (unsigned_abs s.dx) || parallel s.first.interval (second_interval s) s.dx s.dc)
