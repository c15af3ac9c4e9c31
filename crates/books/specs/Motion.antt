-- How two voices move from one interval to the next.
-- Assumes nothing.
use Rattle.std.specs.Prelude.{Bool, cond, not, ◌&&◌, ◌||◌, ℤ, pos, ◌==◌, int_lt, unsigned_abs}
use Rattle.counterpoint.specs.Interval.{class_of, perfect}
use Rattle.counterpoint.specs.Moments.{held}
use Rattle.counterpoint.specs.declared.moments.Moment.{Moment}

abbrev pub up : ℤ → Bool
up d = int_lt (pos 0) d

abbrev pub down : ℤ → Bool
down d = int_lt d (pos 0)

-- both voices go up, or both go down
abbrev pub similar : ℤ → ℤ → Bool
similar dx dc = (up dx && up dc) || (down dx && down dc)

-- both voices move
abbrev pub both_move : ℤ → ℤ → Bool
both_move dx dc = not (unsigned_abs dx == 0) && not (unsigned_abs dc == 0)

-- of the steps of line and theme, that of the voice which is struck at a moment with one voice held
abbrev pub struck_step : Moment → ℤ → ℤ → ℤ
struck_step m dx dc = cond (held m.line) dc dx

-- and that of the voice which is held there
abbrev pub held_step : Moment → ℤ → ℤ → ℤ
held_step m dx dc = cond (held m.line) dx dc

-- two intervals are of one class, and it is a perfect one
abbrev pub one_perfect_class : ℤ → ℤ → Bool
one_perfect_class i j = class_of i == class_of j && perfect i

-- two intervals of one perfect class, with both voices up or both down between them
abbrev pub parallel : ℤ → ℤ → ℤ → ℤ → Bool
parallel i j dx dc = one_perfect_class i j && similar dx dc
