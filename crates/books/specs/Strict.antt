-- The strict book.
-- Assumes nothing.
use Rattle.std.specs.Prelude.{Bool, not, ◌&&◌, ◌||◌, ℤ, ◌==◌, nat_le, unsigned_abs}
use Rattle.counterpoint.specs.Interval.{consonant, dissonant, perfect}
use Rattle.counterpoint.specs.Moments.{strong, one_held, second_moment, moment_in_range, succession_in_range}
use Rattle.books.specs.Motion.{down, similar, both_move, one_perfect_class, struck_step, held_step}
use Rattle.counterpoint.specs.declared.moments.Moment.{Moment}
use Rattle.counterpoint.specs.declared.moments.Succession.{Succession}

-- a moment is consonant, or has exactly one voice held
abbrev pub strict_rule : Moment → Bool
strict_rule m = consonant m.interval || one_held m

abbrev pub strict_admits : Moment → Bool
strict_admits m = moment_in_range m && strict_rule m

abbrev pub implies : Bool → Bool → Bool
implies a b = not a || b

-- the line moves by a size of 0 to 5, or by 7
abbrev pub singable : ℤ → Bool
singable dx = nat_le (unsigned_abs dx) 5 || unsigned_abs dx == 7

-- the second interval is not perfect when both voices go up or both go down
abbrev pub no_hidden_perfect : ℤ → ℤ → ℤ → Bool
no_hidden_perfect j dx dc = not (perfect j && similar dx dc)

-- the two intervals are not of one perfect class when both voices move
abbrev pub no_repeated_perfect : ℤ → ℤ → ℤ → ℤ → Bool
no_repeated_perfect i j dx dc = not (one_perfect_class i j && both_move dx dc)

-- two dissonances do not follow each other
abbrev pub no_two_dissonances : ℤ → ℤ → Bool
no_two_dissonances i j = not (dissonant i && dissonant j)

abbrev pub weak_dissonance : Moment → Bool
weak_dissonance m = dissonant m.interval && not (strong m.accent)

abbrev pub strong_dissonance : Moment → Bool
strong_dissonance m = dissonant m.interval && strong m.accent

-- a weak dissonance is entered, and left, by a step of size 1 in the voice struck there
abbrev pub passed_by_step : Moment → ℤ → ℤ → Bool
passed_by_step m dx dc = implies (weak_dissonance m) (unsigned_abs (struck_step m dx dc) == 1)

-- a strong dissonance is left by a step of -1 in the voice held there
abbrev pub resolved_down : Moment → ℤ → ℤ → Bool
resolved_down m dx dc = implies (strong_dissonance m) (down (held_step m dx dc) && unsigned_abs (held_step m dx dc) == 1)

-- a dissonance has exactly one voice held
abbrev pub tied : Moment → Bool
tied m = implies (dissonant m.interval) (one_held m)

-- what is asked of the first moment as it is left by the steps dx and dc
abbrev pub left_well : Moment → ℤ → ℤ → Bool
left_well m dx dc = passed_by_step m dx dc && resolved_down m dx dc && tied m

-- and of the second as it is entered by them
abbrev pub entered_well : Moment → ℤ → ℤ → Bool
entered_well m dx dc = passed_by_step m dx dc && tied m

-- the rules of motion together, from the interval i to the interval j
abbrev pub moves_well : ℤ → ℤ → ℤ → ℤ → Bool
moves_well i j dx dc = singable dx && no_hidden_perfect j dx dc && no_repeated_perfect i j dx dc

-- the rules of dissonance together, from the moment m to the moment n
abbrev pub treats_dissonance : Moment → Moment → ℤ → ℤ → Bool
treats_dissonance m n dx dc = no_two_dissonances m.interval n.interval && left_well m dx dc && entered_well n dx dc

abbrev pub strict_rules : Moment → Moment → ℤ → ℤ → Bool
strict_rules m n dx dc = moves_well m.interval n.interval dx dc && treats_dissonance m n dx dc

abbrev pub strict_allows : Succession → Bool
strict_allows s = succession_in_range s && strict_rules s.first (second_moment s) s.dx s.dc
