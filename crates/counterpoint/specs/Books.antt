-- What a book is: a fixed set of moments and a fixed set of successions.
-- Assumes nothing.
use Rattle.std.specs.Prelude.{◌≡◌, Bool, false}
use Rattle.counterpoint.specs.Moments.{moment_in_range, succession_in_range}
use Rattle.counterpoint.specs.declared.moments.Moment.{Moment}
use Rattle.counterpoint.specs.declared.moments.Succession.{Succession}

-- neither set has a member with an interval beyond 100 or a step beyond 23, either way
pub record Bounded (admits : Moment → Bool) (allows : Succession → Bool) : Type 0 where
  pub moments : (m : Moment) → moment_in_range m ≡ false → admits m ≡ false
  pub successions : (s : Succession) → succession_in_range s ≡ false → allows s ≡ false
