-- What a roster's verdicts let through, and what its lines come to. Assumes nothing.
use Rattle.std.specs.Prelude.{ℕ, ◌-◌}
use Rattle.measure.specs.Algebra.{Ring}
use Rattle.engine.specs.declared.roster.Roster.{Roster}
use Rattle.engine.specs.Lines.{Way}
use Rattle.engine.specs.Tables.{rest}
use Rattle.engine.specs.Words.{said}

-- what the verdicts say
abbrev pub way_of : Roster → Way
way_of roster = said roster.verdicts.now.words

-- all ways from the cell c at place t through the places after it and then to the cell goal
abbrev pub rest_from : {M : Type 0} → Ring M → Roster → ℕ → ℕ → ℕ → M
rest_from R roster goal t c = rest R (way_of roster) goal (roster.places - 1 - t) t c

-- all lines that begin with the cell c
abbrev pub lines_from : {M : Type 0} → Ring M → Roster → ℕ → M
lines_from R roster c = rest R (way_of roster) c (roster.places - 1) 0 c
