use Rattle.std.proofs.Common.{◌≡◌, ℕ, ◌-◌, ◌<◌, false}
use Rattle.engine.specs.Tables.{rest}
use Rattle.engine.specs.Ways.{way_of}
use Rattle.engine.proofs.roster.Roster.best_start.Given as goal

abbrev pub invariant-loop-start : goal.invariant-loop-start
invariant-loop-start g l =
    (c : ℕ) → c < l.start → g.M.Choosing.picks (rest g.M.Measure.ring (way_of l.self) c (l.self.places - 1) 0 c) l.total ≡ false
