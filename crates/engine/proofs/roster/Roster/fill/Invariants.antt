use Rattle.engine.specs.Tables.{Filled}
use Rattle.engine.specs.Ways.{way_of}
use Rattle.engine.proofs.roster.Roster.fill.Given as goal

abbrev pub invariant-loop-place : goal.invariant-loop-place
invariant-loop-place g l = Filled g.M.Measure.ring (way_of l.self) l.start l.self.places l.place l.cells
