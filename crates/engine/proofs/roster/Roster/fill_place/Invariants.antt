use Rattle.std.proofs.Common.{◌+◌}
use Rattle.engine.specs.Tables.{Begun, Filled}
use Rattle.engine.specs.Ways.{way_of}
use Rattle.engine.proofs.roster.Roster.fill_place.Given as goal

abbrev pub invariant-loop-cell : goal.invariant-loop-cell
invariant-loop-cell g l =
    let R = g.M.Measure.ring in
    let way = way_of l.self in
    Filled R way l.goal l.self.places (l.place + 1) l.cells × Begun R way l.goal l.self.places l.place l.cell l.cells
