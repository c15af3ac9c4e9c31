use Rattle.std.proofs.Common.{◌<◌}
use Rattle.engine.specs.Ways.{way_of}
use Rattle.engine.proofs.Numberings.{Numbered}
use Rattle.engine.proofs.picking.Store+Number.trace_number.Given as goal

abbrev pub invariant-loop-place : goal.invariant-loop-place
invariant-loop-place l =
    let roster = l.self.roster.now in
    record {
      cell : l.turn.cell < 48;
      number : l.turn.number < 1000000000;
      numbered : Numbered (way_of roster) l.self.goal roster.places l.number l.place l.turn.cell l.turn.number l.line;
    }
