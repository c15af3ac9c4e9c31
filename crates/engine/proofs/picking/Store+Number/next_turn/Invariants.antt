use Rattle.std.proofs.Common.{◌≡◌, ◌+◌, ◌-◌}
use Rattle.engine.specs.Tails.{by_cell, passed}
use Rattle.engine.specs.Ways.{way_of}
use Rattle.engine.proofs.picking.Store+Number.next_turn.Given as goal

abbrev pub invariant-loop-cell : goal.invariant-loop-cell
invariant-loop-cell l =
    let roster = l.self.roster.now in
    l.turn.number ≡ passed (by_cell (way_of roster) l.self.goal (roster.places - 1 - (l.place + 1)) l.place l.turn.cell) l.cell + l.number
