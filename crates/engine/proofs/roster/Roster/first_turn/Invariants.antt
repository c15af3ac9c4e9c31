use Rattle.std.proofs.Common.{◌≡◌, ◌+◌, ◌-◌}
use Rattle.engine.specs.Tails.{begun_by, passed}
use Rattle.engine.specs.Ways.{way_of}
use Rattle.engine.proofs.roster.Roster.first_turn.Given as goal

abbrev pub invariant-loop-cell : goal.invariant-loop-cell
invariant-loop-cell l = l.k ≡ passed (begun_by (way_of l.self) (l.self.places - 1)) l.cell + l.number
