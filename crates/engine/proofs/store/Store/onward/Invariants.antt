use Rattle.std.proofs.Common.{◌≡◌}
use Rattle.engine.specs.Tables.{sum}
use Rattle.engine.specs.Ways.{way_of}
use Rattle.engine.proofs.Rests.{by_next}
use Rattle.engine.proofs.store.Store.onward.Given as goal

abbrev pub invariant-loop-next : goal.invariant-loop-next
invariant-loop-next g l =
    let R = g.M.Measure.ring in
    l.total ≡ sum R (by_next R (way_of l.self.roster.now) l.self.goal l.self.roster.now.places l.place l.cell) l.next
