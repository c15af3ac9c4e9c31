use Rattle.std.proofs.Common.{◌<◌}
use Rattle.engine.specs.Ways.{way_of}
use Rattle.engine.proofs.Traces.{Traced}
use Rattle.engine.proofs.store.Store.trace.Given as goal

abbrev pub invariant-loop-place : goal.invariant-loop-place
invariant-loop-place g l =
    let roster = l.self.roster.now in
    (l.cell < 48) × Traced g.M.Measure.ring g.M.Choosing.picks (way_of roster) l.self.goal roster.places l.total l.place l.cell l.prefix l.line
