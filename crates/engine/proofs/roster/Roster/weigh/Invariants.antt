use Rattle.std.proofs.Common.{◌≡◌, ◌-◌}
use Rattle.engine.specs.Tables.{rest, sum}
use Rattle.engine.specs.Ways.{way_of}
use Rattle.engine.proofs.roster.Roster.weigh.Given as goal

abbrev pub invariant-loop-start : goal.invariant-loop-start
invariant-loop-start g l =
    let R = g.M.Measure.ring in
    l.total ≡ sum R (λ c. rest R (way_of l.self) c (l.self.places - 1) 0 c) l.start
