use Rattle.std.proofs.Common.{◌≡◌, ℕ, ◌+◌, ◌-◌, ◌<◌, false}
use Rattle.engine.specs.Tails.{attains}
use Rattle.engine.specs.Ways.{way_of}
use Rattle.engine.proofs.store.Store.next_best.Given as goal

abbrev pub invariant-loop-next : goal.invariant-loop-next
invariant-loop-next g l =
    let roster = l.self.roster.now in
    (d : ℕ) → d < l.next → attains g.M.Measure.ring g.M.Choosing.picks (way_of roster) l.self.goal (roster.places - 1 - (l.place + 1)) l.place l.cell l.prefix l.total d ≡ false
