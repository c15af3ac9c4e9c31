use Rattle.std.proofs.Common.{◌-◌, sym, ◌∙◌, ap₂}
use Rattle.engine.specs.Tables.{rest}
use Rattle.engine.specs.Ways.{way_of}
use Rattle.engine.proofs.Rests.{sum_more, sum_none}
use Rattle.engine.proofs.roster.Roster.weigh.Goals as goal

pub loop-start-init : goal.loop-start-init
loop-start-init g c = c.NONE-total.ensures ∙ g.met.M.Measure.none_of_ring ∙ sym (sum_none g.M.Measure.ring _)

pub loop-start-preserved : goal.loop-start-preserved
loop-start-preserved g c =
    let R = g.M.Measure.ring in
    c.join-total.ensures
    ∙ ap₂ R.join c.loop-start.invariant c.weigh_start.ensures
    ∙ sym (sum_more R (λ d. rest R (way_of c.args.self.now) d (c.args.self.now.places - 1) 0 d) c.loop-start.start)
