use Rattle.std.proofs.Common.{sym, ap, ◌∙◌}
use Rattle.engine.specs.Lines.{roster}
use Rattle.engine.specs.Ways.{way_of}
use Rattle.engine.specs.Weights.{joined_weight}
use Rattle.engine.proofs.Totals.{roster_round}
use Rattle.engine.proofs.weighing.weigh_lines.Goals as goal

pub returns : goal.returns
returns g c =
    let R = g.M.Measure.ring in
    let lines = c.of.result in
    c.weigh.ensures
    ∙ sym (roster_round R (way_of lines) lines.places lines.some)
    ∙ ap (λ n. joined_weight R n (roster (way_of lines) n)) c.of.ensures.places
    ∙ ap (joined_weight R c.args.places) (c.of.ensures.lines (g.P.Passage.way c.args.passage.now) c.of-verdicts.ensures)
