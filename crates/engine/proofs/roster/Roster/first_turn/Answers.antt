use Rattle.std.proofs.Common.{◌≡◌, ◌+◌, ◌-◌, length, ap, ◌∙◌, arith}
use Rattle.measure.specs.Numbers.{cap}
use Rattle.engine.specs.Tails.{begun_by, passed}
use Rattle.engine.specs.Ways.{way_of}
use Rattle.engine.proofs.Numberings.{begun_counts, passed_more}
use Rattle.engine.proofs.roster.Roster.first_turn.Goals as goal

pub returns-then-number-count-clause-turn : goal.returns-then-number-count-clause-turn
returns-then-number-count-clause-turn c =
    let roster = c.args.self.now in
    let count : c.fill-count.result.value ≡ cap (length (begun_by (way_of roster) (roster.places - 1) c.loop-cell.cell)) = ap (λ x. x.value) c.fill-count.ensures.value ∙ begun_counts (way_of roster) (roster.places - 1) c.loop-cell.cell in
    record { small = omega arith; counted = c.loop-cell.invariant; within = omega arith }

pub loop-cell-preserved : goal.loop-cell-preserved
loop-cell-preserved c =
    let roster = c.args.self.now in
    let by = begun_by (way_of roster) (roster.places - 1) in
    let d = c.loop-cell.cell in
    let more : passed by (d + 1) ≡ passed by d + length (by d) = passed_more by d in
    let count : c.fill-count.result.value ≡ cap (length (by d)) = ap (λ x. x.value) c.fill-count.ensures.value ∙ begun_counts (way_of roster) (roster.places - 1) d in
    let before = c.loop-cell.invariant in
    omega (arith, c.if-number-count.false, c.requires)
