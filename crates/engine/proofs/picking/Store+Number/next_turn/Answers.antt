use Rattle.std.proofs.Common.{◌≡◌, ◌+◌, ◌-◌, length, sym, ap, ◌∙◌, arith}
use Rattle.measure.specs.Numbers.{cap}
use Rattle.engine.specs.Tails.{by_cell, passed, tails}
use Rattle.engine.specs.Ways.{way_of}
use Rattle.engine.proofs.Numberings.{length_open, length_shut, passed_more, rest_counts}
use Rattle.engine.proofs.picking.Store+Number.next_turn.Goals as goal
use Rattle.engine.proofs.picking.Store+Number.next_turn.Goals.{else-may, then-may+else-number-count}

pub returns-then-number-count : goal.returns-then-number-count
returns-then-number-count c =
    let roster = c.args.self.now.roster.now in
    let way = way_of roster in
    let j = roster.places - 1 - (c.args.place + 1) in
    let d = c.loop-cell.cell in
    let count : c.get-count.result.value ≡ cap (length (tails way c.args.self.now.goal j (c.args.place + 1) d)) = ap (λ x. x.value) c.get-count.ensures ∙ rest_counts way c.args.self.now.goal j (c.args.place + 1) d in
    let opened = length_open way c.args.self.now.goal j c.args.place c.args.turn.cell d (sym c.may.ensures ∙ c.if-may.true) in
    record { small = omega arith; counted = c.loop-cell.invariant; within = omega arith }

pub loop-cell-preserved : goal.loop-cell-preserved
loop-cell-preserved c =
    let roster = c.args.self.now.roster.now in
    let way = way_of roster in
    let goal = c.args.self.now.goal in
    let j = roster.places - 1 - (c.args.place + 1) in
    let d = c.loop-cell.cell in
    let by = by_cell way goal j c.args.place c.args.turn.cell in
    let more : passed by (d + 1) ≡ passed by d + length (by d) = passed_more by d in
    let inv = c.loop-cell.invariant in
    elim c.if-may.branch [
      | then-may+else-number-count w ↦
          let count : w.get-count.result.value ≡ cap (length (tails way goal j (c.args.place + 1) d)) = ap (λ x. x.value) w.get-count.ensures ∙ rest_counts way goal j (c.args.place + 1) d in
          let opened : length (by d) ≡ length (tails way goal j (c.args.place + 1) d) = length_open way goal j c.args.place c.args.turn.cell d (sym c.may.ensures ∙ w.if-may.true) in
          omega (arith, w.number-is, w.if-number-count.false)
      | else-may w ↦
          let shut : length (by d) ≡ 0 = length_shut way goal j c.args.place c.args.turn.cell d (sym c.may.ensures ∙ w.if-may.false) in
          omega (arith, w.number-is)
    ]

pub returns : goal.returns
returns c =
    let roster = c.args.self.now.roster.now in
    let by = by_cell (way_of roster) c.args.self.now.goal (roster.places - 1 - (c.args.place + 1)) c.args.place c.args.turn.cell in
    let last : c.loop-cell.cell ≡ 48 = omega arith in
    let all = ap (passed by) last in
    omega arith
