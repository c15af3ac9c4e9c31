use Rattle.std.proofs.Common.{vec_items, ap, ◌∙◌}
use Rattle.script.proofs.Making.{all_made, made_more, made_no_more}
use Rattle.script.proofs.gathering.Script.calls.Goals.{in-Ok+in_ok-push, in_default}
use Rattle.script.proofs.gathering.Script.calls.Goals as goal

pub loop-row-preserved : goal.loop-row-preserved
loop-row-preserved c =
    elim c.match-row.branch [
      | in-Ok+in_ok-push w ↦ made_more _ _ _ _ _ c.loop-row-test.true c.row-item.is c.loop-row.invariant w.in-Ok.step w.call.result w.in-Ok.is w.call.ensures (ap vec_items w.calls-is ∙ w.in_ok-push.ensures.items)
      | in_default w ↦ made_no_more _ _ _ _ _ c.loop-row-test.true c.row-item.is c.loop-row.invariant w.in_default.field-0 w.in_default.is (ap vec_items w.calls-is)
    ]

pub returns : goal.returns
returns c = all_made _ _ _ _ c.deref-row-items.ensures.value c.loop-row-test.false c.loop-row.invariant
