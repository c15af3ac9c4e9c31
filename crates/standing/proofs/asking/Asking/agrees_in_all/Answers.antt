use Rattle.std.proofs.Common.{sym, ◌∙◌}
use Rattle.standing.proofs.Agreeing.{next_in_range, walked_no, walked_more, walked_all}
use Rattle.standing.proofs.asking.Asking.agrees_in_all.Goals as goal

pub invariant_of-meeting : goal.invariant_of-meeting
invariant_of-meeting g c =
    let in_range = next_in_range _ _ _ c.loop-combination.invariant.in_range c.loop-combination-test.true in
    record { shifted = in_range.1; entered = in_range.0 }

pub returns-then-not-pleases : goal.returns-then-not-pleases
returns-then-not-pleases g c =
    walked_no c.loop-combination.invariant c.loop-combination-test.true (sym c.pleases.ensures ∙ c.if-not-pleases.true) c.combinations-combinations.ensures.value

pub loop-combination-preserved : goal.loop-combination-preserved
loop-combination-preserved g c =
    walked_more c.loop-combination.invariant c.loop-combination-test.true (sym c.pleases.ensures ∙ c.if-not-pleases.false)

pub returns : goal.returns
returns g c =
    walked_all c.loop-combination.invariant c.loop-combination-test.false c.combinations-combinations.ensures.value
