use Rattle.standing.proofs.Agreeing.{next_in_range}
use Rattle.standing.proofs.Looking.{refused_here, undenied_more, undenied_all}
use Rattle.standing.proofs.checking.Judged.check_agreed.Goals as goal

pub invariant_of-meeting : goal.invariant_of-meeting
invariant_of-meeting g c =
    let in_range = next_in_range _ _ _ c.loop-number.invariant.in_range c.loop-number-test.true in
    record { shifted = in_range.1; entered = in_range.0 }

pub returns-in-Some : goal.returns-in-Some
returns-in-Some g c =
    refused_here c.loop-number.invariant c.loop-number-test.true c.combinations-combinations.ensures.value c.in-Some.place c.in-Some.ensures

pub loop-number-preserved : goal.loop-number-preserved
loop-number-preserved g c =
    undenied_more c.loop-number.invariant c.loop-number-test.true c.in_default.ensures

pub returns : goal.returns
returns g c = undenied_all c.loop-number.invariant c.loop-number-test.false c.combinations-combinations.ensures.value
