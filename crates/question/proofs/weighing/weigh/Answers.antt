use Rattle.std.proofs.Common.{rules, length}
use Rattle.rules.proofs.Faultless.{weigh_kept}
use Rattle.standing.specs.Asking.{asked_by, handed_by}
use Rattle.question.proofs.Engines.{weight_given}
use Rattle.question.proofs.Laws.{listed_exactly}
use Rattle.question.proofs.weighing.weigh.Goals as goal

pub returns-in_err-places-clause-law : goal.returns-in_err-places-clause-law
returns-in_err-places-clause-law g c = listed_exactly _

pub returns-in_err-weigh-clause-law : goal.returns-in_err-weigh-clause-law
returns-in_err-weigh-clause-law g c = listed_exactly _

pub returns-in_err-weigh-clause-course : goal.returns-in_err-weigh-clause-course
returns-in_err-weigh-clause-course g c =
    weigh_kept g.M.Measure.ring c.args.asking.now.sheet.now (handed_by g.B.Book.admits g.B.Book.allows c.args.asking.now) (length c.args.memory.now) _ (search rules)

pub returns-clause-answer : goal.returns-clause-answer
returns-clause-answer g c =
    weight_given (asked_by g.B.Book.admits g.B.Book.allows c.args.asking.now) c.in_ok-places.places c.in_ok-places.ensures (length c.args.memory.now) g.M.Measure.ring _ c.in_ok-weigh.ensures.answer

pub returns-clause-law : goal.returns-clause-law
returns-clause-law g c = listed_exactly _

pub returns-clause-course : goal.returns-clause-course
returns-clause-course g c =
    weigh_kept g.M.Measure.ring c.args.asking.now.sheet.now (handed_by g.B.Book.admits g.B.Book.allows c.args.asking.now) (length c.args.memory.now) _
    (returns-clause-answer g c)
