use Rattle.standing.specs.Asking.{asked_by}
use Rattle.standing.proofs.Looking.{Undenied}
use Rattle.standing.proofs.checking.Judged.check_agreed.Given as goal

abbrev pub invariant-loop-number : goal.invariant-loop-number
invariant-loop-number g l = Undenied (asked_by g.B.Book.admits g.B.Book.allows l.self.asking.now) l.self.line.now l.combinations l.number
