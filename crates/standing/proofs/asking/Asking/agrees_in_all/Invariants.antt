use Rattle.rules.specs.Plain.{places_of}
use Rattle.standing.specs.Asking.{asked_by}
use Rattle.rules.specs.Standing.{agrees}
use Rattle.standing.proofs.Agreeing.{Walked}
use Rattle.standing.proofs.asking.Asking.agrees_in_all.Given as goal

abbrev pub invariant-loop-combination : goal.invariant-loop-combination
invariant-loop-combination g l =
    Walked (agrees (asked_by g.B.Book.admits g.B.Book.allows l.self) l.place l.cell l.next) (places_of l.self.sheet.now) l.combinations l.combination-index
