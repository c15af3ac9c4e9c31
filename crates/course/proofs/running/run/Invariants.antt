use Rattle.std.proofs.Common.{◌≡◌, map, take, vec_items}
use Rattle.rules.specs.Courses.{Blank, then_all, reached}
use Rattle.rules.specs.Faults.{Faultless}
use Rattle.course.specs.Holding.{reached_by, told, sizes_of}
use Rattle.course.specs.Naming.{as_call, handing}
use Rattle.course.proofs.running.run.Given as goal

-- the calls played so far, their answers, the sheet, and what is there to be lent
abbrev pub invariant-loop-call : goal.invariant-loop-call
invariant-loop-call g l =
    Faultless g.M.Measure.ring Blank (map (as_call (handing g.B.Book.admits g.B.Book.allows l.choices.books.now l.choices.compasses.now) (sizes_of l.initial.memory l.initial.line)) (take l.call-index l.calls)) (map told (vec_items l.answers))
    × (reached_by l.state ≡ reached (then_all Blank (map (as_call (handing g.B.Book.admits g.B.Book.allows l.choices.books.now l.choices.compasses.now) (sizes_of l.initial.memory l.initial.line)) (take l.call-index l.calls))))
    × (sizes_of l.memory l.line ≡ sizes_of l.initial.memory l.initial.line)
