use Rattle.std.proofs.Common.{length, Bool, Ok, sym, ap, ◌∙◌}
use Rattle.rules.specs.declared.refusal.Refusal.TheVariants.{NoLineStands}
use Rattle.standing.specs.Asking.{asked_by}
use Rattle.question.proofs.Engines.{best_given, best_written, given_line}
use Rattle.question.proofs.finding.find_first.Goals as goal

pub returns-then-not-branch-clause-answer : goal.returns-then-not-branch-clause-answer
returns-then-not-branch-clause-answer g c =
    ap (λ (b : Bool). given_line NoLineStands (Ok b)) (sym c.if-not-branch.true)
    ∙ best_given (asked_by g.B.Book.admits g.B.Book.allows c.args.asking.now) c.in_ok-cells.cells c.in_ok-cells.ensures (length c.args.memory.now) (length c.args.line.now) g.M.Measure.ring g.M.Choosing.picks _ c.in_ok-first.ensures.answer

pub returns-then-not-branch-clause-line : goal.returns-then-not-branch-clause-line
returns-then-not-branch-clause-line g c =
    best_written (asked_by g.B.Book.admits g.B.Book.allows c.args.asking.now) c.in_ok-cells.cells c.in_ok-cells.ensures (length c.args.memory.now) (length c.args.line.now) g.M.Measure.ring g.M.Choosing.picks _ _ c.in_ok-first.ensures.line

pub returns-clause-answer : goal.returns-clause-answer
returns-clause-answer g c =
    ap (λ (b : Bool). given_line NoLineStands (Ok b)) (sym c.if-not-branch.false)
    ∙ best_given (asked_by g.B.Book.admits g.B.Book.allows c.args.asking.now) c.in_ok-cells.cells c.in_ok-cells.ensures (length c.args.memory.now) (length c.args.line.now) g.M.Measure.ring g.M.Choosing.picks _ c.in_ok-first.ensures.answer

pub returns-clause-line : goal.returns-clause-line
returns-clause-line g c =
    best_written (asked_by g.B.Book.admits g.B.Book.allows c.args.asking.now) c.in_ok-cells.cells c.in_ok-cells.ensures (length c.args.memory.now) (length c.args.line.now) g.M.Measure.ring g.M.Choosing.picks _ _ c.in_ok-first.ensures.line
