use Rattle.std.proofs.Common.{length, ap, ◌∙◌}
use Rattle.std.proofs.lemmas.Result.{err_from_is_err_and}
use Rattle.std.proofs.lemmas.Bool.{true≢false}
use Rattle.measure.specs.declared.number.Number.{Number}
use Rattle.rules.specs.Faults.{unweighed}
use Rattle.rules.proofs.Faultless.{count_kept}
use Rattle.rules.specs.Questions.{places_asked}
use Rattle.rules.specs.Standing.{standing_lines}
use Rattle.standing.specs.Asking.{asked_by, handed_by}
use Rattle.question.proofs.Laws.{listed_exactly}
use Rattle.question.proofs.Measured.{weighed_number}
use Rattle.question.proofs.Stopping.{accepted_is, stopped_is, told_no, told_value}
use Rattle.question.proofs.weighing.count.Goals as goal

pub returns-in_err-number : goal.returns-in_err-number
returns-in_err-number g c =
    let p = err_from_is_err_and c.from_residual.result c.from_residual.ensures.1 in
    let h = handed_by g.B.Book.admits g.B.Book.allows c.args.asking.now in
    let weighed = c.in_err-number.ensures in
    let answer-is = stopped_is _ _ _ (told_no _ _ _ weighed.answer) in
    rw (p.1, p.2)
    (record {
      answer = answer-is;
      course = count_kept unweighed c.args.asking.now.sheet.now h (length c.args.memory.now) _ answer-is;
      law = listed_exactly _;
      beyond = weighed.beyond;
      refused = weighed.refused;
    })

pub returns : goal.returns
returns g c =
    let h = handed_by g.B.Book.admits g.B.Book.allows c.args.asking.now in
    let a = asked_by g.B.Book.admits g.B.Book.allows c.args.asking.now in
    let weighed = c.in_ok-number.ensures in
    let known = told_value _ _ _ weighed.answer in
    let answer-is = accepted_is _ _ _ (ap (λ (x : Number). x.value) known.1 ∙ weighed_number (places_asked a) (standing_lines a)) known.0 in
    record {
      answer = answer-is;
      course = count_kept unweighed a.sheet h (length c.args.memory.now) _ answer-is;
      law = listed_exactly a;
      beyond = weighed.beyond;
      refused = λ never. absurd (true≢false never);
    }
