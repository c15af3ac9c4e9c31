use Rattle.std.proofs.Common.{rules, length, Bool, Ok, Err, sym, ap, ◌∙◌}
use Rattle.std.proofs.lemmas.Result.{err_from_is_err_and}
use Rattle.rules.specs.declared.refusal.Refusal.{Refusal}
use Rattle.rules.specs.declared.refusal.Refusal.TheVariants.{NumberNotBelowCount}
use Rattle.standing.specs.Asking.{handed_by}
use Rattle.question.proofs.Answering.{pick_promise}
use Rattle.question.proofs.Engines.{given_line}
use Rattle.question.proofs.finding.pick.Goals as goal

pub returns-in_err-pick-clause-course : goal.returns-in_err-pick-clause-course
returns-in_err-pick-clause-course g c =
    let p = err_from_is_err_and c.from_residual-in_err-pick.result c.from_residual-in_err-pick.ensures.1 in
    (pick_promise c.args.asking.now.sheet.now (handed_by g.B.Book.admits g.B.Book.allows c.args.asking.now) c.in_ok-places.places c.in_ok-places.ensures (length c.args.memory.now) (length c.args.line.now) c.args.number _ _ _ _
    (p.1 ∙ ap (λ (e : Refusal). Err e) p.2) c.in_err-pick.ensures.answer c.in_err-pick.ensures.line).3

pub returns-then-not-branch : goal.returns-then-not-branch
returns-then-not-branch g c =
    let promise =
    pick_promise c.args.asking.now.sheet.now (handed_by g.B.Book.admits g.B.Book.allows c.args.asking.now) c.in_ok-places.places c.in_ok-places.ensures (length c.args.memory.now) (length c.args.line.now) c.args.number _ _ _ _
    (ap (λ (b : Bool). given_line NumberNotBelowCount (Ok b)) (sym c.if-not-branch.true)) c.in_ok-pick.ensures.answer c.in_ok-pick.ensures.line in
    record {
      answer = promise.0;
      line = promise.1;
      law = promise.2;
      course = promise.3;
      beyond = search rules;
      refused = search rules;
    }

pub returns : goal.returns
returns g c =
    let promise =
    pick_promise c.args.asking.now.sheet.now (handed_by g.B.Book.admits g.B.Book.allows c.args.asking.now) c.in_ok-places.places c.in_ok-places.ensures (length c.args.memory.now) (length c.args.line.now) c.args.number _ _ _ _
    (ap (λ (b : Bool). given_line NumberNotBelowCount (Ok b)) (sym c.if-not-branch.false)) c.in_ok-pick.ensures.answer c.in_ok-pick.ensures.line in
    record {
      answer = promise.0;
      line = promise.1;
      law = promise.2;
      course = promise.3;
      beyond = search rules;
      refused = search rules;
    }
