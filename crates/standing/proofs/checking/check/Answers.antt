use Rattle.std.proofs.Common.{Some, None, sym, ◌∙◌}
use Rattle.std.proofs.lemmas.Result.{err_from_is_err_and}
use Rattle.rules.specs.Courses.{asked_of}
use Rattle.rules.specs.Faults.{unweighed}
use Rattle.rules.proofs.Faultless.{check_kept}
use Rattle.standing.specs.Asking.{handed_by}
use Rattle.standing.proofs.Checks.{check_means, check_stops, check_counts, check_looks}
use Rattle.standing.proofs.checking.check.Goals as goal

pub returns-in_err-places : goal.returns-in_err-places
returns-in_err-places g c =
    let p = err_from_is_err_and c.from_residual.result c.from_residual.ensures.1 in
    let h = handed_by g.B.Book.admits g.B.Book.allows c.args.asking.now in
    let a = asked_of c.args.asking.now.sheet.now h in
    let told = check_stops a c.args.line.now _ c.in_err-places.ensures in
    let means = check_means a c.args.line.now _ told in
    rw (p.1, p.2) (record { answer = told; law = means; course = check_kept unweighed c.args.asking.now.sheet.now h _ c.args.line.now told means })

pub returns-in-Some : goal.returns-in-Some
returns-in-Some g c =
    let h = handed_by g.B.Book.admits g.B.Book.allows c.args.asking.now in
    let a = asked_of c.args.asking.now.sheet.now h in
    let known = c.in_ok-places.ensures in
    let told = check_looks a c.args.line.now known.0 (c.if-line-places.false ∙ known.1) (Some c.in-Some.place) c.in-Some.ensures in
    let means = check_means a c.args.line.now _ told in
    record { answer = told; law = means; course = check_kept unweighed c.args.asking.now.sheet.now h _ c.args.line.now told means }

pub returns : goal.returns
returns g c =
    let h = handed_by g.B.Book.admits g.B.Book.allows c.args.asking.now in
    let a = asked_of c.args.asking.now.sheet.now h in
    let known = c.in_ok-places.ensures in
    let told = c.check_places.ensures ∙ check_looks a c.args.line.now known.0 (c.if-line-places.false ∙ known.1) None c.in_default.ensures in
    let means = check_means a c.args.line.now _ told in
    record { answer = told; law = means; course = check_kept unweighed c.args.asking.now.sheet.now h _ c.args.line.now told means }

pub returns-then-line-places : goal.returns-then-line-places
returns-then-line-places g c =
    let h = handed_by g.B.Book.admits g.B.Book.allows c.args.asking.now in
    let a = asked_of c.args.asking.now.sheet.now h in
    let known = c.in_ok-places.ensures in
    let told = check_counts a c.args.line.now known.0 (λ same. c.if-line-places.true (same ∙ sym known.1)) in
    let means = check_means a c.args.line.now _ told in
    record { answer = told; law = means; course = check_kept unweighed c.args.asking.now.sheet.now h _ c.args.line.now told means }
