use Rattle.std.proofs.Common.{refl, sym, ap, ◌∙◌}
use Rattle.rules.specs.Courses.{Count, Decide, Least, Pick, closed_at}
use Rattle.rules.proofs.Faultless.{kept_is, decide_kept, least_kept, pick_kept, count_kept, check_kept}
use Rattle.standing.specs.Asking.{handed_by}
use Rattle.course.specs.declared.call.Question.{Question}
use Rattle.course.specs.Holding.{sizes_of}
use Rattle.course.specs.Naming.{as_question}
use Rattle.course.proofs.Telling.{line_kept}
use Rattle.course.proofs.asking.ask.Goals as goal

pub returns-in-Decide-clause-kept : goal.returns-in-Decide-clause-kept
returns-in-Decide-clause-kept g c =
    let R = g.M.Measure.ring in
    let p = c.args.asking.now.sheet.now in
    let h = handed_by g.B.Book.admits g.B.Book.allows c.args.asking.now in
    let name = as_question (sizes_of c.args.memory.now c.args.line.now) c.args.room in
    let called = ap (λ (q : Question). name q h) c.in-Decide.is ∙ (λ i. Decide h (sym c.cut.ensures i) (sym c.cut-line.ensures i)) in
    line_kept R (closed_at p) _ _ c.decide-found.result _ _ c.of_line.result called c.front.ensures c.of_line.ensures
    (decide_kept R p h _ _ _ _ c.decide-found.ensures.answer c.decide-found.ensures.law)

pub returns-in-Count-clause-kept : goal.returns-in-Count-clause-kept
returns-in-Count-clause-kept g c =
    let R = g.M.Measure.ring in
    let p = c.args.asking.now.sheet.now in
    let h = handed_by g.B.Book.admits g.B.Book.allows c.args.asking.now in
    let name = as_question (sizes_of c.args.memory.now c.args.line.now) c.args.room in
    let called = ap (λ (q : Question). name q h) c.in-Count.is ∙ (λ i. Count h (sym c.cut-in-Count.ensures i)) in
    kept_is R (closed_at p) called c.into.ensures refl (count_kept R p h _ _ c.count.ensures.answer)

pub returns-in-Pick-clause-kept : goal.returns-in-Pick-clause-kept
returns-in-Pick-clause-kept g c =
    let R = g.M.Measure.ring in
    let p = c.args.asking.now.sheet.now in
    let h = handed_by g.B.Book.admits g.B.Book.allows c.args.asking.now in
    let name = as_question (sizes_of c.args.memory.now c.args.line.now) c.args.room in
    let called = ap (λ (q : Question). name q h) c.in-Pick.is ∙ (λ i. Pick h (sym c.cut-in-Pick.ensures i) (sym c.cut-line-in-Pick.ensures i) c.in-Pick.number) in
    line_kept R (closed_at p) _ _ c.pick-found.result _ _ c.of_line-in-Pick.result called c.front-in-Pick.ensures c.of_line-in-Pick.ensures
    (pick_kept R p h _ _ _ _ _ c.pick-found.ensures.answer c.pick-found.ensures.law)

pub returns-in-Least-clause-kept : goal.returns-in-Least-clause-kept
returns-in-Least-clause-kept g c =
    let R = g.M.Measure.ring in
    let p = c.args.asking.now.sheet.now in
    let h = handed_by g.B.Book.admits g.B.Book.allows c.args.asking.now in
    let name = as_question (sizes_of c.args.memory.now c.args.line.now) c.args.room in
    let called = ap (λ (q : Question). name q h) c.in-Least.is ∙ (λ i. Least h (sym c.cut-in-Least.ensures i) (sym c.cut-line-in-Least.ensures i)) in
    line_kept R (closed_at p) _ _ c.least-found.result _ _ c.of_line-in-Least.result called c.front-in-Least.ensures c.of_line-in-Least.ensures
    (least_kept R p h _ _ _ _ c.least-found.ensures.answer c.least-found.ensures.law)

pub returns-in-Check-clause-kept : goal.returns-in-Check-clause-kept
returns-in-Check-clause-kept g c =
    let R = g.M.Measure.ring in
    let p = c.args.asking.now.sheet.now in
    let h = handed_by g.B.Book.admits g.B.Book.allows c.args.asking.now in
    let name = as_question (sizes_of c.args.memory.now c.args.line.now) c.args.room in
    let called = ap (λ (q : Question). name q h) c.in-Check.is in
    kept_is R (closed_at p) called c.into-in-Check.ensures refl (check_kept R p h _ _ c.check.ensures.answer c.check.ensures.law)
