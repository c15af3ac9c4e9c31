use Rattle.std.proofs.Common.{◌≡◌, Bool, true, false, refl, ap, ◌∙◌, ⊎_elim}
use Rattle.rules.proofs.Faultless.{away_kept, kept_is, reopen_kept}
use Rattle.rules.specs.Courses.{Call as Rules-call, lets, closed_at}
use Rattle.course.specs.declared.call.Call.{Call}
use Rattle.course.specs.Holding.{sizes_of, told}
use Rattle.course.specs.Naming.{as_call, handing}
use Rattle.course.proofs.consulting.question.Goals.{in-Ask+in_ok-answer-in-Ask, in-Load}
use Rattle.course.proofs.consulting.question.Goals as goal

pub returns-in-Reopen : goal.returns-in-Reopen
returns-in-Reopen g c =
    let R = g.M.Measure.ring in
    let name = as_call (handing g.B.Book.admits g.B.Book.allows c.args.choices.now.books.now c.args.choices.now.compasses.now) (sizes_of c.args.memory.now c.args.line.now) in
    record {
      kept = kept_is R _ (ap name c.in-Reopen.is) refl refl (reopen_kept R _ _ c.reopen.ensures.held);
      sizes = refl;
    }

pub returns : goal.returns
returns g c =
    let R = g.M.Measure.ring in
    let here = closed_at c.args.sheet in
    let name : Call → Rules-call =
    as_call (handing g.B.Book.admits g.B.Book.allows c.args.choices.now.books.now c.args.choices.now.compasses.now) (sizes_of c.args.memory.now c.args.line.now) in
    let barred : Call → Bool = λ call. lets true (name call) in
    elim c.match-call.branch [
      | in-Ask+in_ok-answer-in-Ask w ↦
          record {
            kept = kept_is R here (ap name w.in-Ask.is) (ap told w.answer-is) refl w.in_ok-answer-in-Ask.ensures.kept;
            sizes = (λ i. sizes_of (w.memory-is i) (w.line-is i)) ∙ w.in_ok-answer-in-Ask.ensures.sizes;
          }
      | in-Load w ↦
          let away : barred c.args.call ≡ false =
          ⊎_elim (λ e. ap barred e.1) (⊎_elim (λ e. ap barred e.1) (⊎_elim (λ e. ap barred e.1) (⊎_elim (λ e. ap barred e.2) (⊎_elim (λ e. ap barred e.1) (λ e. ap barred e))))) w.in-Load.is in
          record {
            kept = kept_is R here refl (ap told w.answer-is) refl (away_kept R here (name c.args.call) away);
            sizes = λ i. sizes_of (w.memory-is i) (w.line-is i);
          }
    ]
