use Rattle.std.proofs.Common.{◌≡◌, Bool, false, refl, ap, ◌∙◌, ⊎_elim}
use Rattle.rules.specs.Courses.{draft_at, lets}
use Rattle.course.specs.declared.call.Call.{Call}
use Rattle.rules.proofs.Faultless.{away_kept, kept_is, load_kept, add_kept, drop_kept, fix_kept, free_kept, close_kept}
use Rattle.course.specs.Holding.{told}
use Rattle.course.specs.Naming.{as_call}
use Rattle.course.proofs.Barred.{ask_barred}
use Rattle.course.proofs.changing.change.Goals.{in-Load, in-Add, in-Drop, in-Fix, in-Free, in-Reopen}
use Rattle.course.proofs.changing.change.Goals as goal

pub returns-in-Close : goal.returns-in-Close
returns-in-Close g c hand s =
    kept_is g.M.Measure.ring _ (ap (as_call hand s) c.in-Close.is) refl refl (close_kept g.M.Measure.ring _ _ c.close.ensures.held)

pub returns : goal.returns
returns g c hand s =
    let R = g.M.Measure.ring in
    let sheet = c.args.draft in
    let here = draft_at sheet in
    let barred : Call → Bool = λ call. lets false (as_call hand s call) in
    elim c.match-call.branch [
      | in-Load w ↦ kept_is R here (ap (as_call hand s) w.in-Load.is) (ap told w.answer-is ∙ w.into-answer.ensures) (ap draft_at w.draft-is) (load_kept R _ _ _ _ w.load.ensures.answer w.load.ensures.held)
      | in-Add w ↦ kept_is R here (ap (as_call hand s) w.in-Add.is) (ap told w.answer-is ∙ w.into-answer-in-Add.ensures) (ap draft_at w.draft-is) (add_kept R sheet _ _ _ _ w.add.ensures.answer w.add.ensures.held)
      | in-Drop w ↦ kept_is R here (ap (as_call hand s) w.in-Drop.is) (ap told w.answer-is ∙ w.into-answer-in-Drop.ensures) (ap draft_at w.draft-is) (drop_kept R sheet _ _ _ _ w.drop.ensures.answer w.drop.ensures.held)
      | in-Fix w ↦ kept_is R here (ap (as_call hand s) w.in-Fix.is) (ap told w.answer-is ∙ w.into-answer-in-Fix.ensures) (ap draft_at w.draft-is) (fix_kept R _ _ _ _ _ w.fix.ensures.answer w.fix.ensures.held)
      | in-Free w ↦ kept_is R here (ap (as_call hand s) w.in-Free.is) (ap told w.answer-is ∙ w.into-answer-in-Free.ensures) (ap draft_at w.draft-is) (free_kept R _ _ _ _ w.free.ensures.answer w.free.ensures.held)
      | in-Reopen w ↦
          let away : barred c.args.call ≡ false =
          ⊎_elim (λ e. ap barred e) (λ e. ap barred e.2 ∙ ask_barred (hand _) s _ _) w.in-Reopen.is in
          kept_is R here refl (ap told w.answer-is) (ap draft_at w.draft-is) (away_kept R here (as_call hand s c.args.call) away)
    ]
