use Rattle.std.proofs.Common.{◌≡◌, ◌+◌, List, map, take, vec_items, sym, ap, ◌∙◌, subst}
use Rattle.std.proofs.lemmas.List.{map_push, take_all, take_more}
use Rattle.rules.specs.Courses.{Blank, then_all, reached}
use Rattle.rules.specs.Faults.{Told, Faultless}
use Rattle.course.specs.declared.call.Call.{Call}
use Rattle.course.specs.Holding.{told, sizes_of}
use Rattle.course.specs.Naming.{Sizes, as_call, handing}
use Rattle.course.proofs.Runs.{played_more}
use Rattle.course.proofs.running.run.Goals as goal

pub loop-call-preserved : goal.loop-call-preserved
loop-call-preserved g c =
    let R = g.M.Measure.ring in
    let hand = handing g.B.Book.admits g.B.Book.allows c.args.choices.now.books.now c.args.choices.now.compasses.now in
    let name = as_call hand (sizes_of c.args.memory.now c.args.line.now) in
    let calls = c.args.calls.now in
    let i = c.loop-call.call-index in
    let answers = vec_items c.loop-call.answers in
    let step = c.in_ok-step.step in
    let lent = c.loop-call.invariant.2 in
    let same : (x : Call) → name x ≡ as_call hand (sizes_of c.loop-call.memory c.loop-call.line) x =
    λ x. ap (λ (s : Sizes). as_call hand s x) (sym lent) in
    let more = played_more R name (as_call hand (sizes_of c.loop-call.memory c.loop-call.line)) same calls i _ (map told answers) (told step.answer) _ _ (take_more calls i _ c.loop-call-test.true) c.loop-call.invariant.0 c.loop-call.invariant.1 c.in_ok-step.ensures.kept in
    let told_is = ap (map told) c.in_ok-push.ensures.items ∙ map_push told answers step.answer in (
      subst (λ (ts : List (Told g.row.M.Denot)). Faultless R Blank (map name (take (i + 1) calls)) ts) (sym told_is) more.0,
      more.1,
      c.in_ok-step.ensures.sizes ∙ lent,
    )

pub returns : goal.returns
returns g c =
    let name = as_call (handing g.B.Book.admits g.B.Book.allows c.args.choices.now.books.now c.args.choices.now.compasses.now) (sizes_of c.args.memory.now c.args.line.now) in
    let all = take_all c.loop-call.call-index c.args.calls.now c.loop-call-test.false in
    record {
      faultless = subst (λ (cs : List Call). Faultless g.M.Measure.ring Blank (map name cs) (map told (vec_items c.loop-call.answers))) all c.loop-call.invariant.0;
      sheet = c.loop-call.invariant.1 ∙ ap (λ (cs : List Call). reached (then_all Blank (map name cs))) all;
      sizes = c.loop-call.invariant.2;
    }
