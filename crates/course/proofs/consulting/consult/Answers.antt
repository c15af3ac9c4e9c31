use Rattle.std.proofs.Common.{◌≡◌, Option, refl, ap, ◌∙◌}
use Rattle.std.proofs.lemmas.Result.{IfOk-weaker}
use Rattle.std.proofs.lemmas.Option.{slice_get_past, slice_get_read}
use Rattle.std.specs.List.{slice_get}
use Rattle.rules.specs.Courses.{Handed, Unhanded, closed_at}
use Rattle.rules.proofs.Faultless.{away_kept, kept_is}
use Rattle.rules.specs.Faults.{Kept}
use Rattle.course.specs.declared.answer.Answer.{Answer}
use Rattle.course.specs.Holding.{sizes_of, told}
use Rattle.course.specs.Naming.{as_question, asks, handing, hands}
use Rattle.course.proofs.Barred.{hands_none}
use Rattle.course.proofs.consulting.consult.Goals as goal

pub returns-in_default : goal.returns-in_default
returns-in_default g c =
    let R = g.M.Measure.ring in
    let here = closed_at c.args.sheet.now in
    let ask = as_question (sizes_of c.args.memory.now c.args.line.now) c.args.query.room c.args.question in
    let compass = slice_get c.args.choices.now.compasses.now c.args.query.compass in
    let missing = slice_get_past c.args.choices.now.books.now c.args.query.book c.in_default.ensures.lookup.3 in
    record {
      kept = kept_is R here (ap (λ (o : Option g.row.B.Denot). asks (hands g.B.Book.admits g.B.Book.allows o compass) ask) missing) refl refl (away_kept R here Unhanded refl);
      sizes = refl;
    }

pub returns-in_default-get : goal.returns-in_default-get
returns-in_default-get g c =
    let R = g.M.Measure.ring in
    let here = closed_at c.args.sheet.now in
    let ask = as_question (sizes_of c.args.memory.now c.args.line.now) c.args.query.room c.args.question in
    let book = slice_get c.args.choices.now.books.now c.args.query.book in
    let missing = slice_get_past c.args.choices.now.compasses.now c.args.query.compass c.in_default-get.ensures.lookup.3 in
    let unhanded = ap (hands g.B.Book.admits g.B.Book.allows book) missing ∙ hands_none g.B.Book.admits g.B.Book.allows book in
    record {
      kept = kept_is R here (ap (λ (h : Option Handed). asks h ask) unhanded) refl refl (away_kept R here Unhanded refl);
      sizes = refl;
    }

pub returns : goal.returns
returns g c =
    let R = g.M.Measure.ring in
    let here = closed_at c.args.sheet.now in
    let ask = as_question (sizes_of c.args.memory.now c.args.line.now) c.args.query.room c.args.question in
    let book-is = slice_get_read c.args.choices.now.books.now _ c.args.query.book c.in-Some.book.now refl c.in-Some.ensures.lookup.3.0 c.in-Some.ensures.lookup.1 in
    let compass-is = slice_get_read c.args.choices.now.compasses.now _ c.args.query.compass c.in-Some-get.compass.now refl c.in-Some-get.ensures.lookup.3.0 c.in-Some-get.ensures.lookup.1 in
    let h : Handed = record { compass = c.in-Some-get.compass.now; admits = g.B.Book.admits c.in-Some.book.now; allows = g.B.Book.allows c.in-Some.book.now } in
    let called : asks (handing g.B.Book.admits g.B.Book.allows c.args.choices.now.books.now c.args.choices.now.compasses.now c.args.query) ask ≡ ask h =
    λ i. asks (hands g.B.Book.admits g.B.Book.allows (book-is i) (compass-is i)) ask in
    record {
      kept = IfOk-weaker c.ask.result (λ (a : Answer g.row.M.Denot). Kept R here (ask h) (told a) here) (λ (a : Answer g.row.M.Denot). Kept R here (asks (handing g.B.Book.admits g.B.Book.allows c.args.choices.now.books.now c.args.choices.now.compasses.now c.args.query) ask) (told a) here) (λ a kept. kept_is R here called refl refl kept) c.ask.ensures.kept;
      sizes = c.ask.ensures.sizes;
    }
