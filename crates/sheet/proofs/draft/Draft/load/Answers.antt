use Rattle.std.proofs.Common.{◌≡◌, List, [], ◌∷◌, ◌++◌, length, replicate, vec_items, None, ap, ◌∙◌, arith}
use Rattle.std.proofs.lemmas.Result.{err_from_is_err_and}
use Rattle.std.proofs.lemmas.Grind.{common_steps}
use Rattle.theme.specs.Themes.{PlainTheme}
use Rattle.theme.specs.Pages.{refusal_of, theme_in}
use Rattle.rules.specs.declared.combination.Combination.{Combination}
use Rattle.rules.specs.Plain.{original, loaded}
use Rattle.rules.specs.Faults.{unweighed}
use Rattle.rules.proofs.Faultless.{load_kept}
use Rattle.sheet.specs.Held.{plain_of}
use Rattle.sheet.proofs.Refused.{refused_answers, refused_holds, accepted_answers, accepted_holds, answer_refused, answer_accepted}
use Rattle.sheet.proofs.draft.Draft.load.Goals as goal

pub returns-in_err-read : goal.returns-in_err-read
returns-in_err-read c =
    let p = err_from_is_err_and c.from_residual.result c.from_residual.ensures.1 in
    let read = c.in_err-read.ensures in
    let no = answer_refused (refusal_of c.args.page.now) _ read.answer in
    let after = loaded c.args.page.now in
    let answered = refused_answers _ after c.args.self.now _ no in
    let holds =
    (λ i. plain_of (record { theme = read.held i; list = c.self.inside.list; fixings = c.self.inside.fixings }))
    ∙ c.self.view_is ∙ refused_holds _ after c.args.self.now _ no in
    rw (p.1, p.2) (record { answer = answered; held = holds; course = load_kept unweighed c.args.self.now c.args.page.now _ _ answered holds })

pub returns : goal.returns
returns c =
    let read = c.in_ok-read.ensures in
    let none = answer_accepted (refusal_of c.args.page.now) read.answer in
    let after = loaded c.args.page.now in
    let list : vec_items c.push_reserved.new.self ≡ original ∷ [] =
    c.push_reserved.ensures.items ∙ ap (λ (xs : List Combination). xs ++ original ∷ []) c.clear.ensures.items in
    let many : c.len.result ≡ length (theme_in c.args.page.now).places =
    c.len.ensures.value ∙ ap (λ (th : PlainTheme). length th.places) read.held in
    let fixings : vec_items c.resize.new.self ≡ replicate c.len.result None =
    grind (arith, common_steps, c.resize.ensures.items, c.unwrap.ensures, c.clear-2.ensures.items, c.clear-2.ensures.len) in
    let answered = accepted_answers _ after c.args.self.now none in
    let holds =
    (λ i. record { theme = read.held i; list = list i; fixings = (fixings ∙ (λ j. replicate (many j) None)) i })
    ∙ accepted_holds _ after c.args.self.now none in
    record { answer = answered; held = holds; course = load_kept unweighed c.args.self.now c.args.page.now _ _ answered holds }
