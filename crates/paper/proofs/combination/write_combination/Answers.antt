use Rattle.std.proofs.Common.{◌≡◌, ℕ, ◌+◌, ◌*◌, ◌<◌, List, ◌++◌, length, get_or, take, drop, Ok, Option, sym, ap, ◌∙◌, arith}
use Rattle.std.proofs.lemmas.Result.{err_from_is_err_and}
use Rattle.theme.specs.Refusals.{answer}
use Rattle.theme.specs.Themes.{PlainTheme}
use Rattle.theme.specs.Pages.{fronted}
use Rattle.rules.specs.declared.combination.Combination.{Combination}
use Rattle.rules.specs.declared.refusal.Refusal.{Refusal}
use Rattle.rules.specs.Plain.{places_of, original}
use Rattle.sheet.proofs.Refused.{refused_holds, accepted_holds, answer_refused, answer_accepted}
use Rattle.paper.specs.Written.{combination_head, combination_rows, combination_page, combination_length, numbered}
use Rattle.paper.proofs.Answered.{writing_stops, writing_accepted, line_fits, numbered_in_range}
use Rattle.paper.proofs.Rows.{page_long, put_whole}
use Rattle.paper.proofs.combination.write_combination.Goals as goal

pub returns-in_err-check_line : goal.returns-in_err-check_line
returns-in_err-check_line c =
    let r = err_from_is_err_and c.from_residual.result c.from_residual.ensures.1 in
    let p = c.args.sheet.now in
    let out = c.args.out.now in
    let all = writing_stops p c.args.line.now c.args.number (length out) _ (answer_refused _ _ c.in_err-check_line.ensures) in
    rw (r.1, r.2) (record {
      answer = sym (ap (λ (o : Option Refusal). answer (combination_length (places_of p)) o) all);
      written = refused_holds _ (fronted (combination_page p c.args.line.now c.args.number) out) out _ all;
      long = tt;
      within = tt;
    })

pub head-requires : goal.head-requires
head-requires c =
    let below : c.args.number < length c.combinations-list.result.now = omega arith in
    let fits = numbered_in_range (places_of c.args.sheet.now) c.args.number c.combinations-list.result.now original c.combinations-list.ensures.in_range below in
    let many : c.len.result ≡ places_of c.args.sheet.now = c.len.ensures.value ∙ ap (λ (t : PlainTheme). length t.places) c.theme-theme.ensures in
    (omega (arith, c.combinations-list.ensures.few), omega (arith, fits.1, many, c.len.ensures.few))

pub put_rows-requires : goal.put_rows-requires
put_rows-requires c =
    let p = c.args.sheet.now in
    let below : c.args.number < length c.combinations-list.result.now = omega arith in
    let fits = numbered_in_range (places_of p) c.args.number c.combinations-list.result.now original c.combinations-list.ensures.in_range below in
    let many : c.len.result ≡ places_of p = c.len.ensures.value ∙ ap (λ (t : PlainTheme). length t.places) c.theme-theme.ensures in
    let line = line_fits p c.args.line.now (answer_accepted _ c.in_ok-check_line.ensures) in (
      omega (arith, line.1, many, c.len.ensures.few),
      (omega (arith, line.0, many, c.len.ensures.value), (fits.0, (omega (arith, fits.1, many, c.len.ensures.few), omega (arith, line.1, many)))),
    )

pub returns : goal.returns
returns c =
    let p = c.args.sheet.now in
    let line : List ℕ = c.args.line.now in
    let number : ℕ = c.args.number in
    let out : List ℕ = c.args.out.now in
    let headed : List ℕ = c.copy_from_slice.new.self ++ drop 13 out in
    let none = answer_accepted _ c.in_ok-check_line.ensures in
    let fits = line_fits p line none in
    let list = c.combinations-list.ensures.value in
    let theme = c.theme-theme.ensures in
    let many : c.len.result ≡ places_of p = c.len.ensures.value ∙ ap (λ (t : PlainTheme). length t.places) theme in
    let below : number < length p.list = omega (arith, ap length list) in
    let all = writing_accepted p line number (length out) none below (omega (arith, many)) in
    let head : c.head.result ≡ combination_head number (numbered p number) = c.head.ensures ∙ ap (λ (l : List Combination). combination_head number (get_or l number original)) list in
    record {
      answer = (λ i. Ok (13 + 17 * many i)) ∙ sym (ap (λ (o : Option Refusal). answer (combination_length (places_of p)) o) all);
      written =
          put_whole p line number out headed c.put_rows.new.out
          (ap (λ (bytes : List ℕ). bytes ++ drop 13 out) (c.copy_from_slice.ensures.after ∙ head))
          (c.put_rows.ensures ∙ (λ i. take 13 headed ++ combination_rows (theme i).places (get_or (list i) number original) 0 line ++ drop (combination_length (length line)) headed))
          ∙ accepted_holds _ (fronted (combination_page p line number) out) out all;
      long = (λ i. combination_length (many i)) ∙ sym (page_long p line number ∙ ap combination_length fits.1);
      within = omega arith;
    }
