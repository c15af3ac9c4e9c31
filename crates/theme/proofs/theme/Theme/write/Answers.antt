use Rattle.std.proofs.Common.{ℕ, List, ◌++◌, length, take, drop, sym, ap, ◌∙◌, arith}
use Rattle.std.proofs.lemmas.Bool.Decides.{nat_tests}
use Rattle.theme.specs.Themes.{PlainTheme, blank_or_lawful}
use Rattle.theme.specs.Pages.{head_of, rows_of, page_length}
use Rattle.theme.proofs.Pages.{reads_back}
use Rattle.theme.proofs.Written.{put_page, held_lawful}
use Rattle.theme.proofs.theme.Theme.write.Goals as goal

pub returns-clause-written : goal.returns-clause-written
returns-clause-written c =
    let same = c.self.view_is in
    let bar = ap (λ (t : PlainTheme). t.bar) same in
    let rows = c.deref.ensures.value ∙ ap (λ (t : PlainTheme). t.places) same in
    let many = c.len-count.ensures.value in
    let headed : List ℕ = c.copy_from_slice.new.self ++ drop 9 c.args.out.now in
    put_page c.args.self.now c.args.out.now headed c.put_rows.new.out
    (ap (λ (bytes : List ℕ). bytes ++ drop 9 c.args.out.now) (c.copy_from_slice.ensures.after ∙ c.head.ensures ∙ (λ i. head_of (many i) (bar i))))
    (c.put_rows.ensures ∙ (λ i. take 9 headed ++ rows_of 0 (rows i) ++ drop (page_length (length (rows i))) headed))

pub returns-clause-again : goal.returns-clause-again
returns-clause-again c =
    let well = ap (λ (t : PlainTheme). blank_or_lawful t.places t.bar) (sym c.self.view_is) ∙ c.self.invariant.1 in
    λ _. reads_back c.args.self.now (held_lawful c.args.self.now.places c.args.self.now.bar well (grind (arith, nat_tests)))
