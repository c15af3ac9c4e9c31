use Rattle.std.proofs.Common.{◌≡◌, ℕ, ◌+◌, ◌*◌, List, get_or, sym, ap, ◌∙◌, arith}
use Rattle.std.proofs.lemmas.Slice.Eq.{slice_eq-Decides}
use Rattle.std.proofs.lemmas.Bool.Decides.{Decides-eqb}
use Rattle.theme.specs.Fields.{worth}
use Rattle.theme.proofs.Shown.{four_of, four_taken, number_shown}
use Rattle.theme.proofs.field.read_field.Goals as goal

-- the columns of the number are the four bytes
pub returns-then-eq : goal.returns-then-eq
returns-then-eq c =
    let k = c.in-Some.ensures.cases in
    let four : c.in-Some.field.now ≡ four_of c.args.text.now = k.0 ∙ four_taken c.args.text.now (omega (arith, k.2)) in
    let byte = λ (j : ℕ). ap (λ (xs : List ℕ). worth (get_or xs j 0)) four in
    let a = c.worth.ensures ∙ byte 0 in
    let b = c.worth-2.ensures ∙ byte 1 in
    let d = c.worth-3.ensures ∙ byte 2 in
    let e = c.worth-4.ensures ∙ byte 3 in
    let same = (slice_eq-Decides Decides-eqb _ _ _ c.eq.ensures).0 c.if-eq.true in (
      number_shown c.args.text.now _ (λ i. 1000 * a i + 100 * b i + 10 * d i + e i) (sym four ∙ sym same ∙ c.columns.ensures),
      k.1,
    )
