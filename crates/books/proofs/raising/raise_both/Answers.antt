use Rattle.std.proofs.Common.{ℤ, ap, arith}
use Rattle.std.proofs.lemmas.Int.{ints}
use Rattle.counterpoint.specs.declared.moments.Moment.{Moment}
use Rattle.books.proofs.raising.raise_both.Goals as goal

-- the two moments are one but for the order in which the interval is added up
pub returns-clause-second : goal.returns-clause-second
returns-clause-second c =
    let s = c.args.succession in
    let second_at : ℤ → Moment = λ i. record { interval = i; line = s.line; theme = s.theme; accent = s.accent } in
    ap second_at (omega (arith, ints))
