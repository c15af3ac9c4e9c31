use Rattle.std.proofs.Common.{◌≡◌, [], ◌∷◌, ◌++◌, ℤ, pos, ◌-ℤ◌, ap, ◌∙◌, arith}
use Rattle.std.proofs.lemmas.Int.{ints}
use Rattle.theme.proofs.Shown.{four_of}
use Rattle.theme.specs.Fields.{columns_of}
use Rattle.paper.specs.Columns.{signed_columns}
use Rattle.paper.proofs.Rows.{four_signed}
use Rattle.paper.proofs.combination.row.Goals as goal

pub returns : goal.returns
returns c =
    let raised : ℤ = c.args.raised in
    let interval : ℤ = c.args.raised -ℤ pos c.args.key in
    let a = c.columns.ensures in
    let b : c.signed_columns.result ≡ signed_columns raised = c.signed_columns.ensures ∙ ap signed_columns (omega (arith, ints)) in
    let k : c.columns-2.result ≡ columns_of c.args.key = c.columns-2.ensures ∙ ap columns_of c.from.ensures in
    let m : c.signed_columns-2.result ≡ signed_columns interval = c.signed_columns-2.ensures ∙ ap signed_columns (omega (arith, ints)) in
    (λ i. four_of (a i) ++ four_of (b i) ++ four_of (k i) ++ four_of (m i) ++ (10 ∷ []))
    ∙ (λ i. columns_of c.args.place ++ four_signed raised i ++ columns_of c.args.key ++ four_signed interval i ++ (10 ∷ []))
