use Rattle.std.proofs.Common.{◌≡◌, ℕ, ◌+◌, ◌*◌, List, ◌++◌, length, take, drop, ◌∙◌, arith}
use Rattle.std.proofs.lemmas.List.{take_all}
use Rattle.theme.specs.declared.place.Place.{Place}
use Rattle.paper.specs.Written.{combination_rows, combination_length}
use Rattle.paper.proofs.Rows.{met_length, put_row}
use Rattle.theme.proofs.Written.{put_is}
use Rattle.paper.proofs.combination.put_rows.Goals as goal

pub loop-place-preserved : goal.loop-place-preserved
loop-place-preserved c =
    let n : ℕ = c.loop-place.place in
    let out : List ℕ = c.loop-place.out in
    let places : List Place = c.args.theme.now.places in
    put_is (13 + 17 * n) 17 out _ _ (c.copy_from_slice.ensures.after ∙ c.met_row.ensures) (met_length places c.args.combination n _)
    ∙ put_row places c.args.combination c.args.out.now out c.args.line.now n c.loop-place-test.true (omega arith) c.loop-place.invariant

pub returns : goal.returns
returns c =
    let all = take_all c.loop-place.place c.args.line.now c.loop-place-test.false in
    let end : c.loop-place.place ≡ length c.args.line.now = omega arith in
    let places : List Place = c.args.theme.now.places in
    c.loop-place.invariant
    ∙ (λ i. take 13 c.args.out.now ++ combination_rows places c.args.combination 0 (all i) ++ drop (combination_length (end i)) c.args.out.now)
