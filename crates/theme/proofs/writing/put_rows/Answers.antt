use Rattle.std.proofs.Common.{◌≡◌, ℕ, ◌+◌, ◌*◌, List, ◌++◌, length, take, drop, refl, ◌∙◌, arith}
use Rattle.std.proofs.lemmas.List.{take_more, take_all}
use Rattle.theme.specs.declared.place.Mark.TheVariants.{Pin}
use Rattle.theme.specs.Pages.{rows_of, page_length}
use Rattle.theme.proofs.Written.{put_is, put_row}
use Rattle.theme.proofs.writing.put_rows.Goals as goal

pub loop-number-preserved : goal.loop-number-preserved
loop-number-preserved c =
    let n : ℕ = c.loop-number.number in
    let out : List ℕ = c.loop-number.out in
    let more = take_more c.args.places.now n (record { key = 0; mark = Pin }) c.loop-number-test.true in
    put_is (9 + 11 * n) 11 out _ _ (c.copy_from_slice.ensures.after ∙ c.row.ensures) refl
    ∙ put_row c.args.out.now out c.args.places.now n _ c.loop-number-test.true c.requires.1 more c.loop-number.invariant

pub returns : goal.returns
returns c =
    let all = take_all c.loop-number.number c.args.places.now c.loop-number-test.false in
    let end : c.loop-number.number ≡ length c.args.places.now = omega arith in
    c.loop-number.invariant ∙ (λ i. take 9 c.args.out.now ++ rows_of 0 (all i) ++ drop (page_length (end i)) c.args.out.now)
