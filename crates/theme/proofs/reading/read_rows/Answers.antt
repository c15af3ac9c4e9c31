use Rattle.std.proofs.Common.{◌/◌, ◌<◌, [], length, arith}
use Rattle.std.proofs.lemmas.Result.{err_from_is_err_and}
use Rattle.theme.proofs.Rows.{read_stops, read_more}
use Rattle.theme.proofs.reading.read_rows.Goals as goal

pub returns-in_err-read : goal.returns-in_err-read
returns-in_err-read c =
    let p = err_from_is_err_and c.from_residual.result c.from_residual.ensures.1 in
    let below : c.loop-place.place < length c.args.rows.now / 11 = omega (arith, c.as_chunks.ensures.front_len, c.loop-place-test.true) in
    rw (p.1, p.2) (read_stops c.loop-place.invariant _ c.as_chunks.ensures.front below [] _ c.in_err-read.ensures)

pub loop-place-preserved : goal.loop-place-preserved
loop-place-preserved c =
    let below : c.loop-place.place < length c.args.rows.now / 11 = omega (arith, c.as_chunks.ensures.front_len, c.loop-place-test.true) in
    read_more c.loop-place.invariant _ c.as_chunks.ensures.front below [] _ (omega (arith, below, c.loop-place.invariant.room, c.requires)) c.in_ok-read.ensures.0 c.in_ok-read.ensures.1
