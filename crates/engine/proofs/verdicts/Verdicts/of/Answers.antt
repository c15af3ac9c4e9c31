use Rattle.std.proofs.Common.{◌≡◌, ◌+◌, ◌*◌, min, arith}
use Rattle.engine.proofs.Filling.{filling_all, filling_at, filling_more, filling_none}
use Rattle.engine.proofs.Shifts.{said_upto}
use Rattle.engine.proofs.verdicts.Verdicts.of.Goals as goal

pub loop-place-init : goal.loop-place-init
loop-place-init g c = filling_none (g.P.Passage.way c.args.passage.now)

pub loop-cell-init : goal.loop-cell-init
loop-cell-init g c = filling_at (g.P.Passage.way c.args.passage.now) (48 * c.loop-place.place) (48 * c.loop-place.place + 0) c.loop-place.words (omega arith) c.loop-place.invariant

pub loop-cell-preserved : goal.loop-cell-preserved
loop-cell-preserved g c =
    let way = g.P.Passage.way c.args.passage.now in
    filling_more way c.loop-place.place c.loop-cell.cell c.word_of.result c.loop-cell.words (omega arith) (omega arith) c.loop-cell.invariant c.word_of.ensures

pub loop-place-preserved : goal.loop-place-preserved
loop-place-preserved g c =
    let way = g.P.Passage.way c.args.passage.now in
    filling_at way (48 * c.loop-place.place + c.loop-cell.cell) (48 * (c.loop-place.place + 1)) c.loop-cell.words (omega arith) c.loop-cell.invariant

pub returns : goal.returns
returns g c =
    let way = g.P.Passage.way c.args.passage.now in
    let n = c.args.places in
    let all : 48 * c.loop-place.place ≡ 48 * min n 64 = omega arith in
    said_upto c.loop-place.words way n (filling_all way n c.loop-place.words (filling_at way (48 * c.loop-place.place) (48 * min n 64) c.loop-place.words all c.loop-place.invariant))
