use Rattle.std.proofs.Common.{rules, lit<, ◌*◌, ◌≤◌, le_trans, lt_of_le_of_lt}
use Rattle.std.proofs.Math.Nat.{pow-le-pow_left, pow-le-pow_right}
use Rattle.compare.proofs.judging.strings.Goals as goal

-- at most 48 cells at each of at most 4 places
pub pow-requires : goal.pow-requires
pow-requires c =
    let cells : 2 * c.from-cells.result ≤ 48 = search rules in
    let places : c.len.result ≤ 4 = search rules in
    lt_of_le_of_lt (le_trans (pow-le-pow_left cells c.len.result) (pow-le-pow_right {n = 48} (lit< tt) places)) (lit< tt)
