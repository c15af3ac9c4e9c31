use Rattle.std.proofs.Common.{◌/◌, length}
use Rattle.theme.proofs.Rows.{Read}
use Rattle.theme.proofs.reading.read_rows.Given as goal

abbrev pub invariant-loop-place : goal.invariant-loop-place
invariant-loop-place l = Read (length l.fn.rows / 11) l.fn.rows l.place l.before l.places
