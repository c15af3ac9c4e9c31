use Rattle.std.proofs.Common.{◌≡◌, vec_len}
use Rattle.compare.proofs.making.make_places.Given as goal

abbrev pub invariant-loop-place : goal.invariant-loop-place
invariant-loop-place l = vec_len l.places ≡ l.place
