use Rattle.std.proofs.Common.{◌≡◌, ◌++◌, take, drop}
use Rattle.paper.specs.Written.{combination_rows, combination_length}
use Rattle.paper.proofs.combination.put_rows.Given as goal

abbrev pub invariant-loop-place : goal.invariant-loop-place
invariant-loop-place l =
    l.out ≡ take 13 l.initial.out ++ combination_rows l.theme.places l.combination 0 (take l.place l.line) ++ drop (combination_length l.place) l.initial.out
