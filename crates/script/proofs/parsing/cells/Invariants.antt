use Rattle.std.proofs.Common.{◌≡◌, vec_len}
use Rattle.script.proofs.parsing.cells.Given as goal

abbrev pub invariant-loop-word : goal.invariant-loop-word
invariant-loop-word l = vec_len l.cells ≡ l.word-index
