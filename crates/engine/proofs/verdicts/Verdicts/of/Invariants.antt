use Rattle.std.proofs.Common.{◌+◌, ◌*◌}
use Rattle.engine.proofs.Filling.{Filling}
use Rattle.engine.proofs.verdicts.Verdicts.of.Given as goal

abbrev pub invariant-loop-cell : goal.invariant-loop-cell
invariant-loop-cell g l = Filling (g.P.Passage.way l.passage) (48 * l.place + l.cell) l.words

abbrev pub invariant-loop-place : goal.invariant-loop-place
invariant-loop-place g l = Filling (g.P.Passage.way l.passage) (48 * l.place) l.words
