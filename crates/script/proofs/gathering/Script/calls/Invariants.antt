use Rattle.std.proofs.Common.{take, vec_items}
use Rattle.script.specs.Steps.{steps_in, MakeAll}
use Rattle.script.proofs.gathering.Script.calls.Given as goal

abbrev pub invariant-loop-row : goal.invariant-loop-row
invariant-loop-row l = MakeAll (steps_in (take l.row-index l.row-items)) (vec_items l.calls)
