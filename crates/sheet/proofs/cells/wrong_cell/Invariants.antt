use Rattle.std.proofs.Common.{◌≡◌, drop}
use Rattle.rules.specs.Cells.{wrong_from, wrong_cell}
use Rattle.sheet.proofs.cells.wrong_cell.Given as goal

-- what is left decides the whole
abbrev pub invariant-loop-place : goal.invariant-loop-place
invariant-loop-place l = wrong_from l.before l.place (drop l.place l.cells) ≡ wrong_cell l.cells
