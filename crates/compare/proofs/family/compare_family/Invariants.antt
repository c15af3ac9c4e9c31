use Rattle.std.proofs.Common.{◌≡◌}
use Rattle.compare.proofs.family.compare_family.Given as goal

abbrev pub invariant-loop-cases : goal.invariant-loop-cases
invariant-loop-cases l = l.tally.cases ≡ l.cases-counter
