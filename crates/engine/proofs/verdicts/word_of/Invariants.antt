use Rattle.std.proofs.Common.{◌≡◌, ℕ, ◌+◌, ◌-◌, ◌^◌, ◌<◌}
use Rattle.engine.specs.Words.{bit}
use Rattle.engine.proofs.verdicts.word_of.Given as goal

abbrev pub invariant-loop-next : goal.invariant-loop-next
invariant-loop-next g l =
    (l.word < 2 ^ (48 - l.next)) × ((e : ℕ) → e < 48 - l.next → bit l.word e ≡ g.P.Passage.way l.passage l.place l.cell (l.next + e))
