use Rattle.script.proofs.fault.FaultDisplay.fmt.Goals as goal

pub returns-in-Memory-clause-writes : goal.returns-in-Memory-clause-writes
returns-in-Memory-clause-writes g c = rw c.in-Memory.is c.write_str-in-Memory.ensures.writes
