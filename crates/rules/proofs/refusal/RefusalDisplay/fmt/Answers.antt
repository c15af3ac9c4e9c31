use Rattle.rules.proofs.refusal.RefusalDisplay.fmt.Goals as goal

pub returns-in-BookSaysNo-clause-writes : goal.returns-in-BookSaysNo-clause-writes
returns-in-BookSaysNo-clause-writes g c = rw (← c.from-number.ensures, c.in-BookSaysNo.is) c.write.ensures.writes
