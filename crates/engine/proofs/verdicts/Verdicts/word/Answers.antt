use Rattle.std.proofs.Common.{arith}
use Rattle.engine.proofs.Shifts.{said_bit}
use Rattle.engine.proofs.verdicts.Verdicts.word.Goals as goal

pub returns : goal.returns
returns c d h = said_bit c.args.self.now.words c.args.place c.args.cell d (omega arith) (omega arith) h
