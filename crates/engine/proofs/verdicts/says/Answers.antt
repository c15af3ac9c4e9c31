use Rattle.engine.proofs.Shifts.{bit_mask}
use Rattle.engine.proofs.verdicts.says.Goals as goal

pub returns : goal.returns
returns c = bit_mask c.args.next c.args.word
