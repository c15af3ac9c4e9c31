use Rattle.std.proofs.Common.{arith}
use Rattle.engine.specs.Words.{said}
use Rattle.engine.proofs.Rosters.{roster_cong}
use Rattle.engine.proofs.Shifts.{said_agrees}
use Rattle.engine.proofs.roster.Roster.of.Goals as goal

pub returns-clause-lines : goal.returns-clause-lines
returns-clause-lines c way says =
    let n = c.args.places in
    let words = c.args.verdicts.now.words in
    roster_cong (said words) way n (omega arith) (said_agrees words way n (omega arith) says)
