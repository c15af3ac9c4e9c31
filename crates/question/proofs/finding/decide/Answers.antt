use Rattle.std.proofs.Common.{length}
use Rattle.rules.specs.Faults.{unweighed}
use Rattle.rules.proofs.Faultless.{decide_kept}
use Rattle.standing.specs.Asking.{asked_by, handed_by}
use Rattle.question.proofs.Answering.{decide_means}
use Rattle.question.proofs.Bests.{decided}
use Rattle.question.proofs.finding.decide.Goals as goal

pub returns : goal.returns
returns g c =
    let a = asked_by g.B.Book.admits g.B.Book.allows c.args.asking.now in
    let h = handed_by g.B.Book.admits g.B.Book.allows c.args.asking.now in
    let room = length c.args.memory.now in
    let cells = length c.args.line.now in
    let found = decided a room cells _ c.args.line.now _ c.find_first.ensures.answer c.find_first.ensures.line in
    let means = decide_means a room cells c.args.line.now _ _ found.0 found.1 in
    record {
      answer = found.0;
      line = found.1;
      law = means;
      course = decide_kept unweighed a.sheet h room cells _ _ found.0 means;
      beyond = c.find_first.ensures.beyond;
      refused = c.find_first.ensures.refused;
    }
