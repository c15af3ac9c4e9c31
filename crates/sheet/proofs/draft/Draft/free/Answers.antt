use Rattle.std.proofs.Common.{Ok, rules}
use Rattle.rules.specs.Faults.{unweighed}
use Rattle.rules.proofs.Faultless.{free_kept}
use Rattle.sheet.proofs.draft.Draft.free.Goals as goal

pub returns-clause-course : goal.returns-clause-course
returns-clause-course c = free_kept unweighed c.args.self.now c.args.place _ (Ok tt) (search rules) (search rules)
