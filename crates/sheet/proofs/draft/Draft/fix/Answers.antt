use Rattle.std.proofs.Common.{Ok, rules}
use Rattle.rules.specs.Faults.{unweighed}
use Rattle.rules.proofs.Faultless.{fix_kept}
use Rattle.sheet.proofs.draft.Draft.fix.Goals as goal

pub returns-clause-course : goal.returns-clause-course
returns-clause-course c = fix_kept unweighed c.args.self.now c.args.place c.args.key _ (Ok tt) (search rules) (search rules)
