use Rattle.std.proofs.Common.{rules}
use Rattle.rules.specs.Faults.{unweighed}
use Rattle.rules.proofs.Faultless.{reopen_kept}
use Rattle.sheet.proofs.draft.Closed.reopen.Goals as goal

pub returns-clause-course : goal.returns-clause-course
returns-clause-course c = search (rules, reopen_kept unweighed)
