use Rattle.std.proofs.Common.{refl}
use Rattle.rules.specs.Faults.{unweighed}
use Rattle.rules.proofs.Faultless.{close_kept}
use Rattle.sheet.proofs.draft.Draft.close.Goals as goal

pub returns-clause-course : goal.returns-clause-course
returns-clause-course c = close_kept unweighed _ _ refl
