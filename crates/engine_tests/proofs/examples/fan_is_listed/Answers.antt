use Rattle.std.proofs.Common.{refl}
use Rattle.engine_tests.proofs.examples.fan_is_listed.Goals as goal

pub returns : goal.returns
returns c = refl
