use Rattle.std.proofs.Common.{refl}
use Rattle.question.proofs.examples.all_examples.Goals as goal

pub returns : goal.returns
returns c = record {
  answer = c.worked_examples.ensures.answer;
  fact = record {
    counterpoint = c.worked_examples.ensures.fact;
    octave_below = refl;
    a_place_later = refl;
  };
}
