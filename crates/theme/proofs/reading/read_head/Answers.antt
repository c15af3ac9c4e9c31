use Rattle.std.proofs.Common.{arith, length-drop, rules}
use Rattle.std.proofs.lemmas.Grind.{common_steps}
use Rattle.std.proofs.lemmas.List.{take_rest}
use Rattle.std.proofs.lemmas.Bool.Decides.{nat_tests}
use Rattle.theme.specs.Pages.{head_questions}
use Rattle.theme.proofs.Asked.{none_from_all_yes}
use Rattle.theme.proofs.reading.read_head.Goals as goal

pub returns : goal.returns
returns c = (
  none_from_all_yes (head_questions c.args.page.now) ((let f = c.get.ensures.lookup in let g = c.ne.ensures in grind (arith, nat_tests, common_steps)), (search rules, (search rules, (grind (arith, nat_tests), (grind (arith, nat_tests), (grind (arith, nat_tests), tt)))))),
  record {
    count_is = search rules;
    bar_is = search rules;
    rows_are = take_rest c.args.page.now 9;
    few = search rules;
    long = simp take_rest (omega (arith, length-drop 9 c.args.page.now));
  },
)
