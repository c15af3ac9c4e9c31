use Rattle.std.proofs.Common.{arith}
use Rattle.question.proofs.Stopping.{told_value}
use Rattle.compose_both.proofs.write_both.Goals as goal

pub returns-clause-whole : goal.returns-clause-whole
returns-clause-whole c =
    let first = (told_value _ c.in_ok-first.first _ c.in_ok-first.ensures.answer).1 in
    let second = (told_value _ c.in_ok-second.second _ c.in_ok-second.ensures.answer).1 in
    grind (arith, first, second, c.truncate.ensures.len, c.in_ok-second.ensures.within, c.in_ok-first.ensures.within, c.in_ok-out.ensures.len, c.deref_mut-2.ensures.len, c.deref_mut-3.ensures.len)
