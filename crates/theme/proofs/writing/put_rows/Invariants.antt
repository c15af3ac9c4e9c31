use Rattle.std.proofs.Common.{◌≡◌, ◌++◌, take, drop}
use Rattle.theme.specs.Pages.{rows_of, page_length}
use Rattle.theme.proofs.writing.put_rows.Given as goal

abbrev pub invariant-loop-number : goal.invariant-loop-number
invariant-loop-number l =
    l.out ≡ take 9 l.initial.out ++ rows_of 0 (take l.number l.places) ++ drop (page_length l.number) l.initial.out
