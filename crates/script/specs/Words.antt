-- The words in which a script is answered. Assumes nothing.
use Rattle.std.specs.Prelude.{ℕ, cond, List, ◌++◌, codes, decimal, ◌==◌, flat_map, vec_items}
use Rattle.theme.specs.Refusals.{page_refused_words}
use Rattle.rules.specs.Refusals.{refused_words}
use Rattle.measure.specs.declared.movement.Movement.{Movement}
use Rattle.course.specs.declared.answer.Answer.{Answer}
use Rattle.course.specs.declared.answer.Answer.TheVariants.{Away, PageRefused, Refused, Done, Line, Number, Weight}
use Rattle.script.specs.declared.fault.Fault.{Fault}
use Rattle.script.specs.declared.fault.Fault.TheVariants.{NotACall, Unreadable, Memory}

abbrev pub fault_words : Fault → List ℕ
fault_words NotACall = codes "not a call"
fault_words Unreadable = codes "the file cannot be read"
fault_words Memory = codes "no memory is left"

-- a least sum of 1,000,000 stands for none
abbrev pub weight_words : Movement → List ℕ
weight_words m = cond (m.sum == 1000000) (codes "weight none") (codes "weight " ++ decimal m.sum)

-- the number of a cell, behind a blank
abbrev pub cell_words : ℕ → List ℕ
cell_words cell = codes " " ++ decimal cell

abbrev pub line_words : List ℕ → List ℕ
line_words cells = codes "line" ++ flat_map cell_words cells

abbrev pub answer_words : Answer Movement → List ℕ
answer_words Away = codes "not let through"
answer_words (PageRefused refusal) = page_refused_words refusal
answer_words (Refused refusal) = refused_words refusal
answer_words Done = codes "done"
answer_words (Line cells) = line_words (vec_items cells)
answer_words (Number number) = codes "number " ++ decimal number
answer_words (Weight weight) = weight_words weight
