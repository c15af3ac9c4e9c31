-- What a question found, told as an answer. Assumes nothing.
use Rattle.std.proofs.Common.{◌≡◌, ℕ, List, Result, IfOk, refl, ap, ◌∙◌}
use Rattle.std.proofs.lemmas.Result.{IfOk-weaker}
use Rattle.measure.specs.Algebra.{Ring}
use Rattle.rules.specs.declared.refusal.Refusal.{Refusal}
use Rattle.rules.specs.Courses.{Call, Reached}
use Rattle.rules.specs.Faults.{Kept, told_line}
use Rattle.rules.proofs.Faultless.{kept_is}
use Rattle.course.specs.declared.answer.Answer.{Answer}
use Rattle.course.specs.Holding.{told}

-- the cells at the front of a buffer told for the line that was found, to a call by a name that is the same
pub line_kept : {M E : Type 0} (R : Ring M) (here : Reached) (call asked : Call) (found : Result (Unit {0}) Refusal) (line cells : List ℕ) (outcome : Result (Answer M) E) → call ≡ asked → cells ≡ line → IfOk outcome (λ a. told a ≡ told_line found cells) → Kept R here asked (told_line found line) here → IfOk outcome (λ a. Kept R here call (told a) here)
line_kept {M} R here call asked found line cells outcome called same telling kept =
    IfOk-weaker outcome (λ (a : Answer M). told a ≡ told_line found cells) (λ (a : Answer M). Kept R here call (told a) here)
    (λ a is. kept_is R here called (is ∙ ap (λ (l : List ℕ). told_line found l) same) refl kept)
    telling
