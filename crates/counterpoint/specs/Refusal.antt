-- The number that each refusal is reported by, and the words in which it is told.
-- Assumes nothing.
use Rattle.std.specs.Prelude.{ℕ, List, codes}
use Rattle.counterpoint.specs.declared.refusal.Refusal.{Refusal}
use Rattle.counterpoint.specs.declared.refusal.Refusal.TheVariants.{ShiftOutOfRange, IntervalOutOfRange}

abbrev pub refusal_number : Refusal → ℕ
refusal_number ShiftOutOfRange = 13
refusal_number IntervalOutOfRange = 32

abbrev pub refusal_words : Refusal → List ℕ
refusal_words ShiftOutOfRange = codes "the shift is not -23 to 23"
refusal_words IntervalOutOfRange = codes "the interval is not -100 to 100"
