-- What becomes of an interval when the line is shifted against the theme.
-- Assumes nothing.
use Rattle.std.specs.Prelude.{ℕ, cond, ℤ, ◌+ℤ◌, Ok, Err, Result}
use Rattle.counterpoint.specs.Interval.{consonant, dissonant, interval_in_range, shift_in_range}
use Rattle.counterpoint.specs.declared.kinds.IntervalKind.{IntervalKind}
use Rattle.counterpoint.specs.declared.kinds.IntervalKind.TheVariants.{FixedConsonance, VariableConsonance, FixedDissonance, VariableDissonance}
use Rattle.counterpoint.specs.declared.refusal.Refusal.{Refusal}
use Rattle.counterpoint.specs.declared.refusal.Refusal.TheVariants.{ShiftOutOfRange, IntervalOutOfRange}

-- the index jv raises the line against the theme
abbrev pub derived : ℤ → ℤ → ℤ
derived jv i = i +ℤ jv

-- a consonance is fixed if its derived interval is one too, else variable; and so is a dissonance
abbrev pub kind_of : ℤ → ℤ → IntervalKind
kind_of jv i =
    cond (consonant i)
    (cond (consonant (derived jv i)) FixedConsonance VariableConsonance)
    (cond (dissonant (derived jv i)) FixedDissonance VariableDissonance)

abbrev pub kind_number : IntervalKind → ℕ
kind_number FixedConsonance = 0
kind_number VariableConsonance = 1
kind_number FixedDissonance = 2
kind_number VariableDissonance = 3

-- the index is looked at before the interval
abbrev pub kind_answer : ℤ → ℤ → Result IntervalKind Refusal
kind_answer jv i =
    cond (shift_in_range jv)
    (cond (interval_in_range i) (Ok (kind_of jv i)) (Err IntervalOutOfRange))
    (Err ShiftOutOfRange)
