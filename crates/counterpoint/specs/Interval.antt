-- Intervals: the line's key less the theme's, in diatonic steps; unison 0, octave 7, negative where the line lies below.
-- Assumes nothing.
use Rattle.std.specs.Prelude.{ℕ, ◌%◌, Bool, not, ◌||◌, ℤ, ◌==◌, nat_le, unsigned_abs}

-- the class of an interval is its size, without sign, modulo 7
abbrev pub class_of : ℤ → ℕ
class_of i = unsigned_abs i % 7

-- classes 0 and 4 are perfect consonances
abbrev pub perfect : ℤ → Bool
perfect i = class_of i == 0 || class_of i == 4

-- classes 2 and 5 are imperfect consonances
abbrev pub imperfect : ℤ → Bool
imperfect i = class_of i == 2 || class_of i == 5

abbrev pub consonant : ℤ → Bool
consonant i = perfect i || imperfect i

-- the other classes, 1, 3 and 6, are dissonances
abbrev pub dissonant : ℤ → Bool
dissonant i = not (consonant i)

-- at most n up or down
abbrev pub within : ℕ → ℤ → Bool
within n z = nat_le (unsigned_abs z) n

-- intervals are judged from -100 to 100
abbrev pub interval_in_range : ℤ → Bool
interval_in_range i = within 100 i

-- steps and shifts of a voice are judged from -23 to 23
abbrev pub shift_in_range : ℤ → Bool
shift_in_range v = within 23 v
