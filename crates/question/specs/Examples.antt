-- Sheets whose standing lines are worked out by hand. Assumes nothing.
use Rattle.std.specs.Prelude.{◌≡◌, [], ◌∷◌, pos, neg_ℤ, None}
use Rattle.books.specs.Examples.{WorkedExamples}
use Rattle.books.specs.Strict.{strict_admits, strict_allows}
use Rattle.theme.specs.declared.place.Mark.TheVariants.{Pin}
use Rattle.theme.specs.Themes.{PlainTheme}
use Rattle.rules.specs.declared.combination.Combination.{Combination}
use Rattle.rules.specs.Plain.{original}
use Rattle.rules.specs.Standing.{Asked, standing_lines}

-- two places in one bar, pinned at the keys 7 and 8
abbrev pub two_pins : PlainTheme
two_pins = record { places = (record { key = 7; mark = Pin }) ∷ (record { key = 8; mark = Pin }) ∷ []; bar = 2 }

-- the original and one other combination, in the compass from 9 to 13, over the strict book
abbrev pub beside_original : Combination → Asked
beside_original other = record {
  sheet = record { theme = two_pins; list = original ∷ other ∷ []; fixings = None ∷ None ∷ [] };
  compass = record { lowest = 9; highest = 13; trial = None };
  admits = strict_admits;
  allows = strict_allows;
}

-- with the line an octave lower too, just six lines stand
abbrev pub SixLines : Type 0
SixLines =
    standing_lines (beside_original (record { jv = neg_ℤ (pos 7); entry = 0 })) ≡ (18 ∷ 19 ∷ []) ∷ (18 ∷ 20 ∷ []) ∷ (18 ∷ 26 ∷ []) ∷ (24 ∷ 20 ∷ []) ∷ (24 ∷ 25 ∷ []) ∷ (24 ∷ 26 ∷ []) ∷ []

-- with the line begun a place later too, just two
abbrev pub TwoLines : Type 0
TwoLines =
    standing_lines (beside_original (record { jv = pos 0; entry = 1 })) ≡ (24 ∷ 24 ∷ []) ∷ (24 ∷ 25 ∷ []) ∷ []

-- these, and the examples of intervals and of the strict book
pub record AllExamples : Type 0 where
  pub counterpoint : WorkedExamples
  pub octave_below : SixLines
  pub a_place_later : TwoLines
