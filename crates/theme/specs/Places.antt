-- The letters of marks. Assumes nothing.
use Rattle.std.specs.Prelude.{◌≡◌, ℕ, List, cond, codes, Some, None, ◌==◌, Option, Result, MatchResult}
use Rattle.theme.specs.declared.place.Mark.{Mark}
use Rattle.theme.specs.declared.place.Mark.TheVariants.{Pin, Bridge}
use Rattle.theme.specs.declared.place.UnknownMark.{UnknownMark}

-- the letter of a mark: p or b
abbrev pub letter_of : Mark → ℕ
letter_of Pin = 112
letter_of Bridge = 98

-- the mark of a letter, if it is one's
abbrev pub mark_of : ℕ → Option Mark
mark_of letter = cond (letter == 112) (Some Pin) (cond (letter == 98) (Some Bridge) None)

-- the words for a letter that is no mark's
abbrev pub unknown_mark_words : List ℕ
unknown_mark_words = codes "a mark is p or b"

-- a letter is read as its mark, or as none
abbrev pub ReadsMark : ℕ → Result Mark UnknownMark → Type 0
ReadsMark letter r = MatchResult r (λ mark. mark_of letter ≡ Some mark) (λ _. mark_of letter ≡ None)
