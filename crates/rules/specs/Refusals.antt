-- Refusals by number, and in words. Assumes nothing.
use Rattle.std.specs.Prelude.{ℕ, List, ◌++◌, codes, decimal}
use Rattle.theme.specs.declared.refusal.WriteRefusal.{WriteRefusal}
use Rattle.theme.specs.declared.refusal.WriteRefusal.TheVariants as theirs
use Rattle.engine.specs.declared.unfit.Unfit.{Unfit}
use Rattle.engine.specs.declared.unfit.Unfit.TheVariants.{Places, Memory, Line, Number}
use Rattle.rules.specs.declared.refusal.Refusal.{Refusal}
use Rattle.rules.specs.declared.refusal.Refusal.TheVariants.{NoTheme, ShiftOutOfRange, EntryOutOfRange, AlreadyListed, ListFull, NotListed, PlaceOutOfRange, KeyOutOfRange, CompassUnfit, TrialPlaceOutOfRange, TrialKeyOutOfCompass, TrialBeyondTheme, MemoryTooShort, LineUnfit, NumberTooLarge, NotALine, NotKept, BookSaysNo, NoLineStands, NumberNotBelowCount, OutputTooShort}

abbrev pub refusal_number : Refusal → ℕ
refusal_number NoTheme = 12
refusal_number ShiftOutOfRange = 13
refusal_number EntryOutOfRange = 14
refusal_number AlreadyListed = 15
refusal_number ListFull = 16
refusal_number NotListed = 17
refusal_number PlaceOutOfRange = 18
refusal_number KeyOutOfRange = 19
refusal_number CompassUnfit = 20
refusal_number TrialPlaceOutOfRange = 21
refusal_number TrialKeyOutOfCompass = 22
refusal_number TrialBeyondTheme = 23
refusal_number MemoryTooShort = 24
refusal_number LineUnfit = 25
refusal_number NumberTooLarge = 26
refusal_number (NotALine place) = 27
refusal_number (NotKept place) = 28
refusal_number (BookSaysNo combination place) = 29
refusal_number NoLineStands = 30
refusal_number NumberNotBelowCount = 31
refusal_number OutputTooShort = 37

-- a theme's refusal to be written, as a refusal of the sheet
abbrev pub sheet_refusal : WriteRefusal → Refusal
sheet_refusal theirs.NoTheme = NoTheme
sheet_refusal theirs.OutputTooShort = OutputTooShort

-- what the engine has no answer for, as a refusal of the question: there are no places just where no theme is loaded
abbrev pub question_refusal : Unfit → Refusal
question_refusal Places = NoTheme
question_refusal Memory = MemoryTooShort
question_refusal Line = LineUnfit
question_refusal Number = NumberTooLarge

-- where a refusal came, in words
abbrev pub place_words : Refusal → List ℕ
place_words (NotALine place) = codes " at place " ++ decimal place
place_words (NotKept place) = codes " at place " ++ decimal place
place_words (BookSaysNo combination place) = codes " in combination " ++ (decimal combination ++ (codes " at place " ++ decimal place))
place_words NoTheme = codes ""
place_words ShiftOutOfRange = codes ""
place_words EntryOutOfRange = codes ""
place_words AlreadyListed = codes ""
place_words ListFull = codes ""
place_words NotListed = codes ""
place_words PlaceOutOfRange = codes ""
place_words KeyOutOfRange = codes ""
place_words CompassUnfit = codes ""
place_words TrialPlaceOutOfRange = codes ""
place_words TrialKeyOutOfCompass = codes ""
place_words TrialBeyondTheme = codes ""
place_words MemoryTooShort = codes ""
place_words LineUnfit = codes ""
place_words NumberTooLarge = codes ""
place_words NoLineStands = codes ""
place_words NumberNotBelowCount = codes ""
place_words OutputTooShort = codes ""

-- a refusal in words: its number, and where it came
abbrev pub refused_words : Refusal → List ℕ
refused_words r = codes "refused " ++ (decimal (refusal_number r) ++ place_words r)
