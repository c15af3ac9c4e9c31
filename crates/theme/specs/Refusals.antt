-- Refusals by number, and a call's first no. Assumes nothing.
use Rattle.std.specs.Prelude.{ℕ, Bool, cond, List, [], ◌∷◌, ◌++◌, codes, decimal, Some, None, Ok, Err, Option, Result}
use Rattle.theme.specs.declared.refusal.PageRefusal.{PageRefusal}
use Rattle.theme.specs.declared.refusal.Reason.{Reason}
use Rattle.theme.specs.declared.refusal.Reason.TheVariants.{HeadUnended, HeadNotANumber, PlacesOutOfRange, BarUnfit, WrongLength, BrokenRow, WrongPlaceNumber, KeyNotANumber, KeyOutOfRange, UnknownMark, UnlawfulBridge}
use Rattle.theme.specs.declared.refusal.WriteRefusal.{WriteRefusal}
use Rattle.theme.specs.declared.refusal.WriteRefusal.TheVariants.{NoTheme, OutputTooShort}

-- a call stops at its first no: the questions that it asks in order, each with the refusal for a no
abbrev pub first_no : {R : Type 0} → List (Bool × R) → Option R
first_no [] = None
first_no (q ∷ qs) = cond q.0 (first_no qs) (Some q.1)

-- a no, or else what is asked next
abbrev pub or_next : {R : Type 0} → Option R → Option R → Option R
or_next None next = next
or_next (Some r) next = Some r

-- what a call answers: its value where there is no no
abbrev pub answer : {X R : Type 0} → X → Option R → Result X R
answer x None = Ok x
answer x (Some r) = Err r

-- the number of each reason to refuse a page
abbrev pub reason_number : Reason → ℕ
reason_number HeadUnended = 1
reason_number HeadNotANumber = 2
reason_number PlacesOutOfRange = 3
reason_number BarUnfit = 4
reason_number WrongLength = 5
reason_number BrokenRow = 6
reason_number WrongPlaceNumber = 7
reason_number KeyNotANumber = 8
reason_number KeyOutOfRange = 9
reason_number UnknownMark = 10
reason_number UnlawfulBridge = 11

-- a refused field, by its line and column
abbrev pub refused : Reason → ℕ → ℕ → PageRefusal
refused reason line column = record { reason = reason; at = record { line = line; column = column } }

-- the number of a refusal of a page
abbrev pub page_number : PageRefusal → ℕ
page_number r = reason_number r.reason

-- the words for it: its number, and where it came
abbrev pub page_refused_words : PageRefusal → List ℕ
page_refused_words r =
    codes "refused " ++ (decimal (page_number r) ++ (codes " at " ++ (decimal r.at.line ++ (codes ":" ++ decimal r.at.column))))

-- the number of each refusal to write a page
abbrev pub write_number : WriteRefusal → ℕ
write_number NoTheme = 12
write_number OutputTooShort = 37

-- the words for it: its number
abbrev pub write_refused_words : WriteRefusal → List ℕ
write_refused_words r = codes "refused " ++ decimal (write_number r)
