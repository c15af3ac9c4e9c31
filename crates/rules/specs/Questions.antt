-- What each question asks first, and what it answers. Assumes nothing.
use Rattle.std.specs.Prelude.{ℕ, ◌+◌, ◌*◌, min, Bool, true, not, List, [], ◌∷◌, ◌++◌, length, Some, None, Option, ◌==◌, nat_le, nat_lt}
use Rattle.std.specs.List.{slice_get}
use Rattle.theme.specs.Refusals.{first_no, or_next}
use Rattle.counterpoint.specs.declared.moments.Moment.{Moment}
use Rattle.counterpoint.specs.declared.moments.Succession.{Succession}
use Rattle.rules.specs.declared.refusal.Refusal.{Refusal}
use Rattle.rules.specs.declared.refusal.Refusal.TheVariants.{TrialBeyondTheme, MemoryTooShort, LineUnfit, NumberTooLarge, NotALine, NotKept, BookSaysNo, NoLineStands, NumberNotBelowCount}
use Rattle.rules.specs.Plain.{Plain, places_of, theme_question}
use Rattle.rules.specs.declared.trial.Trial.{Trial}
use Rattle.rules.specs.Compasses.{PlainCompass, trial_questions, with_trial}
use Rattle.rules.specs.Standing.{Asked, standing_lines, kept_at, agrees}
use Rattle.rules.specs.Cells.{wrong_cell}
use Rattle.rules.specs.declared.combination.Combination.{Combination}
use Rattle.engine.specs.Lines.{upto, cell_at}
use Rattle.engine.specs.Weights.{first_with, joined_weight}
use Rattle.measure.specs.Algebra.{Ring}
use Rattle.rules.specs.Orders.{least_of}

-- is a tried place one of n?
abbrev pub tried_below : Option Trial → ℕ → Bool
tried_below None n = true
tried_below (Some trial) n = nat_lt trial.place n

abbrev pub places_asked : Asked → ℕ
places_asked a = places_of a.sheet

-- what every question asks first: is a theme loaded, and is a tried place one of its places?
abbrev pub base_questions : Plain → PlainCompass → List (Bool × Refusal)
base_questions p compass = theme_question p ∷ (tried_below compass.trial (places_of p), TrialBeyondTheme) ∷ []

-- then: are there 48 working values for each place?
abbrev pub weigh_questions : Plain → PlainCompass → ℕ → List (Bool × Refusal)
weigh_questions p compass room = base_questions p compass ++ (nat_le (48 * places_of p) room, MemoryTooShort) ∷ []

-- then: has the line buffer a cell for each place?
abbrev pub line_questions : Plain → PlainCompass → ℕ → ℕ → List (Bool × Refusal)
line_questions p compass room cells = weigh_questions p compass room ++ (nat_le (places_of p) cells, LineUnfit) ∷ []

-- then, to pick: is the number at most 999,999,999?
abbrev pub pick_questions : Plain → PlainCompass → ℕ → ℕ → ℕ → List (Bool × Refusal)
pick_questions p compass room cells number = line_questions p compass room cells ++ (nat_le number 999999999, NumberTooLarge) ∷ []

-- the number of standing lines, capped
abbrev pub count_of : Asked → ℕ
count_of a = min (length (standing_lines a)) 1000000000

-- their joined weight
abbrev pub weight_of : {M : Type 0} → Ring M → Asked → M
weight_of R a = joined_weight R (places_asked a) (standing_lines a)

-- the line that decide, pick and least give, if there is one
abbrev pub first_standing : Asked → Option (List ℕ)
first_standing a = slice_get (standing_lines a) 0

abbrev pub picked : Asked → ℕ → Option (List ℕ)
picked a number = slice_get (standing_lines a) number

abbrev pub least_standing : Asked → Option (List ℕ)
least_standing a = least_of (places_asked a) (standing_lines a)

-- the refusal of a call that finds no line
abbrev pub unless_found : Option (List ℕ) → Refusal → Option Refusal
unless_found None refusal = Some refusal
unless_found (Some line) refusal = None

abbrev pub decide_no : Asked → ℕ → ℕ → Option Refusal
decide_no a room cells = or_next (first_no (line_questions a.sheet a.compass room cells)) (unless_found (first_standing a) NoLineStands)

abbrev pub least_no : Asked → ℕ → ℕ → Option Refusal
least_no a room cells = or_next (first_no (line_questions a.sheet a.compass room cells)) (unless_found (least_standing a) NoLineStands)

abbrev pub pick_no : Asked → ℕ → ℕ → ℕ → Option Refusal
pick_no a room cells number = or_next (first_no (pick_questions a.sheet a.compass room cells number)) (unless_found (picked a number) NumberNotBelowCount)

-- A question under a trial -----------------------------------------------------------------------

-- a sheet, a compass, and the two sets of a book
abbrev pub under : Plain → PlainCompass → (Moment → Bool) → (Succession → Bool) → Asked
under p compass admits allows = record { sheet = p; compass = compass; admits = admits; allows = allows }

-- the inquiry after the trial, then what counting asks with the trial in force
abbrev pub trial_no : Plain → PlainCompass → Trial → ℕ → Option Refusal
trial_no p compass trial room =
    or_next (first_no (trial_questions compass trial)) (first_no (weigh_questions p (with_trial compass (Some trial)) room))

-- A line given ------------------------------------------------------------------------------------

-- what check asks before it looks at the cells: there are just as many as places
abbrev pub check_questions : Plain → PlainCompass → ℕ → List (Bool × Refusal)
check_questions p compass cells = base_questions p compass ++ ((cells == places_of p), LineUnfit) ∷ []

-- a refusal that names a place, if there is one
abbrev pub at_place : (ℕ → Refusal) → Option ℕ → Option Refusal
at_place refusal None = None
at_place refusal (Some place) = Some (refusal place)

-- the first place at which the compass, the trial or a fixed key is not kept
abbrev pub unkept : Asked → List ℕ → Option ℕ
unkept a line = first_with (λ t. not (kept_at a t (cell_at (places_asked a) line t))) (upto (places_asked a))

-- the first place of a combination at which the book says no to the moment or to the succession out of it
abbrev pub denied : Asked → List ℕ → Combination → Option ℕ
denied a line c =
    first_with (λ t. not (agrees a t (cell_at (places_asked a) line t) (cell_at (places_asked a) line (t + 1)) c)) (upto (places_asked a))

-- the first no of the book, by combinations, counted from this number on, and then by places
abbrev pub denied_in : Asked → List ℕ → ℕ → List Combination → Option Refusal
denied_in a line number [] = None
denied_in a line number (c ∷ cs) = or_next (at_place (BookSaysNo number) (denied a line c)) (denied_in a line (number + 1) cs)

-- the cells make a line, it keeps compass, trial and fixings, and the book says yes everywhere
abbrev pub check_no : Asked → List ℕ → Option Refusal
check_no a line =
    or_next (first_no (check_questions a.sheet a.compass (length line)))
    (or_next (at_place NotALine (wrong_cell line)) (or_next (at_place NotKept (unkept a line)) (denied_in a line 0 a.sheet.list)))
