-- When the engine says that it cannot answer, and what a line buffer holds afterwards. Assumes nothing.
use Rattle.std.specs.Prelude.{ℕ, ◌*◌, Bool, cond, ◌&&◌, List, [], ◌∷◌, ◌++◌, length, drop, Some, None, Ok, Err, Option, Result, nat_le}
use Rattle.engine.specs.declared.unfit.Unfit.{Unfit}
use Rattle.engine.specs.declared.unfit.Unfit.TheVariants.{Line, Memory, Number, Places}

-- the first question that is answered no, by its refusal
abbrev pub first_no : List (Bool × Unfit) → Option Unfit
first_no [] = None
first_no (q ∷ qs) = cond q.0 (first_no qs) (Some q.1)

-- are there 1 to 64 places, and 48 values of working memory for each?
abbrev pub room_questions : ℕ → ℕ → List (Bool × Unfit)
room_questions n room = (nat_le 1 n && nat_le n 64, Places) ∷ (nat_le (48 * n) room, Memory) ∷ []

-- the same, and is there a cell for each place in the line buffer?
abbrev pub line_questions : ℕ → ℕ → ℕ → List (Bool × Unfit)
line_questions n room cells = room_questions n room ++ (nat_le n cells, Line) ∷ []

-- the same, and is the number one that can be counted to?
abbrev pub pick_questions : ℕ → ℕ → ℕ → ℕ → List (Bool × Unfit)
pick_questions n room cells k = line_questions n room cells ++ (nat_le k 999999999, Number) ∷ []

-- the refusal, or else the answer
abbrev pub unless : {A : Type 0} → Option Unfit → A → Result A Unfit
unless None x = Ok x
unless (Some refusal) x = Err refusal

-- a line buffer after a line, if any, is written to its front
abbrev pub written : Option (List ℕ) → List ℕ → List ℕ
written None buffer = buffer
written (Some line) buffer = line ++ drop (length line) buffer

-- a line buffer after a call: as before if it was refused
abbrev pub unless_written : Option Unfit → Option (List ℕ) → List ℕ → List ℕ
unless_written None line buffer = written line buffer
unless_written (Some refusal) line buffer = buffer
