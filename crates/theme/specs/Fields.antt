-- Numbers in four columns. Assumes nothing.
use Rattle.std.specs.Prelude.{ℕ, ◌+◌, ◌-◌, ◌*◌, ◌/◌, ◌%◌, Bool, cond, ◌&&◌, List, [], ◌∷◌, Some, None, Option, ◌==◌, nat_lt, slice_index}

-- the digit of a number at a power of ten, or a blank left of its first digit
abbrev pub column : ℕ → ℕ → ℕ
column number power = cond (nat_lt number power) 32 (48 + number / power % 10)

-- a number right-justified in four columns; 0 is one digit
abbrev pub columns_of : ℕ → List ℕ
columns_of n = column n 1000 ∷ column n 100 ∷ column n 10 ∷ (48 + n % 10) ∷ []

-- what a digit counts for; a blank counts for 0
abbrev pub worth : ℕ → ℕ
worth byte = byte - 48

-- what the first four bytes of a text count for, as digits
abbrev pub value_in : List ℕ → ℕ
value_in text = 1000 * worth (slice_index text 0) + 100 * worth (slice_index text 1) + 10 * worth (slice_index text 2) + worth (slice_index text 3)

-- do the first four bytes of a text show this number?
abbrev pub shows : List ℕ → ℕ → Bool
shows text n =
    (slice_index text 0 == column n 1000) && slice_index text 1 == column n 100 && slice_index text 2 == column n 10 && slice_index text 3 == 48 + n % 10

-- the number that the first four bytes of a text show, if they show one: no other form is a number
abbrev pub number_in : List ℕ → Option ℕ
number_in text = cond (shows text (value_in text)) (Some (value_in text)) None
