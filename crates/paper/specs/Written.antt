-- What is written from a sheet, and what each writing asks. Assumes nothing.
--
--   combination_page   the bytes of a combination, written for a line
--   page_questions     what is asked before the theme's page is written
--   writing_questions  what is asked before a combination is written
use Rattle.std.specs.Prelude.{ℕ, ◌+◌, ◌*◌, ◌%◌, Bool, not, List, [], ◌∷◌, ◌++◌, length, ℤ, pos, ◌+ℤ◌, ◌-ℤ◌, is_some, Some, None, Option, ◌==◌, nat_le, nat_lt, slice_index_or}
use Rattle.std.specs.List.{slice_get}
use Rattle.std.specs.Option.{unwrap_or}
use Rattle.theme.specs.declared.place.Place.{Place}
use Rattle.theme.specs.Fields.{columns_of}
use Rattle.theme.specs.Pages.{page_length}
use Rattle.rules.specs.declared.combination.Combination.{Combination}
use Rattle.rules.specs.declared.refusal.Refusal.{Refusal}
use Rattle.rules.specs.declared.refusal.Refusal.TheVariants.{LineUnfit, NotALine, NotListed, OutputTooShort}
use Rattle.rules.specs.Cells.{key_of, wrong_cell}
use Rattle.rules.specs.Plain.{Plain, places_of, original, theme_question}
use Rattle.paper.specs.Columns.{signed_columns}

-- the key of a place, 0 where there is none
abbrev pub key_there : Option Place → ℕ
key_there None = 0
key_there (Some p) = p.key

-- the key that the theme has at a place, counted round the barrel
abbrev pub theme_key : List Place → ℕ → ℕ
theme_key places place = key_there (slice_get places (place % length places))

-- the head: the number of the combination, its Jv, its entry, a newline
abbrev pub combination_head : ℕ → Combination → List ℕ
combination_head number c = columns_of number ++ signed_columns c.jv ++ columns_of c.entry ++ (10 ∷ [])

-- a row: the place, the line's key as it is raised, the theme's key, the interval, a newline
abbrev pub combination_row : ℕ → ℤ → ℕ → List ℕ
combination_row place raised key =
    columns_of place ++ signed_columns raised ++ columns_of key ++ signed_columns (raised -ℤ pos key) ++ (10 ∷ [])

-- the row of a place of the line, which meets the theme as many places on as the entry says
abbrev pub met_row : List Place → Combination → ℕ → ℕ → List ℕ
met_row places c place cell = combination_row place (pos (key_of cell) +ℤ c.jv) (theme_key places (place + c.entry))

-- the rows of cells that are counted from this place
abbrev pub combination_rows : List Place → Combination → ℕ → List ℕ → List ℕ
combination_rows places c place [] = []
combination_rows places c place (cell ∷ cells) = met_row places c place cell ++ combination_rows places c (place + 1) cells

-- the combination that has this number in the list
abbrev pub numbered : Plain → ℕ → Combination
numbered p number = slice_index_or p.list number original

abbrev pub combination_page : Plain → List ℕ → ℕ → List ℕ
combination_page p line number =
    combination_head number (numbered p number) ++ combination_rows p.theme.places (numbered p number) 0 line

-- a written combination of N places has this many bytes
abbrev pub combination_length : ℕ → ℕ
combination_length count = 13 + 17 * count

-- what is asked before the theme's page is written into a buffer of this length, in this order
abbrev pub page_questions : Plain → ℕ → List (Bool × Refusal)
page_questions p room = theme_question p ∷ (nat_le (page_length (places_of p)) room, OutputTooShort) ∷ []

-- what is asked of a line: has the sheet a theme, has the line just its places, and is it a line?
abbrev pub line_questions : Plain → List ℕ → List (Bool × Refusal)
line_questions p line =
    theme_question p ∷
    ((length line == places_of p), LineUnfit) ∷
    (not (is_some (wrong_cell line)), NotALine (unwrap_or (wrong_cell line) 0)) ∷ []

-- what is asked before a combination is written into a buffer of this length, in this order
abbrev pub writing_questions : Plain → List ℕ → ℕ → ℕ → List (Bool × Refusal)
writing_questions p line number room =
    line_questions p line ++ (nat_lt number (length p.list), NotListed) ∷ (nat_le (combination_length (places_of p)) room, OutputTooShort) ∷ []
