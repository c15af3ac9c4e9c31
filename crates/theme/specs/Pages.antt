-- The page of a theme, and what a page is refused for. Assumes nothing.
--
--   page_of th       the bytes of a theme's page
--   theme_in page    the theme that a page holds, where it is accepted
--   refusal_of page  the first no to a page, if there is one
use Rattle.std.specs.Prelude.{◌≡◌, ℕ, zero, suc, ◌+◌, ◌*◌, Bool, true, false, List, [], ◌∷◌, ◌++◌, length, drop, is_some, Some, None, Option, ◌==◌, nat_le, nat_lt, slice_index}
use Rattle.std.specs.Option.{unwrap_or}
use Rattle.theme.specs.declared.place.Mark.{Mark}
use Rattle.theme.specs.declared.place.Mark.TheVariants.{Pin}
use Rattle.theme.specs.declared.place.Place.{Place}
use Rattle.theme.specs.declared.refusal.PageRefusal.{PageRefusal}
use Rattle.theme.specs.declared.refusal.Reason.TheVariants.{HeadUnended, HeadNotANumber, PlacesOutOfRange, BarUnfit, WrongLength, BrokenRow, WrongPlaceNumber, KeyNotANumber, KeyOutOfRange, UnknownMark, UnlawfulBridge}
use Rattle.theme.specs.declared.refusal.WriteRefusal.{WriteRefusal}
use Rattle.theme.specs.declared.refusal.WriteRefusal.TheVariants.{NoTheme, OutputTooShort}
use Rattle.theme.specs.Fields.{columns_of, number_in}
use Rattle.theme.specs.Places.{letter_of, mark_of}
use Rattle.theme.specs.Refusals.{first_no, or_next, refused}
use Rattle.theme.specs.Themes.{PlainTheme, Lawful, count_lawful, bar_lawful, marked_well}

-- the row of a place: its number, its key, a blank, the letter of its mark, a newline
abbrev pub row_of : ℕ → Place → List ℕ
row_of place p = columns_of place ++ columns_of p.key ++ (32 ∷ letter_of p.mark ∷ 10 ∷ [])

-- the rows of places that are counted from this number
abbrev pub rows_of : ℕ → List Place → List ℕ
rows_of place [] = []
rows_of place (p ∷ ps) = row_of place p ++ rows_of (place + 1) ps

-- the head: the number of places, the bar length, a newline
abbrev pub head_of : ℕ → ℕ → List ℕ
head_of count bar = columns_of count ++ columns_of bar ++ (10 ∷ [])

abbrev pub page_of : PlainTheme → List ℕ
page_of th = head_of (length th.places) th.bar ++ rows_of 0 th.places

-- a page of N places has this many bytes
abbrev pub page_length : ℕ → ℕ
page_length count = 9 + 11 * count

-- what the fields of a page hold, 0 or a pin where they hold nothing
abbrev pub count_in : List ℕ → ℕ
count_in page = unwrap_or (number_in page) 0

abbrev pub bar_in : List ℕ → ℕ
bar_in page = unwrap_or (number_in (drop 4 page)) 0

abbrev pub key_in : List ℕ → ℕ
key_in row = unwrap_or (number_in (drop 4 row)) 0

abbrev pub mark_in : List ℕ → Mark
mark_in row = unwrap_or (mark_of (slice_index row 9)) Pin

abbrev pub place_in : List ℕ → Place
place_in row = record { key = key_in row; mark = mark_in row }

-- so many places, row by row
abbrev pub places_in : ℕ → List ℕ → List Place
places_in zero rows = []
places_in (suc n) rows = place_in rows ∷ places_in n (drop 11 rows)

abbrev pub theme_in : List ℕ → PlainTheme
theme_in page = record { places = places_in (count_in page) (drop 9 page); bar = bar_in page }

-- does the field hold just this number?
abbrev pub holds_number : Option ℕ → ℕ → Bool
holds_number None n = false
holds_number (Some m) n = m == n

-- what is asked of the head, in this order
abbrev pub head_questions : List ℕ → List (Bool × PageRefusal)
head_questions page =
    ((slice_index page 8 == 10), refused HeadUnended 1 1) ∷
    (is_some (number_in page), refused HeadNotANumber 1 1) ∷
    (is_some (number_in (drop 4 page)), refused HeadNotANumber 1 5) ∷
    (count_lawful (count_in page), refused PlacesOutOfRange 1 1) ∷
    (bar_lawful (count_in page) (bar_in page), refused BarUnfit 1 5) ∷
    ((length page == page_length (count_in page)), refused WrongLength 1 1) ∷ []

-- what is asked of the frame of the row of a place, in this order: the blank, the newline, the number
abbrev pub frame_questions : ℕ → List ℕ → List (Bool × PageRefusal)
frame_questions place row =
    ((slice_index row 8 == 32), refused BrokenRow (place + 2) 9) ∷
    ((slice_index row 10 == 10), refused BrokenRow (place + 2) 11) ∷
    (holds_number (number_in row) place, refused WrongPlaceNumber (place + 2) 1) ∷ []

-- what is asked of a key field on this line, in this order
abbrev pub key_questions : ℕ → List ℕ → List (Bool × PageRefusal)
key_questions line field =
    (is_some (number_in field), refused KeyNotANumber line 5) ∷
    (nat_le (unwrap_or (number_in field) 0) 23, refused KeyOutOfRange line 5) ∷ []

-- what is asked of a mark on this line, at this key after that one if any, in this order
abbrev pub mark_questions : ℕ → Option ℕ → ℕ → ℕ → List (Bool × PageRefusal)
mark_questions line before key letter =
    (is_some (mark_of letter), refused UnknownMark line 10) ∷
    (marked_well before (unwrap_or (mark_of letter) Pin) key, refused UnlawfulBridge line 10) ∷ []

-- what is asked of the row of a place, after this key if any, in this order
abbrev pub row_questions : ℕ → Option ℕ → List ℕ → List (Bool × PageRefusal)
row_questions place before row =
    frame_questions place row ++ key_questions (place + 2) (drop 4 row) ++ mark_questions (place + 2) before (key_in row) (slice_index row 9)

-- the first no to so many rows, from this place on
abbrev pub rows_refusal : ℕ → ℕ → Option ℕ → List ℕ → Option PageRefusal
rows_refusal zero place before rows = None
rows_refusal (suc n) place before rows =
    or_next (first_no (row_questions place before rows)) (rows_refusal n (place + 1) (Some (key_in rows)) (drop 11 rows))

abbrev pub refusal_of : List ℕ → Option PageRefusal
refusal_of page =
    or_next (first_no (head_questions page)) (rows_refusal (count_in page) 0 None (drop 9 page))

-- a buffer with these bytes at its front, and the rest of it as it was
abbrev pub fronted : List ℕ → List ℕ → List ℕ
fronted bytes buffer = bytes ++ drop (length bytes) buffer

-- what is asked before a page is written into a buffer of this length, in this order
abbrev pub write_questions : PlainTheme → ℕ → List (Bool × WriteRefusal)
write_questions th room =
    (nat_lt 0 (length th.places), NoTheme) ∷ (nat_le (page_length (length th.places)) room, OutputTooShort) ∷ []

-- A page is accepted exactly if it is the page of some lawful theme; that theme is then held, and
-- its page is the page read, byte for byte.
abbrev pub AcceptsExactly : List ℕ → Bool → PlainTheme → Type 0
AcceptsExactly page accepted held =
    (accepted ≡ true → Lawful held × (page_of held ≡ page)) × ((th : PlainTheme) → Lawful th → page_of th ≡ page → (accepted ≡ true) × (held ≡ th))

-- the page of this theme is read as this theme again
abbrev pub ReadsBack : PlainTheme → Type 0
ReadsBack th = (refusal_of (page_of th) ≡ None) × (theme_in (page_of th) ≡ th)
