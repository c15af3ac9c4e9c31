-- The first no to one row, part by part, and rows read one after another. Assumes nothing.
use Rattle.std.proofs.Common.{◌≡◌, ℕ, zero, suc, ◌+◌, ◌-◌, ◌*◌, ◌<◌, ◌≤◌, Bool, eqb, leb, List, [], ◌∷◌, ◌++◌, length, get_or, take, drop, set, is_some, Some, None, Option, unwrap_or, sym, refl, ap, ◌∙◌, append_assoc, arith}
use Rattle.std.proofs.lemmas.List.{length-set, take_more_set, get_or-take, get_or-drop, drop-drop}
use Rattle.std.specs.Simd.{first_chunks}
use Rattle.theme.specs.declared.place.Mark.{Mark}
use Rattle.theme.specs.declared.place.Mark.TheVariants.{Pin}
use Rattle.theme.specs.declared.place.Place.{Place}
use Rattle.theme.specs.declared.refusal.PageRefusal.{PageRefusal}
use Rattle.theme.specs.Fields.{number_in}
use Rattle.theme.specs.declared.refusal.Reason.TheVariants.{BrokenRow, WrongPlaceNumber, KeyNotANumber, KeyOutOfRange}
use Rattle.theme.specs.Refusals.{first_no, or_next, refused}
use Rattle.theme.specs.Pages.{frame_questions, key_questions, mark_questions, row_questions, place_in, key_in, rows_refusal, places_in, holds_number}
use Rattle.theme.specs.Places.{mark_of}
use Rattle.theme.proofs.Asked.{first_no_next, first_no_stops}

-- a text that is cut off shows the numbers that it showed
number_cut : (k n : ℕ) (rows : List ℕ) → k + 4 ≤ n → number_in (drop k (take n rows)) ≡ number_in (drop k rows)
number_cut k n rows short =
    λ i. number_in (same 0 (omega arith) i ∷ same 1 (omega arith) i ∷ same 2 (omega arith) i ∷ same 3 (omega arith) i ∷ [])
  where
    same : (j : ℕ) → j < 4 → get_or (drop k (take n rows)) j 0 ≡ get_or (drop k rows) j 0
    same j low = get_or-drop k (take n rows) j 0 ∙ get_or-take n rows (k + j) 0 (omega arith) ∙ sym (get_or-drop k rows j 0)

-- the key field, as the reader is handed it
abbrev field_of : List ℕ → List ℕ
field_of row = take 7 (drop 4 row)

module _ (place : ℕ) (before : Option ℕ) (row : List ℕ) where
  shown : number_in (field_of row) ≡ number_in (drop 4 row)
  shown = number_cut 0 7 (drop 4 row) (omega arith)

  key_asked : first_no (key_questions (place + 2) (field_of row)) ≡ first_no (key_questions (place + 2) (drop 4 row))
  key_asked i = first_no ((is_some (shown i), refused KeyNotANumber (place + 2) 5) ∷ (leb (unwrap_or (shown i) 0) 23, refused KeyOutOfRange (place + 2) 5) ∷ [])

  abbrev frames : List (Bool × PageRefusal)
  frames = frame_questions place row

  abbrev keys : List (Bool × PageRefusal)
  keys = key_questions (place + 2) (drop 4 row)

  abbrev marks : List (Bool × PageRefusal)
  marks = mark_questions (place + 2) before (key_in row) (get_or row 9 0)

  pub stops_at_frame : (e : PageRefusal) → first_no (frame_questions place row) ≡ Some e → first_no (row_questions place before row) ≡ Some e
  stops_at_frame e frame =
      first_no_stops (frames ++ keys) marks e (first_no_stops frames keys e frame)

  pub stops_at_key : (e : PageRefusal) → first_no (frame_questions place row) ≡ None → first_no (key_questions (place + 2) (field_of row)) ≡ Some e → first_no (row_questions place before row) ≡ Some e
  stops_at_key e frame asked =
      first_no_stops (frames ++ keys) marks e (first_no_next frames keys frame ∙ sym key_asked ∙ asked)

  module _ (key : ℕ) (frame : first_no (frame_questions place row) ≡ None) (asked : first_no (key_questions (place + 2) (field_of row)) ≡ None) (number : number_in (field_of row) ≡ Some key) where
    read : number_in (drop 4 row) ≡ Some key
    read = sym shown ∙ number

    -- past the frame and the key, the mark decides
    pub mark_decides : first_no (row_questions place before row) ≡ first_no (mark_questions (place + 2) before key (get_or row 9 0))
    mark_decides =
        first_no_next (frames ++ keys) marks (first_no_next frames keys frame ∙ sym key_asked ∙ asked)
        ∙ ap (λ (o : Option ℕ). first_no (mark_questions (place + 2) before (unwrap_or o 0) (get_or row 9 0))) read

    pub place_read : (mark : Mark) → mark_of (get_or row 9 0) ≡ Some mark → record { key = key; mark = mark } ≡ place_in row
    place_read mark known i = record {
      key = ap (λ (o : Option ℕ). unwrap_or o 0) (sym read) i;
      mark = ap (λ (o : Option Mark). unwrap_or o Pin) (sym known) i;
    }

-- the rows from a place on are its row and those behind it
pub rows_refusal_more : (n m place : ℕ) (before : Option ℕ) (rows : List ℕ) → n ≡ suc m → rows_refusal n place before rows ≡ or_next (first_no (row_questions place before rows)) (rows_refusal m (place + 1) (Some (key_in rows)) (drop 11 rows))
rows_refusal_more n m place before rows e = ap (λ (k : ℕ). rows_refusal k place before rows) e

pub rows_refusal_next : (n m place : ℕ) (before : Option ℕ) (rows : List ℕ) → n ≡ suc m → first_no (row_questions place before rows) ≡ None → rows_refusal m (place + 1) (Some (key_in rows)) (drop 11 rows) ≡ rows_refusal n place before rows
rows_refusal_next n m place before rows e none =
    sym (rows_refusal_more n m place before rows e ∙ ap (λ (o : Option PageRefusal). or_next o (rows_refusal m (place + 1) (Some (key_in rows)) (drop 11 rows))) none)

pub rows_refusal_stops : (n m place : ℕ) (before : Option ℕ) (rows : List ℕ) (r : PageRefusal) → n ≡ suc m → first_no (row_questions place before rows) ≡ Some r → rows_refusal n place before rows ≡ Some r
rows_refusal_stops n m place before rows r e some =
    rows_refusal_more n m place before rows e ∙ ap (λ (o : Option PageRefusal). or_next o (rows_refusal m (place + 1) (Some (key_in rows)) (drop 11 rows))) some

-- Rows cut apart -------------------------------------------------------------------------------

module _ (rows : List ℕ) where
  number : number_in (take 11 rows) ≡ number_in rows
  number = number_cut 0 11 rows (omega arith)

  key : number_in (drop 4 (take 11 rows)) ≡ number_in (drop 4 rows)
  key = number_cut 4 11 rows (omega arith)

  letter : get_or (take 11 rows) 9 0 ≡ get_or rows 9 0
  letter = get_or-take 11 rows 9 0 (omega arith)

  pub place_cut : place_in (take 11 rows) ≡ place_in rows
  place_cut i = record { key = unwrap_or (key i) 0; mark = unwrap_or (mark_of (letter i)) Pin }

  pub questions_cut : (place : ℕ) (before : Option ℕ) → row_questions place before (take 11 rows) ≡ row_questions place before rows
  questions_cut place before i =
      ((eqb (get_or-take 11 rows 8 0 (omega arith) i) 32), refused BrokenRow (place + 2) 9) ∷
      ((eqb (get_or-take 11 rows 10 0 (omega arith) i) 10), refused BrokenRow (place + 2) 11) ∷
      (holds_number (number i) place, refused WrongPlaceNumber (place + 2) 1) ∷
      (is_some (key i), refused KeyNotANumber (place + 2) 5) ∷
      (leb (unwrap_or (key i) 0) 23, refused KeyOutOfRange (place + 2) 5) ∷
      (mark_questions (place + 2) before (unwrap_or (key i) 0) (letter i))

-- the row with this number, of so many
chunk_at : (n k : ℕ) (rows d : List ℕ) → k < n → get_or (first_chunks 11 n rows) k d ≡ take 11 (drop (11 * k) rows)
chunk_at zero k rows d below = absurd (omega arith)
chunk_at (suc n) zero rows d below = refl
chunk_at (suc n) (suc k) rows d below =
    chunk_at n k (drop 11 rows) d (omega arith)
    ∙ ap (take 11) (drop-drop (11 * k) 11 rows ∙ ap (λ (m : ℕ). drop m rows) (omega arith))

-- while rows are read: what is left to ask decides the whole, and the places read and those left are
-- the places of all the rows
pub record Read (n : ℕ) (rows : List ℕ) (place : ℕ) (before : Option ℕ) (places : List Place) : Type 0 where
  pub decides : rows_refusal (n - place) place before (drop (11 * place) rows) ≡ rows_refusal n 0 None rows
  pub room : length places ≡ 64
  pub all : take place places ++ places_in (n - place) (drop (11 * place) rows) ≡ places_in n rows

module _ {n : ℕ} {rows : List ℕ} {place : ℕ} {before : Option ℕ} {places : List Place} (r : Read n rows place before places) where
  module _ (chunks : List (List ℕ)) (are : chunks ≡ first_chunks 11 n rows) (below : place < n) (d : List ℕ) where
    abbrev rest : List ℕ
    rest = drop (11 * place) rows

    abbrev row : List ℕ
    row = get_or chunks place d

    one_more : n - place ≡ suc (n - (place + 1))
    one_more = omega arith

    cut : row ≡ take 11 rest
    cut = ap (λ (cs : List (List ℕ)). get_or cs place d) are ∙ chunk_at n place rows d below

    asked : row_questions place before row ≡ row_questions place before rest
    asked = ap (row_questions place before) cut ∙ questions_cut rest place before

    -- a row that is refused is the first of those read and left
    pub read_stops : (e : PageRefusal) → first_no (row_questions place before row) ≡ Some e → rows_refusal n 0 None rows ≡ Some e
    read_stops e some =
        sym r.decides ∙ rows_refusal_stops (n - place) (n - (place + 1)) place before rest e one_more (sym (ap first_no asked) ∙ some)

    -- one place more is read
    pub read_more : (read : Place) → place < length places → first_no (row_questions place before row) ≡ None → read ≡ place_in row → Read n rows (place + 1) (Some read.key) (set places place read)
    read_more read room none is =
        let place-is : read ≡ place_in rest = is ∙ ap place_in cut ∙ place_cut rest in
        let far : drop (11 * (place + 1)) rows ≡ drop 11 rest =
        ap (λ (m : ℕ). drop m rows) (omega arith) ∙ sym (drop-drop 11 (11 * place) rows) in
        let next = rows_refusal_next (n - place) (n - (place + 1)) place before rest one_more (sym (ap first_no asked) ∙ none) in
        record {
          decides =
              (λ i. rows_refusal (n - (place + 1)) (place + 1) (Some (place-is i).key) (far i)) ∙ next ∙ r.decides;
          room = length-set places place read ∙ r.room;
          all =
              (λ i. take_more_set places place read room i ++ places_in (n - (place + 1)) (far i))
              ∙ append_assoc (take place places) (read ∷ []) (places_in (n - (place + 1)) (drop 11 rest))
              ∙ (λ i. take place places ++ (place-is i ∷ places_in (n - (place + 1)) (drop 11 rest)))
              ∙ ap (λ (ps : List Place). take place places ++ ps) (sym (ap (λ (k : ℕ). places_in k rest) one_more))
              ∙ r.all;
        }
