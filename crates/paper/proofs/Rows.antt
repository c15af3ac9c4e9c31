-- The rows of a combination put into a buffer one after another. Assumes nothing.
use Rattle.std.proofs.Common.{◌≡◌, ℕ, ◌+◌, ◌*◌, ◌<◌, ◌≤◌, List, [], ◌∷◌, ◌++◌, length, get_or, take, drop, ℤ, pos, negsuc, ◌+ℤ◌, ◌-ℤ◌, sym, refl, ap, ◌∙◌, append_assoc, append-nil, arith, length-append}
use Rattle.std.proofs.lemmas.List.{length-take-le, take_more}
use Rattle.theme.specs.declared.place.Place.{Place}
use Rattle.theme.specs.Pages.{fronted}
use Rattle.theme.proofs.Shown.{four_of}
use Rattle.theme.proofs.Written.{put_more}
use Rattle.rules.specs.declared.combination.Combination.{Combination}
use Rattle.rules.specs.Cells.{key_of}
use Rattle.rules.specs.Plain.{Plain}
use Rattle.paper.specs.Columns.{signed_columns}
use Rattle.paper.specs.Written.{theme_key, combination_head, combination_row, met_row, combination_rows, combination_page, combination_length, numbered}

signed_length : (z : ℤ) → length (signed_columns z) ≡ 4
signed_length (pos n) = refl
signed_length (negsuc n) = refl

-- four columns, taken one by one and put together again
pub four_signed : (z : ℤ) → four_of (signed_columns z) ≡ signed_columns z
four_signed (pos n) = refl
four_signed (negsuc n) = refl

pub head_length : (number : ℕ) (c : Combination) → length (combination_head number c) ≡ 13
head_length number c = simp length-append (omega (arith, signed_length c.jv))

row_length : (place : ℕ) (raised : ℤ) (key : ℕ) → length (combination_row place raised key) ≡ 17
row_length place raised key = simp length-append (omega (arith, signed_length raised, signed_length (raised -ℤ pos key)))

module _ (places : List Place) (c : Combination) where
  pub met_length : (place cell : ℕ) → length (met_row places c place cell) ≡ 17
  met_length place cell = row_length place (pos (key_of cell) +ℤ c.jv) (theme_key places (place + c.entry))

  pub rows_length : (place : ℕ) (cells : List ℕ) → length (combination_rows places c place cells) ≡ 17 * length cells
  rows_length place [] = refl
  rows_length place (cell ∷ cells) =
      length-append (met_row places c place cell) (combination_rows places c (place + 1) cells)
      ∙ omega (arith, met_length place cell, rows_length (place + 1) cells)

  rows_push : (place : ℕ) (cells : List ℕ) (cell : ℕ) → combination_rows places c place (cells ++ cell ∷ []) ≡ combination_rows places c place cells ++ met_row places c (place + length cells) cell
  rows_push place [] cell =
      append-nil (met_row places c place cell) ∙ ap (λ (n : ℕ). met_row places c n cell) (omega arith)
  rows_push place (x ∷ xs) cell =
      ap (λ (ys : List ℕ). met_row places c place x ++ ys)
      (rows_push (place + 1) xs cell ∙ ap (λ (n : ℕ). combination_rows places c (place + 1) xs ++ met_row places c n cell) (omega arith))
      ∙ sym (append_assoc (met_row places c place x) (combination_rows places c (place + 1) xs) (met_row places c (place + length (x ∷ xs)) cell))

  -- one row more
  pub put_row : (buffer out line : List ℕ) (n : ℕ) → n < length line → combination_length (length line) ≤ length buffer → out ≡ take 13 buffer ++ combination_rows places c 0 (take n line) ++ drop (combination_length n) buffer → take (13 + 17 * n) out ++ met_row places c n (get_or line n 0) ++ drop (13 + 17 * n + length (met_row places c n (get_or line n 0))) out ≡ take 13 buffer ++ combination_rows places c 0 (take (n + 1) line) ++ drop (combination_length (n + 1)) buffer
  put_row buffer out line n below room is =
      let bytes : List ℕ = met_row places c n (get_or line n 0) in
      let rows : List ℕ = combination_rows places c 0 (take n line) in
      let many : length (take n line) ≡ n = length-take-le n line (omega arith) in
      let long : length (take 13 buffer ++ rows) ≡ 13 + 17 * n =
      length-append (take 13 buffer) rows ∙ (omega (arith, length-take-le 13 buffer (omega arith), rows_length 0 (take n line))) in
      let far : 13 + 17 * n + length bytes ≡ combination_length (n + 1) = omega (arith, met_length n (get_or line n 0)) in
      let more : rows ++ bytes ≡ combination_rows places c 0 (take (n + 1) line) =
      ap (λ (k : ℕ). rows ++ met_row places c k (get_or line n 0)) (omega (arith, many))
      ∙ sym (ap (combination_rows places c 0) (take_more line n 0 below) ∙ rows_push 0 (take n line) (get_or line n 0)) in
      put_more (take 13 buffer ++ rows) bytes buffer out (13 + 17 * n) long is
      ∙ ap (λ (xs : List ℕ). xs ++ drop (13 + 17 * n + length bytes) buffer) (append_assoc (take 13 buffer) rows bytes)
      ∙ (λ i. take 13 buffer ++ more i ++ drop (far i) buffer)

module _ (p : Plain) (line : List ℕ) (number : ℕ) where
  -- the length of what is written
  pub page_long : length (combination_page p line number) ≡ combination_length (length line)
  page_long =
      length-append (combination_head number (numbered p number)) (combination_rows p.theme.places (numbered p number) 0 line)
      ∙ omega (arith, head_length number (numbered p number), rows_length p.theme.places (numbered p number) 0 line)

  -- a head in front and rows behind it are the whole combination
  pub put_whole : (buffer headed out : List ℕ) → headed ≡ combination_head number (numbered p number) ++ drop 13 buffer → out ≡ take 13 headed ++ combination_rows p.theme.places (numbered p number) 0 line ++ drop (combination_length (length line)) headed → out ≡ fronted (combination_page p line number) buffer
  put_whole buffer headed out headed-is out-is =
      let head : List ℕ = combination_head number (numbered p number) in
      let rows : List ℕ = combination_rows p.theme.places (numbered p number) 0 line in
      let far : combination_length (length line) ≡ 13 + length rows = omega (arith, rows_length p.theme.places (numbered p number) 0 line) in
      out-is
      ∙ (λ i. take 13 headed ++ rows ++ drop (far i) headed)
      ∙ put_more head rows buffer headed 13 (head_length number (numbered p number)) headed-is
      ∙ ap (λ (n : ℕ). combination_page p line number ++ drop n buffer) (sym far ∙ sym page_long)
