-- Rows put into a buffer one after another. Assumes nothing.
use Rattle.std.proofs.Common.{◌≡◌, ℕ, ◌+◌, ◌-◌, ◌*◌, ◌<◌, ◌≤◌, true, List, [], ◌∷◌, ◌++◌, length, take, drop, sym, refl, ap, ◌∙◌, append_assoc, arith, length-append}
use borrow.Rule.Slice.PartMut.{put_mid}
use Rattle.std.proofs.lemmas.List.{take_at, drop_at, drop-drop, length-take-le}
use Rattle.theme.specs.declared.place.Place.{Place}
use Rattle.theme.specs.Themes.{PlainTheme, Lawful, blank_or_lawful}
use Rattle.theme.specs.Pages.{row_of, rows_of, head_of, page_of, page_length, fronted}
use Rattle.theme.proofs.Pages.{rows_length}

pub rows_of_push : (place : ℕ) (ps : List Place) (p : Place) → rows_of place (ps ++ p ∷ []) ≡ rows_of place ps ++ row_of (place + length ps) p
rows_of_push place [] p = ap (λ (n : ℕ). row_of n p) (omega arith)
rows_of_push place (q ∷ qs) p =
    ap (λ (xs : List ℕ). row_of place q ++ xs)
    (rows_of_push (place + 1) qs p ∙ ap (λ (n : ℕ). rows_of (place + 1) qs ++ row_of n p) (omega arith))

-- what a buffer holds once so many bytes are copied into its middle
pub put_is : (n k : ℕ) (buffer bytes copied : List ℕ) → copied ≡ bytes → length bytes ≡ k → put_mid n (n + k - n) buffer copied ≡ take n buffer ++ bytes ++ drop (n + length bytes) buffer
put_is n k buffer bytes copied is long =
    let many : n + k - n ≡ length bytes = omega arith in
    (λ i. take n buffer ++ (is i ++ drop (many i) (drop n buffer)))
    ∙ (λ i. take n buffer ++ (bytes ++ drop-drop (length bytes) n buffer i))
    ∙ sym (append_assoc (take n buffer) bytes (drop (n + length bytes) buffer))

-- bytes put behind those that are written are written too
pub put_more : (front bytes buffer out : List ℕ) (n : ℕ) → length front ≡ n → out ≡ front ++ drop n buffer → take n out ++ bytes ++ drop (n + length bytes) out ≡ front ++ bytes ++ drop (n + length bytes) buffer
put_more front bytes buffer out n long is =
    let k : ℕ = length bytes in
    (λ i. take n (is i) ++ bytes ++ drop (n + k) (is i))
    ∙ (λ i. take_at front (drop n buffer) n long i ++ bytes ++ drop_drop_back (front ++ drop n buffer) i)
    ∙ (λ i. front ++ bytes ++ drop k (drop_at front (drop n buffer) n long i))
    ∙ (λ i. front ++ bytes ++ drop-drop k n buffer i)
  where
    drop_drop_back : (xs : List ℕ) → drop (n + length bytes) xs ≡ drop (length bytes) (drop n xs)
    drop_drop_back xs = sym (drop-drop (length bytes) n xs)

-- one row more
pub put_row : (buffer out : List ℕ) (places : List Place) (number : ℕ) (place : Place) → number < length places → page_length (length places) ≤ length buffer → take (number + 1) places ≡ take number places ++ place ∷ [] → out ≡ take 9 buffer ++ rows_of 0 (take number places) ++ drop (page_length number) buffer → take (9 + 11 * number) out ++ row_of number place ++ drop (9 + 11 * number + 11) out ≡ take 9 buffer ++ rows_of 0 (take (number + 1) places) ++ drop (page_length (number + 1)) buffer
put_row buffer out places number place below room more is =
    let done : List Place = take number places in
    let many : length done ≡ number = length-take-le number places (omega arith) in
    let front : List ℕ = take 9 buffer ++ rows_of 0 done in
    let long : length front ≡ 9 + 11 * number =
    length-append (take 9 buffer) (rows_of 0 done) ∙ (omega (arith, length-take-le 9 buffer (omega arith), rows_length 0 done)) in
    put_more front (row_of number place) buffer out (9 + 11 * number) long is
    ∙ ap (λ (xs : List ℕ). xs ++ drop (9 + 11 * number + 11) buffer) (append_assoc (take 9 buffer) (rows_of 0 done) (row_of number place))
    ∙ ap (λ (n : ℕ). take 9 buffer ++ (rows_of 0 done ++ row_of n place) ++ drop (9 + 11 * number + 11) buffer) (omega (arith, many))
    ∙ ap (λ (xs : List ℕ). take 9 buffer ++ xs ++ drop (9 + 11 * number + 11) buffer) (sym (rows_of_push 0 done place))
    ∙ ap (λ (ps : List Place). take 9 buffer ++ rows_of 0 ps ++ drop (9 + 11 * number + 11) buffer) (sym more)
    ∙ ap (λ (n : ℕ). take 9 buffer ++ rows_of 0 (take (number + 1) places) ++ drop n buffer) (omega arith)

-- a head in front and rows behind it are the whole page
pub put_page : (th : PlainTheme) (buffer headed out : List ℕ) → headed ≡ head_of (length th.places) th.bar ++ drop 9 buffer → out ≡ take 9 headed ++ rows_of 0 th.places ++ drop (page_length (length th.places)) headed → out ≡ fronted (page_of th) buffer
put_page th buffer headed out headed-is out-is =
    let rows : List ℕ = rows_of 0 th.places in
    let long : page_length (length th.places) ≡ 9 + length rows = omega (arith, rows_length 0 th.places) in
    out-is
    ∙ (λ i. take 9 headed ++ rows ++ drop (long i) headed)
    ∙ put_more (head_of (length th.places) th.bar) rows buffer headed 9 refl headed-is
    ∙ ap (λ (n : ℕ). page_of th ++ drop n buffer) whole
  where
    whole : 9 + length (rows_of 0 th.places) ≡ length (page_of th)
    whole = omega arith

-- a theme that is held and not blank is lawful
pub held_lawful : (ps : List Place) (bar : ℕ) → blank_or_lawful ps bar ≡ true → 0 < length ps → Lawful (record { places = ps; bar = bar })
held_lawful [] bar well some = absurd (omega arith)
held_lawful (p ∷ ps) bar well some = well
