-- Reading a page is the inverse of writing it. Assumes nothing.
use Rattle.std.proofs.Common.{◌≡◌, ℕ, zero, suc, ◌+◌, ◌*◌, ◌/◌, ◌%◌, ◌≤◌, Bool, true, false, cond, ◌&&◌, eqb, leb, List, [], ◌∷◌, ◌++◌, length, get_or, drop, is_some, Some, None, Option, unwrap_or, sym, refl, ap, ◌∙◌, arith, length-drop}
use Rattle.std.proofs.lemmas.List.{drop-drop, drop_more, nil_from_length}
use Rattle.std.proofs.lemmas.Bool.{and_from, and_parts, leb-true, eq-eqb, eqb-true}
use Rattle.theme.specs.declared.place.Mark.{Mark}
use Rattle.theme.specs.declared.place.Mark.TheVariants.{Pin, Bridge}
use Rattle.theme.specs.declared.place.Place.{Place}
use Rattle.theme.specs.declared.refusal.PageRefusal.{PageRefusal}
use Rattle.theme.specs.Fields.{number_in, columns_of}
use Rattle.theme.specs.Refusals.{first_no, or_next}
use Rattle.theme.specs.Themes.{PlainTheme, Lawful, lawful, blank_or_lawful, places_lawful, count_lawful, bar_lawful, marked_well}
use Rattle.theme.specs.Pages.{head_questions, row_questions, rows_refusal, refusal_of, theme_in, place_in, places_in, count_in, bar_in, key_in, mark_in, row_of, rows_of, head_of, page_of, page_length, holds_number, ReadsBack, AcceptsExactly}
use Rattle.theme.specs.Places.{mark_of, letter_of}
use Rattle.theme.specs.declared.reading.Head.{Head}
use Rattle.theme.specs.Held.{Headed}
use Rattle.theme.proofs.Asked.{none_from_all_yes, or_next_none, or_next_both}
use Rattle.theme.proofs.Passing.{head_passes, RowPasses, row_passes}
use Rattle.theme.proofs.Shown.{columns_shown, number_columns, split_four}

-- the letter that gives a mark is the mark's letter
mark_letter : (letter : ℕ) (mark : Mark) → mark_of letter ≡ Some mark → letter_of mark ≡ letter
mark_letter letter mark e = go (eqb letter 112) (eqb letter 98) refl refl e
  where
    go : (p b : Bool) → eqb letter 112 ≡ p → eqb letter 98 ≡ b → cond p (Some Pin) (cond b (Some Bridge) None) ≡ Some mark → letter_of mark ≡ letter
    go true b p-is b-is e =
        let m : mark ≡ Pin = cc in ap letter_of m ∙ sym (eqb-true letter 112 p-is)
    go false true p-is b-is e =
        let m : mark ≡ Bridge = cc in ap letter_of m ∙ sym (eqb-true letter 98 b-is)
    go false false p-is b-is e = let z : ◌≡◌ {A = ℕ} 0 1 = cc in absurd (omega arith)

letter_mark : (mark : Mark) → mark_of (letter_of mark) ≡ Some mark
letter_mark Pin = refl
letter_mark Bridge = refl

-- Accepted pages ---------------------------------------------------------------------------------

-- a row that is not refused is the row of the place that is read from it
row_back : (place : ℕ) (before : Option ℕ) (rows : List ℕ) → 11 ≤ length rows → RowPasses place before rows → row_of place (place_in rows) ++ drop 11 rows ≡ rows
row_back place before rows long p =
    let number = columns_shown rows place p.numbered in
    let key = columns_shown (drop 4 rows) (key_in rows) p.keyed in
    let letter = sym (mark_letter (get_or rows 9 0) (mark_in rows) p.marked) in
    let nine = drop_more rows 9 0 (omega arith) in
    let ten = drop_more rows 10 0 (omega arith) in
    let end : drop 4 (drop 4 rows) ≡ 32 ∷ letter_of (mark_in rows) ∷ 10 ∷ drop 11 rows =
    drop-drop 4 4 rows ∙ drop_more rows 8 0 (omega arith) ∙ (λ i. p.blank i ∷ nine i)
    ∙ (λ i. 32 ∷ letter i ∷ ten i) ∙ (λ i. 32 ∷ letter_of (mark_in rows) ∷ p.ended i ∷ drop 11 rows) in
    sym
    (split_four rows (omega arith)
    ∙ (λ i. number i ++ split_four (drop 4 rows) (omega (arith, length-drop 4 rows)) i)
    ∙ (λ i. columns_of place ++ (key i ++ end i)))

places_in_length : (n : ℕ) (rows : List ℕ) → length (places_in n rows) ≡ n
places_in_length zero rows = refl
places_in_length (suc n) rows = ap suc (places_in_length n (drop 11 rows))

rows_back : (n place : ℕ) (before : Option ℕ) (rows : List ℕ) → length rows ≡ 11 * n → rows_refusal n place before rows ≡ None → (rows_of place (places_in n rows) ≡ rows) × (places_lawful before (places_in n rows) ≡ true)
rows_back zero place before rows long none = (sym (nil_from_length rows long), refl)
rows_back (suc n) place before rows long none =
    let both = or_next_none _ _ none in
    let p = row_passes place before rows both.0 in
    let rest = rows_back n (place + 1) (Some (key_in rows)) (drop 11 rows) (omega (arith, length-drop 11 rows)) both.1 in (
      ap (λ (xs : List ℕ). row_of place (place_in rows) ++ xs) rest.0 ∙ row_back place before rows (omega arith) p,
      and_from _ _ (and_from _ _ p.low p.well) rest.1,
    )

pub accepted_back : (page : List ℕ) → refusal_of page ≡ None → Lawful (theme_in page) × (page_of (theme_in page) ≡ page)
accepted_back page none =
    let both = or_next_none (first_no (head_questions page)) (rows_refusal (count_in page) 0 None (drop 9 page)) none in
    let h = head_passes page both.0 in
    let many = places_in_length (count_in page) (drop 9 page) in
    let rows = rows_back (count_in page) 0 None (drop 9 page) (omega (arith, length-drop 9 page, h.long)) both.1 in
    let count = columns_shown page (count_in page) h.counts in
    let bar = columns_shown (drop 4 page) (bar_in page) h.bars in
    let end : drop 4 (drop 4 page) ≡ 10 ∷ drop 9 page =
    drop-drop 4 4 page ∙ drop_more page 8 0 (omega (arith, h.long)) ∙ (λ i. h.ended i ∷ drop 9 page) in (
      and_from _ _
          (and_from _ _
          (ap count_lawful many ∙ h.counted)
          (ap (λ (n : ℕ). bar_lawful n (bar_in page)) many ∙ h.barred))
          rows.1,
      (λ i. head_of (many i) (bar_in page) ++ rows.0 i)
          ∙ sym
          (split_four page (omega (arith, h.long))
          ∙ (λ i. count i ++ split_four (drop 4 page) (omega (arith, length-drop 4 page, h.long)) i)
          ∙ (λ i. columns_of (count_in page) ++ (bar i ++ end i))),
    )

-- Written themes ---------------------------------------------------------------------------------

pub rows_length : (place : ℕ) (ps : List Place) → length (rows_of place ps) ≡ 11 * length ps
rows_length place [] = refl
rows_length place (p ∷ ps) = omega (arith, rows_length (place + 1) ps)

rows_read : (ps : List Place) (place : ℕ) (before : Option ℕ) → places_lawful before ps ≡ true → place + length ps ≤ 64 → (rows_refusal (length ps) place before (rows_of place ps) ≡ None) × (places_in (length ps) (rows_of place ps) ≡ ps)
rows_read [] place before law low = (refl, refl)
rows_read (p ∷ ps) place before law low =
    let rows : List ℕ = rows_of place (p ∷ ps) in
    let laws = and_parts (leb p.key 23 && marked_well before p.mark p.key) (places_lawful (Some p.key) ps) law in
    let here = and_parts (leb p.key 23) (marked_well before p.mark p.key) laws.0 in
    let small = leb-true p.key 23 here.0 in
    let number : number_in rows ≡ Some place = number_columns place (drop 4 rows) (omega arith) in
    let key : number_in (drop 4 rows) ≡ Some p.key = number_columns p.key (drop 8 rows) (omega arith) in
    let mark = letter_mark p.mark in
    let rest = rows_read ps (place + 1) (Some p.key) laws.1 (omega arith) in
    let asked = none_from_all_yes (row_questions place before rows) (
      refl,
      (
        refl,
        (
          ap (λ (o : Option ℕ). holds_number o place) number ∙ eq-eqb place place refl,
          (
            ap is_some key,
            (
              ap (λ (o : Option ℕ). leb (unwrap_or o 0) 23) key ∙ here.0,
              (
                ap is_some mark,
                ((λ i. marked_well before (unwrap_or (mark i) Pin) (unwrap_or (key i) 0)) ∙ here.1, tt),
              ),
            ),
          ),
        ),
      ),
    ) in (
      or_next_both (first_no (row_questions place before rows)) _ asked
          (ap (λ (o : Option ℕ). rows_refusal (length ps) (place + 1) (Some (unwrap_or o 0)) (rows_of (place + 1) ps)) key ∙ rest.0),
      (λ i. record { key = unwrap_or (key i) 0; mark = unwrap_or (mark i) Pin } ∷ rest.1 i),
    )

pub reads_back : (th : PlainTheme) → Lawful th → ReadsBack th
reads_back th law =
    let page : List ℕ = page_of th in
    let n : ℕ = length th.places in
    let laws = and_parts (count_lawful n && bar_lawful n th.bar) (places_lawful None th.places) law in
    let both = and_parts (count_lawful n) (bar_lawful n th.bar) laws.0 in
    let few = leb-true n 64 (and_parts (leb 1 n) (leb n 64) both.0).1 in
    let short = leb-true th.bar n (and_parts (leb 1 th.bar) (leb th.bar n) (and_parts (leb 1 th.bar && leb th.bar n) (eqb (n % th.bar) 0) both.1).0).1 in
    let count : number_in page ≡ Some n = number_columns n (drop 4 page) (omega arith) in
    let bar : number_in (drop 4 page) ≡ Some th.bar = number_columns th.bar (drop 8 page) (omega arith) in
    let rows = rows_read th.places 0 None laws.1 (omega arith) in
    let many : count_in page ≡ n = ap (λ (o : Option ℕ). unwrap_or o 0) count in
    let asked = none_from_all_yes (head_questions page) (
      refl,
      (
        ap is_some count,
        (
          ap is_some bar,
          (
            ap count_lawful many ∙ both.0,
            (
              (λ i. bar_lawful (many i) (unwrap_or (bar i) 0)) ∙ both.1,
              (eq-eqb (length page) (page_length (count_in page)) (omega (arith, rows_length 0 th.places, many)), tt),
            ),
          ),
        ),
      ),
    ) in (
      or_next_both (first_no (head_questions page)) _ asked
          (ap (λ (k : ℕ). rows_refusal k 0 None (rows_of 0 th.places)) many ∙ rows.0),
      (λ i. record { places = (ap (λ (k : ℕ). places_in k (rows_of 0 th.places)) many ∙ rows.1) i; bar = unwrap_or (bar i) 0 }),
    )

-- Both ------------------------------------------------------------------------------------------

-- a lawful theme may be held
pub lawful_held : (ps : List Place) (bar : ℕ) → Lawful (record { places = ps; bar = bar }) → blank_or_lawful ps bar ≡ true
lawful_held [] bar law = let z : ◌≡◌ {A = ℕ} 0 1 = cc in absurd (omega arith)
lawful_held (p ∷ ps) bar law = law

pub exactly_accepted : (page : List ℕ) (held : PlainTheme) → refusal_of page ≡ None → held ≡ theme_in page → AcceptsExactly page true held
exactly_accepted page held none is =
    let back = accepted_back page none in (
      (λ _. (ap lawful is ∙ back.0, ap page_of is ∙ back.1)),
      (λ th law same. (refl, is ∙ sym (ap theme_in same) ∙ (reads_back th law).1)),
    )

pub exactly_refused : (page : List ℕ) (held : PlainTheme) (e : PageRefusal) → refusal_of page ≡ Some e → AcceptsExactly page false held
exactly_refused page held e some = (
  (λ accepted. let z : ◌≡◌ {A = ℕ} 0 1 = cc in absurd (omega arith)),
  (λ th law same. let none : refusal_of page ≡ None = sym (ap refusal_of same) ∙ (reads_back th law).0 in let z : ◌≡◌ {A = ℕ} 0 1 = cc in absurd (omega arith)),
)

-- a page whose head is refused is refused for it
pub refused_head : (page : List ℕ) (e : PageRefusal) → first_no (head_questions page) ≡ Some e → refusal_of page ≡ Some e
refused_head page e some = ap (λ (o : Option PageRefusal). or_next o (rows_refusal (count_in page) 0 None (drop 9 page))) some

-- the rows behind a head that is not refused
module _ (page rows : List ℕ) (head : Head) (h : Headed head rows page) where
  pub so_many : length rows / 11 ≡ head.count
  so_many = omega (arith, h.long)

  pub rows_decide : first_no (head_questions page) ≡ None → refusal_of page ≡ rows_refusal (length rows / 11) 0 None rows
  rows_decide none =
      ap (λ (o : Option PageRefusal). or_next o (rows_refusal (count_in page) 0 None (drop 9 page))) none
      ∙ sym (λ i. rows_refusal ((so_many ∙ h.count_is) i) 0 None (h.rows_are i))

  -- what is read from them is the theme of the page
  pub filled_theme : (items : List Place) → items ≡ places_in (length rows / 11) rows → ◌≡◌ {A = PlainTheme} (record { places = items; bar = head.bar }) (theme_in page)
  filled_theme items filled i = record {
    places = (filled ∙ (λ j. places_in ((so_many ∙ h.count_is) j) (h.rows_are j))) i;
    bar = h.bar_is i;
  }
