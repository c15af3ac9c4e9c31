-- What is known of a head or a row to which there is no no. Assumes nothing.
use Rattle.std.proofs.Common.{◌≡◌, ℕ, true, leb, List, length, get_or, drop, is_some, Some, None, Option, unwrap_or, refl, ap, arith}
use Rattle.std.proofs.lemmas.Bool.{eqb-true}
use Rattle.theme.specs.declared.place.Mark.TheVariants.{Pin}
use Rattle.theme.specs.Fields.{number_in}
use Rattle.theme.specs.Refusals.{first_no}
use Rattle.theme.specs.Themes.{count_lawful, bar_lawful, marked_well}
use Rattle.theme.specs.Pages.{head_questions, row_questions, count_in, bar_in, key_in, mark_in, page_length, holds_number}
use Rattle.theme.specs.Places.{mark_of}
use Rattle.theme.proofs.Asked.{all_yes}

-- something is what it is
some_of : {X : Type 0} (o : Option X) (d : X) → is_some o ≡ true → o ≡ Some (unwrap_or o d)
some_of None d e = let z : ◌≡◌ {A = ℕ} 0 1 = cc in absurd (omega arith)
some_of (Some x) d e = refl

holds_is : (o : Option ℕ) (n : ℕ) → holds_number o n ≡ true → o ≡ Some n
holds_is None n e = let z : ◌≡◌ {A = ℕ} 0 1 = cc in absurd (omega arith)
holds_is (Some m) n e = ap (λ (k : ℕ). Some k) (eqb-true m n e)

pub record HeadPasses (page : List ℕ) : Type 0 where
  pub ended : get_or page 8 0 ≡ 10
  pub counts : number_in page ≡ Some (count_in page)
  pub bars : number_in (drop 4 page) ≡ Some (bar_in page)
  pub counted : count_lawful (count_in page) ≡ true
  pub barred : bar_lawful (count_in page) (bar_in page) ≡ true
  pub long : length page ≡ page_length (count_in page)

pub head_passes : (page : List ℕ) → first_no (head_questions page) ≡ None → HeadPasses page
head_passes page none =
    let q = all_yes (head_questions page) none in
    record {
      ended = eqb-true _ _ q.0;
      counts = some_of _ 0 q.1.0;
      bars = some_of _ 0 q.1.1.0;
      counted = q.1.1.1.0;
      barred = q.1.1.1.1.0;
      long = eqb-true _ _ q.1.1.1.1.1.0;
    }

pub record RowPasses (place : ℕ) (before : Option ℕ) (row : List ℕ) : Type 0 where
  pub blank : get_or row 8 0 ≡ 32
  pub ended : get_or row 10 0 ≡ 10
  pub numbered : number_in row ≡ Some place
  pub keyed : number_in (drop 4 row) ≡ Some (key_in row)
  pub low : leb (key_in row) 23 ≡ true
  pub marked : mark_of (get_or row 9 0) ≡ Some (mark_in row)
  pub well : marked_well before (mark_in row) (key_in row) ≡ true

pub row_passes : (place : ℕ) (before : Option ℕ) (row : List ℕ) → first_no (row_questions place before row) ≡ None → RowPasses place before row
row_passes place before row none =
    let q = all_yes (row_questions place before row) none in
    record {
      blank = eqb-true _ _ q.0;
      ended = eqb-true _ _ q.1.0;
      numbered = holds_is _ place q.1.1.0;
      keyed = some_of _ 0 q.1.1.1.0;
      low = q.1.1.1.1.0;
      marked = some_of _ Pin q.1.1.1.1.1.0;
      well = q.1.1.1.1.1.1.0;
    }
