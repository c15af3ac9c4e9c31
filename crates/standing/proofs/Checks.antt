-- From the first no of check to whether a line stands. Assumes nothing.
use Rattle.std.proofs.Common.{◌≡◌, ℕ, ◌+◌, ◌<◌, ◌≤◌, Bool, true, false, cond, not, ◌&&◌, eqb, List, [], ◌∷◌, length, is_some, Some, None, Err, Option, Result, sym, refl, ap, ◌∙◌, subst, ap₂, arith, MatchResult}
use mathlib.Core.Bool.{and_assoc}
use Rattle.std.specs.List.{AllByRecursion}
use Rattle.std.proofs.lemmas.Bool.{and_parts, eq-eqb, false≢true, ne_eqb}
use Rattle.theme.specs.Refusals.{first_no, or_next, answer}
use Rattle.theme.proofs.Asked.{first_no-++, first_no_next, first_no_stops}
use Rattle.engine.specs.Lines.{upto, every, cell_at}
use Rattle.engine.specs.Weights.{first_with}
use Rattle.rules.specs.declared.combination.Combination.{Combination}
use Rattle.rules.specs.declared.refusal.Refusal.{Refusal}
use Rattle.rules.specs.declared.refusal.Refusal.TheVariants.{NotALine, NotKept, BookSaysNo, LineUnfit}
use Rattle.rules.specs.Refusals.{refusal_number}
use Rattle.rules.specs.Cells.{cell_lawful, cells_lawful, wrong_cell, wrong_from}
use Rattle.rules.specs.Laws.{OfTheLine, no_line, not_kept, book_says_no, Checked}
use Rattle.rules.specs.Questions.{places_asked, base_questions, check_questions, at_place, unkept, denied, denied_in, check_no}
use Rattle.rules.specs.Standing.{Asked, agrees_all_round, kept_at, stands}

-- Nothing found is everything kept -----------------------------------------------------------------

-- is there nothing?
abbrev free : {X : Type 0} → Option X → Bool
free o = not (is_some o)

free_cond : {X : Type 0} (b : Bool) (o : Option X) (x : X) → free (cond b o (Some x)) ≡ (b && free o)
free_cond true o x = refl
free_cond false o x = refl

free_cond_not : {X : Type 0} (b : Bool) (o : Option X) (x : X) → free (cond (not b) (Some x) o) ≡ (b && free o)
free_cond_not true o x = refl
free_cond_not false o x = refl

free_next : {X : Type 0} (o p : Option X) → free (or_next o p) ≡ (free o && free p)
free_next None p = refl
free_next (Some x) p = refl

free_at : (refusal : ℕ → Refusal) (o : Option ℕ) → free (at_place refusal o) ≡ free o
free_at refusal None = refl
free_at refusal (Some place) = refl

free_first : {X : Type 0} (p : X → Bool) (xs : List X) → free (first_with (λ x. not (p x)) xs) ≡ every p xs
free_first p [] = refl
free_first p (x ∷ xs) =
    free_cond_not (p x) (first_with (λ y. not (p y)) xs) x ∙ ap (λ (b : Bool). p x && b) (free_first p xs)

free_wrong : (before : Option ℕ) (place : ℕ) (cells : List ℕ) → free (wrong_from before place cells) ≡ cells_lawful before cells
free_wrong before place [] = refl
free_wrong before place (c ∷ cs) =
    free_cond (cell_lawful before c) (wrong_from (Some c) (place + 1) cs) place ∙ ap (λ (b : Bool). cell_lawful before c && b) (free_wrong (Some c) (place + 1) cs)

free_denied : (a : Asked) (line : List ℕ) (number : ℕ) (list : List Combination) → free (denied_in a line number list) ≡ every (agrees_all_round a line) list
free_denied a line number [] = refl
free_denied a line number (c ∷ cs) =
    free_next (at_place (BookSaysNo number) (denied a line c)) (denied_in a line (number + 1) cs)
    ∙ ap₂ ◌&&◌ (free_at (BookSaysNo number) (denied a line c) ∙ free_first _ (upto (places_asked a))) (free_denied a line (number + 1) cs)

-- What is asked of the cells -----------------------------------------------------------------------

module _ (a : Asked) (line : List ℕ) where
  -- the first no to cells that are a line
  abbrev pub kept_no : Option Refusal
  kept_no = or_next (at_place NotKept (unkept a line)) (denied_in a line 0 a.sheet.list)

  -- the first no to cells
  abbrev pub cells_no : Option Refusal
  cells_no = or_next (at_place NotALine (wrong_cell line)) kept_no

  abbrev sized : Bool
  sized = eqb (length line) (places_asked a)

  abbrev kept : Bool
  kept = every (λ t. kept_at a t (cell_at (places_asked a) line t)) (upto (places_asked a))

  abbrev agreed : Bool
  agreed = every (agrees_all_round a line) a.sheet.list

  free_cells : free cells_no ≡ (cells_lawful None line && (kept && agreed))
  free_cells =
      free_next (at_place NotALine (wrong_cell line)) kept_no
      ∙ ap₂ ◌&&◌ (free_at NotALine (wrong_cell line) ∙ free_wrong None 0 line)
      (free_next (at_place NotKept (unkept a line)) (denied_in a line 0 a.sheet.list)
      ∙ ap₂ ◌&&◌ (free_at NotKept (unkept a line) ∙ free_first _ (upto (places_asked a))) (free_denied a line 0 a.sheet.list))

  stands_free : stands a line ≡ (sized && free cells_no)
  stands_free =
      and_assoc (sized && cells_lawful None line) kept agreed
      ∙ and_assoc sized (cells_lawful None line) (kept && agreed)
      ∙ ap (λ (b : Bool). sized && b) (sym free_cells)

-- Questions asked before ---------------------------------------------------------------------------

-- the first no is one of the questions' refusals
early : (qs : List (Bool × Refusal)) → AllByRecursion (λ (q : Bool × Refusal). refusal_number q.1 < 27) qs → (e : Refusal) → first_no qs ≡ Some e → refusal_number e < 27
early [] all e never = let z : ◌≡◌ {A = ℕ} 0 1 = cc in absurd (omega arith)
early (q ∷ qs) all e some = go (early qs all.1 e) q.0 some
  where
    go : (first_no qs ≡ Some e → refusal_number e < 27) → (b : Bool) → cond b (first_no qs) (Some q.1) ≡ Some e → refusal_number e < 27
    go behind true rest = behind rest
    go behind false here = let same : q.1 ≡ e = cc in subst (λ (r : Refusal). refusal_number r < 27) same all.0

late : (e : Refusal) → OfTheLine e → 27 ≤ refusal_number e
late e no_line = omega arith
late e not_kept = omega arith
late e book_says_no = omega arith

-- where the questions have no no, there are as many cells as places
asked_sized : (a : Asked) (line : List ℕ) → first_no (check_questions a.sheet a.compass (length line)) ≡ None → sized a line ≡ true
asked_sized a line none = last (first_no (base_questions a.sheet a.compass)) (sized a line) (sym (first_no-++ (base_questions a.sheet a.compass) ((sized a line, LineUnfit) ∷ [])) ∙ none)
  where
    last : (o : Option Refusal) (b : Bool) → or_next o (cond b None (Some LineUnfit)) ≡ None → b ≡ true
    last o true is = refl
    last None false is = let z : ◌≡◌ {A = ℕ} 0 1 = cc in absurd (omega arith)
    last (Some e) false is = let z : ◌≡◌ {A = ℕ} 0 1 = cc in absurd (omega arith)

-- What check answers -------------------------------------------------------------------------------

module _ (standing fit : Bool) where
  told : (o rest : Option Refusal) → (o ≡ None → fit ≡ true) → ((e : Refusal) → o ≡ Some e → OfTheLine e → ⊥) → standing ≡ (fit && free rest) → MatchResult (answer {X = Unit {0}} tt (or_next o rest)) (λ _. standing ≡ true) (λ (e : Refusal). OfTheLine e → standing ≡ true → ⊥)
  told (Some e) rest fits other is = λ of _. other e refl of
  told None None fits other is = is ∙ ap (λ (b : Bool). b && true) (fits refl)
  told None (Some e) fits other is = λ of stand. false≢true (and_parts fit false (sym is ∙ stand)).1

pub check_means : (a : Asked) (line : List ℕ) (r : Result (Unit {0}) Refusal) → r ≡ answer tt (check_no a line) → Checked a r line
check_means a line r is =
    let qs = check_questions a.sheet a.compass (length line) in
    subst (λ (x : Result (Unit {0}) Refusal). Checked a x line) (sym is)
    (told (stands a line) (sized a line) (first_no qs) (cells_no a line) (asked_sized a line)
    (λ e some of. let low = early qs (omega arith, (omega arith, (omega arith, tt))) e some in let high = late e of in omega arith)
    (stands_free a line))

module _ (a : Asked) (line : List ℕ) where
  abbrev base : List (Bool × Refusal)
  base = base_questions a.sheet a.compass

  pub check_stops : (e : Refusal) → first_no base ≡ Some e → ◌≡◌ {A = Result (Unit {0}) Refusal} (Err e) (answer tt (check_no a line))
  check_stops e some =
      sym (ap (λ (o : Option Refusal). answer {X = Unit {0}} tt (or_next o (cells_no a line))) (first_no_stops base ((sized a line, LineUnfit) ∷ []) e some))

  -- other cells than places are refused for their number
  pub check_counts : first_no base ≡ None → (length line ≡ places_asked a → ⊥) → ◌≡◌ {A = Result (Unit {0}) Refusal} (Err LineUnfit) (answer tt (check_no a line))
  check_counts none other =
      let asked = first_no_next base ((sized a line, LineUnfit) ∷ []) none ∙ ap (λ (b : Bool). cond b None (Some LineUnfit)) (ne_eqb (length line) (places_asked a) other) in
      sym (ap (λ (p : Option Refusal). answer {X = Unit {0}} tt (or_next p (cells_no a line))) asked)

  -- of a line of as many cells as places the cells decide
  pub check_looks : first_no base ≡ None → length line ≡ places_asked a → (o : Option ℕ) → o ≡ wrong_cell line → answer {X = Unit {0}} tt (or_next (at_place NotALine o) (kept_no a line)) ≡ answer tt (check_no a line)
  check_looks none size o is =
      let asked = first_no_next base ((sized a line, LineUnfit) ∷ []) none ∙ ap (λ (b : Bool). cond b None (Some LineUnfit)) (eq-eqb (length line) (places_asked a) size) in
      ap (λ (w : Option ℕ). answer {X = Unit {0}} tt (or_next (at_place NotALine w) (kept_no a line))) is
      ∙ sym (ap (λ (p : Option Refusal). answer {X = Unit {0}} tt (or_next p (cells_no a line))) asked)
