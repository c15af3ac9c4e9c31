-- Places and combinations looked at in order, up to the first no. Assumes nothing.
use Rattle.std.proofs.Common.{◌≡◌, ℕ, zero, suc, ◌+◌, ◌%◌, ◌<◌, ◌≤◌, Bool, true, false, cond, ltb, not, ◌&&◌, List, [], ◌∷◌, length, get_or, drop, Some, None, Ok, Err, Option, Result, sym, refl, ap, ◌∙◌, subst, ap₂, ⊎_elim, mod-eq_of_lt, arith}
use Rattle.std.proofs.lemmas.List.{at_drop_more, at_drop_all}
use Rattle.std.specs.List.{enumerate_from, position, position_or_len}
use Rattle.std.proofs.lemmas.Bool.{cases_eq, ltb-true, ltb-false}
use Rattle.std.proofs.lemmas.List.FromFn.{get_or-enumerate_from, length-enumerate_from}
use Rattle.std.proofs.lemmas.List.Sums.{fails_before_first, passes_at_first}
use Rattle.theme.specs.Refusals.{answer, or_next}
use Rattle.engine.specs.Lines.{upto, cell_at}
use Rattle.engine.specs.Weights.{first_with}
use Rattle.engine.proofs.Firsts.{or_else, first_with-++}
use Rattle.rules.specs.declared.combination.Combination.{Combination}
use Rattle.rules.specs.declared.refusal.Refusal.{Refusal}
use Rattle.rules.specs.declared.refusal.Refusal.TheVariants.{BookSaysNo}
use Rattle.rules.specs.Meeting.{moment_of, succession_of}
use Rattle.rules.specs.Plain.{Plain, all_in_range, original}
use Rattle.rules.specs.Questions.{places_asked, at_place, unkept, denied, denied_in}
use Rattle.rules.specs.Standing.{Asked, kept_at, agrees}
use Rattle.standing.proofs.Agreeing.{rest_in_range}

-- Places -----------------------------------------------------------------------------------------

-- a place that is not counted round
pub cell_here : (n : ℕ) (line : List ℕ) (t : ℕ) → t < n → cell_at n line t ≡ get_or line t 0
cell_here n line t below = ap (λ (i : ℕ). get_or line i 0) (mod-eq_of_lt below)

module _ (test : ℕ → Bool) where
  split : (n : ℕ) → first_with test (upto (suc n)) ≡ or_else (first_with test (upto n)) (cond (test n) (Some n) None)
  split n = first_with-++ test (upto n) (n ∷ [])

  none_more : (p : ℕ) → first_with test (upto p) ≡ None → test p ≡ false → first_with test (upto (p + 1)) ≡ None
  none_more p none passed =
      let next : p + 1 ≡ suc p = omega arith in
      ap (λ (k : ℕ). first_with test (upto k)) next ∙ split p ∙ ap (λ (o : Option ℕ). or_else o (cond (test p) (Some p) None)) none ∙ ap (λ (b : Bool). cond b (Some p) None) passed

  first_at : (n p : ℕ) → p < n → first_with test (upto p) ≡ None → test p ≡ true → first_with test (upto n) ≡ Some p
  first_at zero p below none here = absurd (omega arith)
  first_at (suc n) p below none here =
      ⊎_elim
      (λ (e : p ≡ n). subst (λ (k : ℕ). first_with test (upto (suc k)) ≡ Some p) e (split p ∙ ap (λ (o : Option ℕ). or_else o (cond (test p) (Some p) None)) none ∙ ap (λ (b : Bool). cond b (Some p) None) here))
      (λ (ne : p ≡ n → ⊥). split n ∙ ap (λ (o : Option ℕ). or_else o (cond (test n) (Some n) None)) (first_at n p (omega arith) none here))
      (cases_eq p n)

-- a walk over a list that stops at the first element to pass looks at the places in order
module _ {X : Type 0} (p : X → Bool) (test : ℕ → Bool) (xs : List X) (d : X) (at : (k : ℕ) → k < length xs → p (get_or xs k d) ≡ test k) where
  none_before : (m : ℕ) → m ≤ position_or_len p xs → m ≤ length xs → first_with test (upto m) ≡ None
  none_before zero found within = refl
  none_before (suc m) found within =
      let next : m + 1 ≡ suc m = omega arith in
      ap (λ (k : ℕ). first_with test (upto k)) (sym next)
      ∙ none_more test m (none_before m (omega arith) (omega arith)) (sym (at m (omega arith)) ∙ fails_before_first p xs m d (omega arith))

  pub first_of_places : position p xs ≡ first_with test (upto (length xs))
  first_of_places = go (ltb (position_or_len p xs) (length xs)) refl
    where
      go : (b : Bool) → ltb (position_or_len p xs) (length xs) ≡ b → cond b (Some (position_or_len p xs)) None ≡ first_with test (upto (length xs))
      go true is =
          let i = position_or_len p xs in
          let below = ltb-true i (length xs) is in
          sym (first_at test (length xs) i below (none_before i (omega arith) (omega arith)) (sym (at i below) ∙ passes_at_first p xs d below))
      go false is = sym (none_before (length xs) (ltb-false (position_or_len p xs) (length xs) is) (omega arith))

-- is a cell not kept at a place of a line?
abbrev pub unkept_at : Asked → List ℕ → ℕ → Bool
unkept_at a line t = not (kept_at a t (cell_at (places_asked a) line t))

-- does the book say no at a place of a combination?
abbrev pub denied_at : Asked → List ℕ → Combination → ℕ → Bool
denied_at a line c t = not (agrees a t (cell_at (places_asked a) line t) (cell_at (places_asked a) line (t + 1)) c)

-- where a meeting is with the sheet asked of, the book is asked of both the same
pub pleases_agrees : (a : Asked) (p : Plain) → p ≡ a.sheet → (t cell next : ℕ) (c : Combination) → (a.admits (moment_of p c t cell) && a.allows (succession_of p c t cell next)) ≡ agrees a t cell next c
pleases_agrees a p same t cell next c =
    ap (λ (s : Plain). a.admits (moment_of s c t cell) && a.allows (succession_of s c t cell next)) same

module _ (a : Asked) (line : List ℕ) (size : length line ≡ places_asked a) where
  abbrev cells : List (ℕ × ℕ)
  cells = enumerate_from 0 line

  counted : length cells ≡ places_asked a
  counted = length-enumerate_from 0 line ∙ size

  numbered : (k : ℕ) → k < length cells → get_or cells k (0, 0) ≡ (k, get_or line k 0)
  numbered k below =
      let same : 0 + k ≡ k = omega arith in
      get_or-enumerate_from 0 line k (0, 0) (subst (λ (n : ℕ). k < n) (length-enumerate_from 0 line) below)
      ∙ ap (λ (n : ℕ). (n, get_or line k 0)) same

  looked : (p : ℕ × ℕ → Bool) (test : ℕ → Bool) → ((k : ℕ) → k < places_asked a → p (k, get_or line k 0) ≡ test k) → position p cells ≡ first_with test (upto (places_asked a))
  looked p test at =
      first_of_places p test cells (0, 0) (λ k below. ap p (numbered k below) ∙ at k (subst (λ (n : ℕ). k < n) counted below))
      ∙ ap (λ (n : ℕ). first_with test (upto n)) counted

  pub unkept_found : position (λ (p : ℕ × ℕ). not (kept_at a p.0 p.1)) cells ≡ unkept a line
  unkept_found = looked (λ p. not (kept_at a p.0 p.1)) (unkept_at a line) (λ k below. ap (λ (x : ℕ). not (kept_at a k x)) (sym (cell_here (places_asked a) line k below)))

  pub denied_found : (c : Combination) → position (λ (p : ℕ × ℕ). not (agrees a p.0 p.1 (get_or line ((p.0 + 1) % length line) 0) c)) cells ≡ denied a line c
  denied_found c =
      looked (λ p. not (agrees a p.0 p.1 (get_or line ((p.0 + 1) % length line) 0) c)) (denied_at a line c)
      (λ k below. ap₂ (λ (x y : ℕ). not (agrees a k x y c)) (sym (cell_here (places_asked a) line k below)) (ap (λ (n : ℕ). get_or line ((k + 1) % n) 0) size))

-- Combinations -----------------------------------------------------------------------------------

-- the book says yes in every combination so far, and those left are in range
pub record Undenied (a : Asked) (line : List ℕ) (list : List Combination) (i : ℕ) : Type 0 where
  pub same : denied_in a line i (drop i list) ≡ denied_in a line 0 list
  pub in_range : all_in_range (places_asked a) (drop i list) ≡ true

module _ {a : Asked} {line : List ℕ} {list : List Combination} {i : ℕ} (w : Undenied a line list i) (below : i < length list) where
  whole : denied_in a line 0 list ≡ or_next (at_place (BookSaysNo i) (denied a line (get_or list i original))) (denied_in a line (i + 1) (drop (i + 1) list))
  whole = sym w.same ∙ at_drop_more (denied_in a line i) list i original below

  next_denied : (o : Option ℕ) → o ≡ denied a line (get_or list i original) → denied_in a line 0 list ≡ or_next (at_place (BookSaysNo i) o) (denied_in a line (i + 1) (drop (i + 1) list))
  next_denied o is = whole ∙ ap (λ (p : Option ℕ). or_next (at_place (BookSaysNo i) p) (denied_in a line (i + 1) (drop (i + 1) list))) (sym is)

  pub refused_here : {list' : List Combination} → list ≡ list' → (place : ℕ) → Some place ≡ denied a line (get_or list i original) → ◌≡◌ {A = Result (Unit {0}) Refusal} (Err (BookSaysNo i place)) (answer tt (denied_in a line 0 list'))
  refused_here same place is =
      sym (ap (λ (o : Option Refusal). answer {X = Unit {0}} tt o) (next_denied (Some place) is))
      ∙ ap (λ (cs : List Combination). answer {X = Unit {0}} tt (denied_in a line 0 cs)) same

  pub undenied_more : None ≡ denied a line (get_or list i original) → Undenied a line list (i + 1)
  undenied_more is = record { same = sym (next_denied None is); in_range = rest_in_range (places_asked a) list i w.in_range below }

pub undenied_all : {a : Asked} {line : List ℕ} {list list' : List Combination} {i : ℕ} → Undenied a line list i → length list ≤ i → list ≡ list' → ◌≡◌ {A = Result (Unit {0}) Refusal} (Ok tt) (answer tt (denied_in a line 0 list'))
undenied_all {a} {line} {list} {list'} {i} w end same =
    sym (ap (λ (o : Option Refusal). answer {X = Unit {0}} tt o) (sym w.same ∙ at_drop_all (denied_in a line i) list i end))
    ∙ ap (λ (cs : List Combination). answer {X = Unit {0}} tt (denied_in a line 0 cs)) same
