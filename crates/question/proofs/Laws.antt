-- What the answers mean for all lines that stand. Assumes nothing.
use Rattle.std.proofs.Common.{◌≡◌, ℕ, zero, suc, ◌<◌, ◌≤◌, Bool, true, false, eqb, ltb, leb, List, [], ◌∷◌, length, Some, None, filter, Option, sym, refl, ap, ◌∙◌, subst, inl, inr, arith}
use Rattle.std.proofs.ByRecursion.{All-weaker, kept_by_passes, Decides-by_and}
use Rattle.std.proofs.lemmas.List.{nil_from_length}
use Rattle.std.proofs.lemmas.Option.{slice_get_past}
use Rattle.std.proofs.lemmas.Bool.{and_parts, both_ways, cases_lt, cond_both, cond-false, cond-true, eqb-true, le-leb, leb-true, ltb-true}
use Rattle.std.specs.List.{AllByRecursion, slice_get}
use Rattle.engine.specs.Lines.{every, every_line}
use Rattle.engine.specs.Weights.{first_with}
use Rattle.rules.specs.Cells.{cell_lawful, cells_lawful}
use Rattle.rules.specs.Standing.{Asked, stands, standing_lines}
use Rattle.rules.specs.Orders.{precedes, movement}
use Rattle.rules.specs.Questions.{places_asked, first_standing, picked, least_standing}
use Rattle.rules.specs.Laws.{Stands, NoneStands, First, Numbered, Least, Among, Ascending, ListedExactly}
use Rattle.question.proofs.Orders.{all_among, among_every_line, among_kept_by, ascending_kept_by, every_line_ascending, none_before}

-- The list of standing lines ---------------------------------------------------------------------

lawful_small : (before : Option ℕ) (c : ℕ) → cell_lawful before c ≡ true → c < 48
lawful_small None c lawful = ltb-true c 48 (and_parts (ltb c 48) _ lawful).0
lawful_small (Some b) c lawful = ltb-true c 48 (and_parts (ltb c 48) _ lawful).0

all_small : (before : Option ℕ) (cs : List ℕ) → cells_lawful before cs ≡ true → AllByRecursion (λ c. c < 48) cs
all_small before [] lawful = tt
all_small before (c ∷ cs) lawful =
    let parts = and_parts (cell_lawful before c) (cells_lawful (Some c) cs) lawful in
    (lawful_small before c parts.0, all_small (Some c) cs parts.1)

-- a line that stands has a cell below 48 for each place
stands_among : (a : Asked) (line : List ℕ) → Stands a line → Among line (every_line (places_asked a))
stands_among a line stood =
    let kept = (and_parts _ _ (and_parts _ _ stood).0).0 in
    let parts = and_parts (eqb (length line) (places_asked a)) (cells_lawful None line) kept in
    among_every_line (places_asked a) line (eqb-true (length line) (places_asked a) parts.0) (all_small None line parts.1)

pub listed_exactly : (a : Asked) → ListedExactly a
listed_exactly a = record {
  listed_stands = λ line h. all_among (Stands a) line (standing_lines a) (kept_by_passes (stands a) (every_line (places_asked a))) h;
  stands_listed = λ line stood. among_kept_by (stands a) line (every_line (places_asked a)) stood (stands_among a line stood);
  in_order = ascending_kept_by (stands a) (every_line (places_asked a)) (every_line_ascending (places_asked a));
}

-- The elements of a list by their numbers --------------------------------------------------------

module _ {X : Type 0} where
  some_is : (x y : X) → ◌≡◌ {A = Option X} (Some x) (Some y) → x ≡ y
  some_is x y e = cc

  not_some : (x : X) → ◌≡◌ {A = Option X} None (Some x) → ⊥
  not_some x e = let z : ◌≡◌ {A = ℕ} 0 1 = cc in omega arith

  nth_none : (xs : List X) (k : ℕ) → slice_get xs k ≡ None → length xs ≤ k
  nth_none [] k e = omega arith
  nth_none (x ∷ xs) zero e = absurd (not_some x (sym e))
  nth_none (x ∷ xs) (suc k) e = let h = nth_none xs k e in omega arith

  nth_some : (xs : List X) (k : ℕ) (x : X) → slice_get xs k ≡ Some x → k < length xs
  nth_some xs k x e =
      elim (cases_lt k (length xs)) [ inl below ↦ below | inr past ↦ absurd (not_some x (sym (slice_get_past xs k past) ∙ e)) ]

pub pick_bound : (a : Asked) (k : ℕ) → picked a k ≡ None → length (standing_lines a) ≤ k
pick_bound a k e = nth_none (standing_lines a) k e

pub pick_below : (a : Asked) (k : ℕ) (line : List ℕ) → picked a k ≡ Some line → k < length (standing_lines a)
pick_below a k line e = nth_some (standing_lines a) k line e

among_nth : (xs : List (List ℕ)) (k : ℕ) (x : List ℕ) → slice_get xs k ≡ Some x → Among x xs
among_nth [] k x e = absurd (not_some x e)
among_nth (y ∷ ys) zero x e = inl (some_is x y (sym e))
among_nth (y ∷ ys) (suc k) x e = inr (among_nth ys k x e)

-- No line, and the first -------------------------------------------------------------------------

none_stands : (a : Asked) → standing_lines a ≡ [] → NoneStands a
none_stands a none line stood = subst (Among line) none ((listed_exactly a).stands_listed line stood)

pub none_from_empty : (a : Asked) → first_standing a ≡ None → NoneStands a
none_from_empty a e =
    let none = pick_bound a 0 e in
    none_stands a (nil_from_length (standing_lines a) (omega arith))

nth_first : (xs : List (List ℕ)) (x : List ℕ) → Ascending xs → slice_get xs 0 ≡ Some x → AllByRecursion (λ y. precedes y x ≡ false) xs
nth_first [] x up e = tt
nth_first (y ∷ ys) x up e = subst (λ z. AllByRecursion (λ w. precedes w z ≡ false) (y ∷ ys)) (some_is y x e) (none_before y ys up)

pub first_law : (a : Asked) (line : List ℕ) → first_standing a ≡ Some line → First a line
first_law a line e =
    let listed = listed_exactly a in
    let none = nth_first (standing_lines a) line listed.in_order e in (
      listed.listed_stands line (among_nth (standing_lines a) 0 line e),
      λ other stood. all_among (λ y. precedes y line ≡ false) other (standing_lines a) none (listed.stands_listed other stood),
    )

-- The line of a number ---------------------------------------------------------------------------

kept_by_no : {X : Type 0} (test : X → Bool) (xs : List X) → AllByRecursion (λ x. test x ≡ false) xs → filter test xs ≡ []
kept_by_no test [] fail = refl
kept_by_no test (x ∷ xs) fail = cond-false (test x) _ _ fail.0 ∙ kept_by_no test xs fail.1

-- of lines that ascend, just the first k come before that of the number k
nth_before : (xs : List (List ℕ)) (k : ℕ) (x : List ℕ) → Ascending xs → slice_get xs k ≡ Some x → length (filter (λ y. precedes y x) xs) ≡ k
nth_before [] k x up e = absurd (not_some x e)
nth_before (y ∷ ys) zero x up e = ap length (kept_by_no (λ z. precedes z x) (y ∷ ys) (nth_first (y ∷ ys) x up e))
nth_before (y ∷ ys) (suc k) x up e =
    let first = all_among (λ z. precedes y z ≡ true) x ys up.0 (among_nth ys k x e) in
    ap length (cond-true (precedes y x) _ _ first) ∙ ap suc (nth_before ys k x up.1 e)

pub numbered_law : (a : Asked) (k : ℕ) (line : List ℕ) → picked a k ≡ Some line → Numbered a k line
numbered_law a k line e =
    ((listed_exactly a).listed_stands line (among_nth (standing_lines a) k line e), nth_before (standing_lines a) k line (listed_exactly a).in_order e)

-- The line of least sum --------------------------------------------------------------------------

every_all : {X : Type 0} (test : X → Bool) (xs : List X) → every test xs ≡ true → AllByRecursion (λ x. test x ≡ true) xs
every_all test xs = (Decides-by_and test (λ x. test x ≡ true) (every test) (λ x. (λ e. e, λ e. e)) refl (λ _ _. refl) xs).0

all_every : {X : Type 0} (test : X → Bool) (xs : List X) → AllByRecursion (λ x. test x ≡ true) xs → every test xs ≡ true
all_every test xs = (Decides-by_and test (λ x. test x ≡ true) (every test) (λ x. (λ e. e, λ e. e)) refl (λ _ _. refl) xs).1

first_with_no : {X : Type 0} (test : X → Bool) (xs : List X) → first_with test xs ≡ None → AllByRecursion (λ x. test x ≡ false) xs
first_with_no test [] = λ e. tt
first_with_no test (y ∷ ys) =
    cond_both (test y) (Some y) (first_with test ys) (λ o. o ≡ None → AllByRecursion (λ x. test x ≡ false) (y ∷ ys))
    (λ pass e. absurd (not_some y (sym e)))
    (λ fail e. (fail, first_with_no test ys e))

module _ (test : List ℕ → Bool) where
  first_with_passes : (xs : List (List ℕ)) (x : List ℕ) → first_with test xs ≡ Some x → Among x xs × (test x ≡ true)
  first_with_passes [] x = λ e. absurd (not_some x e)
  first_with_passes (y ∷ ys) x =
      cond_both (test y) (Some y) (first_with test ys) (λ o. o ≡ Some x → Among x (y ∷ ys) × (test x ≡ true))
      (λ pass e. (inl (sym (some_is y x e)), sym (ap test (some_is y x e)) ∙ pass))
      (λ fail e. let later = first_with_passes ys x e in (inr later.0, later.1))

  -- of lines that ascend, none that passes comes before the first that does
  first_with_first : (xs : List (List ℕ)) (x other : List ℕ) → Ascending xs → first_with test xs ≡ Some x → Among other xs → test other ≡ true → precedes other x ≡ false
  first_with_first [] x other up e h passes = absurd h
  first_with_first (y ∷ ys) x other up e h passes =
      cond_both (test y) (Some y) (first_with test ys) (λ o. o ≡ Some x → precedes other x ≡ false)
      (λ pass is. subst (λ z. precedes other z ≡ false) (some_is y x is) (all_among (λ z. precedes z y ≡ false) other (y ∷ ys) (none_before y ys up) h))
      (λ fail is. elim h [
        | inl same ↦ absurd (both_ways (test other) (ap test same ∙ fail) passes)
        | inr later ↦ first_with_first ys x other up.1 is later passes
      ])
      e

module _ (sum : List ℕ → ℕ) where
  -- is a line's sum at most that of any of some lines?
  abbrev at_most_all : List (List ℕ) → List ℕ → Bool
  at_most_all xs x = every (λ other. leb (sum x) (sum other)) xs

  -- some line of a list that is not empty has the least sum
  least_among : (x : List ℕ) (xs : List (List ℕ)) → (m : List ℕ) × Among m (x ∷ xs) × AllByRecursion (λ y. sum m ≤ sum y) (x ∷ xs)
  least_among x [] = (x, inl refl, (omega arith, tt))
  least_among x (y ∷ ys) =
      let m = least_among y ys in
      elim (cases_lt (sum m.0) (sum x)) [
        | inl less ↦ (m.0, inr m.1, (omega arith, m.2))
        | inr more ↦ (x, inl refl, (omega arith, All-weaker (λ z. sum m.0 ≤ sum z) (λ z. sum x ≤ sum z) (λ z h. omega arith) (y ∷ ys) m.2))
      ]

  -- so one is found unless the list is empty
  least_of_empty : (xs : List (List ℕ)) → first_with (at_most_all xs) xs ≡ None → xs ≡ []
  least_of_empty [] e = refl
  least_of_empty (x ∷ xs) e =
      let m = least_among x xs in
      let least = All-weaker (λ y. sum m.0 ≤ sum y) (λ y. leb (sum m.0) (sum y) ≡ true) (λ y h. le-leb _ _ h) (x ∷ xs) m.2 in
      let fails = all_among (λ y. at_most_all (x ∷ xs) y ≡ false) m.0 (x ∷ xs) (first_with_no (at_most_all (x ∷ xs)) (x ∷ xs) e) m.1 in
      absurd (both_ways (at_most_all (x ∷ xs) m.0) fails (all_every _ (x ∷ xs) least))

  least_of_least : (xs : List (List ℕ)) (x : List ℕ) → Ascending xs → first_with (at_most_all xs) xs ≡ Some x → (other : List ℕ) → Among other xs → (sum x ≤ sum other) × (sum other ≡ sum x → precedes other x ≡ false)
  least_of_least xs x up e other h =
      let passes = (first_with_passes (at_most_all xs) xs x e).1 in (
        leb-true _ _ (all_among (λ y. leb (sum x) (sum y) ≡ true) other xs (every_all _ xs passes) h),
        λ same. first_with_first (at_most_all xs) xs x other up e h (ap (λ s. every (λ y. leb s (sum y)) xs) same ∙ passes),
      )

pub least_none : (a : Asked) → least_standing a ≡ None → NoneStands a
least_none a e = none_stands a (least_of_empty (movement (places_asked a)) (standing_lines a) e)

pub least_law : (a : Asked) (line : List ℕ) → least_standing a ≡ Some line → Least a line
least_law a line e =
    let listed = listed_exactly a in
    let found = first_with_passes (at_most_all (movement (places_asked a)) (standing_lines a)) (standing_lines a) line e in (
      listed.listed_stands line found.0,
      λ other stood. least_of_least (movement (places_asked a)) (standing_lines a) line listed.in_order e other (listed.stands_listed other stood),
    )
