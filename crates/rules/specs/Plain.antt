-- The plain sheet: what a sheet is, told by nothing but the calls made on it. Assumes nothing.
--
--   Plain        a theme, the list of combinations, and for each place a fixed key or none
--   questions    what a call asks, in order, each with the refusal for a no
--   added ..     what an accepted call makes of a plain sheet
--   unless       what is held after a call: as before where it was refused
use Rattle.std.specs.Prelude.{ℕ, Bool, true, false, cond, not, ◌&&◌, List, [], ◌∷◌, ◌++◌, length, replicate, ℤ, pos, Some, None, Option, ◌==◌, int_le, int_lt, nat_le, nat_lt, slice_set, unsigned_abs}
use Rattle.std.specs.Ordering.{int_eq}
use Rattle.counterpoint.specs.Interval.{shift_in_range}
use Rattle.theme.specs.Themes.{PlainTheme, blank_theme}
use Rattle.theme.specs.Pages.{theme_in}
use Rattle.rules.specs.declared.combination.Combination.{Combination}
use Rattle.rules.specs.declared.refusal.Refusal.{Refusal}
use Rattle.rules.specs.declared.refusal.Refusal.TheVariants.{NoTheme, ShiftOutOfRange, EntryOutOfRange, AlreadyListed, ListFull, NotListed, PlaceOutOfRange, KeyOutOfRange}

pub record Plain : Type 0 where
  pub theme : PlainTheme
  pub list : List Combination
  pub fixings : List (Option ℕ)

-- a sheet at its beginning: no theme, no list, no fixing
abbrev pub blank : Plain
blank = record { theme = blank_theme; list = []; fixings = [] }

-- how many places the theme has; none means that no theme is loaded
abbrev pub places_of : Plain → ℕ
places_of p = length p.theme.places

-- what is held after a call
abbrev pub unless : {R X : Type 0} → Option R → X → X → X
unless None after before = after
unless (Some refusal) after before = before

-- Combinations -----------------------------------------------------------------------------------

abbrev pub original : Combination
original = record { jv = pos 0; entry = 0 }

abbrev pub same : Combination → Combination → Bool
same a b = int_eq a.jv b.jv && a.entry == b.entry

abbrev pub listed : Combination → List Combination → Bool
listed c [] = false
listed c (x ∷ xs) = cond (same x c) true (listed c xs)

-- the list without a combination, the others in their order
abbrev pub without : Combination → List Combination → List Combination
without c [] = []
without c (x ∷ xs) = cond (same x c) xs (x ∷ without c xs)

-- the combination that two numbers name, where the entry is a place
abbrev pub combination_of : ℤ → ℤ → Combination
combination_of jv entry = record { jv = jv; entry = unsigned_abs entry }

-- is a number that of one of n places?
abbrev pub names_place : ℤ → ℕ → Bool
names_place entry n = int_le (pos 0) entry && int_lt entry (pos n)

-- Questions --------------------------------------------------------------------------------------

-- is a theme loaded?
abbrev pub theme_question : Plain → Bool × Refusal
theme_question p = (nat_lt 0 (places_of p), NoTheme)

-- what add and drop both ask
abbrev pub combination_questions : Plain → ℤ → ℤ → List (Bool × Refusal)
combination_questions p jv entry =
    theme_question p ∷ (shift_in_range jv, ShiftOutOfRange) ∷ (names_place entry (places_of p), EntryOutOfRange) ∷ []

abbrev pub add_questions : Plain → ℤ → ℤ → List (Bool × Refusal)
add_questions p jv entry =
    combination_questions p jv entry ++ (not (listed (combination_of jv entry) p.list), AlreadyListed) ∷ (nat_lt (length p.list) 8, ListFull) ∷ []

abbrev pub drop_questions : Plain → ℤ → ℤ → List (Bool × Refusal)
drop_questions p jv entry =
    combination_questions p jv entry ++ (listed (combination_of jv entry) p.list && not (same (combination_of jv entry) original), NotListed) ∷ []

abbrev pub free_questions : Plain → ℕ → List (Bool × Refusal)
free_questions p place = theme_question p ∷ (nat_lt place (places_of p), PlaceOutOfRange) ∷ []

abbrev pub fix_questions : Plain → ℕ → ℕ → List (Bool × Refusal)
fix_questions p place key = free_questions p place ++ (nat_le key 23, KeyOutOfRange) ∷ []

-- What accepted calls do -------------------------------------------------------------------------

-- a page loaded: its theme, the original alone, every place free
abbrev pub loaded : List ℕ → Plain
loaded page = record {
  theme = theme_in page;
  list = original ∷ [];
  fixings = replicate (length (theme_in page).places) None;
}

abbrev pub with_list : Plain → List Combination → Plain
with_list p list = record { theme = p.theme; list = list; fixings = p.fixings }

abbrev pub with_fixing : Plain → ℕ → Option ℕ → Plain
with_fixing p place key = record { theme = p.theme; list = p.list; fixings = slice_set p.fixings place key }

abbrev pub added : Plain → ℤ → ℤ → Plain
added p jv entry = with_list p (p.list ++ combination_of jv entry ∷ [])

abbrev pub dropped : Plain → ℤ → ℤ → Plain
dropped p jv entry = with_list p (without (combination_of jv entry) p.list)

abbrev pub fixed : Plain → ℕ → ℕ → Plain
fixed p place key = with_fixing p place (Some key)

abbrev pub freed : Plain → ℕ → Plain
freed p place = with_fixing p place None

-- What every sheet keeps -------------------------------------------------------------------------

-- each combination has an index of -23 to 23 and an entry that is a place
abbrev pub all_in_range : ℕ → List Combination → Bool
all_in_range n [] = true
all_in_range n (c ∷ cs) = (shift_in_range c.jv && nat_lt c.entry n) && all_in_range n cs
