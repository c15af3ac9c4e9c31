-- The questions in the subject's words: what the answers mean for all standing lines. Assumes nothing.
use Rattle.std.specs.Prelude.{◌≡◌, ℕ, ◌<◌, ◌≤◌, true, false, ◌⊎◌, List, [], ◌∷◌, length, filter, Result, MatchResult}
use Rattle.std.specs.List.{AllByRecursion}
use Rattle.rules.specs.declared.refusal.Refusal.{Refusal}
use Rattle.rules.specs.declared.refusal.Refusal.TheVariants.{NotALine, NotKept, BookSaysNo, NoLineStands, NumberNotBelowCount}
use Rattle.rules.specs.Standing.{Asked, stands, standing_lines}
use Rattle.rules.specs.Orders.{precedes, movement}
use Rattle.rules.specs.Questions.{places_asked}

abbrev pub Stands : Asked → List ℕ → Type 0
Stands a line = stands a line ≡ true

abbrev pub NoneStands : Asked → Type 0
NoneStands a = (line : List ℕ) → Stands a line → ⊥

-- a line stands, and no standing line comes before it
abbrev pub First : Asked → List ℕ → Type 0
First a line = Stands a line × ((other : List ℕ) → Stands a other → precedes other line ≡ false)

-- how many standing lines come before a line
abbrev pub standing_before : Asked → List ℕ → ℕ
standing_before a line = length (filter (λ other. precedes other line) (standing_lines a))

-- a line stands, and just so many standing lines come before it
abbrev pub Numbered : Asked → ℕ → List ℕ → Type 0
Numbered a number line = Stands a line × (length (filter (λ other. precedes other line) (standing_lines a)) ≡ number)

-- a line's sum of step sizes, with as many places as the theme has
abbrev pub movement_in : Asked → List ℕ → ℕ
movement_in a line = movement (places_asked a) line

-- a line stands; no standing line has a smaller sum of steps, and none of the same sum comes before it
abbrev pub Least : Asked → List ℕ → Type 0
Least a line =
    Stands a line × ((other : List ℕ) → Stands a other → (movement (places_asked a) line ≤ movement (places_asked a) other) × (movement (places_asked a) other ≡ movement (places_asked a) line → precedes other line ≡ false))

abbrev pub Among : List ℕ → List (List ℕ) → Type 0
Among line [] = ⊥
Among line (x ∷ xs) = (line ≡ x) ⊎ Among line xs

-- each line comes before all behind it, so that none is there twice
abbrev pub Ascending : List (List ℕ) → Type 0
Ascending [] = Unit {0}
Ascending (x ∷ xs) = AllByRecursion (λ y. precedes x y ≡ true) xs × Ascending xs

-- the list of standing lines has each line that stands, nothing else, and in order
pub record ListedExactly (a : Asked) : Type 0 where
  pub listed_stands : (line : List ℕ) → Among line (standing_lines a) → Stands a line
  pub stands_listed : (line : List ℕ) → Stands a line → Among line (standing_lines a)
  pub in_order : Ascending (standing_lines a)

-- Answers ----------------------------------------------------------------------------------------

-- decide gives the first standing line, or says that none stands, and only where none does
abbrev pub Decided : Asked → Result (Unit {0}) Refusal → List ℕ → Type 0
Decided a r line = MatchResult r (λ _. First a line) (λ e. e ≡ NoLineStands → NoneStands a)

-- least gives the standing line that moves least, or says that none stands, and only where none does
abbrev pub LeastFound : Asked → Result (Unit {0}) Refusal → List ℕ → Type 0
LeastFound a r line = MatchResult r (λ _. Least a line) (λ e. e ≡ NoLineStands → NoneStands a)

-- pick gives the line with a number below that of the standing lines, and refuses one that is not
abbrev pub Picked : Asked → ℕ → Result (Unit {0}) Refusal → List ℕ → Type 0
Picked a number r line =
    MatchResult r (λ _. (number < length (standing_lines a)) × Numbered a number line) (λ e. e ≡ NumberNotBelowCount → length (standing_lines a) ≤ number)

-- the refusals of check that are about the line
pub data OfTheLine : Refusal → Type 0 where
  no_line : {place : ℕ} → OfTheLine (NotALine place)
  not_kept : {place : ℕ} → OfTheLine (NotKept place)
  book_says_no : {combination place : ℕ} → OfTheLine (BookSaysNo combination place)

-- check accepts a line only if it stands, and refuses one for what it is only if it does not
abbrev pub Checked : Asked → Result (Unit {0}) Refusal → List ℕ → Type 0
Checked a r line = MatchResult r (λ _. Stands a line) (λ e. OfTheLine e → Stands a line → ⊥)
