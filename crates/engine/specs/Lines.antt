-- Lines of cells, which of them are let through, and the list of all of these in order. Assumes nothing.
--
-- cell          twice a key, and one more where it is held: 0 to 47
-- line          a list of cells, one for each place
-- hop           a place, the cell there and the cell at the next place; the next of the last place is the first
-- way           which cell may follow which at a place
-- every_line    all lines of so many places, ordered by their first differing cell
-- goes_round    all hops of a line are let through
-- roster        the lines that go round, in order
use Rattle.std.specs.Prelude.{ℕ, zero, suc, ◌+◌, ◌-◌, ◌/◌, ◌%◌, Bool, true, ◌&&◌, List, [], ◌∷◌, ◌++◌, map, filter, slice_index}
use Rattle.std.specs.List.{flat_map as spread}

-- may the third follow the second, which stands at the place given first?
abbrev pub Way : Type 0
Way = ℕ → ℕ → ℕ → Bool

-- a place, the cell there, and the next cell
abbrev pub Hop : Type 0
Hop = ℕ × ℕ × ℕ

-- the numbers below n, ascending
abbrev pub upto : ℕ → List ℕ
upto zero = []
upto (suc n) = upto n ++ n ∷ []

-- all lines of n places, ordered by their first differing cell
abbrev pub every_line : ℕ → List (List ℕ)
every_line zero = [] ∷ []
every_line (suc n) = spread (λ c. map (λ cells. c ∷ cells) (every_line n)) (upto 48)

-- the cell at a place of a line of n places, counted round
abbrev pub cell_at : ℕ → List ℕ → ℕ → ℕ
cell_at n line t = slice_index line (t % n)

-- the hops of a line of n places, from the one out of place 0 to the one over the seam
abbrev pub hops : ℕ → List ℕ → List Hop
hops n line = map (λ t. (t, cell_at n line t, cell_at n line (t + 1))) (upto n)

-- do all of a list pass a test?
abbrev pub every : {A : Type 0} → (A → Bool) → List A → Bool
every test [] = true
every test (x ∷ xs) = test x && every test xs

-- is each cell of the line let follow the one before it, the first also the last?
abbrev pub goes_round : Way → ℕ → List ℕ → Bool
goes_round way n line = every (λ h. way h.0 h.1 h.2) (hops n line)

-- the lines that go round, in order
abbrev pub roster : Way → ℕ → List (List ℕ)
roster way n = filter (goes_round way n) (every_line n)

-- the size of the step from a cell to another: how far apart their keys are
abbrev pub leap : ℕ → ℕ → ℕ
leap c d = (c / 2 - d / 2) + (d / 2 - c / 2)
