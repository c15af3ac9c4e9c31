-- Lines from some place on: by which cells they go on, and what these weigh. Assumes nothing.
use Rattle.std.specs.Prelude.{ℕ, zero, suc, ◌+◌, Bool, cond, ◌&&◌, List, [], ◌∷◌, map, length, Option}
use Rattle.std.specs.List.{flat_map as spread}
use Rattle.measure.specs.Algebra.{Ring}
use Rattle.engine.specs.Lines.{Way, leap, upto}
use Rattle.engine.specs.Tables.{rest}
use Rattle.engine.specs.Weights.{first_with}

-- the lists of k cells by which it goes on from the cell c at place t and to the goal, in order
unfoldable pub tails : Way → ℕ → ℕ → ℕ → ℕ → List (List ℕ)
tails way goal zero t c = cond (way t c goal) ([] ∷ []) []
tails way goal (suc k) t c =
    spread (λ d. cond (way t c d) (map (λ ds. d ∷ ds) (tails way goal k (t + 1) d)) []) (upto 48)

-- the lines of k + 1 places that begin with a cell and go round
abbrev pub begun_by : Way → ℕ → ℕ → List (List ℕ)
begun_by way k c = map (λ ds. c ∷ ds) (tails way c k 0 c)

-- the steps from the cell c through the cells after it and to the goal, one after the other
abbrev pub worth : {M : Type 0} → Ring M → ℕ → ℕ → List ℕ → M
worth R goal c [] = R.step (leap c goal)
worth R goal c (d ∷ ds) = R.chain (R.step (leap c d)) (worth R goal d ds)

-- the same of a whole line
abbrev pub line_worth : {M : Type 0} → Ring M → List ℕ → M
line_worth R [] = R.one
line_worth R (c ∷ cs) = worth R c c cs

-- the first line with a start cell whose weight is picked before the total
abbrev pub best_from : {M : Type 0} → Ring M → (M → M → Bool) → Way → ℕ → M → ℕ → Option (List ℕ)
best_from R picks way k total start = first_with (λ line. picks (line_worth R line) total) (begun_by way k start)

-- does the way on by the cell d, after what weighs p, come to the total?
abbrev pub attains : {M : Type 0} → Ring M → (M → M → Bool) → Way → ℕ → ℕ → ℕ → ℕ → M → M → ℕ → Bool
attains R picks way goal k t c p total d =
    way t c d && picks (R.chain (R.chain p (R.step (leap c d))) (rest R way goal k (t + 1) d)) total

-- of the lists of k + 1 cells, those that go on by the cell d
abbrev pub by_cell : Way → ℕ → ℕ → ℕ → ℕ → ℕ → List (List ℕ)
by_cell way goal k t c d = cond (way t c d) (map (λ ds. d ∷ ds) (tails way goal k (t + 1) d)) []

-- how many lists stand before those of d
abbrev pub passed : (ℕ → List (List ℕ)) → ℕ → ℕ
passed f d = length (spread f (upto d))
