-- The order of lines, and their sums of steps. Assumes nothing.
use Rattle.std.specs.Prelude.{ℕ, ◌+◌, Bool, false, ◌&&◌, ◌||◌, List, [], ◌∷◌, Option, ◌==◌, nat_le, nat_lt}
use Rattle.engine.specs.Lines.{every}
use Rattle.engine.specs.Weights.{steps, first_with}

-- does a line come before another? Their first differing cell decides, the lower one first
abbrev pub precedes : List ℕ → List ℕ → Bool
precedes [] ys = false
precedes (x ∷ xs) [] = false
precedes (x ∷ xs) (y ∷ ys) = nat_lt x y || (x == y && precedes xs ys)

abbrev pub total : List ℕ → ℕ
total [] = 0
total (x ∷ xs) = x + total xs

-- the sum of a line's step sizes round the barrel, the step over the seam among them
abbrev pub movement : ℕ → List ℕ → ℕ
movement n line = total (steps n line)

-- the first of some lines whose sum is at most that of any of them
abbrev pub least_of : ℕ → List (List ℕ) → Option (List ℕ)
least_of n lines = first_with (λ line. every (λ other. nat_le (movement n line) (movement n other)) lines) lines
