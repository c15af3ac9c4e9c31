-- What lines weigh, and what is asked of the lines that go round. Assumes nothing.
use Rattle.std.specs.Prelude.{ℕ, Bool, cond, List, [], ◌∷◌, map, Some, None, Option}
use Rattle.measure.specs.Algebra.{Ring, joined, walked}
use Rattle.engine.specs.Lines.{hops, leap}

-- the sizes of a line's steps, in order
abbrev pub steps : ℕ → List ℕ → List ℕ
steps n line = map (λ h. leap h.1 h.2) (hops n line)

-- a line's steps, one after the other
abbrev pub weight : {M : Type 0} → Ring M → ℕ → List ℕ → M
weight R n line = walked R (steps n line)

-- lines side by side
abbrev pub joined_weight : {M : Type 0} → Ring M → ℕ → List (List ℕ) → M
joined_weight R n lines = joined R (map (weight R n) lines)

-- the first of a list that passes a test
abbrev pub first_with : {A : Type 0} → (A → Bool) → List A → Option A
first_with test [] = None
first_with test (x ∷ xs) = cond (test x) (Some x) (first_with test xs)

-- the first of some lines whose weight is that of all of them joined:
-- a weight that goes into the join is the join exactly if it is picked before it
abbrev pub first_best : {M : Type 0} → Ring M → (M → M → Bool) → ℕ → List (List ℕ) → Option (List ℕ)
first_best R picks n lines = first_with (λ line. picks (weight R n line) (joined_weight R n lines)) lines
