-- The working table: for one start cell, what all ways on from each place and cell come to. Assumes nothing.
use Rattle.std.specs.Prelude.{◌≡◌, ℕ, zero, suc, ◌+◌, ◌-◌, ◌*◌, ◌<◌, ◌≤◌, cond, List, slice_index_or}
use Rattle.measure.specs.Algebra.{Ring}
use Rattle.engine.specs.Lines.{Way, leap}

-- f 0 to f (n - 1) side by side
unfoldable pub sum : {M : Type 0} → Ring M → (ℕ → M) → ℕ → M
sum R f zero = R.none
sum R f (suc n) = R.join (sum R f n) (f n)

-- the step of a hop, or none where the hop is not let through
abbrev pub crossing : {M : Type 0} → Ring M → Way → ℕ → ℕ → ℕ → M
crossing R way t c d = cond (way t c d) (R.step (leap c d)) R.none

-- all ways from the cell c at place t through k more places and then to the cell goal
unfoldable pub rest : {M : Type 0} → Ring M → Way → ℕ → ℕ → ℕ → ℕ → M
rest R way goal zero t c = crossing R way t c goal
rest R way goal (suc k) t c = sum R (λ d. R.chain (crossing R way t c d) (rest R way goal k (t + 1) d)) 48

-- all closed ways of n places, by their start cells
abbrev pub round : {M : Type 0} → Ring M → Way → ℕ → M
round R way n = sum R (λ c. rest R way c (n - 1) 0 c) 48

-- a place's first cells are filled
abbrev pub Begun : {M : Type 0} → Ring M → Way → ℕ → ℕ → ℕ → ℕ → List M → Type 0
Begun R way goal n t cell cells =
    (c : ℕ) → c < cell → slice_index_or cells (48 * t + c) R.none ≡ rest R way goal (n - 1 - t) t c

-- the places from one on are filled
abbrev pub Filled : {M : Type 0} → Ring M → Way → ℕ → ℕ → ℕ → List M → Type 0
Filled R way goal n from cells = (t : ℕ) → from ≤ t → t < n → Begun R way goal n t 48 cells
