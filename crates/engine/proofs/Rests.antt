-- Sums over cells and the rests of ways, step by step. Assumes nothing.
use Rattle.std.proofs.Common.{◌≡◌, ℕ, zero, suc, ◌+◌, ◌-◌, ◌<◌, true, false, refl, ap, ◌∙◌, ap₂, add-one, arith}
use Rattle.std.proofs.lemmas.Bool.{cond-false, cond-true}
use Rattle.measure.specs.Algebra.{Ring}
use Rattle.engine.specs.Lines.{Way, leap}
use Rattle.engine.specs.Tables.{crossing, rest, sum}

module _ {M : Type 0} (R : Ring M) where
  -- none joined in on the other side
  pub none_join : (x : M) → R.join x R.none ≡ x
  none_join x = R.join_comm x R.none ∙ R.join_none x

  pub sum_none : (f : ℕ → M) → sum R f 0 ≡ R.none
  unfolding sum
  sum_none f = refl

  pub sum_more : (f : ℕ → M) (n : ℕ) → sum R f (n + 1) ≡ R.join (sum R f n) (f n)
  unfolding sum
  sum_more f n = ap (sum R f) (add-one n)

  -- sums of equal parts are equal
  pub sum_cong : (f g : ℕ → M) (n : ℕ) → ((d : ℕ) → d < n → f d ≡ g d) → sum R f n ≡ sum R g n
  unfolding sum
  sum_cong f g zero same = refl
  sum_cong f g (suc n) same = ap₂ R.join (sum_cong f g n (λ d h. same d (omega arith))) (same n (omega arith))

  pub crossing_open : (way : Way) (t c d : ℕ) → way t c d ≡ true → crossing R way t c d ≡ R.step (leap c d)
  crossing_open way t c d h = cond-true (way t c d) _ _ h

  pub crossing_shut : (way : Way) (t c d : ℕ) → way t c d ≡ false → crossing R way t c d ≡ R.none
  crossing_shut way t c d h = cond-false (way t c d) _ _ h

  -- from the last place only the hop to the goal is left
  pub rest_last : (way : Way) (goal n t c : ℕ) → n ≡ t + 1 → rest R way goal (n - 1 - t) t c ≡ crossing R way t c goal
  unfolding rest
  rest_last way goal n t c h = let e : n - 1 - t ≡ 0 = omega arith in ap (λ k. rest R way goal k t c) e

  pub rest_onward : (way : Way) (goal n t c : ℕ) → t + 1 < n → rest R way goal (n - 1 - t) t c ≡ sum R (λ d. R.chain (crossing R way t c d) (rest R way goal (n - 1 - (t + 1)) (t + 1) d)) 48
  unfolding rest
  rest_onward way goal n t c h =
      let e : n - 1 - t ≡ suc (n - 1 - (t + 1)) = omega arith in ap (λ k. rest R way goal k t c) e

  -- what goes on from a cell by each next one
  abbrev pub by_next : Way → ℕ → ℕ → ℕ → ℕ → ℕ → M
  by_next way goal n t c d = R.chain (crossing R way t c d) (rest R way goal (n - 1 - (t + 1)) (t + 1) d)

  -- one cell more of the next place, let through or not
  pub sum_open : (way : Way) (goal n t c d : ℕ) → way t c d ≡ true → sum R (by_next way goal n t c) (d + 1) ≡ R.join (sum R (by_next way goal n t c) d) (R.chain (R.step (leap c d)) (rest R way goal (n - 1 - (t + 1)) (t + 1) d))
  sum_open way goal n t c d h =
      sum_more (by_next way goal n t c) d ∙ ap (λ x. R.join (sum R (by_next way goal n t c) d) (R.chain x (rest R way goal (n - 1 - (t + 1)) (t + 1) d))) (crossing_open way t c d h)

  pub sum_shut : (way : Way) (goal n t c d : ℕ) → way t c d ≡ false → sum R (by_next way goal n t c) (d + 1) ≡ sum R (by_next way goal n t c) d
  sum_shut way goal n t c d h =
      let before = sum R (by_next way goal n t c) d in
      let after = rest R way goal (n - 1 - (t + 1)) (t + 1) d in
      sum_more (by_next way goal n t c) d ∙ ap (λ x. R.join before (R.chain x after)) (crossing_shut way t c d h) ∙ ap (R.join before) (R.none_chain after) ∙ none_join before

  -- a sum of none is none
  sum_of_none : (f : ℕ → M) (n : ℕ) → ((d : ℕ) → d < n → f d ≡ R.none) → sum R f n ≡ R.none
  unfolding sum
  sum_of_none f zero gone = refl
  sum_of_none f (suc n) gone = ap₂ R.join (sum_of_none f n (λ d h. gone d (omega arith))) (gone n (omega arith)) ∙ R.join_none R.none

  -- where nothing may follow, no way goes on
  pub rest_none : (way : Way) (goal k t c : ℕ) → goal < 48 → ((d : ℕ) → d < 48 → way t c d ≡ false) → rest R way goal k t c ≡ R.none
  unfolding rest
  rest_none way goal zero t c small shut = crossing_shut way t c goal (shut goal small)
  rest_none way goal (suc k) t c small shut =
      sum_of_none (λ d. R.chain (crossing R way t c d) (rest R way goal k (t + 1) d)) 48 (λ d h. ap (λ x. R.chain x (rest R way goal k (t + 1) d)) (crossing_shut way t c d (shut d h)) ∙ R.none_chain (rest R way goal k (t + 1) d))
