-- What the engine's answers in the three measures say of some lines: their first, how many they are, and their least. Assumes nothing.
use Rattle.std.proofs.Common.{◌≡◌, ℕ, ◌<◌, ◌≤◌, min, true, ◌&&◌, leb, List, [], ◌∷◌, length, Some, refl, ap, ◌∙◌, ap₂, ⊎_elim, arith}
use Rattle.std.proofs.ByRecursion.{All-weaker}
use Rattle.std.proofs.lemmas.Bool.{cases_Bool, cases_lt, cond-true, le-leb, or_left}
use Rattle.std.proofs.lemmas.Bool.Decides.{nat_tests}
use Rattle.std.specs.List.{AllByRecursion, slice_get}
use Rattle.measure.specs.Algebra.{walked}
use Rattle.measure.specs.Movements.{movement_ring, same_movement, smaller}
use Rattle.measure.specs.Numbers.{number_ring}
use Rattle.measure.specs.Possibles.{answer, possible_ring, possibly}
use Rattle.measure.specs.Steps.{all_possible, never_capped}
use Rattle.engine.specs.Lines.{every}
use Rattle.engine.specs.Weights.{first_best, joined_weight, steps, weight}
use Rattle.engine.proofs.Firsts.{first_with_cong}
use Rattle.engine.proofs.Lists.{every_cong}
use Rattle.engine.proofs.Rosters.{Sound}
use Rattle.engine.proofs.Totals.{length_steps, steps_small}
use Rattle.rules.specs.Orders.{least_of, movement, total}

-- Possible ---------------------------------------------------------------------------------------

weight_possible : (n : ℕ) (line : List ℕ) → (weight possible_ring n line).found ≡ true
weight_possible n line =
    ⊎_elim (λ yes. yes) (λ no. absurd (all_possible (steps n line) (ap answer no))) (cases_Bool (weight possible_ring n line).found)

-- any line is as good as all of them, so the first is
pub first_possible : (n : ℕ) (lines : List (List ℕ)) → first_best possible_ring possibly n lines ≡ slice_get lines 0
first_possible n [] = refl
first_possible n (line ∷ lines) = cond-true _ (Some line) _ (or_left _ _ (weight_possible n line))

-- Number -----------------------------------------------------------------------------------------

walked_number : (sizes : List ℕ) → (walked number_ring sizes).value ≡ 1
walked_number [] = refl
walked_number (s ∷ sizes) = omega (arith, walked_number sizes)

-- each line counts for one
pub weighed_number : (n : ℕ) (lines : List (List ℕ)) → (joined_weight number_ring n lines).value ≡ min (length lines) 1000000000
weighed_number n [] = refl
weighed_number n (line ∷ lines) = omega (arith, walked_number (steps n line), weighed_number n lines)

-- Movement ---------------------------------------------------------------------------------------

walked_movement : (sizes : List ℕ) → (walked movement_ring sizes).sum ≡ min (total sizes) 1000000
walked_movement [] = refl
walked_movement (s ∷ sizes) = omega (arith, walked_movement sizes)

-- the sum of a line's steps does not come to the cap
weight_movement : (n : ℕ) (line : List ℕ) → n ≤ 64 → 0 < n → Sound n line → (weight movement_ring n line).sum ≡ movement n line
weight_movement n line short some s =
    let e = walked_movement (steps n line) in
    ⊎_elim
    (λ below. omega arith)
    (λ beyond. absurd (never_capped (steps n line) (omega (arith, length_steps n line)) (steps_small n line some s) (same_movement _ _ (omega arith))))
    (cases_lt (movement n line) 1000000)

leb_min : (m a b : ℕ) → leb m (min a b) ≡ (leb m a && leb m b)
leb_min m a b = grind (arith, nat_tests)

-- what is at most the least of some lines is at most each of them
leb_joined : (m n : ℕ) (lines : List (List ℕ)) → m ≤ 1000000 → leb m (joined_weight movement_ring n lines).sum ≡ every (λ line. leb m (weight movement_ring n line).sum) lines
leb_joined m n [] h = le-leb m 1000000 h
leb_joined m n (line ∷ lines) h =
    leb_min m (weight movement_ring n line).sum (joined_weight movement_ring n lines).sum ∙ ap (λ b. leb m (weight movement_ring n line).sum && b) (leb_joined m n lines h)

pub first_movement : (n : ℕ) (lines : List (List ℕ)) → n ≤ 64 → AllByRecursion (Sound n) lines → 0 < n → first_best movement_ring smaller n lines ≡ least_of n lines
first_movement n lines short sound some =
    first_with_cong _ _ lines (All-weaker (Sound n) _ least lines sound)
  where
    least : (line : List ℕ) → Sound n line → smaller (weight movement_ring n line) (joined_weight movement_ring n lines) ≡ every (λ other. leb (movement n line) (movement n other)) lines
    least line s =
        leb_joined (weight movement_ring n line).sum n lines (weight movement_ring n line).capped
        ∙ every_cong _ _ lines (All-weaker (Sound n) _ (λ other o. ap₂ leb (weight_movement n line short some s) (weight_movement n other short some o)) lines sound)
