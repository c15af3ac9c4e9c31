-- What chains of steps come to in the three measures. Assumes nothing.
use Rattle.std.specs.Prelude.{◌≡◌, ℕ, ◌*◌, ◌≤◌, true, false, List, [], ◌∷◌, length, ◌≢◌, refl}
use Rattle.std.proofs.Common.{ap, sym, ◌∙◌, arith}
use Rattle.std.proofs.lemmas.Bool.{true≢false}
use Rattle.std.specs.List.{AllByRecursion}
use Rattle.measure.specs.Algebra.{walked}
use Rattle.measure.specs.Possibles.{answer, possible_ring}
use Rattle.measure.specs.Movements.{much, movement_ring}
use Rattle.measure.specs.declared.possible.Possible.{Possible}

-- any number of steps is yes
walked_possible : (sizes : List ℕ) → walked possible_ring sizes ≡ answer true
walked_possible [] = refl
walked_possible (s ∷ sizes) = walked_possible sizes

pub all_possible : (sizes : List ℕ) → walked possible_ring sizes ≢ answer false
all_possible sizes none =
    true≢false (ap (λ (x : Possible). x.found) (sym (walked_possible sizes) ∙ none))

-- steps of sizes up to 23 do not pass 23 a step
walked_small : (sizes : List ℕ) → AllByRecursion (λ s. s ≤ 23) sizes → (walked movement_ring sizes).sum ≤ 23 * length sizes
walked_small [] small = omega arith
walked_small (s ∷ sizes) small = let less = walked_small sizes small.1 in let here = small.0 in omega arith

pub never_capped : (sizes : List ℕ) → length sizes ≤ 64 → AllByRecursion (λ s. s ≤ 23) sizes → walked movement_ring sizes ≢ much 1000000
never_capped sizes short small none =
    let less = walked_small sizes small in
    let most : (walked movement_ring sizes).sum ≡ 1000000 = ap (λ x. x.sum) none in
    omega arith
