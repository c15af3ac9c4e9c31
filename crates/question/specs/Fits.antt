-- Lines found over any choosing measure. Assumes nothing.
use Rattle.std.specs.Prelude.{ℕ, Bool, List, Option}
use Rattle.theme.specs.Refusals.{first_no, or_next}
use Rattle.measure.specs.Algebra.{Ring}
use Rattle.engine.specs.Weights.{first_best}
use Rattle.rules.specs.declared.refusal.Refusal.{Refusal}
use Rattle.rules.specs.declared.refusal.Refusal.TheVariants.{NoLineStands}
use Rattle.rules.specs.Questions.{places_asked, line_questions, unless_found}
use Rattle.rules.specs.Standing.{Asked, standing_lines}

-- the first standing line of the joined weight, if one stands
abbrev pub best_standing : {M : Type 0} → Ring M → (M → M → Bool) → Asked → Option (List ℕ)
best_standing R picks a = first_best R picks (places_asked a) (standing_lines a)

-- the first no where it is asked for
abbrev pub best_no : {M : Type 0} → Ring M → (M → M → Bool) → Asked → ℕ → ℕ → Option Refusal
best_no R picks a room cells = or_next (first_no (line_questions a.sheet a.compass room cells)) (unless_found (best_standing R picks a) NoLineStands)
