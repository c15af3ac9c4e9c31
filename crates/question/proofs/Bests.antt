-- What the first line of the joined weight is in the measures of decide and least. Assumes nothing.
use Rattle.std.proofs.Common.{◌≡◌, ℕ, ◌≤◌, List, Some, None, Option, Result, refl, ap, ◌∙◌}
use Rattle.std.proofs.lemmas.Bool.{ltb-true}
use Rattle.measure.specs.Movements.{movement_ring, smaller}
use Rattle.measure.specs.Possibles.{possible_ring, possibly}
use Rattle.theme.specs.Refusals.{first_no, or_next, answer}
use Rattle.theme.proofs.Asked.{all_yes}
use Rattle.engine.specs.Answers.{written}
use Rattle.rules.specs.declared.refusal.Refusal.{Refusal}
use Rattle.rules.specs.declared.refusal.Refusal.TheVariants.{NoLineStands}
use Rattle.rules.specs.Plain.{unless}
use Rattle.rules.specs.Questions.{places_asked, line_questions, unless_found, first_standing, least_standing, decide_no, least_no}
use Rattle.rules.specs.Standing.{Asked, standing_lines}
use Rattle.question.specs.Fits.{best_standing, best_no}
use Rattle.question.proofs.Engines.{standing_sound}
use Rattle.question.proofs.Measured.{first_possible, first_movement}

module _ (a : Asked) (room cells : ℕ) (r : Result (Unit {0}) Refusal) (before after : List ℕ) where
  abbrev questions : Option Refusal
  questions = first_no (line_questions a.sheet a.compass room cells)

  abbrev no_unless : Option (List ℕ) → Option Refusal
  no_unless found = or_next questions (unless_found found NoLineStands)

  -- over yes or no it is the first that stands
  pub decided : r ≡ answer tt (best_no possible_ring possibly a room cells) → after ≡ unless (best_no possible_ring possibly a room cells) (written (best_standing possible_ring possibly a) before) before → (r ≡ answer tt (decide_no a room cells)) × (after ≡ unless (decide_no a room cells) (written (first_standing a) before) before)
  decided told line =
      let best = first_possible (places_asked a) (standing_lines a) in
      (told ∙ (λ i. answer tt (no_unless (best i))), line ∙ (λ i. unless (no_unless (best i)) (written (best i) before) before))

  -- over movements it is the one that moves least, where the questions have no no; and else there is none
  module _ (few : questions ≡ None → places_asked a ≤ 64) where
    least_best : questions ≡ None → best_standing movement_ring smaller a ≡ least_standing a
    least_best none =
        let yes = all_yes (line_questions a.sheet a.compass room cells) none in
        first_movement (places_asked a) (standing_lines a) (few none) (standing_sound a) (ltb-true 0 (places_asked a) yes.0)

    same_no : (o : Option Refusal) (x y : Option (List ℕ)) → (o ≡ None → x ≡ y) → or_next o (unless_found x NoLineStands) ≡ or_next o (unless_found y NoLineStands)
    same_no None x y same = ap (λ (f : Option (List ℕ)). unless_found f NoLineStands) (same refl)
    same_no (Some e) x y same = refl

    same_line : (o : Option Refusal) (x y : Option (List ℕ)) → (o ≡ None → x ≡ y) → unless (or_next o (unless_found x NoLineStands)) (written x before) before ≡ unless (or_next o (unless_found y NoLineStands)) (written y before) before
    same_line None x y same = ap (λ (f : Option (List ℕ)). unless (unless_found f NoLineStands) (written f before) before) (same refl)
    same_line (Some e) x y same = refl

    pub least_found : r ≡ answer tt (best_no movement_ring smaller a room cells) → after ≡ unless (best_no movement_ring smaller a room cells) (written (best_standing movement_ring smaller a) before) before → (r ≡ answer tt (least_no a room cells)) × (after ≡ unless (least_no a room cells) (written (least_standing a) before) before)
    least_found told line = (
      told ∙ ap (λ (o : Option Refusal). answer {X = Unit {0}} tt o) (same_no questions (best_standing movement_ring smaller a) (least_standing a) least_best),
      line ∙ same_line questions (best_standing movement_ring smaller a) (least_standing a) least_best,
    )
