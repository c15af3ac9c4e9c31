-- From what a question answers and writes to what that means. Assumes nothing.
use Rattle.std.proofs.Common.{◌≡◌, ℕ, ◌<◌, ◌≤◌, Bool, true, false, cond, ◌&&◌, eqb, List, [], ◌∷◌, length, take, drop, is_some, Some, None, Option, Result, sym, refl, ap, ◌∙◌, subst, arith, MatchResult}
use Rattle.std.specs.List.{AllByRecursion, slice_get}
use Rattle.std.proofs.lemmas.List.{take_at}
use Rattle.std.proofs.lemmas.Bool.{and_parts, eqb-true}
use Rattle.theme.specs.Refusals.{first_no, or_next, answer}
use Rattle.engine.specs.Answers as engine
use Rattle.engine.specs.Answers.{written}
use Rattle.engine.specs.Lines.{upto, every, cell_at, roster}
use Rattle.engine.specs.declared.unfit.Unfit.{Unfit}
use Rattle.rules.specs.declared.refusal.Refusal.{Refusal}
use Rattle.rules.specs.declared.refusal.Refusal.TheVariants.{NoLineStands, NumberNotBelowCount}
use Rattle.rules.specs.Refusals.{refusal_number}
use Rattle.rules.specs.Cells.{cells_lawful}
use Rattle.rules.specs.Plain.{Plain, places_of, unless}
use Rattle.rules.specs.Compasses.{PlainCompass}
use Rattle.rules.specs.Standing.{Asked, standing_lines, kept_at, agrees_all_round, way}
use Rattle.rules.specs.Courses.{Handed, Pick, asked_of, closed_at}
use Rattle.rules.specs.Faults.{Kept, told_line, unweighed}
use Rattle.rules.proofs.Faultless.{pick_kept}
use Rattle.rules.specs.Laws.{Stands, NoneStands, First, Least, Numbered, Decided, LeastFound, Picked}
use Rattle.rules.specs.Questions.{places_asked, base_questions, line_questions, pick_questions, unless_found, first_standing, least_standing, picked, decide_no, least_no, pick_no}
use Rattle.question.proofs.Engines.{given_line, number_given, number_written}
use Rattle.question.proofs.Laws.{first_law, none_from_empty, least_law, least_none, numbered_law, pick_below, pick_bound}

-- a refusal that no question has is not the first no
other_no : (qs : List (Bool × Refusal)) (r : Refusal) → AllByRecursion (λ (q : Bool × Refusal). q.1 ≡ r → ⊥) qs → (e : Refusal) → first_no qs ≡ Some e → e ≡ r → ⊥
other_no [] r others e never is = let z : ◌≡◌ {A = ℕ} 0 1 = cc in omega arith
other_no (q ∷ qs) r others e some is = go (λ rest. other_no qs r others.1 e rest is) q.0 some
  where
    go : (first_no qs ≡ Some e → ⊥) → (b : Bool) → cond b (first_no qs) (Some q.1) ≡ Some e → ⊥
    go behind true rest = behind rest
    go behind false here = let same : q.1 ≡ e = cc in others.0 (same ∙ is)

-- a standing line has as many cells as there are places
stands_length : (a : Asked) (line : List ℕ) → Stands a line → length line ≡ places_asked a
stands_length a line s =
    let n : ℕ = places_asked a in
    let x = and_parts (eqb (length line) n && cells_lawful None line && every (λ t. kept_at a t (cell_at n line t)) (upto n)) (every (agrees_all_round a line) a.sheet.list) s in
    let y = and_parts (eqb (length line) n && cells_lawful None line) (every (λ t. kept_at a t (cell_at n line t)) (upto n)) x.0 in
    eqb-true (length line) n (and_parts (eqb (length line) n) (cells_lawful None line) y.0).0

-- what holds of the line found holds of the cells written, and what holds where none is found is told
-- by the refusal, which no earlier question gives
module _ (refusal : Refusal) (n : ℕ) (P : List ℕ → Type 0) (Q : Type 0) (before after : List ℕ) (r : Result (Unit {0}) Refusal) where
  means : (o : Option Refusal) (found : Option (List ℕ)) → ((e : Refusal) → o ≡ Some e → e ≡ refusal → ⊥) → ((line : List ℕ) → found ≡ Some line → P line × (length line ≡ n)) → (found ≡ None → Q) → r ≡ answer tt (or_next o (unless_found found refusal)) → after ≡ unless (or_next o (unless_found found refusal)) (written found before) before → MatchResult r (λ _. P (take n after)) (λ (e : Refusal). e ≡ refusal → Q)
  means (Some e) found other holds missing r-is after_is =
      subst (λ (x : Result (Unit {0}) Refusal). MatchResult x (λ _. P (take n after)) (λ (d : Refusal). d ≡ refusal → Q)) (sym r-is) (λ same. absurd (other e refl same))
  means None None other holds missing r-is after_is =
      subst (λ (x : Result (Unit {0}) Refusal). MatchResult x (λ _. P (take n after)) (λ (d : Refusal). d ≡ refusal → Q)) (sym r-is) (λ _. missing refl)
  means None (Some line) other holds missing r-is after_is =
      let known = holds line refl in
      let front = ap (take n) after_is ∙ take_at line (drop (length line) before) n known.1 in
      subst (λ (x : Result (Unit {0}) Refusal). MatchResult x (λ _. P (take n after)) (λ (d : Refusal). d ≡ refusal → Q)) (sym r-is) (subst P (sym front) known.0)

-- no question that comes first refuses as the search for a line does
line_other : (p : Plain) (compass : PlainCompass) (room cells : ℕ) (e : Refusal) → first_no (line_questions p compass room cells) ≡ Some e → e ≡ NoLineStands → ⊥
line_other p compass room cells =
    other_no (line_questions p compass room cells) NoLineStands
    ((λ e. omega (arith, ap refusal_number e)), ((λ e. omega (arith, ap refusal_number e)), ((λ e. omega (arith, ap refusal_number e)), ((λ e. omega (arith, ap refusal_number e)), tt))))

pick_other : (p : Plain) (compass : PlainCompass) (room cells number : ℕ) (e : Refusal) → first_no (pick_questions p compass room cells number) ≡ Some e → e ≡ NumberNotBelowCount → ⊥
pick_other p compass room cells number =
    other_no (pick_questions p compass room cells number) NumberNotBelowCount
    ((λ e. omega (arith, ap refusal_number e)), ((λ e. omega (arith, ap refusal_number e)), ((λ e. omega (arith, ap refusal_number e)), ((λ e. omega (arith, ap refusal_number e)), ((λ e. omega (arith, ap refusal_number e)), tt)))))

module _ (a : Asked) (room cells : ℕ) (before after : List ℕ) (r : Result (Unit {0}) Refusal) where
  pub decide_means : r ≡ answer tt (decide_no a room cells) → after ≡ unless (decide_no a room cells) (written (first_standing a) before) before → Decided a r (take (places_asked a) after)
  decide_means =
      means NoLineStands (places_asked a) (First a) (NoneStands a) before after r (first_no (line_questions a.sheet a.compass room cells)) (first_standing a)
      (line_other a.sheet a.compass room cells)
      (λ line is. let law = first_law a line is in (law, stands_length a line law.0))
      (none_from_empty a)

  pub least_means : r ≡ answer tt (least_no a room cells) → after ≡ unless (least_no a room cells) (written (least_standing a) before) before → LeastFound a r (take (places_asked a) after)
  least_means =
      means NoLineStands (places_asked a) (Least a) (NoneStands a) before after r (first_no (line_questions a.sheet a.compass room cells)) (least_standing a)
      (line_other a.sheet a.compass room cells)
      (λ line is. let law = least_law a line is in (law, stands_length a line law.0))
      (least_none a)

  pub pick_means : (number : ℕ) → r ≡ answer tt (pick_no a room cells number) → after ≡ unless (pick_no a room cells number) (written (picked a number) before) before → Picked a number r (take (places_asked a) after)
  pick_means number =
      means NumberNotBelowCount (places_asked a) (λ line. (number < length (standing_lines a)) × Numbered a number line) (length (standing_lines a) ≤ number) before after r (first_no (pick_questions a.sheet a.compass room cells number)) (picked a number)
      (pick_other a.sheet a.compass room cells number)
      (λ line is. let law = numbered_law a number line is in ((pick_below a number line is, law), stands_length a line law.0))
      (pick_bound a number)

-- a line found by its number, as the engine answers
module _ (p : Plain) (h : Handed) (n : ℕ) (known : (first_no (base_questions p h.compass) ≡ None) × (n ≡ places_of p) × (0 < n) × (n ≤ 64)) (room cells number : ℕ) (theirs : Result Bool Unfit) (before after : List ℕ) where
  pub pick_promise : (r : Result (Unit {0}) Refusal) → r ≡ given_line NumberNotBelowCount theirs → theirs ≡ engine.unless (engine.first_no (engine.pick_questions n room cells number)) (is_some (slice_get (roster (way (asked_of p h)) n) number)) → after ≡ engine.unless_written (engine.first_no (engine.pick_questions n room cells number)) (slice_get (roster (way (asked_of p h)) n) number) before → (r ≡ answer tt (pick_no (asked_of p h) room cells number)) × (after ≡ unless (pick_no (asked_of p h) room cells number) (written (picked (asked_of p h) number) before) before) × Picked (asked_of p h) number r (take (places_of p) after) × Kept unweighed (closed_at p) (Pick h room cells number) (told_line r (take (places_of p) after)) (closed_at p)
  pick_promise r r-is told-is line-is =
      let answer-is = r-is ∙ number_given (asked_of p h) n known room cells number theirs told-is in
      let line = number_written (asked_of p h) n known room cells number before after line-is in
      let means = pick_means (asked_of p h) room cells before after r number answer-is line in
      (answer-is, line, means, pick_kept unweighed p h room cells number r (take (places_of p) after) answer-is means)
