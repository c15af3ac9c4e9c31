-- The engine's answers, told with our refusals, are those about the standing lines. Assumes nothing.
use Rattle.std.proofs.Common.{◌≡◌, ℕ, ◌*◌, ◌<◌, ◌≤◌, Bool, true, false, cond, ◌&&◌, leb, List, [], ◌∷◌, ◌++◌, is_some, Some, None, Ok, Err, Option, Result, sym, refl, ap, ◌∙◌, subst, arith}
use Rattle.std.specs.List.{AllByRecursion, slice_get}
use Rattle.std.proofs.ByRecursion.{all_kept_by}
use Rattle.std.proofs.lemmas.Bool.{and_from, cond-true, le-leb}
use Rattle.theme.specs.Refusals.{first_no, answer, or_next}
use Rattle.theme.proofs.Asked.{first_no_next}
use Rattle.engine.specs.Answers as engine
use Rattle.engine.specs.Answers.{unless_written, written}
use Rattle.measure.specs.Algebra.{Ring}
use Rattle.engine.specs.Lines.{roster, every_line}
use Rattle.engine.specs.Weights.{first_best, joined_weight}
use Rattle.engine.proofs.Rosters.{Sound, every_line_sound}
use Rattle.engine.specs.declared.unfit.Unfit.{Unfit}
use Rattle.engine.specs.declared.unfit.Unfit.TheVariants.{Places, Memory, Line, Number}
use Rattle.rules.specs.declared.refusal.Refusal.{Refusal}
use Rattle.rules.specs.declared.refusal.Refusal.TheVariants.{MemoryTooShort, LineUnfit, NumberTooLarge, NoLineStands, NumberNotBelowCount}
use Rattle.rules.specs.Refusals.{question_refusal}
use Rattle.rules.specs.Plain.{Plain, places_of, unless}
use Rattle.rules.specs.Compasses.{PlainCompass}
use Rattle.rules.specs.Questions.{base_questions, weigh_questions, line_questions, pick_questions, unless_found, pick_no, picked, weight_of}
use Rattle.rules.specs.Standing.{Asked, stands, standing_lines, way}
use Rattle.standing.proofs.Rounds.{standing_is_roster}
use Rattle.question.specs.Fits.{best_standing, best_no}

-- What the engine refuses ------------------------------------------------------------------------

-- the engine's first no as ours
abbrev told : Option Unfit → Option Refusal
told None = None
told (Some unfit) = Some (question_refusal unfit)

abbrev as_ours : List (Bool × Unfit) → List (Bool × Refusal)
as_ours [] = []
as_ours (q ∷ qs) = (q.0, question_refusal q.1) ∷ as_ours qs

told_first : (qs : List (Bool × Unfit)) → first_no (as_ours qs) ≡ told (engine.first_no qs)
told_first [] = refl
told_first (q ∷ qs) = go (told_first qs) q.0
  where
    go : first_no (as_ours qs) ≡ told (engine.first_no qs) → (b : Bool) → cond b (first_no (as_ours qs)) (Some (question_refusal q.1)) ≡ told (cond b (engine.first_no qs) (Some q.1))
    go rest true = rest
    go rest false = refl

-- where a theme is loaded and the trial fits, the engine asks what is still to be asked
module _ (p : Plain) (compass : PlainCompass) (n : ℕ) (none : first_no (base_questions p compass) ≡ None) (is : n ≡ places_of p) (some : 0 < n) (few : n ≤ 64) where
  rest_no : (qs : List (Bool × Unfit)) → first_no (base_questions p compass ++ as_ours qs) ≡ told (engine.first_no ((leb 1 n && leb n 64, Places) ∷ qs))
  rest_no qs =
      first_no_next (base_questions p compass) (as_ours qs) none
      ∙ told_first qs
      ∙ ap told (sym (cond-true (leb 1 n && leb n 64) (engine.first_no qs) (Some Places) (and_from _ _ (le-leb 1 n (omega arith)) (le-leb n 64 few))))

  weigh_no : (room : ℕ) → first_no (weigh_questions p compass room) ≡ told (engine.first_no (engine.room_questions n room))
  weigh_no room =
      ap (λ (k : ℕ). first_no (base_questions p compass ++ (leb (48 * k) room, MemoryTooShort) ∷ [])) (sym is)
      ∙ rest_no ((leb (48 * n) room, Memory) ∷ [])

  line_no : (room cells : ℕ) → first_no (line_questions p compass room cells) ≡ told (engine.first_no (engine.line_questions n room cells))
  line_no room cells =
      ap (λ (k : ℕ). first_no (base_questions p compass ++ (leb (48 * k) room, MemoryTooShort) ∷ (leb k cells, LineUnfit) ∷ [])) (sym is)
      ∙ rest_no ((leb (48 * n) room, Memory) ∷ (leb n cells, Line) ∷ [])

  number_no : (room cells number : ℕ) → first_no (pick_questions p compass room cells number) ≡ told (engine.first_no (engine.pick_questions n room cells number))
  number_no room cells number =
      ap (λ (k : ℕ). first_no (base_questions p compass ++ (leb (48 * k) room, MemoryTooShort) ∷ (leb k cells, LineUnfit) ∷ (leb number 999999999, NumberTooLarge) ∷ [])) (sym is)
      ∙ rest_no ((leb (48 * n) room, Memory) ∷ (leb n cells, Line) ∷ (leb number 999999999, Number) ∷ [])

-- What the engine answers ------------------------------------------------------------------------

-- its answer by our words
abbrev pub given : {X : Type 0} → Result X Unfit → Result X Refusal
given (Ok x) = Ok x
given (Err unfit) = Err (question_refusal unfit)

-- and whether there is a line
abbrev pub given_line : Refusal → Result Bool Unfit → Result (Unit {0}) Refusal
given_line refusal (Ok true) = Ok tt
given_line refusal (Ok false) = Err refusal
given_line refusal (Err unfit) = Err (question_refusal unfit)

module _ (o : Option Refusal) (theirs : Option Unfit) (same : o ≡ told theirs) where
  value_given : {X : Type 0} (r : Result X Unfit) (x y : X) → r ≡ engine.unless theirs x → x ≡ y → given r ≡ answer y o
  value_given {X} r x y is value =
      ap (λ (z : Result X Unfit). given z) is ∙ go theirs ∙ ap (λ (z : X). answer z (told theirs)) value ∙ sym (ap (λ (q : Option Refusal). answer y q) same)
    where
      go : (q : Option Unfit) → given (engine.unless q x) ≡ answer x (told q)
      go None = refl
      go (Some unfit) = refl

  module _ (refusal : Refusal) (theirs-found found : Option (List ℕ)) (line : theirs-found ≡ found) where
    line_given : (r : Result Bool Unfit) → r ≡ engine.unless theirs (is_some theirs-found) → given_line refusal r ≡ answer tt (or_next o (unless_found found refusal))
    line_given r is =
        ap (given_line refusal) is ∙ go theirs theirs-found
        ∙ (λ i. answer {X = Unit {0}} tt (or_next (sym same i) (unless_found (line i) refusal)))
      where
        go : (q : Option Unfit) (f : Option (List ℕ)) → given_line refusal (engine.unless q (is_some f)) ≡ answer tt (or_next (told q) (unless_found f refusal))
        go None None = refl
        go None (Some cells) = refl
        go (Some unfit) f = refl

    buffer_given : (before after : List ℕ) → after ≡ unless_written theirs theirs-found before → after ≡ unless (or_next o (unless_found found refusal)) (written found before) before
    buffer_given before after is =
        is ∙ go theirs theirs-found
        ∙ (λ i. unless (or_next (sym same i) (unless_found (line i) refusal)) (written (line i) before) before)
      where
        go : (q : Option Unfit) (f : Option (List ℕ)) → unless_written q f before ≡ unless (or_next (told q) (unless_found f refusal)) (written f before) before
        go None None = refl
        go None (Some cells) = refl
        go (Some unfit) f = refl

-- What its answers are about ---------------------------------------------------------------------

module _ (a : Asked) (n : ℕ) (is : n ≡ places_of a.sheet) (some : 0 < n) where
  -- the lines that the engine goes through are those that stand
  roster_stands : roster (way a) n ≡ standing_lines a
  roster_stands = ap (roster (way a)) is ∙ sym (standing_is_roster a (subst (λ (k : ℕ). 0 < k) is some))

  -- the first of them of the joined weight is the first that stands
  best_is : {M : Type 0} (R : Ring M) (picks : M → M → Bool) → first_best R picks n (roster (way a) n) ≡ best_standing R picks a
  best_is R picks =
      ap (first_best R picks n) roster_stands ∙ ap (λ (k : ℕ). first_best R picks k (standing_lines a)) is

  -- and so is what they weigh together
  weight_is : {M : Type 0} (R : Ring M) → joined_weight R n (roster (way a) n) ≡ weight_of R a
  weight_is R = ap (joined_weight R n) roster_stands ∙ ap (λ (k : ℕ). joined_weight R k (standing_lines a)) is

-- where a theme is loaded and the trial fits
module _ (a : Asked) (n : ℕ) (known : (first_no (base_questions a.sheet a.compass) ≡ None) × (n ≡ places_of a.sheet) × (0 < n) × (n ≤ 64)) (room : ℕ) where
  pub weight_given : {M : Type 0} (R : Ring M) (theirs : Result M Unfit) → theirs ≡ engine.unless (engine.first_no (engine.room_questions n room)) (joined_weight R n (roster (way a) n)) → given theirs ≡ answer (weight_of R a) (first_no (weigh_questions a.sheet a.compass room))
  weight_given R theirs told-is =
      value_given (first_no (weigh_questions a.sheet a.compass room)) _ (weigh_no a.sheet a.compass n known.0 known.1 known.2 known.3 room) theirs _ _ told-is (weight_is a n known.1 known.2 R)

  module _ (cells : ℕ) where
    pub best_given : {M : Type 0} (R : Ring M) (picks : M → M → Bool) (theirs : Result Bool Unfit) → theirs ≡ engine.unless (engine.first_no (engine.line_questions n room cells)) (is_some (first_best R picks n (roster (way a) n))) → given_line NoLineStands theirs ≡ answer tt (best_no R picks a room cells)
    best_given R picks theirs told-is =
        line_given (first_no (line_questions a.sheet a.compass room cells)) _ (line_no a.sheet a.compass n known.0 known.1 known.2 known.3 room cells) NoLineStands _ _ (best_is a n known.1 known.2 R picks) theirs told-is

    pub best_written : {M : Type 0} (R : Ring M) (picks : M → M → Bool) (before after : List ℕ) → after ≡ unless_written (engine.first_no (engine.line_questions n room cells)) (first_best R picks n (roster (way a) n)) before → after ≡ unless (best_no R picks a room cells) (written (best_standing R picks a) before) before
    best_written R picks before after line-is =
        buffer_given (first_no (line_questions a.sheet a.compass room cells)) _ (line_no a.sheet a.compass n known.0 known.1 known.2 known.3 room cells) NoLineStands _ _ (best_is a n known.1 known.2 R picks) before after line-is

    module _ (number : ℕ) where
      found_is : slice_get (roster (way a) n) number ≡ picked a number
      found_is = ap (λ (lines : List (List ℕ)). slice_get lines number) (roster_stands a n known.1 known.2)

      pub number_given : (theirs : Result Bool Unfit) → theirs ≡ engine.unless (engine.first_no (engine.pick_questions n room cells number)) (is_some (slice_get (roster (way a) n) number)) → given_line NumberNotBelowCount theirs ≡ answer tt (pick_no a room cells number)
      number_given theirs told-is =
          line_given (first_no (pick_questions a.sheet a.compass room cells number)) _ (number_no a.sheet a.compass n known.0 known.1 known.2 known.3 room cells number) NumberNotBelowCount _ _ found_is theirs told-is

      pub number_written : (before after : List ℕ) → after ≡ unless_written (engine.first_no (engine.pick_questions n room cells number)) (slice_get (roster (way a) n) number) before → after ≡ unless (pick_no a room cells number) (written (picked a number) before) before
      number_written before after line-is =
          buffer_given (first_no (pick_questions a.sheet a.compass room cells number)) _ (number_no a.sheet a.compass n known.0 known.1 known.2 known.3 room cells number) NumberNotBelowCount _ _ found_is before after line-is

-- each standing line has a cell below 48 for each place
pub standing_sound : (a : Asked) → AllByRecursion (Sound (places_of a.sheet)) (standing_lines a)
standing_sound a = all_kept_by (stands a) (Sound (places_of a.sheet)) (every_line (places_of a.sheet)) (every_line_sound (places_of a.sheet))
