-- The law over courses of calls: the ways in which an answer can be wrong, none of which ever comes about.
-- Assumes nothing.
--
--   Told        an answer
--   Fault       a way in which the answer to a call is wrong, where a course has led to a sheet
--   Kept        after every course that may have led here, an answer has no fault, and the sheet afterwards is
--               what the plain sheet is after that course and the call
--   Faultless   no answer of a transcript has a fault
use Rattle.std.specs.Prelude.{◌≡◌, ℕ, ◌<◌, Bool, true, false, List, [], ◌∷◌, ℤ, Some, Ok, Err, Result, ◌≢◌, refl}
use Rattle.theme.specs.declared.refusal.PageRefusal.{PageRefusal}
use Rattle.measure.specs.Algebra.{Ring}
use Rattle.rules.specs.declared.refusal.Refusal.{Refusal}
use Rattle.rules.specs.declared.refusal.Refusal.TheVariants.{NoLineStands, NumberNotBelowCount}
use Rattle.rules.specs.Orders.{precedes}
use Rattle.rules.specs.Questions.{count_of, weight_of}
use Rattle.rules.specs.Laws.{Stands, OfTheLine, standing_before, movement_in}
use Rattle.rules.specs.Courses.{Handed, asked_of, Call, Load, Add, Drop, Fix, Free, Close, Reopen, Decide, Count, Weigh, Pick, Least, Check, No, page_no, call_no, no_to, lets, Reached, Course, Then, reached}

-- Answers, over a measure's values
pub data Told (M : Type 0) : Type 0 where
  -- the call is not let through
  Away : Told M
  Refused : No → Told M
  -- accepted: with nothing to tell, with a line, a number of lines, or a weight
  Done : Told M
  Line : List ℕ → Told M
  Number : ℕ → Told M
  Weight : M → Told M

-- is a call accepted?
abbrev pub accepts : {M : Type 0} → Told M → Bool
accepts Away = false
accepts (Refused r) = false
accepts Done = true
accepts (Line line) = true
accepts (Number n) = true
accepts (Weight w) = true

-- what a call may tell where it is accepted
pub data Tells {M : Type 0} : Call → Told M → Type 0 where
  of_load : {page : List ℕ} → Tells (Load page) Done
  of_add : {jv entry : ℤ} → Tells (Add jv entry) Done
  of_drop : {jv entry : ℤ} → Tells (Drop jv entry) Done
  of_fix : {place key : ℕ} → Tells (Fix place key) Done
  of_free : {place : ℕ} → Tells (Free place) Done
  of_close : Tells Close Done
  of_reopen : Tells Reopen Done
  of_decide : {h : Handed} {room cells : ℕ} {line : List ℕ} → Tells (Decide h room cells) (Line line)
  of_count : {h : Handed} {room n : ℕ} → Tells (Count h room) (Number n)
  of_weigh : {h : Handed} {room : ℕ} {w : M} → Tells (Weigh h room) (Weight w)
  of_pick : {h : Handed} {room cells number : ℕ} {line : List ℕ} → Tells (Pick h room cells number) (Line line)
  of_least : {h : Handed} {room cells : ℕ} {line : List ℕ} → Tells (Least h room cells) (Line line)
  of_check : {h : Handed} {line : List ℕ} → Tells (Check h line) Done

-- Wherever a course has led (s), with the lines that stand on the plain sheet there
pub data Fault {M : Type 0} (R : Ring M) (s : Reached) : Call → Told M → Type 0 where
  -- decide says that no line stands though one does
  decide_denies : {h : Handed} {room cells : ℕ} (line : List ℕ) → Stands (asked_of s.plain h) line → Fault R s (Decide h room cells) (Refused (call_no NoLineStands))
  -- or gives a line that does not stand, or not the first that does
  decide_errs : {h : Handed} {room cells : ℕ} {line : List ℕ} → (Stands (asked_of s.plain h) line → ⊥) → Fault R s (Decide h room cells) (Line line)
  decide_late : {h : Handed} {room cells : ℕ} {line : List ℕ} (other : List ℕ) → Stands (asked_of s.plain h) other → precedes other line ≡ true → Fault R s (Decide h room cells) (Line line)
  -- check accepts a line that does not stand, or refuses one that does for what it is
  check_accepts : {h : Handed} {line : List ℕ} → (Stands (asked_of s.plain h) line → ⊥) → Fault R s (Check h line) Done
  check_denies : {h : Handed} {line : List ℕ} {r : Refusal} → OfTheLine r → Stands (asked_of s.plain h) line → Fault R s (Check h line) (Refused (call_no r))
  -- the number counted is not that of the standing lines, capped
  miscounts : {h : Handed} {room n : ℕ} → (n ≢ count_of (asked_of s.plain h)) → Fault R s (Count h room) (Number n)
  -- the weight is not the joined weight of the standing lines
  misweighs : {h : Handed} {room : ℕ} {w : M} → (w ≢ weight_of R (asked_of s.plain h)) → Fault R s (Weigh h room) (Weight w)
  -- pick says that a number is not below the capped count though it is, or accepts one that is not
  pick_denies : {h : Handed} {room cells number : ℕ} → number < count_of (asked_of s.plain h) → Fault R s (Pick h room cells number) (Refused (call_no NumberNotBelowCount))
  pick_beyond : {h : Handed} {room cells number : ℕ} {line : List ℕ} → (number < count_of (asked_of s.plain h) → ⊥) → Fault R s (Pick h room cells number) (Line line)
  -- or gives a line that does not stand, or has not just so many standing lines before it
  pick_errs : {h : Handed} {room cells number : ℕ} {line : List ℕ} → (Stands (asked_of s.plain h) line → ⊥) → Fault R s (Pick h room cells number) (Line line)
  misnumbers : {h : Handed} {room cells number : ℕ} {line : List ℕ} → (standing_before (asked_of s.plain h) line ≢ number) → Fault R s (Pick h room cells number) (Line line)
  -- least says that no line stands though one does
  least_denies : {h : Handed} {room cells : ℕ} (line : List ℕ) → Stands (asked_of s.plain h) line → Fault R s (Least h room cells) (Refused (call_no NoLineStands))
  -- or gives a line that does not stand, or moves more than another that stands, or as much and comes later
  least_errs : {h : Handed} {room cells : ℕ} {line : List ℕ} → (Stands (asked_of s.plain h) line → ⊥) → Fault R s (Least h room cells) (Line line)
  least_beaten : {h : Handed} {room cells : ℕ} {line : List ℕ} (other : List ℕ) → Stands (asked_of s.plain h) other → movement_in (asked_of s.plain h) other < movement_in (asked_of s.plain h) line → Fault R s (Least h room cells) (Line line)
  least_late : {h : Handed} {room cells : ℕ} {line : List ℕ} (other : List ℕ) → Stands (asked_of s.plain h) other → movement_in (asked_of s.plain h) other ≡ movement_in (asked_of s.plain h) line → precedes other line ≡ true → Fault R s (Least h room cells) (Line line)
  -- a call is refused, but not with its first no
  misrefuses : {call : Call} {r : No} → (no_to s.plain call ≢ Some r) → Fault R s call (Refused r)
  -- or accepted though there is one, or with an answer that is none to this call
  overlooks : {call : Call} {told : Told M} (r : No) → no_to s.plain call ≡ Some r → accepts told ≡ true → Fault R s call told
  misanswers : {call : Call} {told : Told M} → accepts told ≡ true → (Tells call told → ⊥) → Fault R s call told
  -- a call that the state lets through is turned away, or one that it does not is answered
  turns_away : {call : Call} → lets s.shut call ≡ true → Fault R s call Away
  lets_pass : {call : Call} {told : Told M} → lets s.shut call ≡ false → (told ≢ Away) → Fault R s call told

-- what holds of a call here, its answer, and the sheet afterwards (there)
abbrev pub Kept : {M : Type 0} → Ring M → Reached → Call → Told M → Reached → Type 0
Kept R here call told there =
    (course : Course) → here ≡ reached course → (Fault R (reached course) call told → ⊥) × (there ≡ reached (Then course call))

-- there is an answer to each call, and no fault at any position
abbrev pub Faultless : {M : Type 0} → Ring M → Course → List Call → List (Told M) → Type 0
Faultless R course [] [] = Unit {0}
Faultless R course [] (told ∷ tolds) = ⊥
Faultless R course (call ∷ calls) [] = ⊥
Faultless R course (call ∷ calls) (told ∷ tolds) = (Fault R (reached course) call told → ⊥) × Faultless R (Then course call) calls tolds

-- the measure with one value, for the calls that weigh nothing
abbrev pub unweighed : Ring (Unit {0})
unweighed = record {
  none = tt;
  one = tt;
  join = λ x y. tt;
  chain = λ x y. tt;
  step = λ size. tt;
  join_assoc = λ x y z. refl;
  join_comm = λ x y. refl;
  join_none = λ x. refl;
  chain_assoc = λ x y z. refl;
  one_chain = λ x. refl;
  chain_one = λ x. refl;
  none_chain = λ x. refl;
  chain_none = λ x. refl;
  chain_join = λ x y z. refl;
  join_chain = λ x y z. refl;
}

-- How calls tell their answers ---------------------------------------------------------------------

abbrev pub told_page : {M : Type 0} → Result (Unit {0}) PageRefusal → Told M
told_page (Ok done) = Done
told_page (Err r) = Refused (page_no r)

abbrev pub told_done : {M : Type 0} → Result (Unit {0}) Refusal → Told M
told_done (Ok done) = Done
told_done (Err r) = Refused (call_no r)

abbrev pub told_line : {M : Type 0} → Result (Unit {0}) Refusal → List ℕ → Told M
told_line (Ok done) line = Line line
told_line (Err r) line = Refused (call_no r)

abbrev pub told_number : {M : Type 0} → Result ℕ Refusal → Told M
told_number (Ok n) = Number n
told_number (Err r) = Refused (call_no r)

abbrev pub told_weight : {M : Type 0} → Result M Refusal → Told M
told_weight (Ok w) = Weight w
told_weight (Err r) = Refused (call_no r)
