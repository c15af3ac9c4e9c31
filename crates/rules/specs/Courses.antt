-- Calls on one sheet, courses of calls, and what a course leads to. Assumes nothing.
--
--   Call      a call with all that it is handed
--   no_to     the first no to a call, judged by the plain sheet and the call
--   Course    calls in the order in which they were made on a sheet that was blank at first
--   reached   the plain sheet after a course, and whether it is closed
use Rattle.std.specs.Prelude.{ℕ, Bool, true, false, cond, not, List, [], ◌∷◌, ℤ, Some, None, Option}
use Rattle.counterpoint.specs.declared.moments.Moment.{Moment}
use Rattle.counterpoint.specs.declared.moments.Succession.{Succession}
use Rattle.theme.specs.declared.refusal.PageRefusal.{PageRefusal}
use Rattle.theme.specs.Refusals.{first_no}
use Rattle.theme.specs.Pages.{refusal_of}
use Rattle.rules.specs.declared.refusal.Refusal.{Refusal}
use Rattle.rules.specs.Compasses.{PlainCompass}
use Rattle.rules.specs.Plain.{Plain, blank, unless, loaded, added, add_questions, dropped, drop_questions, fixed, fix_questions, freed, free_questions}
use Rattle.rules.specs.Questions.{under, weigh_questions, decide_no, least_no, pick_no, check_no}
use Rattle.rules.specs.Standing.{Asked}

-- what every question is handed: a compass, and a book by all that it says yes to
pub record Handed : Type 0 where
  pub compass : PlainCompass
  pub admits : Moment → Bool
  pub allows : Succession → Bool

-- what a question is about
abbrev pub asked_of : Plain → Handed → Asked
asked_of p h = under p h.compass h.admits h.allows

-- Questions are lent so many working values (room), and those that give a line a buffer of so many cells.
pub data Call : Type 0 where
  Load : (page : List ℕ) → Call
  Add : (jv entry : ℤ) → Call
  Drop : (jv entry : ℤ) → Call
  Fix : (place key : ℕ) → Call
  Free : (place : ℕ) → Call
  Close : Call
  Reopen : Call
  Decide : (h : Handed) (room cells : ℕ) → Call
  Count : (h : Handed) (room : ℕ) → Call
  Weigh : (h : Handed) (room : ℕ) → Call
  Pick : (h : Handed) (room cells number : ℕ) → Call
  Least : (h : Handed) (room cells : ℕ) → Call
  Check : (h : Handed) (line : List ℕ) → Call
  -- a question for which there is no such book or no such compass
  Unhanded : Call

-- is a call let through? A draft takes the changes, a closed sheet the questions
abbrev pub lets : (shut : Bool) → Call → Bool
lets shut (Load page) = not shut
lets shut (Add jv entry) = not shut
lets shut (Drop jv entry) = not shut
lets shut (Fix place key) = not shut
lets shut (Free place) = not shut
lets shut Close = not shut
lets shut Reopen = shut
lets shut (Decide h room cells) = shut
lets shut (Count h room) = shut
lets shut (Weigh h room) = shut
lets shut (Pick h room cells number) = shut
lets shut (Least h room cells) = shut
lets shut (Check h line) = shut
lets shut Unhanded = false

-- a no to a page, or to another call
pub data No : Type 0 where
  page_no : PageRefusal → No
  call_no : Refusal → No

abbrev pub of_page : Option PageRefusal → Option No
of_page None = None
of_page (Some r) = Some (page_no r)

abbrev pub of_call : Option Refusal → Option No
of_call None = None
of_call (Some r) = Some (call_no r)

abbrev pub no_to : Plain → Call → Option No
no_to p (Load page) = of_page (refusal_of page)
no_to p (Add jv entry) = of_call (first_no (add_questions p jv entry))
no_to p (Drop jv entry) = of_call (first_no (drop_questions p jv entry))
no_to p (Fix place key) = of_call (first_no (fix_questions p place key))
no_to p (Free place) = of_call (first_no (free_questions p place))
no_to p Close = None
no_to p Reopen = None
no_to p (Decide h room cells) = of_call (decide_no (asked_of p h) room cells)
no_to p (Count h room) = of_call (first_no (weigh_questions p h.compass room))
no_to p (Weigh h room) = of_call (first_no (weigh_questions p h.compass room))
no_to p (Pick h room cells number) = of_call (pick_no (asked_of p h) room cells number)
no_to p (Least h room cells) = of_call (least_no (asked_of p h) room cells)
no_to p (Check h line) = of_call (check_no (asked_of p h) line)
no_to p Unhanded = None

-- a plain sheet, and whether it is closed
pub record Reached : Type 0 where
  pub plain : Plain
  pub shut : Bool

abbrev pub draft_at : Plain → Reached
draft_at p = record { plain = p; shut = false }

abbrev pub closed_at : Plain → Reached
closed_at p = record { plain = p; shut = true }

-- what an accepted call makes of a plain sheet; questions leave it alone
abbrev pub made : Plain → Call → Reached
made p (Load page) = draft_at (loaded page)
made p (Add jv entry) = draft_at (added p jv entry)
made p (Drop jv entry) = draft_at (dropped p jv entry)
made p (Fix place key) = draft_at (fixed p place key)
made p (Free place) = draft_at (freed p place)
made p Close = closed_at p
made p Reopen = draft_at p
made p (Decide h room cells) = closed_at p
made p (Count h room) = closed_at p
made p (Weigh h room) = closed_at p
made p (Pick h room cells number) = closed_at p
made p (Least h room cells) = closed_at p
made p (Check h line) = closed_at p
made p Unhanded = closed_at p

-- a call that is not let through, or is refused, alters nothing
abbrev pub after : Reached → Call → Reached
after s call = cond (lets s.shut call) (unless (no_to s.plain call) (made s.plain call) s) s

pub data Course : Type 0 where
  Blank : Course
  Then : Course → Call → Course

abbrev pub reached : Course → Reached
reached Blank = draft_at blank
reached (Then course call) = after (reached course) call

-- a course and more calls behind it
abbrev pub then_all : Course → List Call → Course
then_all course [] = course
then_all course (call ∷ calls) = then_all (Then course call) calls
