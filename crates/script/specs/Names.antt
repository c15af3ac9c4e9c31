-- What the names of books stand for, and the compass of some options. Assumes nothing.
use Rattle.std.specs.Prelude.{Bool, cond, ℤ, Some, None, Option}
use Rattle.counterpoint.specs.declared.moments.Moment.{Moment}
use Rattle.counterpoint.specs.declared.moments.Succession.{Succession}
use Rattle.books.specs.Vertical.{vertical_admits, vertical_allows}
use Rattle.script.specs.Books.{rules_admit, rules_allow}
use Rattle.script.specs.declared.statement.BookName.{BookName}
use Rattle.counterpoint.specs.Interval.{shift_in_range}
use Rattle.theme.specs.Refusals.{first_no, or_next}
use Rattle.rules.specs.declared.refusal.Refusal.{Refusal}
use Rattle.rules.specs.declared.refusal.Refusal.TheVariants.{ShiftOutOfRange}
use Rattle.rules.specs.declared.trial.Trial.{Trial}
use Rattle.rules.specs.Compasses.{PlainCompass, compass_questions, trial_questions}
use Rattle.script.specs.declared.statement.Keys.{Keys}
use Rattle.script.specs.declared.statement.Options.{Options}

-- under a layer, if there is one
abbrev pub layered_admits : Option ℤ → (Moment → Bool) → Moment → Bool
layered_admits None admits = admits
layered_admits (Some shift) admits = vertical_admits admits shift

abbrev pub layered_allows : Option ℤ → (Succession → Bool) → Succession → Bool
layered_allows None allows = allows
layered_allows (Some shift) allows = vertical_allows allows shift

abbrev pub named_admits : BookName → Moment → Bool
named_admits name = layered_admits name.shift (rules_admit name.rules)

abbrev pub named_allows : BookName → Succession → Bool
named_allows name = layered_allows name.shift (rules_allow name.rules)

-- why a layer is refused, if there is one
abbrev pub layer_no : Option ℤ → Option Refusal
layer_no None = None
layer_no (Some shift) = cond (shift_in_range shift) None (Some ShiftOutOfRange)

abbrev pub book_no : BookName → Option Refusal
book_no name = layer_no name.shift

-- all keys where nothing is said
abbrev pub keys_of : Option Keys → Keys
keys_of None = record { lowest = 0; highest = 23 }
keys_of (Some keys) = keys

-- with the trial in force
abbrev pub asked_compass : Options → PlainCompass
asked_compass options = record {
  lowest = (keys_of options.keys).lowest;
  highest = (keys_of options.keys).highest;
  trial = options.trial;
}

-- why a trial is refused, if there is one
abbrev pub trial_no : Option Trial → PlainCompass → Option Refusal
trial_no None compass = None
trial_no (Some trial) compass = first_no (trial_questions compass trial)

-- the keys are asked about first, then the trial
abbrev pub compass_no : Options → Option Refusal
compass_no options =
    or_next (first_no (compass_questions (keys_of options.keys).lowest (keys_of options.keys).highest))
    (trial_no options.trial (asked_compass options))
