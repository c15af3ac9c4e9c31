-- What it means that a line stands. Assumes nothing.
--
--   Asked            what a question is about: a sheet, a compass, and the book's two sets
--   stands           does a line stand?
--   standing_lines   all lines that stand, in order
--   way              the same for one step of a line, as the engine asks for it
use Rattle.std.specs.Prelude.{ℕ, ◌+◌, Bool, true, cond, ◌&&◌, List, length, Some, None, filter, Option, ◌==◌, nat_lt, slice_index_or}
use Rattle.counterpoint.specs.declared.moments.Moment.{Moment}
use Rattle.counterpoint.specs.declared.moments.Succession.{Succession}
use Rattle.engine.specs.Lines.{Way, upto, every, every_line, cell_at}
use Rattle.rules.specs.declared.combination.Combination.{Combination}
use Rattle.rules.specs.Cells.{key_of, cell_lawful, cells_lawful}
use Rattle.rules.specs.Plain.{Plain, places_of}
use Rattle.rules.specs.declared.trial.Trial.{Trial}
use Rattle.rules.specs.Compasses.{PlainCompass, between}
use Rattle.rules.specs.Meeting.{moment_of, succession_of}

pub record Asked : Type 0 where
  pub sheet : Plain
  pub compass : PlainCompass
  pub admits : Moment → Bool
  pub allows : Succession → Bool

-- is a key the one that is asked for, if one is?
abbrev pub keeps : Option ℕ → ℕ → Bool
keeps None key = true
keeps (Some wanted) key = wanted == key

-- the key tried at a place, if one is
abbrev pub tried_at : Option Trial → ℕ → Option ℕ
tried_at None t = None
tried_at (Some trial) t = cond (trial.place == t) (Some trial.key) None

-- does a cell at place t keep the compass, the trial and the key fixed there?
abbrev pub kept_at : Asked → ℕ → ℕ → Bool
kept_at a t cell =
    between a.compass.lowest a.compass.highest (key_of cell) && keeps (tried_at a.compass.trial t) (key_of cell) && keeps (slice_index_or a.sheet.fixings t None) (key_of cell)

-- does the book say yes in a combination to the moment at place t and to the succession out of it?
abbrev pub agrees : Asked → ℕ → ℕ → ℕ → Combination → Bool
agrees a t cell next c =
    a.admits (moment_of a.sheet c t cell) && a.allows (succession_of a.sheet c t cell next)

-- in all places of a line, counted round
abbrev pub agrees_all_round : Asked → List ℕ → Combination → Bool
agrees_all_round a line c =
    every (λ t. agrees a t (cell_at (places_of a.sheet) line t) (cell_at (places_of a.sheet) line (t + 1)) c) (upto (places_of a.sheet))

-- The cells are a line of as many places as the theme has; its keys lie in the compass and keep the
-- trial and every fixed key; and in each listed combination the book says yes to every moment and to
-- every succession, the one over the seam among them.
abbrev pub stands : Asked → List ℕ → Bool
stands a line =
    (length line == places_of a.sheet) && cells_lawful None line && every (λ t. kept_at a t (cell_at (places_of a.sheet) line t)) (upto (places_of a.sheet)) && every (agrees_all_round a line) a.sheet.list

abbrev pub standing_lines : Asked → List (List ℕ)
standing_lines a = filter (stands a) (every_line (places_of a.sheet))

-- may the cell `next` follow the cell at place t?
abbrev pub way : Asked → Way
way a t cell next =
    nat_lt t (places_of a.sheet) && nat_lt cell 48 && cell_lawful (cond (nat_lt (t + 1) (places_of a.sheet)) (Some cell) None) next && kept_at a t cell && every (agrees a t cell next) a.sheet.list
