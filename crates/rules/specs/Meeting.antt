-- How a line meets the theme in a combination. Assumes nothing.
use Rattle.std.specs.Prelude.{ℕ, ◌+◌, ◌%◌, Bool, cond, pos, ◌+ℤ◌, ◌-ℤ◌, ◌==◌, slice_index_or}
use Rattle.counterpoint.specs.declared.moments.Accent.{Accent}
use Rattle.counterpoint.specs.declared.moments.Accent.TheVariants.{Strong, Weak}
use Rattle.counterpoint.specs.declared.moments.Moment.{Moment}
use Rattle.counterpoint.specs.declared.moments.Succession.{Succession}
use Rattle.counterpoint.specs.declared.moments.Voice.{Voice}
use Rattle.counterpoint.specs.declared.moments.Voice.TheVariants.{Struck, Held}
use Rattle.theme.specs.declared.place.Mark.{Mark}
use Rattle.theme.specs.declared.place.Mark.TheVariants.{Pin, Bridge}
use Rattle.theme.specs.declared.place.Place.{Place}
use Rattle.theme.specs.Themes.{PlainTheme}
use Rattle.rules.specs.declared.combination.Combination.{Combination}
use Rattle.rules.specs.Cells.{key_of, held_cell}
use Rattle.rules.specs.Plain.{Plain, places_of}

-- a theme's place by its number
abbrev pub theme_at : PlainTheme → ℕ → Place
theme_at th i = slice_index_or th.places i (record { key = 0; mark = Pin })

abbrev pub voice_of_mark : Mark → Voice
voice_of_mark Pin = Struck
voice_of_mark Bridge = Held

abbrev pub voice_of_cell : ℕ → Voice
voice_of_cell cell = cond (held_cell cell) Held Struck

-- is a theme's place strong? The first of each bar is
abbrev pub strong_at : PlainTheme → ℕ → Bool
strong_at th i = i % th.bar == 0

abbrev pub accent_at : PlainTheme → ℕ → Accent
accent_at th i = cond (strong_at th i) Strong Weak

-- the theme's place that the line's place t meets; places are counted round
abbrev pub met : Plain → Combination → ℕ → ℕ
met p c t = (t + c.entry) % places_of p

-- the moment of a cell at place t: its interval is raised by the combination's index
abbrev pub moment_of : Plain → Combination → ℕ → ℕ → Moment
moment_of p c t cell = record {
  interval = (pos (key_of cell) -ℤ pos (theme_at p.theme (met p c t)).key) +ℤ c.jv;
  line = voice_of_cell cell;
  theme = voice_of_mark (theme_at p.theme (met p c t)).mark;
  accent = accent_at p.theme (met p c t);
}

-- the succession out of place t, from a cell to the next
abbrev pub succession_of : Plain → Combination → ℕ → ℕ → ℕ → Succession
succession_of p c t cell next = record {
  first = moment_of p c t cell;
  dx = pos (key_of next) -ℤ pos (key_of cell);
  dc = pos (theme_at p.theme (met p c (t + 1))).key -ℤ pos (theme_at p.theme (met p c t)).key;
  line = voice_of_cell next;
  theme = voice_of_mark (theme_at p.theme (met p c (t + 1))).mark;
  accent = accent_at p.theme (met p c (t + 1));
}
