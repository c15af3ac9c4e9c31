-- Themes as values, and which of them are lawful. Assumes nothing.
use Rattle.std.specs.Prelude.{◌≡◌, ℕ, ◌%◌, Bool, true, false, ◌&&◌, List, [], ◌∷◌, length, Some, None, Option, ◌==◌, nat_le}
use Rattle.theme.specs.declared.place.Mark.{Mark}
use Rattle.theme.specs.declared.place.Mark.TheVariants.{Pin, Bridge}
use Rattle.theme.specs.declared.place.Place.{Place}

-- a theme as a value: its places in order, and its bar length
pub record PlainTheme : Type 0 where
  pub places : List Place
  pub bar : ℕ

-- no theme: no place and no bar
abbrev pub blank_theme : PlainTheme
blank_theme = record { places = []; bar = 0 }

-- is this the key before, if there is a place before?
abbrev pub repeats : Option ℕ → ℕ → Bool
repeats None key = false
repeats (Some before) key = before == key

-- a bridge repeats the key before it, so there is none at the first place
abbrev pub marked_well : Option ℕ → Mark → ℕ → Bool
marked_well before Pin key = true
marked_well before Bridge key = repeats before key

-- each key is at most 23 and each bridge lawful, after this key if any
abbrev pub places_lawful : Option ℕ → List Place → Bool
places_lawful before [] = true
places_lawful before (p ∷ ps) = nat_le p.key 23 && marked_well before p.mark p.key && places_lawful (Some p.key) ps

-- 1 to 64 places
abbrev pub count_lawful : ℕ → Bool
count_lawful n = nat_le 1 n && nat_le n 64

-- a bar of 1 to N places that divides their number N
abbrev pub bar_lawful : ℕ → ℕ → Bool
bar_lawful n bar = nat_le 1 bar && nat_le bar n && n % bar == 0

abbrev pub lawful : PlainTheme → Bool
lawful th = count_lawful (length th.places) && bar_lawful (length th.places) th.bar && places_lawful None th.places

abbrev pub Lawful : PlainTheme → Type 0
Lawful th = lawful th ≡ true

-- what a sheet may hold: no theme, or a lawful one
abbrev pub blank_or_lawful : List Place → ℕ → Bool
blank_or_lawful [] bar = bar == 0
blank_or_lawful (p ∷ ps) bar = lawful (record { places = p ∷ ps; bar = bar })
