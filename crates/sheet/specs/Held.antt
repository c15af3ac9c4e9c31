-- What a draft in memory holds, and what is true of it at all times. Assumes nothing.
use Rattle.std.specs.Prelude.{◌≡◌, ◌≤◌, true, length, vec_items, vec_len, vec_capacity}
use Rattle.rules.specs.Plain.{Plain, all_in_range}
use Rattle.sheet.specs.declared.draft.Draft.TheInside.{Inside}

-- the plain sheet
abbrev pub plain_of : Inside → Plain
plain_of d = record { theme = d.theme; list = vec_items d.list; fixings = vec_items d.fixings }

-- there is room for 8 combinations and 64 fixings, no call makes more, and each combination is in range
pub record Sound (d : Inside) : Type 0 where
  pub list_room : 8 ≤ vec_capacity d.list
  pub fixing_room : 64 ≤ vec_capacity d.fixings
  pub few : vec_len d.list ≤ 8
  pub level : vec_len d.fixings ≡ length d.theme.places
  pub in_range : all_in_range (length d.theme.places) (vec_items d.list) ≡ true
