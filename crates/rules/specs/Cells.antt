-- Cells, and which of them make a line. Assumes nothing.
--
--   cell         twice a key, and one more where it is held over from the place before: 0 to 47
--   wrong_cell   the first place at which cells are no line, if there is one
use Rattle.std.specs.Prelude.{ℕ, ◌+◌, ◌/◌, ◌%◌, Bool, true, cond, not, ◌&&◌, ◌||◌, List, [], ◌∷◌, Some, None, Option, ◌==◌, nat_lt}

abbrev pub key_of : ℕ → ℕ
key_of cell = cell / 2

abbrev pub held_cell : ℕ → Bool
held_cell cell = cell % 2 == 1

-- may a cell stand behind the one before it? The first is struck, and a held one has the key before it
abbrev pub cell_lawful : Option ℕ → ℕ → Bool
cell_lawful None cell = nat_lt cell 48 && not (held_cell cell)
cell_lawful (Some before) cell = nat_lt cell 48 && (not (held_cell cell) || key_of before == key_of cell)

-- the first place, from this one on, whose cell may not stand there
abbrev pub wrong_from : Option ℕ → ℕ → List ℕ → Option ℕ
wrong_from before place [] = None
wrong_from before place (cell ∷ cells) = cond (cell_lawful before cell) (wrong_from (Some cell) (place + 1) cells) (Some place)

abbrev pub wrong_cell : List ℕ → Option ℕ
wrong_cell cells = wrong_from None 0 cells

-- are all cells lawful, behind this one if any?
abbrev pub cells_lawful : Option ℕ → List ℕ → Bool
cells_lawful before [] = true
cells_lawful before (cell ∷ cells) = cell_lawful before cell && cells_lawful (Some cell) cells
