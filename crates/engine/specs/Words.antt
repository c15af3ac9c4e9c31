-- One word of verdicts: its bit d says yes or no to the cell d. Assumes nothing.
use Rattle.std.specs.Prelude.{ℕ, zero, suc, ◌/◌, ◌%◌, Bool, ◌&&◌, List, [], ◌==◌, nat_lt, slice_index, slice_index_or}
use Rattle.engine.specs.Lines.{Way}

-- bit d of a word, from the lowest
abbrev pub bit : ℕ → ℕ → Bool
bit w zero = w % 2 == 1
bit w (suc d) = bit (w / 2) d

-- is the hop one that a table has a bit for?
abbrev pub inside : Way
inside t c d = nat_lt t 64 && (nat_lt c 48 && nat_lt d 48)

-- what a table of a word for each place and cell says
abbrev pub said : List (List ℕ) → Way
said words t c d = inside t c d && bit (slice_index (slice_index_or words t []) c) d
