-- A roster that is computed whole: all lines of two places are looked at. Assumes nothing.
use Rattle.std.specs.Prelude.{◌≡◌, ◌&&◌, ◌||◌, [], ◌∷◌, ◌==◌}
use Rattle.engine.specs.Lines.{Way, roster}

-- 18 goes to 19, 20 or 26, and each of these back to 18
abbrev pub fan : Way
fan t c d = (t == 0 && (c == 18 && (d == 19 || (d == 20 || d == 26)))) || (t == 1 && d == 18)

-- its lines
abbrev pub FanListed : Type 0
FanListed = roster fan 2 ≡ (18 ∷ 19 ∷ []) ∷ (18 ∷ 20 ∷ []) ∷ (18 ∷ 26 ∷ []) ∷ []
