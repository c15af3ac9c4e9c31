-- Numbers with a sign in four columns. Assumes nothing.
use Rattle.std.specs.Prelude.{ℕ, suc, ◌+◌, ◌/◌, ◌%◌, cond, ◌&&◌, List, [], ◌∷◌, ℤ, pos, negsuc, nat_le, nat_lt}
use Rattle.theme.specs.Fields.{column, columns_of}

-- one column of a number below zero, by its size: a minus just left of its first digit
abbrev pub minus_column : ℕ → ℕ → ℕ
minus_column size power = cond (nat_lt size power && nat_le (power / 10) size) 45 (column size power)

-- a size below zero, right-justified in four columns
abbrev pub minus_columns : ℕ → List ℕ
minus_columns size = minus_column size 1000 ∷ minus_column size 100 ∷ minus_column size 10 ∷ (48 + size % 10) ∷ []

-- a number right-justified in four columns, the minus of one below zero next to its first digit
abbrev pub signed_columns : ℤ → List ℕ
signed_columns (pos n) = columns_of n
signed_columns (negsuc n) = minus_columns (suc n)
