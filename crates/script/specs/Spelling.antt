-- How books are spelt. Assumes nothing.
use Rattle.std.specs.Prelude.{◌≡◌, ◌==◌, ℕ, ℤ, Bool, List, Option, Some, None, codes}
use Rattle.std.specs.List.{before_first, after_first}
use Rattle.std.specs.Str.Parse.{signed_digits_value}
use Rattle.script.specs.declared.book.Rules.{Rules}
use Rattle.script.specs.declared.book.Rules.TheVariants.{Strict, Free}
use Rattle.script.specs.declared.statement.BookName.{BookName}

abbrev pub rules_word : Rules → List ℕ
rules_word Strict = codes "strict"
rules_word Free = codes "free"

-- the byte of `+`
abbrev pub is_plus : ℕ → Bool
is_plus byte = byte == 43

-- a word, and behind the first plus the digits of a shift, if there is one
abbrev pub SpellsLayer : Option ℤ → List ℕ → List ℕ → Type 0
SpellsLayer None word text = text ≡ word
SpellsLayer (Some shift) word text = (before_first is_plus text ≡ word) × (signed_digits_value 10 (after_first is_plus text) ≡ shift)

abbrev pub Spells : BookName → List ℕ → Type 0
Spells name text = SpellsLayer name.shift (rules_word name.rules) text
