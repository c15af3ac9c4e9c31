-- A list's element by its number, or a default. Assumes nothing.
use Rattle.std.proofs.Common.{◌≡◌, ℕ, zero, suc, List, [], ◌∷◌, get_or, unwrap_or, refl}
use Rattle.std.specs.List.{slice_get}

pub nth_or : {X : Type 0} (xs : List X) (i : ℕ) (d : X) → unwrap_or (slice_get xs i) d ≡ get_or xs i d
nth_or [] i d = refl
nth_or (x ∷ xs) zero d = refl
nth_or (x ∷ xs) (suc i) d = nth_or xs i d
