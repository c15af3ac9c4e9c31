-- The front of a list, as far as it goes. Assumes nothing.
use Rattle.std.proofs.Common.{◌≡◌, ℕ, min, List, length, take, sym, ap, ◌∙◌, ⊎_elim, arith}
use Rattle.std.proofs.lemmas.List.{take_all}
use Rattle.std.proofs.lemmas.Bool.{cases_lt}

pub take_min : {A : Type 0} (n : ℕ) (xs : List A) → take (min n (length xs)) xs ≡ take n xs
take_min n xs =
    ⊎_elim
    (λ below. ap (λ (k : ℕ). take k xs) (omega arith))
    (λ beyond. take_all (min n (length xs)) xs (omega arith) ∙ sym (take_all n xs (omega arith)))
    (cases_lt n (length xs))
