-- What a measure is: values that are joined and chained, and the laws of the two. Assumes nothing.
use Rattle.std.specs.Prelude.{◌≡◌, ℕ, List, [], ◌∷◌, map}

-- Joining puts side by side, chaining puts one after the other.
pub record Ring (M : Type 0) : Type 0 where
  pub none : M
  pub one : M
  pub join : M → M → M
  pub chain : M → M → M
  -- the value of a step of some size
  pub step : ℕ → M
  pub join_assoc : (x y z : M) → join (join x y) z ≡ join x (join y z)
  pub join_comm : (x y : M) → join x y ≡ join y x
  pub join_none : (x : M) → join none x ≡ x
  pub chain_assoc : (x y z : M) → chain (chain x y) z ≡ chain x (chain y z)
  pub one_chain : (x : M) → chain one x ≡ x
  pub chain_one : (x : M) → chain x one ≡ x
  pub none_chain : (x : M) → chain none x ≡ none
  pub chain_none : (x : M) → chain x none ≡ none
  pub chain_join : (x y z : M) → chain x (join y z) ≡ join (chain x y) (chain x z)
  pub join_chain : (x y z : M) → chain (join x y) z ≡ join (chain x z) (chain y z)

-- values put side by side
abbrev pub joined : {M : Type 0} → Ring M → List M → M
joined R [] = R.none
joined R (x ∷ xs) = R.join x (joined R xs)

-- values put one after the other
abbrev pub chained : {M : Type 0} → Ring M → List M → M
chained R [] = R.one
chained R (x ∷ xs) = R.chain x (chained R xs)

-- steps of these sizes, one after the other
abbrev pub walked : {M : Type 0} → Ring M → List ℕ → M
walked R sizes = chained R (map R.step sizes)
