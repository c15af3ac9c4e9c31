-- Numbers up to a cap: the sum joins, the product chains, and every step counts for one. Assumes nothing.
use Rattle.std.specs.Prelude.{◌≡◌, ℕ, ◌+◌, ◌*◌, ◌<◌, ◌≤◌, min}
use mathlib.Core.HLevel.{is_prop→PathP}
use Rattle.std.proofs.Common.{⊎_elim, ap, sym, ◌∙◌, add-mul, mul-add, mul_assoc, mul_comm, mul-le-mul_left, zero-mul, arith}
use Rattle.std.proofs.Math.Bridge.{le_prop}
use Rattle.std.proofs.lemmas.Bool.{cases_lt}
use Rattle.measure.specs.Algebra.{Ring}
use Rattle.measure.specs.declared.number.Number.{Number}

-- a number, or the cap where it is beyond it
abbrev pub cap : ℕ → ℕ
cap n = min n 1000000000

-- so many, up to the cap
abbrev pub many : ℕ → Number
many n = record { value = cap n; capped = omega arith }

-- the sum
abbrev pub sum_of : Number → Number → Number
sum_of x y = many (x.value + y.value)

-- the product
abbrev pub product_of : Number → Number → Number
product_of x y = many (x.value * y.value)

-- numbers are the same where their values are
pub same_number : (x y : Number) → x.value ≡ y.value → x ≡ y
same_number x y e =
    λ j. record { value = e j; capped = is_prop→PathP (λ k. e k ≤ 1000000000) (λ k. le_prop) x.capped y.capped j }

-- a factor may be capped first
pub cap-* : (a b : ℕ) → cap (a * cap b) ≡ cap (a * b)
cap-* a b = ⊎_elim few lots (cases_lt b 1000000000)
  where
    few : b < 1000000000 → cap (a * cap b) ≡ cap (a * b)
    few h = let e : cap b ≡ b = omega arith in ap (λ n. cap (a * n)) e

    lots : 1000000000 ≤ b → cap (a * cap b) ≡ cap (a * b)
    lots h =
        let e : cap b ≡ 1000000000 = omega arith in
        let m : a * 1000000000 ≤ a * b = mul-le-mul_left a h in
        let none : a ≡ 0 → a * b ≡ 0 = λ z. ap (λ n. n * b) z ∙ zero-mul b in
        ap (λ n. cap (a * n)) e ∙ ⊎_elim (λ l. let z : a ≡ 0 = omega arith in omega (arith, none z)) (λ l. omega arith) (cases_lt a 1)

-- the same of the first factor
pub cap-*-first : (a b : ℕ) → cap (cap a * b) ≡ cap (a * b)
cap-*-first a b = ap cap (mul_comm (cap a) b) ∙ cap-* b a ∙ ap cap (mul_comm b a)

-- numbers as a measure
abbrev pub number_ring : Ring Number
number_ring = record {
  none = many 0;
  one = many 1;
  join = sum_of;
  chain = product_of;
  step = λ _. many 1;
  join_assoc = λ x y z. same_number _ _ (omega arith);
  join_comm = λ x y. same_number _ _ (omega arith);
  join_none = λ x. same_number _ _ (omega arith);
  chain_assoc = λ x y z. same_number _ _ (cap-*-first (x.value * y.value) z.value ∙ ap cap (mul_assoc x.value y.value z.value) ∙ sym (cap-* x.value (y.value * z.value)));
  one_chain = λ x. same_number _ _ (omega arith);
  chain_one = λ x. same_number _ _ (omega arith);
  none_chain = λ x. same_number _ _ (omega arith);
  chain_none = λ x. same_number _ _ (omega arith);
  chain_join = λ x y z. same_number _ _ (cap-* x.value (y.value + z.value) ∙ ap cap (mul-add x.value y.value z.value) ∙ omega arith);
  join_chain = λ x y z. same_number _ _ (cap-*-first (x.value + y.value) z.value ∙ ap cap (add-mul x.value y.value z.value) ∙ omega arith);
}
