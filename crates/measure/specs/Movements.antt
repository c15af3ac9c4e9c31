-- Sums of step sizes up to a cap: the smaller joins, the sum chains, and the cap is none. Assumes nothing.
use Rattle.std.specs.Prelude.{◌≡◌, ℕ, ◌+◌, ◌≤◌, min, Bool, nat_le}
use mathlib.Core.HLevel.{is_prop→PathP}
use Rattle.std.proofs.Common.{arith}
use Rattle.std.proofs.Math.Bridge.{le_prop}
use Rattle.measure.specs.Algebra.{Ring}
use Rattle.measure.specs.declared.movement.Movement.{Movement}

-- so much, up to the cap
abbrev pub much : ℕ → Movement
much n = record { sum = min n 1000000; capped = omega arith }

-- the smaller of two
abbrev pub smaller_of : Movement → Movement → Movement
smaller_of x y = record { sum = min x.sum y.sum; capped = omega arith }

-- the sum of two
abbrev pub sum_of : Movement → Movement → Movement
sum_of x y = much (x.sum + y.sum)

-- the smaller of two is the first, also where they are equal
abbrev pub smaller : Movement → Movement → Bool
smaller x y = nat_le x.sum y.sum

-- movements are the same where their sums are
pub same_movement : (x y : Movement) → x.sum ≡ y.sum → x ≡ y
same_movement x y e =
    λ j. record { sum = e j; capped = is_prop→PathP (λ k. e k ≤ 1000000) (λ k. le_prop) x.capped y.capped j }

-- movements as a measure
abbrev pub movement_ring : Ring Movement
movement_ring = record {
  none = much 1000000;
  one = much 0;
  join = smaller_of;
  chain = sum_of;
  step = much;
  join_assoc = λ x y z. same_movement _ _ (omega arith);
  join_comm = λ x y. same_movement _ _ (omega arith);
  join_none = λ x. same_movement _ _ (omega arith);
  chain_assoc = λ x y z. same_movement _ _ (omega arith);
  one_chain = λ x. same_movement _ _ (omega arith);
  chain_one = λ x. same_movement _ _ (omega arith);
  none_chain = λ x. same_movement _ _ (omega arith);
  chain_none = λ x. same_movement _ _ (omega arith);
  chain_join = λ x y z. same_movement _ _ (omega arith);
  join_chain = λ x y z. same_movement _ _ (omega arith);
}
