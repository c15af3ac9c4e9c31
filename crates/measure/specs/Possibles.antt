-- Yes-or-no: or joins, and chains, and every step is yes. Assumes nothing.
use Rattle.std.specs.Prelude.{Bool, true, false, not, ◌&&◌, ◌||◌, refl}
use Rattle.std.proofs.Math.Bool.{or_assoc, or_comm, and_assoc, and-true, and-false, and-or_distrib_left, and-or_distrib_right}
use Rattle.std.proofs.Common.{ap}
use Rattle.measure.specs.Algebra.{Ring}
use Rattle.measure.specs.declared.possible.Possible.{Possible}

-- yes or no as a value
abbrev pub answer : Bool → Possible
answer b = record { found = b }

-- or
abbrev pub either : Possible → Possible → Possible
either x y = answer (x.found || y.found)

-- and
abbrev pub both : Possible → Possible → Possible
both x y = answer (x.found && y.found)

-- or of the two is the first, unless only the second is yes
abbrev pub possibly : Possible → Possible → Bool
possibly x y = x.found || not y.found

-- yes-or-no as a measure
abbrev pub possible_ring : Ring Possible
possible_ring = record {
  none = answer false;
  one = answer true;
  join = either;
  chain = both;
  step = λ _. answer true;
  join_assoc = λ x y z. ap answer (or_assoc x.found y.found z.found);
  join_comm = λ x y. ap answer (or_comm x.found y.found);
  join_none = λ x. refl;
  chain_assoc = λ x y z. ap answer (and_assoc x.found y.found z.found);
  one_chain = λ x. refl;
  chain_one = λ x. ap answer (and-true x.found);
  none_chain = λ x. refl;
  chain_none = λ x. ap answer (and-false x.found);
  chain_join = λ x y z. ap answer (and-or_distrib_left x.found y.found z.found);
  join_chain = λ x y z. ap answer (and-or_distrib_right x.found y.found z.found);
}
