-- Triangles of three bits, as two-by-two matrices with nothing below the diagonal: a measure whose chaining
-- does not commute. Assumes nothing.
use Rattle.std.specs.Prelude.{◌≡◌, ℕ, Bool, true, false, ◌&&◌, ◌||◌, ◌==◌, refl}
use Rattle.std.proofs.Math.Bool.{or_assoc, or_comm, or-false, and_assoc, and-true, and-false, and-or_distrib_left, and-or_distrib_right}
use Rattle.std.proofs.Common.{ap, ap₂, sym, ◌∙◌}
use Rattle.measure.specs.Algebra.{Ring}
use Rattle.engine_tests.specs.declared.triangle.Triangle.{Triangle}

-- a triangle by its bits
abbrev pub triangle : Bool → Bool → Bool → Triangle
triangle a b d = record { near = a; cross = b; far = d }

-- bit by bit
abbrev pub union : Triangle → Triangle → Triangle
union x y = triangle (x.near || y.near) (x.cross || y.cross) (x.far || y.far)

-- row by column
abbrev pub product : Triangle → Triangle → Triangle
product x y = triangle (x.near && y.near) ((x.near && y.cross) || (x.cross && y.far)) (x.far && y.far)

-- a step of size 0 stays near and far, one of size 1 crosses, and a larger one only stays near
abbrev pub step_of : ℕ → Triangle
step_of size = triangle true (size == 1) (size == 0)

pub same_triangle : (x y : Triangle) → x.near ≡ y.near → x.cross ≡ y.cross → x.far ≡ y.far → x ≡ y
same_triangle x y p q r = λ j. record { near = p j; cross = q j; far = r j }

-- or in another order
pub or_swap : (a b c d : Bool) → ((a || b) || (c || d)) ≡ ((a || c) || (b || d))
or_swap true b c d = refl
or_swap false b true d = or_true_right b d
  where
    or_true_right : (b d : Bool) → (b || (true || d)) ≡ true
    or_true_right true d = refl
    or_true_right false d = refl
or_swap false b false d = refl

pub cross_assoc : (a b c d e f g : Bool) → (((a && b) && c) || (((a && d) || (e && f)) && g)) ≡ ((a && ((b && c) || (d && g))) || (e && (f && g)))
cross_assoc false b c d e f g = and_assoc e f g
cross_assoc true b c d e f g =
    ap (λ x. (b && c) || x) (and-or_distrib_right d (e && f) g) ∙ sym (or_assoc (b && c) (d && g) ((e && f) && g)) ∙ ap (λ x. ((b && c) || (d && g)) || x) (and_assoc e f g)

pub cross_left : (a b c d e f : Bool) → ((a && (b || c)) || (d && (e || f))) ≡ (((a && b) || (d && e)) || ((a && c) || (d && f)))
cross_left a b c d e f =
    ap₂ ◌||◌ (and-or_distrib_left a b c) (and-or_distrib_left d e f) ∙ or_swap (a && b) (a && c) (d && e) (d && f)

pub cross_right : (a b c d e f : Bool) → (((a || b) && c) || ((d || e) && f)) ≡ (((a && c) || (d && f)) || ((b && c) || (e && f)))
cross_right a b c d e f =
    ap₂ ◌||◌ (and-or_distrib_right a b c) (and-or_distrib_right d e f) ∙ or_swap (a && c) (b && c) (d && f) (e && f)

abbrev pub triangle_ring : Ring Triangle
triangle_ring = record {
  none = triangle false false false;
  one = triangle true false true;
  join = union;
  chain = product;
  step = step_of;
  join_assoc = λ x y z. same_triangle _ _ (or_assoc x.near y.near z.near) (or_assoc x.cross y.cross z.cross) (or_assoc x.far y.far z.far);
  join_comm = λ x y. same_triangle _ _ (or_comm x.near y.near) (or_comm x.cross y.cross) (or_comm x.far y.far);
  join_none = λ x. refl;
  chain_assoc = λ x y z. same_triangle _ _ (and_assoc x.near y.near z.near) (cross_assoc x.near y.near z.cross y.cross x.cross y.far z.far) (and_assoc x.far y.far z.far);
  one_chain = λ x. same_triangle _ _ refl (or-false x.cross) refl;
  chain_one = λ x. same_triangle _ _ (and-true x.near) (ap₂ ◌||◌ (and-false x.near) (and-true x.cross)) (and-true x.far);
  none_chain = λ x. refl;
  chain_none = λ x. same_triangle _ _ (and-false x.near) (ap₂ ◌||◌ (and-false x.near) (and-false x.cross)) (and-false x.far);
  chain_join = λ x y z. same_triangle _ _ (and-or_distrib_left x.near y.near z.near) (cross_left x.near y.cross z.cross x.cross y.far z.far) (and-or_distrib_left x.far y.far z.far);
  join_chain = λ x y z. same_triangle _ _ (and-or_distrib_right x.near y.near z.near) (cross_right x.near y.near z.cross x.cross y.cross z.far) (and-or_distrib_right x.far y.far z.far);
}
