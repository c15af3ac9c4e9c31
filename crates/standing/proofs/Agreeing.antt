-- A walk over the listed combinations that stops at the first no. Assumes nothing.
use Rattle.std.proofs.Common.{◌≡◌, ℕ, ◌+◌, ◌<◌, ◌≤◌, Bool, true, false, ◌&&◌, ltb, List, length, get_or, drop, sym, refl, ap, ◌∙◌}
use Rattle.std.proofs.lemmas.List.{at_drop_more, drop_all}
use Rattle.std.proofs.lemmas.Bool.{and_parts, ltb-true}
use Rattle.counterpoint.specs.Interval.{shift_in_range}
use Rattle.engine.specs.Lines.{every}
use Rattle.rules.specs.declared.combination.Combination.{Combination}
use Rattle.rules.specs.Plain.{all_in_range, original}

-- every combination so far got a yes, and those left are in range
pub record Walked (f : Combination → Bool) (n : ℕ) (list : List Combination) (i : ℕ) : Type 0 where
  pub same : every f (drop i list) ≡ every f list
  pub in_range : all_in_range n (drop i list) ≡ true

pub walked_none : (f : Combination → Bool) (n : ℕ) (list : List Combination) → all_in_range n list ≡ true → Walked f n list 0
walked_none f n list all = record { same = refl; in_range = all }

module _ (n : ℕ) (list : List Combination) (i : ℕ) (left : all_in_range n (drop i list) ≡ true) (below : i < length list) where
  parts : (shift_in_range (get_or list i original).jv && ltb (get_or list i original).entry n ≡ true) × (all_in_range n (drop (i + 1) list) ≡ true)
  parts = and_parts _ (all_in_range n (drop (i + 1) list)) (sym (at_drop_more (all_in_range n) list i original below) ∙ left)

  -- the next one is in range
  pub next_in_range : ((get_or list i original).entry < n) × (shift_in_range (get_or list i original).jv ≡ true)
  next_in_range =
      let both = and_parts (shift_in_range (get_or list i original).jv) (ltb (get_or list i original).entry n) parts.0 in
      (ltb-true (get_or list i original).entry n both.1, both.0)

  -- and so are those behind it
  pub rest_in_range : all_in_range n (drop (i + 1) list) ≡ true
  rest_in_range = parts.1

module _ {f : Combination → Bool} {n : ℕ} {list : List Combination} {i : ℕ} (w : Walked f n list i) (below : i < length list) where
  whole : every f list ≡ (f (get_or list i original) && every f (drop (i + 1) list))
  whole = sym w.same ∙ at_drop_more (every f) list i original below

  pub walked_no : {list' : List Combination} → f (get_or list i original) ≡ false → list ≡ list' → false ≡ every f list'
  walked_no shut is = sym (whole ∙ ap (λ (b : Bool). b && every f (drop (i + 1) list)) shut) ∙ ap (every f) is

  pub walked_more : f (get_or list i original) ≡ true → Walked f n list (i + 1)
  walked_more holds = record {
    same = sym (whole ∙ ap (λ (b : Bool). b && every f (drop (i + 1) list)) holds);
    in_range = rest_in_range n list i w.in_range below;
  }

pub walked_all : {f : Combination → Bool} {n : ℕ} {list list' : List Combination} {i : ℕ} → Walked f n list i → length list ≤ i → list ≡ list' → true ≡ every f list'
walked_all {f} {n} {list} {list'} {i} w end is = sym (ap (every f) (drop_all i list end)) ∙ w.same ∙ ap (every f) is
