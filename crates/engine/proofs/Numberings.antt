-- The line with a number, found place by place by how many lines there are. Assumes nothing.
use Rattle.std.proofs.Common.{◌≡◌, ℕ, zero, suc, ◌+◌, ◌-◌, ◌<◌, ◌≤◌, Bool, true, false, cond, List, [], ◌∷◌, ◌++◌, map, length, take, set, Some, None, Option, sym, refl, ap, ◌∙◌, subst, ap₂, ⊎_elim, le_of_suc-le-suc, arith}
use mathlib.Core.Path.{fun_ext}
use Rattle.std.proofs.lemmas.List.{append_assoc, append-nil, length-append, length-map, take_all, take_more_set}
use Rattle.std.proofs.lemmas.Option.{slice_get-map, slice_get_past}
use Rattle.std.proofs.lemmas.Bool.{cases_Bool, cases_eq}
use Rattle.std.specs.Option.{IsSome, option_map}
use Rattle.std.specs.List.{flat_map as spread, slice_get}
use Rattle.measure.specs.Algebra.{joined}
use Rattle.measure.specs.Numbers.{cap, many, number_ring, same_number}
use Rattle.measure.specs.declared.number.Number.{Number}
use Rattle.engine.specs.Lines.{Way, roster, upto}
use Rattle.engine.specs.Tables.{rest}
use Rattle.engine.specs.Tails.{begun_by, by_cell, passed, tails, worth}
use Rattle.engine.specs.Turns.{Holds, IsTurn}
use Rattle.engine.specs.declared.picking.Turn.{Turn}
use Rattle.engine.proofs.Firsts.{mapped_mapped}
use Rattle.engine.proofs.Lists.{spread_more}
use Rattle.engine.proofs.Rosters.{roster_tails}
use Rattle.engine.proofs.Totals.{joined_tails}

module _ {A : Type 0} where
  nth_left : (xs ys : List A) (i : ℕ) → i < length xs → slice_get (xs ++ ys) i ≡ slice_get xs i
  nth_left [] ys i h = absurd (omega arith)
  nth_left (x ∷ xs) ys zero h = refl
  nth_left (x ∷ xs) ys (suc i) h = nth_left xs ys i (le_of_suc-le-suc h)

  nth_right : (xs ys : List A) (i : ℕ) → slice_get (xs ++ ys) (length xs + i) ≡ slice_get ys i
  nth_right [] ys i = let e : 0 + i ≡ i = omega arith in ap (slice_get ys) e
  nth_right (x ∷ xs) ys i = let e : suc (length xs) + i ≡ suc (length xs + i) = omega arith in ap (slice_get (x ∷ xs ++ ys)) e ∙ nth_right xs ys i

module _ (f : ℕ → List (List ℕ)) where
  -- the lists of one more number are passed
  pub passed_more : (d : ℕ) → passed f (d + 1) ≡ passed f d + length (f d)
  passed_more d =
      let e : d + 1 ≡ suc d = omega arith in
      ap (passed f) e ∙ ap length (spread_more f d) ∙ length-append (spread f (upto d)) (f d)

  passed_within : (n d : ℕ) → d < n → passed f d + length (f d) ≤ passed f n
  passed_within zero d h = absurd (omega arith)
  passed_within (suc n) d h =
      let more : passed f (suc n) ≡ passed f n + length (f n) = ap length (spread_more f n) ∙ length-append (spread f (upto n)) (f n) in
      ⊎_elim
      (λ e. let same : passed f d + length (f d) ≡ passed f n + length (f n) = ap (λ j. passed f j + length (f j)) e in omega arith)
      (λ ne. let below = passed_within n d (omega arith) in omega arith)
      (cases_eq d n)

  -- a number past the lists before those of d and below their number is among these
  pub nth_spread : (n d i : ℕ) → d < n → i < length (f d) → slice_get (spread f (upto n)) (passed f d + i) ≡ slice_get (f d) i
  nth_spread zero d i h l = absurd (omega arith)
  nth_spread (suc n) d i h l =
      let split = ap (λ ls. slice_get ls (passed f d + i)) (spread_more f n) in
      ⊎_elim
      (λ e. split ∙ ap (λ j. slice_get (spread f (upto n) ++ f n) (passed f j + i)) e ∙ nth_right (spread f (upto n)) (f n) i ∙ ap (λ j. slice_get (f j) i) (sym e))
      (λ ne.
      let below = passed_within n d (omega arith) in
      split ∙ nth_left (spread f (upto n)) (f n) (passed f d + i) (omega arith) ∙ nth_spread n d i (omega arith) l)
      (cases_eq d n)

-- every chain of steps counts for one
worth_one : (goal c : ℕ) (ds : List ℕ) → worth number_ring goal c ds ≡ many 1
worth_one goal c [] = refl
worth_one goal c (d ∷ ds) = ap (number_ring.chain (many 1)) (worth_one goal d ds) ∙ same_number _ _ refl

joined_ones : {A : Type 0} (w : A → Number) (xs : List A) → ((x : A) → w x ≡ many 1) → (joined number_ring (map w xs)).value ≡ cap (length xs)
joined_ones w [] ones = refl
joined_ones w (x ∷ xs) ones =
    let here : (w x).value ≡ 1 = ap (λ y. y.value) (ones x) in
    let there = joined_ones w xs ones in
    omega arith

-- the table counts the lists by which it goes on
pub rest_counts : (way : Way) (goal k t c : ℕ) → (rest number_ring way goal k t c).value ≡ cap (length (tails way goal k t c))
rest_counts way goal k t c =
    ap (λ x. x.value) (sym (joined_tails number_ring way goal k t c)) ∙ joined_ones (worth number_ring goal c) (tails way goal k t c) (worth_one goal c)

length_cond : (b : Bool) (d : ℕ) (ls : List (List ℕ)) → length (cond b (map (λ ds. d ∷ ds) ls) []) ≡ cond b (length ls) 0
length_cond true d ls = length-map ls (λ ds. d ∷ ds)
length_cond false d ls = refl

module _ (way : Way) (goal k t c : ℕ) where
  pub length_open : (d : ℕ) → way t c d ≡ true → length (by_cell way goal k t c d) ≡ length (tails way goal k (t + 1) d)
  length_open d h = length_cond (way t c d) d (tails way goal k (t + 1) d) ∙ ap (λ b. cond b (length (tails way goal k (t + 1) d)) 0) h

  pub length_shut : (d : ℕ) → way t c d ≡ false → length (by_cell way goal k t c d) ≡ 0
  length_shut d h = length_cond (way t c d) d (tails way goal k (t + 1) d) ∙ ap (λ b. cond b (length (tails way goal k (t + 1) d)) 0) h

  pub length_tails : length (tails way goal (suc k) t c) ≡ passed (by_cell way goal k t c) 48
  unfolding tails
  length_tails = refl

  by_open : (d i : ℕ) → i < length (by_cell way goal k t c d) → way t c d ≡ true
  by_open d i h = ⊎_elim (λ e. e) (λ e. absurd (let none = length_shut d e in omega arith)) (cases_Bool (way t c d))

  pub left_small : (d i : ℕ) → i < length (by_cell way goal k t c d) → i < length (tails way goal k (t + 1) d)
  left_small d i h = let same = length_open d (by_open d i h) in omega arith

  -- a numbered list goes on by the cell among whose lists it is
  pub nth_step : (d i : ℕ) → d < 48 → i < length (by_cell way goal k t c d) → slice_get (tails way goal (suc k) t c) (passed (by_cell way goal k t c) d + i) ≡ option_map (λ ds. d ∷ ds) (slice_get (tails way goal k (t + 1) d) i)
  unfolding tails
  nth_step d i small h =
      nth_spread (by_cell way goal k t c) 48 d i small h
      ∙ ap (λ b. slice_get (cond b (map (λ ds. d ∷ ds) (tails way goal k (t + 1) d)) []) i) (by_open d i h)
      ∙ slice_get-map (λ ds. d ∷ ds) (tails way goal k (t + 1) d) i

-- at the last place only the seam is left
only_empty : (b : Bool) (ls : List (List ℕ)) (i : ℕ) → ls ≡ cond b ([] ∷ []) [] → i < length ls → slice_get ls i ≡ Some []
only_empty true ls i e h =
    let size : length ls ≡ 1 = ap length e in
    let z : i ≡ 0 = omega arith in
    ap₂ slice_get e z
only_empty false ls i e h = absurd (let size : length ls ≡ 0 = ap length e in omega arith)

pub nth_last : (way : Way) (goal t c i : ℕ) → i < length (tails way goal 0 t c) → slice_get (tails way goal 0 t c) i ≡ Some []
unfolding tails
nth_last way goal t c i h = only_empty (way t c goal) (tails way goal 0 t c) i refl h

-- a trace to a numbered line: the line so far, and what is left, are the line
abbrev pub Numbered : Way → ℕ → ℕ → ℕ → ℕ → ℕ → ℕ → List ℕ → Type 0
Numbered way goal n k t c left line =
    (left < length (tails way goal (n - 1 - t) t c)) × (slice_get (begun_by way (n - 1) goal) k ≡ option_map (λ ds. take (t + 1) line ++ ds) (slice_get (tails way goal (n - 1 - t) t c) left))

module _ (way : Way) (goal n k : ℕ) where
  pub numbered_start : (line : List ℕ) → 0 < length line → k < length (begun_by way (n - 1) goal) → Numbered way goal n k 0 goal k (set line 0 goal)
  numbered_start line room small =
      let left : n - 1 ≡ n - 1 - 0 = omega arith in
      let front : take (0 + 1) (set line 0 goal) ≡ goal ∷ [] = take_more_set line 0 goal room in
      let size = length-map (tails way goal (n - 1) 0 goal) (λ ds. goal ∷ ds) in (
        subst (λ j. k < length (tails way goal j 0 goal)) left (omega arith),
        slice_get-map (λ ds. goal ∷ ds) (tails way goal (n - 1) 0 goal) k ∙ ap₂ (λ xs j. option_map (λ ds. xs ++ ds) (slice_get (tails way goal j 0 goal) k)) (sym front) left,
      )

  -- there is a next cell
  pub some_turn : (t c left : ℕ) → t + 1 < n → left < length (tails way goal (n - 1 - t) t c) → (found : Option Turn) → IsTurn (by_cell way goal (n - 1 - (t + 1)) t c) left found → IsSome found
  some_turn t c left within small (Some turn) holds = refl
  some_turn t c left within small None all =
      let e : n - 1 - t ≡ suc (n - 1 - (t + 1)) = omega arith in
      let size : length (tails way goal (n - 1 - t) t c) ≡ passed (by_cell way goal (n - 1 - (t + 1)) t c) 48 = ap (λ j. length (tails way goal j t c)) e ∙ length_tails way goal (n - 1 - (t + 1)) t c in
      absurd (omega (arith, all))

  pub numbered_step : (t c left : ℕ) (turn : Turn) (line : List ℕ) → t + 1 < n → n ≤ length line → Numbered way goal n k t c left line → Holds (by_cell way goal (n - 1 - (t + 1)) t c) left turn → Numbered way goal n k (t + 1) turn.cell turn.number (set line (t + 1) turn.cell)
  numbered_step t c left turn line within room before holds =
      let j = n - 1 - (t + 1) in
      let d = turn.cell in
      let i = turn.number in
      let e : n - 1 - t ≡ suc j = omega arith in
      let front : take (t + 1 + 1) (set line (t + 1) d) ≡ take (t + 1) line ++ d ∷ [] = take_more_set line (t + 1) d (omega arith) in
      let next = slice_get (tails way goal j (t + 1) d) i in (
        left_small way goal j t c d i holds.within,
        before.1
            ∙ ap₂ (λ m x. option_map (λ ds. take (t + 1) line ++ ds) (slice_get (tails way goal m t c) x)) e holds.counted
            ∙ ap (option_map (λ ds. take (t + 1) line ++ ds)) (nth_step way goal j t c d i holds.small holds.within)
            ∙ mapped_mapped (λ ds. take (t + 1) line ++ ds) (λ ds. d ∷ ds) next
            ∙ ap (λ g. option_map g next) (fun_ext (λ ds. sym (ap (λ xs. xs ++ ds) front ∙ append_assoc (take (t + 1) line) (d ∷ []) ds))),
      )

  pub numbered_end : (t c left : ℕ) (line : List ℕ) → t + 1 ≡ n → length line ≡ n → Numbered way goal n k t c left line → slice_get (begun_by way (n - 1) goal) k ≡ Some line
  numbered_end t c left line last room before =
      let e : n - 1 - t ≡ 0 = omega arith in
      before.1
      ∙ ap (λ m. option_map (λ ds. take (t + 1) line ++ ds) (slice_get (tails way goal m t c) left)) e
      ∙ ap (option_map (λ ds. take (t + 1) line ++ ds)) (nth_last way goal t c left (subst (λ m. left < length (tails way goal m t c)) e before.0))
      ∙ ap Some (append-nil (take (t + 1) line) ∙ take_all (t + 1) line (omega arith))

-- the roster by its start cells, at a number
roster_begun : (way : Way) (n : ℕ) → 0 < n → roster way n ≡ spread (begun_by way (n - 1)) (upto 48)
roster_begun way zero h = absurd (omega arith)
roster_begun way (suc k) h =
    let e : k ≡ suc k - 1 = omega arith in
    roster_tails way k ∙ ap (λ j. spread (begun_by way j) (upto 48)) e

pub nth_start : (way : Way) (n k : ℕ) (turn : Turn) → 0 < n → Holds (begun_by way (n - 1)) k turn → slice_get (roster way n) k ≡ slice_get (begun_by way (n - 1) turn.cell) turn.number
nth_start way n k turn some holds =
    ap₂ slice_get (roster_begun way n some) holds.counted ∙ nth_spread (begun_by way (n - 1)) 48 turn.cell turn.number holds.small holds.within

pub nth_beyond : (way : Way) (n k : ℕ) → 0 < n → passed (begun_by way (n - 1)) 48 ≤ k → slice_get (roster way n) k ≡ None
nth_beyond way n k some h = ap (λ ls. slice_get ls k) (roster_begun way n some) ∙ slice_get_past (spread (begun_by way (n - 1)) (upto 48)) k h

-- what a start cell's lines come to counts them
pub begun_counts : (way : Way) (k c : ℕ) → (rest number_ring way c k 0 c).value ≡ cap (length (begun_by way k c))
begun_counts way k c = rest_counts way c k 0 c ∙ ap cap (sym (length-map (tails way c k 0 c) (λ ds. c ∷ ds)))
