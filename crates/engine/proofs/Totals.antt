-- What the lines of the roster weigh together is what the table has. Assumes nothing.
use Rattle.std.proofs.Common.{◌≡◌, ℕ, zero, suc, ◌+◌, ◌-◌, ◌<◌, ◌≤◌, Bool, true, false, cond, List, [], ◌∷◌, ◌++◌, map, length, sym, refl, ap, ◌∙◌, arith}
use mathlib.Core.List.{map-map}
use Rattle.std.proofs.ByRecursion.{All-map, All-weaker}
use Rattle.std.proofs.lemmas.List.{length-map, map-append}
use Rattle.std.specs.List.{flat_map as spread, AllByRecursion}
use Rattle.measure.specs.Algebra.{Ring, chained, joined}
use Rattle.engine.specs.Lines.{Hop, Way, cell_at, hops, leap, roster, upto}
use Rattle.engine.specs.Tables.{crossing, rest, round, sum}
use Rattle.engine.specs.Tails.{begun_by, line_worth, tails, worth}
use Rattle.engine.specs.Weights.{joined_weight, steps, weight}
use Rattle.engine.proofs.Lists.{all_upto, length_upto, map_cong, spread_more}
use Rattle.engine.proofs.Rests.{none_join, sum_cong}
use Rattle.engine.proofs.Rosters.{Sound, cell_small, hops_line, hops_on, roster_sound, roster_tails}

leap_small : (c d : ℕ) → c < 48 → d < 48 → leap c d ≤ 23
leap_small c d hc hd = omega arith

module _ {M : Type 0} (R : Ring M) where
  pub joined-++ : (xs ys : List M) → joined R (xs ++ ys) ≡ R.join (joined R xs) (joined R ys)
  joined-++ [] ys = sym (R.join_none (joined R ys))
  joined-++ (x ∷ xs) ys = ap (R.join x) (joined-++ xs ys) ∙ sym (R.join_assoc x (joined R xs) (joined R ys))

  -- what all share in front may be chained once
  pub joined_chain : {X : Type 0} (a : M) (w : X → M) (xs : List X) → joined R (map (λ x. R.chain a (w x)) xs) ≡ R.chain a (joined R (map w xs))
  joined_chain a w [] = sym (R.chain_none a)
  joined_chain a w (x ∷ xs) = ap (R.join (R.chain a (w x))) (joined_chain a w xs) ∙ sym (R.chain_join a (w x) (joined R (map w xs)))

  -- lists spread over the numbers below n are joined by a sum
  pub joined_spread : {X : Type 0} (w : X → M) (f : ℕ → List X) (n : ℕ) → joined R (map w (spread f (upto n))) ≡ sum R (λ d. joined R (map w (f d))) n
  unfolding sum
  joined_spread w f zero = refl
  joined_spread w f (suc n) =
      ap (λ xs. joined R (map w xs)) (spread_more f n) ∙ ap (joined R) (map-append w (spread f (upto n)) (f n)) ∙ joined-++ (map w (spread f (upto n))) (map w (f n)) ∙ ap (λ x. R.join x (joined R (map w (f n)))) (joined_spread w f n)

  chained_hops : (goal t c : ℕ) (ds : List ℕ) → chained R (map R.step (map (λ (h : Hop). leap h.1 h.2) (hops_on goal t c ds))) ≡ worth R goal c ds
  chained_hops goal t c [] = R.chain_one (R.step (leap c goal))
  chained_hops goal t c (d ∷ ds) = ap (R.chain (R.step (leap c d))) (chained_hops goal (t + 1) d ds)

  pub weight_worth : (n c : ℕ) (cs : List ℕ) → suc (length cs) ≡ n → weight R n (c ∷ cs) ≡ worth R c c cs
  weight_worth n c cs e =
      ap (λ hs. chained R (map R.step (map (λ (h : Hop). leap h.1 h.2) hs))) (hops_line n c cs e) ∙ chained_hops c 0 c cs

  last_tail : (b : Bool) (w : List ℕ → M) → joined R (map w (cond b ([] ∷ []) [])) ≡ cond b (w []) R.none
  last_tail true w = none_join R (w [])
  last_tail false w = refl

  tails_through : (b : Bool) (s : M) (d goal : ℕ) (c : ℕ) (ls : List (List ℕ)) → s ≡ R.step (leap c d) → joined R (map (worth R goal c) (cond b (map (λ ds. d ∷ ds) ls) [])) ≡ R.chain (cond b s R.none) (joined R (map (worth R goal d) ls))
  tails_through true s d goal c ls e =
      ap (joined R) (map-map (worth R goal c) (λ ds. d ∷ ds) ls) ∙ joined_chain (R.step (leap c d)) (worth R goal d) ls ∙ ap (λ x. R.chain x (joined R (map (worth R goal d) ls))) (sym e)
  tails_through false s d goal c ls e = sym (R.none_chain (joined R (map (worth R goal d) ls)))

  pub joined_tails : (way : Way) (goal k t c : ℕ) → joined R (map (worth R goal c) (tails way goal k t c)) ≡ rest R way goal k t c
  unfolding tails rest
  joined_tails way goal zero t c = last_tail (way t c goal) (worth R goal c)
  joined_tails way goal (suc k) t c =
      joined_spread (worth R goal c) (λ d. cond (way t c d) (map (λ ds. d ∷ ds) (tails way goal k (t + 1) d)) []) 48
      ∙ sum_cong R _ _ 48 (λ d h.
      tails_through (way t c d) (R.step (leap c d)) d goal c (tails way goal k (t + 1) d) refl
      ∙ ap (R.chain (crossing R way t c d)) (joined_tails way goal k (t + 1) d))

  pub weight_line : (n : ℕ) (line : List ℕ) → 0 < n → Sound n line → weight R n line ≡ line_worth R line
  weight_line n [] some s = absurd (let e : 0 ≡ n = s.0 in omega arith)
  weight_line n (c ∷ cs) some s = weight_worth n c cs s.0

  pub weights_line : (way : Way) (n : ℕ) → 0 < n → map (weight R n) (roster way n) ≡ map (line_worth R) (roster way n)
  weights_line way n some =
      map_cong (weight R n) (line_worth R) (roster way n) (All-weaker (Sound n) _ (λ line s. weight_line n line some s) (roster way n) (roster_sound way n))

  joined_round : (way : Way) (k : ℕ) → joined R (map (line_worth R) (roster way (suc k))) ≡ round R way (suc k)
  joined_round way k =
      let left : k ≡ suc k - 1 = omega arith in
      ap (λ ls. joined R (map (line_worth R) ls)) (roster_tails way k)
      ∙ joined_spread (line_worth R) (begun_by way k) 48
      ∙ sum_cong R _ _ 48 (λ c h.
      ap (joined R) (map-map (line_worth R) (λ ds. c ∷ ds) (tails way c k 0 c)) ∙ joined_tails way c k 0 c ∙ ap (λ j. rest R way c j 0 c) left)

  -- the lines of the roster together
  pub roster_round : (way : Way) (n : ℕ) → 0 < n → joined_weight R n (roster way n) ≡ round R way n
  roster_round way zero some = absurd (omega arith)
  roster_round way (suc k) some = ap (joined R) (weights_line way (suc k) some) ∙ joined_round way k

-- a line has a step for each of its places
pub length_steps : (n : ℕ) (line : List ℕ) → length (steps n line) ≡ n
length_steps n line = length-map (hops n line) (λ (h : Hop). leap h.1 h.2) ∙ length-map (upto n) (λ t. (t, cell_at n line t, cell_at n line (t + 1))) ∙ length_upto n

-- and none over 23
pub steps_small : (n : ℕ) (line : List ℕ) → 0 < n → Sound n line → AllByRecursion (λ s. s ≤ 23) (steps n line)
steps_small n line some s =
    All-map (λ x. x ≤ 23) (λ (h : Hop). leap h.1 h.2) (hops n line)
    (All-map (λ (h : Hop). leap h.1 h.2 ≤ 23) (λ t. (t, cell_at n line t, cell_at n line (t + 1))) (upto n)
    (All-weaker (λ t. t < n) _ (λ t h. leap_small _ _ (cell_small n line some s t) (cell_small n line some s (t + 1))) (upto n) (all_upto n)))
