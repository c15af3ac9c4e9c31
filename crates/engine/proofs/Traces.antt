-- The first line of the total weight, found place by place. Assumes nothing.
use Rattle.std.proofs.Common.{◌≡◌, ℕ, zero, suc, ◌+◌, ◌-◌, ◌<◌, ◌≤◌, Bool, true, false, cond, ◌&&◌, List, [], ◌∷◌, ◌++◌, map, length, take, set, is_some, Some, None, Option, sym, refl, ap, ◌∙◌, subst, ap₂, ⊎_elim, arith}
use mathlib.Core.List.{map-map}
use mathlib.Core.Path.{fun_ext}
use Rattle.std.proofs.ByRecursion.{All-weaker}
use Rattle.std.proofs.lemmas.List.{append_assoc, append-nil, take_all, take_more_set}
use Rattle.std.proofs.lemmas.Bool.{and_parts, both_ways, cases_Bool}
use Rattle.std.specs.Option.{IsSome, option_map}
use Rattle.std.specs.List.{AllByRecursion}
use Rattle.measure.specs.Algebra.{Ring, joined, walked}
use Rattle.engine.specs.Lines.{Way, leap, roster}
use Rattle.engine.specs.Tables.{crossing, rest, round, sum}
use Rattle.engine.specs.Tails.{attains, begun_by, best_from, line_worth, tails, worth}
use Rattle.engine.specs.Turns.{IsFirst, Leads}
use Rattle.engine.specs.Weights.{first_best, first_with, joined_weight, steps, weight}
use Rattle.engine.proofs.Firsts.{first_with_cong, first_with_map, first_with_spread, is_some_mapped, mapped_mapped, none_from}
use Rattle.engine.proofs.Picks.{attained, join_same, picks_from, same_from_picks, sum_attained, sum_under}
use Rattle.engine.proofs.Rests.{crossing_open, crossing_shut, none_join}
use Rattle.engine.proofs.Rosters.{Sound, roster_sound, roster_tails}
use Rattle.engine.proofs.Totals.{joined_chain, joined_tails, length_steps, roster_round, steps_small, weight_line}

-- a sum after what all share
pub chain_sum : {M : Type 0} (R : Ring M) (p : M) (f : ℕ → M) (n : ℕ) → R.chain p (sum R f n) ≡ sum R (λ d. R.chain p (f d)) n
unfolding sum
chain_sum R p f zero = R.chain_none p
chain_sum R p f (suc n) = R.chain_join p (sum R f n) (f n) ∙ ap (λ x. R.join x (R.chain p (f n))) (chain_sum R p f n)

module _ {M : Type 0} (R : Ring M) (picks : M → M → Bool) (either : (x y : M) → R.join x y ≡ cond (picks x y) x y) (former : (x y : M) → R.join x y ≡ x → picks x y ≡ true) (way : Way) (goal : ℕ) (total : M) (some : picks R.none total ≡ false) where
  -- the first list of k cells that goes on to a line of the total weight
  abbrev pub best_tail : ℕ → ℕ → ℕ → M → Option (List ℕ)
  best_tail k t c p = first_with (λ ds. picks (R.chain p (worth R goal c ds)) total) (tails way goal k t c)

  not_none : R.none ≡ total → ⊥
  not_none e = both_ways (picks R.none total) some (picks_from R picks either former R.none total e)

  -- what all lists of k cells weigh after p
  joined_after : (k t c : ℕ) (p : M) → joined R (map (λ ds. R.chain p (worth R goal c ds)) (tails way goal k t c)) ≡ R.chain p (rest R way goal k t c)
  joined_after k t c p = joined_chain R p (worth R goal c) (tails way goal k t c) ∙ ap (R.chain p) (joined_tails R way goal k t c)

  pub best_tail_some : (k t c : ℕ) (p : M) → R.join (R.chain p (rest R way goal k t c)) total ≡ total → is_some (best_tail k t c p) ≡ picks (R.chain p (rest R way goal k t c)) total
  best_tail_some k t c p under =
      attained R picks either former (λ ds. R.chain p (worth R goal c ds)) (tails way goal k t c) total some (ap (λ x. R.join x total) (joined_after k t c p) ∙ under)
      ∙ ap (λ x. picks x total) (joined_after k t c p)

  module _ (k t c : ℕ) (p : M) (whole : R.chain p (rest R way goal (suc k) t c) ≡ total) where
    -- the part that goes on by a cell
    abbrev part : ℕ → M
    part d = R.chain p (R.chain (crossing R way t c d) (rest R way goal k (t + 1) d))

    parts : sum R part 48 ≡ total
    unfolding rest
    parts = sym (chain_sum R p (λ d. R.chain (crossing R way t c d) (rest R way goal k (t + 1) d)) 48) ∙ whole

    part_open : (d : ℕ) → way t c d ≡ true → part d ≡ R.chain (R.chain p (R.step (leap c d))) (rest R way goal k (t + 1) d)
    part_open d h =
        ap (λ x. R.chain p (R.chain x (rest R way goal k (t + 1) d))) (crossing_open R way t c d h) ∙ sym (R.chain_assoc p (R.step (leap c d)) (rest R way goal k (t + 1) d))

    part_shut : (d : ℕ) → way t c d ≡ false → part d ≡ R.none
    part_shut d h =
        ap (λ x. R.chain p (R.chain x (rest R way goal k (t + 1) d))) (crossing_shut R way t c d h) ∙ ap (R.chain p) (R.none_chain (rest R way goal k (t + 1) d)) ∙ R.chain_none p

    pub under_open : (d : ℕ) → d < 48 → way t c d ≡ true → R.join (R.chain (R.chain p (R.step (leap c d))) (rest R way goal k (t + 1) d)) total ≡ total
    under_open d l h =
        ap₂ R.join (sym (part_open d h)) (sym parts) ∙ sum_under R picks either former part 48 d l ∙ parts

    -- some cell goes on to the total
    pub some_attains : ((d : ℕ) → d < 48 → attains R picks way goal k t c p total d ≡ false) → ⊥
    some_attains nowhere = sum_attained R picks either former part 48 total parts not_none (λ d l e. ⊎_elim (opened d l e) (shut d e) (cases_Bool (way t c d)))
      where
        opened : (d : ℕ) → d < 48 → part d ≡ total → way t c d ≡ true → ⊥
        opened d l e h =
            both_ways (attains R picks way goal k t c p total d) (nowhere d l)
            (ap₂ ◌&&◌ h (picks_from R picks either former _ total (sym (part_open d h) ∙ e)))

        shut : (d : ℕ) → part d ≡ total → way t c d ≡ false → ⊥
        shut d e h = not_none (sym (part_shut d h) ∙ e)

    -- the lists that go on by a cell
    abbrev by_cell : ℕ → List (List ℕ)
    by_cell d = cond (way t c d) (map (λ ds. d ∷ ds) (tails way goal k (t + 1) d)) []

    abbrev test : List ℕ → Bool
    test ds = picks (R.chain p (worth R goal c ds)) total

    by_open : (d : ℕ) → way t c d ≡ true → first_with test (by_cell d) ≡ option_map (λ ds. d ∷ ds) (best_tail k (t + 1) d (R.chain p (R.step (leap c d))))
    by_open d h =
        ap (λ b. first_with test (cond b (map (λ ds. d ∷ ds) (tails way goal k (t + 1) d)) [])) h
        ∙ first_with_map test (λ ds. d ∷ ds) (tails way goal k (t + 1) d)
        ∙ ap (λ q. option_map (λ ds. d ∷ ds) (first_with q (tails way goal k (t + 1) d))) (fun_ext (λ ds. ap (λ x. picks x total) (sym (R.chain_assoc p (R.step (leap c d)) (worth R goal d ds)))))

    by_shut : (d : ℕ) → way t c d ≡ false → first_with test (by_cell d) ≡ None
    by_shut d h = ap (λ b. first_with test (cond b (map (λ ds. d ∷ ds) (tails way goal k (t + 1) d)) [])) h

    is_some_by_open : (d : ℕ) → d < 48 → way t c d ≡ true → is_some (first_with test (by_cell d)) ≡ picks (R.chain (R.chain p (R.step (leap c d))) (rest R way goal k (t + 1) d)) total
    is_some_by_open d l h =
        ap is_some (by_open d h) ∙ is_some_mapped (λ ds. d ∷ ds) (best_tail k (t + 1) d (R.chain p (R.step (leap c d)))) ∙ best_tail_some k (t + 1) d (R.chain p (R.step (leap c d))) (under_open d l h)

    passed_over : (d : ℕ) → d < 48 → attains R picks way goal k t c p total d ≡ false → first_with test (by_cell d) ≡ None
    passed_over d l misses = ⊎_elim opened (by_shut d) (cases_Bool (way t c d))
      where
        opened : way t c d ≡ true → first_with test (by_cell d) ≡ None
        opened h = none_from (first_with test (by_cell d)) (is_some_by_open d l h ∙ ap (λ b. b && picks (R.chain (R.chain p (R.step (leap c d))) (rest R way goal k (t + 1) d)) total) (sym h) ∙ misses)

    -- the first list goes on by the first cell that attains the total
    pub best_tail_step : (d : ℕ) → Leads (attains R picks way goal k t c p total) d → best_tail (suc k) t c p ≡ option_map (λ ds. d ∷ ds) (best_tail k (t + 1) d (R.chain p (R.step (leap c d))))
    unfolding tails
    best_tail_step d leads =
        let yes-d = and_parts (way t c d) (picks (R.chain (R.chain p (R.step (leap c d))) (rest R way goal k (t + 1) d)) total) leads.passes in
        first_with_spread test by_cell 48 d leads.small (λ e m. passed_over e (omega (arith, leads.small)) (leads.before e m)) (is_some_by_open d leads.small yes-d.0 ∙ yes-d.1)
        ∙ by_open d yes-d.0

    -- and what is left comes to the total
    pub total_step : (d : ℕ) → Leads (attains R picks way goal k t c p total) d → R.chain (R.chain p (R.step (leap c d))) (rest R way goal k (t + 1) d) ≡ total
    total_step d leads =
        let yes-d = and_parts (way t c d) (picks (R.chain (R.chain p (R.step (leap c d))) (rest R way goal k (t + 1) d)) total) leads.passes in
        same_from_picks R picks either former _ total (under_open d leads.small yes-d.0) yes-d.1

  -- at the last place only the seam is left
  pub best_tail_last : (t c : ℕ) (p : M) → R.chain p (rest R way goal 0 t c) ≡ total → best_tail 0 t c p ≡ Some []
  unfolding rest tails
  best_tail_last t c p whole = ⊎_elim opened shut (cases_Bool (way t c goal))
    where
      opened : way t c goal ≡ true → best_tail 0 t c p ≡ Some []
      opened h =
          ap (λ b. first_with (λ ds. picks (R.chain p (worth R goal c ds)) total) (cond b ([] ∷ []) [])) h
          ∙ ap (λ b. cond b (Some []) None) (picks_from R picks either former _ total (ap (R.chain p) (sym (crossing_open R way t c goal h)) ∙ whole))

      shut : way t c goal ≡ false → best_tail 0 t c p ≡ Some []
      shut h = absurd (not_none (sym (ap (R.chain p) (crossing_shut R way t c goal h) ∙ R.chain_none p) ∙ whole))

module _ {M : Type 0} (R : Ring M) (picks : M → M → Bool) (either : (x y : M) → R.join x y ≡ cond (picks x y) x y) (former : (x y : M) → R.join x y ≡ x → picks x y ≡ true) (way : Way) where
  -- from its start cell on, a line is found among the tails
  pub best_from_tail : (k start : ℕ) (total : M) (some : picks R.none total ≡ false) → best_from R picks way k total start ≡ option_map (λ ds. start ∷ ds) (best_tail R picks either former way start total some k 0 start R.one)
  best_from_tail k start total some =
      first_with_map (λ line. picks (line_worth R line) total) (λ ds. start ∷ ds) (tails way start k 0 start)
      ∙ ap (λ q. option_map (λ ds. start ∷ ds) (first_with q (tails way start k 0 start))) (fun_ext (λ ds. ap (λ x. picks x total) (sym (R.one_chain (worth R start start ds)))))

  joined_begun : (k c : ℕ) → joined R (map (line_worth R) (begun_by way k c)) ≡ rest R way c k 0 c
  joined_begun k c = ap (joined R) (map-map (line_worth R) (λ ds. c ∷ ds) (tails way c k 0 c)) ∙ joined_tails R way c k 0 c

  module _ (n : ℕ) (total : M) (most : 0 < n) (is : total ≡ round R way n) (some : picks R.none total ≡ false) where
    abbrev from : ℕ → M
    from c = rest R way c (n - 1) 0 c

    -- some start cell's lines come to the total
    pub some_start : (found : Option ℕ) → IsFirst (λ c. picks (from c) total) found → IsSome found
    some_start (Some c) leads = refl
    some_start None nowhere =
        absurd (sum_attained R picks either former from 48 total (sym is) (λ e. both_ways (picks R.none total) some (picks_from R picks either former R.none total e))
        (λ c l e. both_ways (picks (from c) total) (nowhere c l) (picks_from R picks either former (from c) total e)))

    pub start_total : (c : ℕ) → Leads (λ d. picks (from d) total) c → from c ≡ total
    start_total c leads = same_from_picks R picks either former (from c) total (under c leads.small) leads.passes
      where
        under : (c : ℕ) → c < 48 → R.join (from c) total ≡ total
        under c l = ap (R.join (from c)) is ∙ sum_under R picks either former from 48 c l ∙ sym is

  module _ (k : ℕ) (total : M) (is : total ≡ round R way (suc k)) (some : picks R.none total ≡ false) where
    is_some_from : (c : ℕ) → c < 48 → is_some (best_from R picks way k total c) ≡ picks (rest R way c (suc k - 1) 0 c) total
    is_some_from c l =
        let left : suc k - 1 ≡ k = omega arith in
        let same : joined R (map (line_worth R) (begun_by way k c)) ≡ rest R way c (suc k - 1) 0 c = joined_begun k c ∙ ap (λ j. rest R way c j 0 c) (sym left) in
        attained R picks either former (line_worth R) (begun_by way k c) total some (ap₂ R.join same is ∙ sum_under R picks either former (λ d. rest R way d (suc k - 1) 0 d) 48 c l ∙ sym is)
        ∙ ap (λ x. picks x total) same

    best_weights : first_best R picks (suc k) (roster way (suc k)) ≡ first_with (λ line. picks (line_worth R line) total) (roster way (suc k))
    best_weights =
        ap (λ x. first_with (λ line. picks (weight R (suc k) line) x) (roster way (suc k))) (roster_round R way (suc k) (omega arith) ∙ sym is)
        ∙ first_with_cong _ _ (roster way (suc k)) (All-weaker (Sound (suc k)) _ (λ line s. ap (λ x. picks x total) (weight_line R (suc k) line (omega arith) s)) (roster way (suc k)) (roster_sound way (suc k)))

    start_best : (start : ℕ) → Leads (λ c. picks (rest R way c (suc k - 1) 0 c) total) start → first_best R picks (suc k) (roster way (suc k)) ≡ best_from R picks way k total start
    start_best start leads =
        best_weights ∙ ap (first_with (λ line. picks (line_worth R line) total)) (roster_tails way k)
        ∙ first_with_spread (λ line. picks (line_worth R line) total) (begun_by way k) 48 start leads.small
        (λ c m. none_from (best_from R picks way k total c) (is_some_from c (omega (arith, leads.small)) ∙ leads.before c m)) (is_some_from start leads.small ∙ leads.passes)

  -- the first line begins with the first cell whose lines come to the total
  pub first_best_from : (n : ℕ) (total : M) → 0 < n → total ≡ round R way n → picks R.none total ≡ false → (start : ℕ) → Leads (λ c. picks (rest R way c (n - 1) 0 c) total) start → first_best R picks n (roster way n) ≡ best_from R picks way (n - 1) total start
  first_best_from zero total most is some start leads = absurd (omega arith)
  first_best_from (suc k) total most is some start leads =
      let left : k ≡ suc k - 1 = omega arith in
      start_best k total is some start leads ∙ ap (λ j. best_from R picks way j total start) left

  -- where no chain of steps is none, a total that is none has no line
  module _ (lasting : (sizes : List ℕ) → length sizes ≤ 64 → AllByRecursion (λ s. s ≤ 23) sizes → walked R sizes ≡ R.none → ⊥) where
    weight_some : (n : ℕ) (line : List ℕ) → 0 < n → n ≤ 64 → Sound n line → weight R n line ≡ R.none → ⊥
    weight_some n line least most s = lasting (steps n line) (subst (λ m. m ≤ 64) (sym (length_steps n line)) most) (steps_small n line least s)

    none_lines : (n : ℕ) (lines : List (List ℕ)) → 0 < n → n ≤ 64 → AllByRecursion (Sound n) lines → joined_weight R n lines ≡ R.none → lines ≡ []
    none_lines n [] least most s e = refl
    none_lines n (line ∷ lines) least most s e =
        let w = weight R n line in
        let gone : w ≡ R.none = sym (none_join R w) ∙ ap (R.join w) (sym e) ∙ sym (R.join_assoc w w (joined_weight R n lines)) ∙ ap (λ x. R.join x (joined_weight R n lines)) (join_same R picks either former w) ∙ e in
        absurd (weight_some n line least most s.0 gone)

    pub none_best : (n : ℕ) (total : M) → 0 < n → n ≤ 64 → total ≡ round R way n → picks R.none total ≡ true → first_best R picks n (roster way n) ≡ None
    none_best n total least most is h =
        let gone : R.none ≡ total = same_from_picks R picks either former R.none total (R.join_none total) h in
        let empty = none_lines n (roster way n) least most (roster_sound way n) (roster_round R way n least ∙ sym is ∙ sym gone) in
        ap (first_best R picks n) empty

-- a trace that has come to the cell c at place t: the line so far, and what is left, are the first best line
abbrev pub Traced : {M : Type 0} → Ring M → (M → M → Bool) → Way → ℕ → ℕ → M → ℕ → ℕ → M → List ℕ → Type 0
Traced R picks way goal n total t c p line =
    (R.chain p (rest R way goal (n - 1 - t) t c) ≡ total) × (best_from R picks way (n - 1) total goal ≡ option_map (λ ds. take (t + 1) line ++ ds) (first_with (λ ds. picks (R.chain p (worth R goal c ds)) total) (tails way goal (n - 1 - t) t c)))

module _ {M : Type 0} (R : Ring M) (picks : M → M → Bool) (either : (x y : M) → R.join x y ≡ cond (picks x y) x y) (former : (x y : M) → R.join x y ≡ x → picks x y ≡ true) (way : Way) (goal n : ℕ) (total : M) (some : picks R.none total ≡ false) where
  pub traced_start : (line : List ℕ) → 0 < length line → rest R way goal (n - 1) 0 goal ≡ total → Traced R picks way goal n total 0 goal R.one (set line 0 goal)
  traced_start line room whole =
      let left : n - 1 ≡ n - 1 - 0 = omega arith in
      let front : take (0 + 1) (set line 0 goal) ≡ goal ∷ [] = take_more_set line 0 goal room in (
        R.one_chain _ ∙ ap (λ k. rest R way goal k 0 goal) (sym left) ∙ whole,
        best_from_tail R picks either former way (n - 1) goal total some ∙ ap₂ (λ xs k. option_map (λ ds. xs ++ ds) (best_tail R picks either former way goal total some k 0 goal R.one)) (sym front) left,
      )

  -- there is a next cell
  pub some_next : (t c : ℕ) (p : M) → t + 1 < n → R.chain p (rest R way goal (n - 1 - t) t c) ≡ total → (found : Option ℕ) → IsFirst (attains R picks way goal (n - 1 - (t + 1)) t c p total) found → IsSome found
  some_next t c p within whole (Some d) leads = refl
  some_next t c p within whole None nowhere =
      let left : n - 1 - t ≡ suc (n - 1 - (t + 1)) = omega arith in
      absurd (some_attains R picks either former way goal total some (n - 1 - (t + 1)) t c p (ap (λ k. R.chain p (rest R way goal k t c)) (sym left) ∙ whole) nowhere)

  pub traced_step : (t c d : ℕ) (p : M) (line : List ℕ) → t + 1 < n → n ≤ length line → Traced R picks way goal n total t c p line → Leads (attains R picks way goal (n - 1 - (t + 1)) t c p total) d → Traced R picks way goal n total (t + 1) d (R.chain p (R.step (leap c d))) (set line (t + 1) d)
  traced_step t c d p line within room traced leads =
      let k = n - 1 - (t + 1) in
      let left : n - 1 - t ≡ suc k = omega arith in
      let whole : R.chain p (rest R way goal (suc k) t c) ≡ total = ap (λ j. R.chain p (rest R way goal j t c)) (sym left) ∙ traced.0 in
      let next = best_tail R picks either former way goal total some k (t + 1) d (R.chain p (R.step (leap c d))) in
      let front : take (t + 1 + 1) (set line (t + 1) d) ≡ take (t + 1) line ++ d ∷ [] = take_more_set line (t + 1) d (omega arith) in (
        total_step R picks either former way goal total some k t c p whole d leads,
        traced.1
            ∙ ap (λ j. option_map (λ ds. take (t + 1) line ++ ds) (best_tail R picks either former way goal total some j t c p)) left
            ∙ ap (option_map (λ ds. take (t + 1) line ++ ds)) (best_tail_step R picks either former way goal total some k t c p whole d leads)
            ∙ mapped_mapped (λ ds. take (t + 1) line ++ ds) (λ ds. d ∷ ds) next
            ∙ ap (λ f. option_map f next) (fun_ext (λ ds. sym (ap (λ xs. xs ++ ds) front ∙ append_assoc (take (t + 1) line) (d ∷ []) ds))),
      )

  pub traced_end : (t c : ℕ) (p : M) (line : List ℕ) → t + 1 ≡ n → length line ≡ n → Traced R picks way goal n total t c p line → best_from R picks way (n - 1) total goal ≡ Some line
  traced_end t c p line last room traced =
      let left : n - 1 - t ≡ 0 = omega arith in
      let whole : R.chain p (rest R way goal 0 t c) ≡ total = ap (λ j. R.chain p (rest R way goal j t c)) (sym left) ∙ traced.0 in
      traced.1
      ∙ ap (λ j. option_map (λ ds. take (t + 1) line ++ ds) (best_tail R picks either former way goal total some j t c p)) left
      ∙ ap (option_map (λ ds. take (t + 1) line ++ ds)) (best_tail_last R picks either former way goal total some t c p whole)
      ∙ ap Some (append-nil (take (t + 1) line) ∙ take_all (t + 1) line (omega arith))
