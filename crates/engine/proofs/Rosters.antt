-- The roster by start cells and the tails that go on from them. Assumes nothing.
use Rattle.std.proofs.Common.{◌≡◌, ℕ, zero, suc, ◌+◌, ◌-◌, ◌%◌, ◌<◌, Bool, true, false, cond, List, [], ◌∷◌, map, length, get_or, drop, filter, sym, refl, ap, ◌∙◌, subst, ap₂, mod-lt, mod-eq_of_lt, arith, length-drop, get_or-drop}
use mathlib.Core.Bool.{and-true}
use mathlib.Core.List.{map-map}
use mathlib.Core.Path.{fun_ext}
use native.Mathlib.Nat.{mod_self}
use Rattle.std.proofs.ByRecursion.{All-get_or, all_kept_by, All-map, All-weaker}
use Rattle.std.proofs.lemmas.List.{drop-drop}
use Rattle.std.specs.List.{flat_map as spread, AllByRecursion}
use Rattle.engine.specs.Lines.{Hop, Way, cell_at, every, every_line, goes_round, hops, roster, upto}
use Rattle.engine.specs.Tails.{begun_by, tails}
use Rattle.engine.proofs.Lists.{all_spread, all_upto, every_cong, every_map, kept_by_and, kept_by_cong, kept_by_map, kept_by_spread, spread_cong, upto_front}

-- a line of n cells
abbrev pub Sound : ℕ → List ℕ → Type 0
Sound n line = (length line ≡ n) × AllByRecursion (λ c. c < 48) line

pub every_line_sound : (n : ℕ) → AllByRecursion (Sound n) (every_line n)
every_line_sound zero = ((refl, tt), tt)
every_line_sound (suc n) =
    all_spread (Sound (suc n)) (λ c. c < 48) (λ c. map (λ cells. c ∷ cells) (every_line n)) (upto 48) (all_upto 48)
    (λ c h. All-map (Sound (suc n)) (λ cells. c ∷ cells) (every_line n) (All-weaker (Sound n) (λ cells. Sound (suc n) (c ∷ cells)) (λ cells s. (ap suc s.0, (h, s.1))) (every_line n) (every_line_sound n)))

pub roster_sound : (way : Way) (n : ℕ) → AllByRecursion (Sound n) (roster way n)
roster_sound way n = all_kept_by (goes_round way n) (Sound n) (every_line n) (every_line_sound n)

-- the hops from the cell c at place t through the cells after it and to the goal
abbrev pub hops_on : ℕ → ℕ → ℕ → List ℕ → List Hop
hops_on goal t c [] = (t, c, goal) ∷ []
hops_on goal t c (d ∷ ds) = (t, c, d) ∷ hops_on goal (t + 1) d ds

module _ (line : List ℕ) where
  abbrev hop : ℕ → Hop
  hop t = (t, cell_at (length line) line t, cell_at (length line) line (t + 1))

  -- what a line is from some place on
  cell_here : (t c : ℕ) (ds : List ℕ) → drop t line ≡ c ∷ ds → (t + suc (length ds) ≡ length line) × (get_or line t 0 ≡ c)
  cell_here t c ds e =
      let size : length line - t ≡ suc (length ds) = sym (length-drop t line) ∙ ap length e in
      let here : t + 0 ≡ t = omega arith in
      (omega arith, ap (λ i. get_or line i 0) (sym here) ∙ sym (get_or-drop t line 0 0) ∙ ap (λ xs. get_or xs 0 0) e)

  -- the cells of a hop
  hop_is : (t s u c d : ℕ) → t % length line ≡ s → (t + 1) % length line ≡ u → get_or line s 0 ≡ c → get_or line u 0 ≡ d → hop t ≡ (t, c, d)
  hop_is t s u c d this next at-this at_next =
      let p = ap (λ i. get_or line i 0) this ∙ at-this in
      let q = ap (λ i. get_or line i 0) next ∙ at_next in
      λ j. (t, p j, q j)

  hops_from : (ds : List ℕ) (t c : ℕ) → drop t line ≡ c ∷ ds → map (λ i. hop (t + i)) (upto (suc (length ds))) ≡ hops_on (get_or line 0 0) t c ds
  hops_from [] t c e =
      let here = cell_here t c [] e in
      let at-t : t + 0 ≡ t = omega arith in
      let last : t + 1 ≡ length line = here.0 in
      let next = ap (λ i. i % length line) last ∙ mod_self (length line) in
      ap (λ i. hop i ∷ []) at-t ∙ ap (λ h. h ∷ []) (hop_is t t 0 c (get_or line 0 0) (mod-eq_of_lt (omega arith)) next here.1 refl)
  hops_from (d ∷ ds) t c e =
      let here = cell_here t c (d ∷ ds) e in
      let rest-is : drop (t + 1) line ≡ d ∷ ds = sym (drop-drop 1 t line) ∙ ap (drop 1) e in
      let after = cell_here (t + 1) d ds rest-is in
      let at-t : t + 0 ≡ t = omega arith in
      let within : t + 1 < length line = omega arith in
      let this-hop = ap hop at-t ∙ hop_is t t (t + 1) c d (mod-eq_of_lt (omega arith)) (mod-eq_of_lt within) here.1 after.1 in
      let shifted : (i : ℕ) → t + suc i ≡ t + 1 + i = λ i. omega arith in
      let later = map-map (λ i. hop (t + i)) suc (upto (suc (length ds))) ∙ ap (λ f. map f (upto (suc (length ds)))) (fun_ext (λ i. ap hop (shifted i))) ∙ hops_from ds (t + 1) d rest-is in
      ap (map (λ i. hop (t + i))) (upto_front (suc (length ds))) ∙ ap₂ ◌∷◌ this-hop later

-- the hops of a line, from its first cell on
pub hops_line : (n c : ℕ) (cs : List ℕ) → suc (length cs) ≡ n → hops n (c ∷ cs) ≡ hops_on c 0 c cs
hops_line n c cs e =
    let counted : (i : ℕ) → i ≡ 0 + i = λ i. omega arith in
    ap (λ m. hops m (c ∷ cs)) (sym e) ∙ ap (λ f. map f (upto (suc (length cs)))) (fun_ext (λ i. ap (hop (c ∷ cs)) (counted i))) ∙ hops_from (c ∷ cs) cs 0 c refl

-- does it go on from the cell c at place t through the cells after it and to the goal?
abbrev pub goes_on : Way → ℕ → ℕ → ℕ → List ℕ → Bool
goes_on way goal t c ds = every (λ h. way h.0 h.1 h.2) (hops_on goal t c ds)

pub goes_round_on : (way : Way) (n c : ℕ) (cs : List ℕ) → suc (length cs) ≡ n → goes_round way n (c ∷ cs) ≡ goes_on way c 0 c cs
goes_round_on way n c cs e = ap (every (λ h. way h.0 h.1 h.2)) (hops_line n c cs e)

map_cond : {X Y : Type 0} (b : Bool) (f : X → Y) (xs : List X) → map f (cond b xs []) ≡ cond b (map f xs) []
map_cond true f xs = refl
map_cond false f xs = refl

pub kept_tails : (way : Way) (goal k t c : ℕ) → filter (goes_on way goal t c) (every_line k) ≡ tails way goal k t c
unfolding tails
kept_tails way goal zero t c = ap (λ b. cond b ([] ∷ []) []) (and-true (way t c goal))
kept_tails way goal (suc k) t c =
    kept_by_spread (goes_on way goal t c) (λ d. map (λ ds. d ∷ ds) (every_line k)) (upto 48)
    ∙ spread_cong _ _ (upto 48) (λ d.
    kept_by_map (goes_on way goal t c) (λ ds. d ∷ ds) (every_line k)
    ∙ ap (map (λ ds. d ∷ ds)) (kept_by_and (way t c d) (goes_on way goal (t + 1) d) (every_line k))
    ∙ map_cond (way t c d) (λ ds. d ∷ ds) (filter (goes_on way goal (t + 1) d) (every_line k))
    ∙ ap (λ ls. cond (way t c d) (map (λ ds. d ∷ ds) ls) []) (kept_tails way goal k (t + 1) d))

pub roster_tails : (way : Way) (k : ℕ) → roster way (suc k) ≡ spread (begun_by way k) (upto 48)
roster_tails way k =
    kept_by_spread (goes_round way (suc k)) (λ c. map (λ ds. c ∷ ds) (every_line k)) (upto 48)
    ∙ spread_cong _ _ (upto 48) (λ c.
    kept_by_map (goes_round way (suc k)) (λ ds. c ∷ ds) (every_line k)
    ∙ ap (map (λ ds. c ∷ ds)) (kept_by_cong _ _ (every_line k) (All-weaker (Sound k) _ (λ ds s. goes_round_on way (suc k) c ds (ap suc s.0)) (every_line k) (every_line_sound k)) ∙ kept_tails way c k 0 c))

-- the cells of a line are cells
pub cell_small : (n : ℕ) (line : List ℕ) → 0 < n → Sound n line → (t : ℕ) → cell_at n line t < 48
cell_small n line some s t = All-get_or (λ c. c < 48) line (t % n) 0 (subst (λ m. t % n < m) (sym s.0) (mod-lt t some)) s.1

-- ways that agree at the places and cells of lines have the same roster
pub roster_cong : (way other : Way) (n : ℕ) → 0 < n → ((t c d : ℕ) → t < n → c < 48 → d < 48 → way t c d ≡ other t c d) → roster way n ≡ roster other n
roster_cong way other n some same =
    kept_by_cong (goes_round way n) (goes_round other n) (every_line n) (All-weaker (Sound n) _ agrees (every_line n) (every_line_sound n))
  where
    agrees : (line : List ℕ) → Sound n line → goes_round way n line ≡ goes_round other n line
    agrees line s =
        every_map (λ h. way h.0 h.1 h.2) (λ t. (t, cell_at n line t, cell_at n line (t + 1))) (upto n)
        ∙ every_cong _ _ (upto n) (All-weaker (λ t. t < n) _ (λ t h. same t (cell_at n line t) (cell_at n line (t + 1)) h (cell_small n line some s t) (cell_small n line some s (t + 1))) (upto n) (all_upto n))
        ∙ sym (every_map (λ h. other h.0 h.1 h.2) (λ t. (t, cell_at n line t, cell_at n line (t + 1))) (upto n))
