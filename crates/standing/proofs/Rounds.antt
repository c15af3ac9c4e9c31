-- The lines that stand are those that go round by `way`. Assumes nothing.
use Rattle.std.proofs.Common.{◌≡◌, ℕ, suc, ◌+◌, ◌<◌, Bool, true, false, cond, ◌&&◌, ltb, List, [], ◌∷◌, length, Some, None, Option, sym, refl, ap, ◌∙◌, ap₂, arith}
use mathlib.Core.Bool.{and_assoc, and_comm, and-true}
use Rattle.std.proofs.ByRecursion.{All-weaker}
use Rattle.std.proofs.lemmas.Bool.{and_from, and_parts, eq-eqb, le-ltb, lt-ltb}
use Rattle.engine.specs.Lines.{Way, cell_at, every, every_line, goes_round, hops, roster, upto}
use Rattle.engine.proofs.Lists.{all_upto, every_cong, every_map, kept_by_cong}
use Rattle.engine.proofs.Rosters.{Sound, every_line_sound, goes_on, goes_round_on}
use Rattle.rules.specs.Cells.{cell_lawful, cells_lawful}
use Rattle.rules.specs.Plain.{places_of}
use Rattle.rules.specs.Standing.{Asked, agrees, agrees_all_round, kept_at, standing_lines, stands, way}

-- Tests ------------------------------------------------------------------------------------------

and_and : (a b c d : Bool) → (a && b && (c && d)) ≡ (a && c && (b && d))
and_and false b c d = refl
and_and true true c d = refl
and_and true false true d = refl
and_and true false false d = refl

-- a test that follows from the next one says nothing more
and_implied : (a b : Bool) → (b ≡ true → a ≡ true) → (a && b) ≡ b
and_implied a true implied = and-true a ∙ implied refl
and_implied a false implied = and_comm a false

every_and : {X : Type 0} (p q : X → Bool) (xs : List X) → every (λ x. p x && q x) xs ≡ (every p xs && every q xs)
every_and p q [] = refl
every_and p q (x ∷ xs) =
    ap (λ b. p x && q x && b) (every_and p q xs) ∙ and_and (p x) (q x) (every p xs) (every q xs)

every_true : {X : Type 0} (xs : List X) → every (λ x. true) xs ≡ true
every_true [] = refl
every_true (x ∷ xs) = every_true xs

-- all of one list with all of another, in either order
every_every : {X Y : Type 0} (f : X → Y → Bool) (xs : List X) (ys : List Y) → every (λ x. every (f x) ys) xs ≡ every (λ y. every (λ x. f x y) xs) ys
every_every f [] ys = sym (every_true ys)
every_every f (x ∷ xs) ys =
    ap (λ b. every (f x) ys && b) (every_every f xs ys) ∙ sym (every_and (f x) (λ y. every (λ z. f z y) xs) ys)

-- Going round ------------------------------------------------------------------------------------

-- a way, place by place
goes_round_upto : (step : Way) (n : ℕ) (line : List ℕ) → goes_round step n line ≡ every (λ t. step t (cell_at n line t) (cell_at n line (t + 1))) (upto n)
goes_round_upto step n line =
    every_map (λ h. step h.0 h.1 h.2) (λ t. (t, cell_at n line t, cell_at n line (t + 1))) (upto n)

goes_round_and : (p q : Way) (n : ℕ) (line : List ℕ) → goes_round (λ t c d. p t c d && q t c d) n line ≡ (goes_round p n line && goes_round q n line)
goes_round_and p q n line = every_and (λ h. p h.0 h.1 h.2) (λ h. q h.0 h.1 h.2) (hops n line)

-- ways that are the same at the n places let the same lines through
goes_round_cong : (step other : Way) (n : ℕ) (line : List ℕ) → ((t c d : ℕ) → t < n → step t c d ≡ other t c d) → goes_round step n line ≡ goes_round other n line
goes_round_cong step other n line same =
    goes_round_upto step n line
    ∙ every_cong _ _ (upto n) (All-weaker (λ t. t < n) _ (λ t h. same t (cell_at n line t) (cell_at n line (t + 1)) h) (upto n) (all_upto n))
    ∙ sym (goes_round_upto other n line)

-- Lawful cells -----------------------------------------------------------------------------------

abbrev small : ℕ → Bool
small c = ltb c 48

abbrev small_way : Way
small_way t c d = small c

-- may a cell stand behind the one before it? The first, which follows the last place, stands behind none
abbrev lawful_way : ℕ → Way
lawful_way n t c d = cell_lawful (cond (ltb (t + 1) n) (Some c) None) d

small_on : (goal t c : ℕ) (ds : List ℕ) → goes_on small_way goal t c ds ≡ every small (c ∷ ds)
small_on goal t c [] = refl
small_on goal t c (d ∷ ds) = ap (λ b. small c && b) (small_on goal (t + 1) d ds)

lawful_on : (n goal t c : ℕ) (ds : List ℕ) → t + suc (length ds) ≡ n → goes_on (lawful_way n) goal t c ds ≡ (cells_lawful (Some c) ds && cell_lawful None goal)
lawful_on n goal t c [] size =
    ap (λ b. cell_lawful (cond b (Some c) None) goal && true) (le-ltb (t + 1) n (omega arith)) ∙ and-true (cell_lawful None goal)
lawful_on n goal t c (d ∷ ds) size =
    ap₂ (λ b rest. cell_lawful (cond b (Some c) None) d && rest) (lt-ltb (t + 1) n (omega arith)) (lawful_on n goal (t + 1) d ds (omega arith))
    ∙ sym (and_assoc (cell_lawful (Some c) d) (cells_lawful (Some d) ds) (cell_lawful None goal))

lawful_small : (before : Option ℕ) (c : ℕ) → cell_lawful before c ≡ true → small c ≡ true
lawful_small None c lawful = (and_parts (small c) _ lawful).0
lawful_small (Some b) c lawful = (and_parts (small c) _ lawful).0

all_small : (before : Option ℕ) (cs : List ℕ) → cells_lawful before cs ≡ true → every small cs ≡ true
all_small before [] lawful = refl
all_small before (c ∷ cs) lawful =
    let parts = and_parts (cell_lawful before c) (cells_lawful (Some c) cs) lawful in
    and_from (small c) (every small cs) (lawful_small before c parts.0) (all_small (Some c) cs parts.1)

-- round a line, over the seam too, the cells are small and lawful just if the line's are lawful
lawful_round : (n : ℕ) (line : List ℕ) → 0 < n → length line ≡ n → (goes_round small_way n line && goes_round (lawful_way n) n line) ≡ cells_lawful None line
lawful_round n [] some size = absurd (omega arith)
lawful_round n (c ∷ cs) some size =
    let smalls = goes_round_on small_way n c cs size ∙ small_on c 0 c cs in
    let lawfuls = goes_round_on (lawful_way n) n c cs size ∙ lawful_on n c 0 c cs (omega arith) ∙ and_comm (cells_lawful (Some c) cs) (cell_lawful None c) in
    ap₂ ◌&&◌ smalls lawfuls ∙ and_implied (every small (c ∷ cs)) (cells_lawful None (c ∷ cs)) (all_small None (c ∷ cs))

-- Standing ---------------------------------------------------------------------------------------

module _ (a : Asked) where
  abbrev n : ℕ
  n = places_of a.sheet

  abbrev kept_way : Way
  kept_way t c d = kept_at a t c

  abbrev agreed_way : Way
  agreed_way t c d = every (agrees a t c d) a.sheet.list

  -- `way`, but for the bound on the place
  abbrev way_within : Way
  way_within t c d = small_way t c d && lawful_way n t c d && kept_way t c d && agreed_way t c d

  way_at : (t c d : ℕ) → t < n → way a t c d ≡ way_within t c d
  way_at t c d h = ap (λ b. b && small_way t c d && lawful_way n t c d && kept_way t c d && agreed_way t c d) (lt-ltb t n h)

  module _ (line : List ℕ) where
    abbrev round : Way → Bool
    round step = goes_round step n line

    round_parts : round way_within ≡ (round small_way && round (lawful_way n) && round kept_way && round agreed_way)
    round_parts =
        goes_round_and (λ t c d. small_way t c d && lawful_way n t c d && kept_way t c d) agreed_way n line
        ∙ ap (λ b. b && round agreed_way) (goes_round_and (λ t c d. small_way t c d && lawful_way n t c d) kept_way n line)
        ∙ ap (λ b. b && round kept_way && round agreed_way) (goes_round_and small_way (lawful_way n) n line)

    kept_round : round kept_way ≡ every (λ t. kept_at a t (cell_at n line t)) (upto n)
    kept_round = goes_round_upto kept_way n line

    agreed_round : round agreed_way ≡ every (agrees_all_round a line) a.sheet.list
    agreed_round =
        goes_round_upto agreed_way n line
        ∙ every_every (λ t. agrees a t (cell_at n line t) (cell_at n line (t + 1))) (upto n) a.sheet.list

pub stands_is_round : (a : Asked) (line : List ℕ) → 0 < places_of a.sheet → length line ≡ places_of a.sheet → stands a line ≡ goes_round (way a) (places_of a.sheet) line
stands_is_round a line some size =
    let kept = every (λ t. kept_at a t (cell_at (n a) line t)) (upto (n a)) in
    let agreed = every (agrees_all_round a line) a.sheet.list in
    ap (λ b. b && cells_lawful None line && kept && agreed) (eq-eqb (length line) (n a) size)
    ∙ sym (
    goes_round_cong (way a) (way_within a) (n a) line (way_at a)
    ∙ round_parts a line
    ∙ ap₂ (λ x y. x && y && round a line (agreed_way a)) (lawful_round (n a) line some size) (kept_round a line)
    ∙ ap (λ b. cells_lawful None line && kept && b) (agreed_round a line))

pub standing_is_roster : (a : Asked) → 0 < places_of a.sheet → standing_lines a ≡ roster (way a) (places_of a.sheet)
standing_is_roster a some =
    kept_by_cong (stands a) (goes_round (way a) (n a)) (every_line (n a)) (All-weaker (Sound (n a)) _ (λ line s. stands_is_round a line some s.0) (every_line (n a)) (every_line_sound (n a)))
