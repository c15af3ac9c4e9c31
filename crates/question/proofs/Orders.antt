-- The order of lines, lists of lines that ascend, and the list of all lines. Assumes nothing.
use Rattle.std.proofs.Common.{◌≡◌, ℕ, zero, suc, ◌<◌, Bool, true, false, ◌&&◌, eqb, ltb, List, [], ◌∷◌, ◌++◌, map, length, filter, sym, refl, ap, ◌∙◌, subst, inl, inr, arith}
use Rattle.std.proofs.ByRecursion.{All-append, All-from_get_or, all_kept_by, All-map, All-weaker}
use Rattle.std.proofs.lemmas.Bool.{and_from, and_parts, and_right, cases_eq, cond_both, cond-true, eq-eqb, eqb-true, le-ltb, lt-ltb, ltb-true, ne_eqb, or_cases, or_from, or_left, or_right}
use Rattle.std.specs.List.{flat_map as spread, AllByRecursion}
use Rattle.engine.specs.Lines.{every_line, upto}
use Rattle.engine.proofs.Lists.{all_spread, all_upto, spread_more}
use Rattle.rules.specs.Orders.{precedes}
use Rattle.rules.specs.Laws.{Among, Ascending}

-- The order of lines -----------------------------------------------------------------------------

pub precedes_not_itself : (x : List ℕ) → precedes x x ≡ false
precedes_not_itself [] = refl
precedes_not_itself (c ∷ cs) = or_from _ _ (le-ltb c c (omega arith)) (and_right (eqb c c) _ (precedes_not_itself cs))

pub precedes_one_way : (x y : List ℕ) → precedes x y ≡ true → precedes y x ≡ false
precedes_one_way [] [] before = refl
precedes_one_way [] (d ∷ ds) before = refl
precedes_one_way (c ∷ cs) [] before = refl
precedes_one_way (c ∷ cs) (d ∷ ds) before =
    elim (or_cases (ltb c d) _ before) [
      | inl less ↦
          let h = ltb-true c d less in
          or_from _ _ (le-ltb d c (omega arith)) (ap (λ b. b && precedes ds cs) (ne_eqb d c (λ e. omega arith)))
      | inr tie ↦
          let p = and_parts (eqb c d) (precedes cs ds) tie in
          let e = eqb-true c d p.0 in
          or_from _ _ (le-ltb d c (omega arith)) (and_right (eqb d c) _ (precedes_one_way cs ds p.1))
    ]

precedes_same_cell : (c : ℕ) (x y : List ℕ) → precedes x y ≡ true → precedes (c ∷ x) (c ∷ y) ≡ true
precedes_same_cell c x y before = or_right (ltb c c) _ (and_from _ _ (eq-eqb c c refl) before)

precedes_less_cell : (c d : ℕ) (x y : List ℕ) → c < d → precedes (c ∷ x) (d ∷ y) ≡ true
precedes_less_cell c d x y less = or_left _ _ (lt-ltb c d less)

-- Being among lines ------------------------------------------------------------------------------

pub all_among : (P : List ℕ → Type 0) (x : List ℕ) (xs : List (List ℕ)) → AllByRecursion P xs → Among x xs → P x
all_among P x [] all h = absurd h
all_among P x (y ∷ ys) all (inl e) = subst P (sym e) all.0
all_among P x (y ∷ ys) all (inr h) = all_among P x ys all.1 h

among_left : (x : List ℕ) (xs ys : List (List ℕ)) → Among x xs → Among x (xs ++ ys)
among_left x [] ys h = absurd h
among_left x (y ∷ xs) ys (inl e) = inl e
among_left x (y ∷ xs) ys (inr h) = inr (among_left x xs ys h)

among_right : (x : List ℕ) (xs ys : List (List ℕ)) → Among x ys → Among x (xs ++ ys)
among_right x [] ys h = h
among_right x (y ∷ xs) ys h = inr (among_right x xs ys h)

among_map : (f : List ℕ → List ℕ) (x : List ℕ) (xs : List (List ℕ)) → Among x xs → Among (f x) (map f xs)
among_map f x [] h = absurd h
among_map f x (y ∷ xs) (inl e) = inl (ap f e)
among_map f x (y ∷ xs) (inr h) = inr (among_map f x xs h)

among_spread : (f : ℕ → List (List ℕ)) (x : List ℕ) (n c : ℕ) → c < n → Among x (f c) → Among x (spread f (upto n))
among_spread f x zero c below h = absurd (omega arith)
among_spread f x (suc n) c below h =
    subst (Among x) (sym (spread_more f n))
    (elim (cases_eq c n) [
      | inl e ↦ among_right x (spread f (upto n)) (f n) (subst (λ d. Among x (f d)) e h)
      | inr ne ↦ among_left x (spread f (upto n)) (f n) (among_spread f x n c (omega arith) h)
    ])

pub among_kept_by : (test : List ℕ → Bool) (x : List ℕ) (xs : List (List ℕ)) → test x ≡ true → Among x xs → Among x (filter test xs)
among_kept_by test x [] passes h = absurd h
among_kept_by test x (y ∷ xs) passes (inl e) =
    subst (Among x) (sym (cond-true (test y) _ _ (sym (ap test e) ∙ passes))) (inl e)
among_kept_by test x (y ∷ xs) passes (inr h) =
    let later = among_kept_by test x xs passes h in
    cond_both (test y) (y ∷ filter test xs) (filter test xs) (Among x) (λ _. inr later) (λ _. later)

-- Lists of lines that ascend ---------------------------------------------------------------------

-- the first of them comes behind none
pub none_before : (x : List ℕ) (xs : List (List ℕ)) → Ascending (x ∷ xs) → AllByRecursion (λ y. precedes y x ≡ false) (x ∷ xs)
none_before x xs up =
    (precedes_not_itself x, All-weaker (λ y. precedes x y ≡ true) (λ y. precedes y x ≡ false) (precedes_one_way x) xs up.0)

pub ascending_kept_by : (test : List ℕ → Bool) (xs : List (List ℕ)) → Ascending xs → Ascending (filter test xs)
ascending_kept_by test [] up = tt
ascending_kept_by test (x ∷ xs) up =
    let later = ascending_kept_by test xs up.1 in
    cond_both (test x) (x ∷ filter test xs) (filter test xs) Ascending (λ _. (all_kept_by test (λ y. precedes x y ≡ true) xs up.0, later)) (λ _. later)

ascending-++ : (xs ys : List (List ℕ)) → Ascending xs → Ascending ys → AllByRecursion (λ x. AllByRecursion (λ y. precedes x y ≡ true) ys) xs → Ascending (xs ++ ys)
ascending-++ [] ys up-xs up-ys across = up-ys
ascending-++ (x ∷ xs) ys up-xs up-ys across =
    (All-append (λ y. precedes x y ≡ true) xs ys up-xs.0 across.0, ascending-++ xs ys up-xs.1 up-ys across.1)

-- the lines that go on from a cell
abbrev begun : List (List ℕ) → ℕ → List (List ℕ)
begun xs c = map (λ cells. c ∷ cells) xs

ascending_begun : (c : ℕ) (xs : List (List ℕ)) → Ascending xs → Ascending (begun xs c)
ascending_begun c [] up = tt
ascending_begun c (x ∷ xs) up =
    (All-map (λ y. precedes (c ∷ x) y ≡ true) (λ cells. c ∷ cells) xs (All-weaker (λ y. precedes x y ≡ true) (λ y. precedes (c ∷ x) (c ∷ y) ≡ true) (precedes_same_cell c x) xs up.0), ascending_begun c xs up.1)

-- what holds of every line that begins with a cell holds of all lines that go on from it
all_begun : (P : List ℕ → Type 0) (c : ℕ) (xs : List (List ℕ)) → ((x : List ℕ) → P (c ∷ x)) → AllByRecursion P (begun xs c)
all_begun P c xs each = All-map P (λ cells. c ∷ cells) xs (All-from_get_or (λ x. P (c ∷ x)) xs [] (λ i _. each _))

ascending_spread : (xs : List (List ℕ)) → Ascending xs → (n : ℕ) → Ascending (spread (begun xs) (upto n))
ascending_spread xs up zero = tt
ascending_spread xs up (suc n) =
    let across = all_spread (λ x. AllByRecursion (λ y. precedes x y ≡ true) (begun xs n)) (λ c. c < n) (begun xs) (upto n) (all_upto n)
    (λ c less. all_begun _ c xs (λ x. all_begun (λ y. precedes (c ∷ x) y ≡ true) n xs (λ y. precedes_less_cell c n x y less))) in
    subst Ascending (sym (spread_more (begun xs) n))
    (ascending-++ (spread (begun xs) (upto n)) (begun xs n) (ascending_spread xs up n) (ascending_begun n xs up) across)

-- All lines --------------------------------------------------------------------------------------

pub every_line_ascending : (n : ℕ) → Ascending (every_line n)
every_line_ascending zero = (tt, tt)
every_line_ascending (suc n) = ascending_spread (every_line n) (every_line_ascending n) 48

pub among_every_line : (n : ℕ) (line : List ℕ) → length line ≡ n → AllByRecursion (λ c. c < 48) line → Among line (every_line n)
among_every_line zero [] size small = inl refl
among_every_line zero (c ∷ cs) size small = absurd (omega arith)
among_every_line (suc n) [] size small = absurd (omega arith)
among_every_line (suc n) (c ∷ cs) size small =
    among_spread (begun (every_line n)) (c ∷ cs) 48 c small.0
    (among_map (λ cells. c ∷ cells) cs (every_line n) (among_every_line n cs (omega arith) small.1))
