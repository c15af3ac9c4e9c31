-- What four columns show, and that reading them is the inverse of writing them. Assumes nothing.
use Rattle.std.proofs.Common.{◌≡◌, ℕ, ◌+◌, ◌*◌, ◌%◌, ◌<◌, ◌≤◌, Bool, true, false, cond, ◌&&◌, eqb, List, [], ◌∷◌, ◌++◌, length, get_or, take, drop, Some, None, Option, sym, refl, ap, ◌∙◌, subst, arith}
use Rattle.std.proofs.lemmas.Bool.{and_from, and_parts, eq-eqb, eqb-true, cond-true}
use Rattle.std.proofs.lemmas.Bool.Decides.{nat_tests}
use Rattle.theme.specs.Fields.{column, columns_of, value_in, worth, shows, number_in}

-- the first four bytes of a text
abbrev pub four_of : List ℕ → List ℕ
four_of text = get_or text 0 0 ∷ get_or text 1 0 ∷ get_or text 2 0 ∷ get_or text 3 0 ∷ []

-- four bytes that are a number's columns show it
pub shows_columns : (text : List ℕ) (n : ℕ) → four_of text ≡ columns_of n → shows text n ≡ true
shows_columns text n e =
    and_from _ _
    (and_from _ _
    (and_from _ _ (eq-eqb _ _ (ap (λ (xs : List ℕ). get_or xs 0 0) e)) (eq-eqb _ _ (ap (λ (xs : List ℕ). get_or xs 1 0) e)))
    (eq-eqb _ _ (ap (λ (xs : List ℕ). get_or xs 2 0) e)))
    (eq-eqb _ _ (ap (λ (xs : List ℕ). get_or xs 3 0) e))

pub number_shown : (text : List ℕ) (n : ℕ) → n ≡ value_in text → four_of text ≡ columns_of n → number_in text ≡ Some n
number_shown text n v e =
    let s : shows text (value_in text) ≡ true = subst (λ (k : ℕ). shows text k ≡ true) v (shows_columns text n e) in
    cond-true (shows text (value_in text)) (Some (value_in text)) None s ∙ ap (λ (k : ℕ). Some k) (sym v)

some_is : (a b : ℕ) → ◌≡◌ {A = Option ℕ} (Some a) (Some b) → a ≡ b
some_is a b e = cc

-- four bytes that are equal one by one are equal
four_same : (a b c d a' b' c' d' : ℕ) → (eqb a a' && eqb b b' && eqb c c' && eqb d d') ≡ true → a ∷ b ∷ c ∷ d ∷ [] ≡ a' ∷ b' ∷ c' ∷ d' ∷ []
four_same a b c d a' b' c' d' s =
    let p = and_parts (eqb a a' && eqb b b' && eqb c c') (eqb d d') s in
    let q = and_parts (eqb a a' && eqb b b') (eqb c c') p.0 in
    let r = and_parts (eqb a a') (eqb b b') q.0 in
    λ i. eqb-true a a' r.0 i ∷ eqb-true b b' r.1 i ∷ eqb-true c c' q.1 i ∷ eqb-true d d' p.1 i ∷ []

-- what a text shows is the number whose columns it begins with
pub columns_shown : (text : List ℕ) (n : ℕ) → number_in text ≡ Some n → four_of text ≡ columns_of n
columns_shown text n e = go (shows text (value_in text)) refl e
  where
    go : (b : Bool) → shows text (value_in text) ≡ b → cond b (Some (value_in text)) None ≡ Some n → four_of text ≡ columns_of n
    go false s none = let z : ◌≡◌ {A = ℕ} 0 1 = cc in absurd (omega arith)
    go true s some = four_same (get_or text 0 0) (get_or text 1 0) (get_or text 2 0) (get_or text 3 0) _ _ _ _ s ∙ ap columns_of (some_is (value_in text) n some)

-- the columns of a number below 100 count for that number
columns_worth : (n : ℕ) → n < 100 → n ≡ 1000 * worth (column n 1000) + 100 * worth (column n 100) + 10 * worth (column n 10) + worth (48 + n % 10)
columns_worth n low = grind (arith, nat_tests)

-- a number below 100, written in columns, is read
pub number_columns : (n : ℕ) (rest : List ℕ) → n < 100 → number_in (columns_of n ++ rest) ≡ Some n
number_columns n rest low = number_shown (columns_of n ++ rest) n (columns_worth n low) refl

-- a text in front of which four columns stand
pub split_four : (text : List ℕ) → 4 ≤ length text → text ≡ four_of text ++ drop 4 text
split_four [] h = absurd (omega arith)
split_four (a ∷ []) h = absurd (omega arith)
split_four (a ∷ b ∷ []) h = absurd (omega arith)
split_four (a ∷ b ∷ c ∷ []) h = absurd (omega arith)
split_four (a ∷ b ∷ c ∷ d ∷ rest) h = refl

-- the first four bytes of a text that has them
pub four_taken : (text : List ℕ) → 4 ≤ length text → take 4 text ≡ four_of text
four_taken text h = ap (take 4) (split_four text h)
