-- Finding a combination in a list. Assumes nothing.
use Rattle.std.proofs.Common.{◌≡◌, ℕ, suc, ◌+◌, ◌<◌, Bool, true, false, cond, not, ltb, List, [], ◌∷◌, length, is_some, Some, None, Option, sym, refl, ap, ◌∙◌, arith}
use Rattle.std.specs.List.{position, position_or_len, remove}
use Rattle.std.proofs.lemmas.Bool.{ltb-true}
use Rattle.std.proofs.lemmas.Bool.Decides.{nat_tests}
use Rattle.rules.specs.declared.combination.Combination.{Combination}
use Rattle.rules.specs.Plain.{Plain, same, listed, without}

-- how many combinations stand before a wanted one, or in the whole list where it is not listed
abbrev before_it : Combination → List Combination → ℕ
before_it wanted list = position_or_len (λ x. same x wanted) list

one_more : (k n : ℕ) → ltb k n ≡ ltb (1 + k) (suc n)
one_more k n = grind (arith, nat_tests)

some_more : (n : ℕ) → true ≡ ltb 0 (suc n)
some_more n = grind (arith, nat_tests)

listed_below : (wanted : Combination) (list : List Combination) → listed wanted list ≡ ltb (before_it wanted list) (length list)
listed_below wanted [] = refl
listed_below wanted (x ∷ xs) = go (same x wanted) (listed_below wanted xs)
  where
    go : (b : Bool) → listed wanted xs ≡ ltb (before_it wanted xs) (length xs) → cond b true (listed wanted xs) ≡ ltb (cond (not b) (1 + before_it wanted xs) 0) (suc (length xs))
    go true rest = some_more (length xs)
    go false rest = rest ∙ one_more (before_it wanted xs) (length xs)

removed_there : (wanted : Combination) (list : List Combination) → before_it wanted list < length list → remove list (before_it wanted list) ≡ without wanted list
removed_there wanted [] below = absurd (omega arith)
removed_there wanted (x ∷ xs) below = go (same x wanted) below (removed_there wanted xs)
  where
    go : (b : Bool) → cond (not b) (1 + before_it wanted xs) 0 < suc (length xs) → (before_it wanted xs < length xs → remove xs (before_it wanted xs) ≡ without wanted xs) → remove (x ∷ xs) (cond (not b) (1 + before_it wanted xs) 0) ≡ cond b xs (x ∷ without wanted xs)
    go true below rest = refl
    go false below rest =
        let one : 1 + before_it wanted xs ≡ suc (before_it wanted xs) = omega arith in
        ap (remove (x ∷ xs)) one ∙ ap (λ (ys : List Combination). x ∷ ys) (rest (omega arith))

-- a combination is found exactly if it is listed
listed_position : (wanted : Combination) (list : List Combination) → is_some (position (λ x. same x wanted) list) ≡ listed wanted list
listed_position wanted list = go (ltb (before_it wanted list) (length list)) ∙ sym (listed_below wanted list)
  where
    go : (b : Bool) → is_some (cond b (Some (before_it wanted list)) None) ≡ b
    go true = refl
    go false = refl

-- at a place of the list, without which it is the list without the combination
found_there : (wanted : Combination) (list : List Combination) (i : ℕ) → position (λ x. same x wanted) list ≡ Some i → (i < length list) × (remove list i ≡ without wanted list)
found_there wanted list i found = go (ltb (before_it wanted list) (length list)) refl found
  where
    go : (b : Bool) → ltb (before_it wanted list) (length list) ≡ b → cond b (Some (before_it wanted list)) None ≡ Some i → (i < length list) × (remove list i ≡ without wanted list)
    go true is found =
        let at : before_it wanted list ≡ i = cc in
        let below : before_it wanted list < length list = ltb-true _ _ is in
        (omega (arith, at, below), ap (remove list) (sym at) ∙ removed_there wanted list below)
    go false is found = let z : ◌≡◌ {A = ℕ} 0 1 = cc in absurd (omega arith)

-- what a search of the list in memory for the combination in memory tells of those of the plain sheet
module _ {held sheet : Plain} {seen : List Combination} {wanted one : Combination} {o : Option ℕ} (in-memory : seen ≡ held.list) (same-sheet : held ≡ sheet) (same-one : one ≡ wanted) (found : o ≡ position (λ x. same x one) seen) where
  same-list : seen ≡ sheet.list
  same-list = in-memory ∙ ap (λ (p : Plain). p.list) same-sheet

  pub found_listed : listed wanted sheet.list ≡ is_some o
  found_listed =
      sym (λ i. listed (same-one i) (same-list i)) ∙ sym (listed_position one seen) ∙ sym (ap (λ (p : Option ℕ). is_some p) found)

  -- and where it is found
  pub found_below : {i : ℕ} → o ≡ Some i → (i < length sheet.list) × (remove sheet.list i ≡ without wanted sheet.list)
  found_below {i} is =
      let there : position (λ x. same x wanted) sheet.list ≡ Some i = sym (λ j. position (λ x. same x (same-one j)) (same-list j)) ∙ sym found ∙ is in
      found_there wanted sheet.list i there
