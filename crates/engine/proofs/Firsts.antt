-- The first of a list that passes a test, over lists that are put together. Assumes nothing.
use Rattle.std.proofs.Common.{◌≡◌, ℕ, zero, suc, ◌<◌, Bool, true, false, cond, List, [], ◌∷◌, ◌++◌, map, is_some, Some, None, Option, sym, refl, ap, ◌∙◌, ap₂, ⊎_elim, arith}
use Rattle.std.proofs.lemmas.Bool.{cases_eq, false≢true}
use Rattle.std.specs.Option.{option_map}
use Rattle.std.specs.List.{flat_map as spread, AllByRecursion}
use Rattle.engine.specs.Lines.{upto}
use Rattle.engine.specs.Weights.{first_with}
use Rattle.engine.proofs.Lists.{spread_more}

-- the first if there is one, else the second
abbrev pub or_else : {A : Type 0} → Option A → Option A → Option A
or_else None y = y
or_else (Some x) y = Some x

pub none_from : {A : Type 0} (o : Option A) → is_some o ≡ false → o ≡ None
none_from None e = refl
none_from (Some x) e = absurd (false≢true (sym e))

or_else_some : {A : Type 0} (o p : Option A) → is_some o ≡ true → or_else o p ≡ o
or_else_some None p e = absurd (false≢true e)
or_else_some (Some x) p e = refl

pub mapped_mapped : {A B C : Type 0} (g : B → C) (f : A → B) (o : Option A) → option_map g (option_map f o) ≡ option_map (λ x. g (f x)) o
mapped_mapped g f None = refl
mapped_mapped g f (Some x) = refl

pub is_some_mapped : {A B : Type 0} (f : A → B) (o : Option A) → is_some (option_map f o) ≡ is_some o
is_some_mapped f None = refl
is_some_mapped f (Some x) = refl

module _ {A : Type 0} where
  cond_or_else : (b : Bool) (x : A) (o p : Option A) → cond b (Some x) (or_else o p) ≡ or_else (cond b (Some x) o) p
  cond_or_else true x o p = refl
  cond_or_else false x o p = refl

  pub first_with-++ : (test : A → Bool) (xs ys : List A) → first_with test (xs ++ ys) ≡ or_else (first_with test xs) (first_with test ys)
  first_with-++ test [] ys = refl
  first_with-++ test (x ∷ xs) ys =
      ap (cond (test x) (Some x)) (first_with-++ test xs ys) ∙ cond_or_else (test x) x (first_with test xs) (first_with test ys)

  cond_mapped : {B : Type 0} (b : Bool) (g : B → A) (y : B) (o : Option B) → cond b (Some (g y)) (option_map g o) ≡ option_map g (cond b (Some y) o)
  cond_mapped true g y o = refl
  cond_mapped false g y o = refl

  pub first_with_map : {B : Type 0} (test : A → Bool) (g : B → A) (ys : List B) → first_with test (map g ys) ≡ option_map g (first_with (λ y. test (g y)) ys)
  first_with_map test g [] = refl
  first_with_map test g (y ∷ ys) =
      ap (cond (test (g y)) (Some (g y))) (first_with_map test g ys) ∙ cond_mapped (test (g y)) g y (first_with (λ z. test (g z)) ys)

  pub first_with_cong : (p q : A → Bool) (xs : List A) → AllByRecursion (λ x. p x ≡ q x) xs → first_with p xs ≡ first_with q xs
  first_with_cong p q [] same = refl
  first_with_cong p q (x ∷ xs) same = ap₂ (λ b o. cond b (Some x) o) same.0 (first_with_cong p q xs same.1)

  -- lists without a match, spread
  pub first_with_none : (test : A → Bool) (f : ℕ → List A) (n : ℕ) → ((d : ℕ) → d < n → first_with test (f d) ≡ None) → first_with test (spread f (upto n)) ≡ None
  first_with_none test f zero nothing = refl
  first_with_none test f (suc n) nothing =
      ap (first_with test) (spread_more f n) ∙ first_with-++ test (spread f (upto n)) (f n) ∙ ap₂ or_else (first_with_none test f n (λ d h. nothing d (omega arith))) (nothing n (omega arith))

  -- the match is in the first list that has one
  pub first_with_spread : (test : A → Bool) (f : ℕ → List A) (n d : ℕ) → d < n → ((e : ℕ) → e < d → first_with test (f e) ≡ None) → is_some (first_with test (f d)) ≡ true → first_with test (spread f (upto n)) ≡ first_with test (f d)
  first_with_spread test f zero d h before here = absurd (omega arith)
  first_with_spread test f (suc n) d h before here =
      let split = ap (first_with test) (spread_more f n) ∙ first_with-++ test (spread f (upto n)) (f n) in
      ⊎_elim
      (λ e. split ∙ ap (λ o. or_else o (first_with test (f n))) (first_with_none test f n (λ j l. before j (omega arith))) ∙ ap (λ j. first_with test (f j)) (sym e))
      (λ ne. split ∙ ap (λ o. or_else o (first_with test (f n))) (first_with_spread test f n d (omega arith) before here) ∙ or_else_some (first_with test (f d)) (first_with test (f n)) here)
      (cases_eq d n)
