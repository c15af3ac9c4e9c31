-- Lists that are filtered, mapped and spread. Assumes nothing.
use Rattle.std.proofs.Common.{◌≡◌, ℕ, zero, suc, ◌+◌, ◌<◌, Bool, true, false, cond, ◌&&◌, List, [], ◌∷◌, ◌++◌, map, length, filter, sym, refl, ap, ◌∙◌, ap₂, add-one, arith}
use mathlib.Core.Path.{fun_ext}
use Rattle.std.proofs.lemmas.Grind.{flat_map-append}
use Rattle.std.proofs.lemmas.List.Elements.{filter-append}
use Rattle.std.proofs.ByRecursion.{All-append, All-push, All-weaker}
use Rattle.std.proofs.lemmas.List.{append-nil, length-append, map-append}
use Rattle.std.specs.List.{flat_map as spread, AllByRecursion}
use Rattle.engine.specs.Lines.{every, upto}

module _ {X : Type 0} where
  cond_map : {Y : Type 0} (b : Bool) (g : Y → X) (y : Y) (ys : List Y) → cond b (g y ∷ map g ys) (map g ys) ≡ map g (cond b (y ∷ ys) ys)
  cond_map true g y ys = refl
  cond_map false g y ys = refl

  pub kept_by_map : {Y : Type 0} (test : X → Bool) (g : Y → X) (ys : List Y) → filter test (map g ys) ≡ map g (filter (λ y. test (g y)) ys)
  kept_by_map test g [] = refl
  kept_by_map test g (y ∷ ys) =
      ap (λ zs. cond (test (g y)) (g y ∷ zs) zs) (kept_by_map test g ys) ∙ cond_map (test (g y)) g y (filter (λ z. test (g z)) ys)

  pub kept_by_cong : (p q : X → Bool) (xs : List X) → AllByRecursion (λ x. p x ≡ q x) xs → filter p xs ≡ filter q xs
  kept_by_cong p q [] same = refl
  kept_by_cong p q (x ∷ xs) same = ap₂ (λ b ys. cond b (x ∷ ys) ys) same.0 (kept_by_cong p q xs same.1)

  kept_by_none : (xs : List X) → filter (λ x. false) xs ≡ []
  kept_by_none [] = refl
  kept_by_none (x ∷ xs) = kept_by_none xs

  -- a test that does not look at its argument goes in front
  pub kept_by_and : (b : Bool) (q : X → Bool) (xs : List X) → filter (λ x. b && q x) xs ≡ cond b (filter q xs) []
  kept_by_and true q xs = refl
  kept_by_and false q xs = kept_by_none xs

  pub map_cong : {Y : Type 0} (f g : X → Y) (xs : List X) → AllByRecursion (λ x. f x ≡ g x) xs → map f xs ≡ map g xs
  map_cong f g [] same = refl
  map_cong f g (x ∷ xs) same = ap₂ ◌∷◌ same.0 (map_cong f g xs same.1)

  pub every_cong : (p q : X → Bool) (xs : List X) → AllByRecursion (λ x. p x ≡ q x) xs → every p xs ≡ every q xs
  every_cong p q [] same = refl
  every_cong p q (x ∷ xs) same = ap₂ ◌&&◌ same.0 (every_cong p q xs same.1)

  pub every_map : {Y : Type 0} (p : X → Bool) (g : Y → X) (ys : List Y) → every p (map g ys) ≡ every (λ y. p (g y)) ys
  every_map p g [] = refl
  every_map p g (y ∷ ys) = ap (λ b. p (g y) && b) (every_map p g ys)

module _ {X Y : Type 0} where
  pub spread_cong : (f g : X → List Y) (xs : List X) → ((x : X) → f x ≡ g x) → spread f xs ≡ spread g xs
  spread_cong f g xs same = ap (λ h. spread h xs) (fun_ext same)

  pub kept_by_spread : (test : Y → Bool) (f : X → List Y) (xs : List X) → filter test (spread f xs) ≡ spread (λ x. filter test (f x)) xs
  kept_by_spread test f [] = refl
  kept_by_spread test f (x ∷ xs) =
      filter-append test (f x) (spread f xs) ∙ ap (λ zs. filter test (f x) ++ zs) (kept_by_spread test f xs)

  pub all_spread : (P : Y → Type 0) (Q : X → Type 0) (f : X → List Y) (xs : List X) → AllByRecursion Q xs → ((x : X) → Q x → AllByRecursion P (f x)) → AllByRecursion P (spread f xs)
  all_spread P Q f [] all each = tt
  all_spread P Q f (x ∷ xs) all each = All-append P (f x) (spread f xs) (each x all.0) (all_spread P Q f xs all.1 each)

-- one number more is spread
pub spread_more : {Y : Type 0} (f : ℕ → List Y) (n : ℕ) → spread f (upto (suc n)) ≡ spread f (upto n) ++ f n
spread_more f n = flat_map-append f (upto n) (n ∷ []) ∙ ap (λ zs. spread f (upto n) ++ zs) (append-nil (f n))

-- the numbers below n are below n
pub all_upto : (n : ℕ) → AllByRecursion (λ c. c < n) (upto n)
all_upto zero = tt
all_upto (suc n) =
    All-push (λ c. c < suc n) (upto n) n (All-weaker (λ c. c < n) (λ c. c < suc n) (λ c h. omega arith) (upto n) (all_upto n)) (omega arith)

-- they begin with 0
pub upto_front : (n : ℕ) → upto (suc n) ≡ 0 ∷ map suc (upto n)
upto_front zero = refl
upto_front (suc n) = ap (λ xs. xs ++ suc n ∷ []) (upto_front n) ∙ ap (λ xs. 0 ∷ xs) (sym (map-append suc (upto n) (n ∷ [])))

pub length_upto : (n : ℕ) → length (upto n) ≡ n
length_upto zero = refl
length_upto (suc n) = length-append (upto n) (n ∷ []) ∙ ap (λ m. m + 1) (length_upto n) ∙ add-one n
