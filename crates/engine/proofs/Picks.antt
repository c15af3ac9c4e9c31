-- Values of a choosing measure: which of them are the join. Assumes nothing.
use Rattle.std.proofs.Common.{◌≡◌, ℕ, zero, suc, ◌<◌, Bool, true, false, cond, ◌||◌, List, [], ◌∷◌, map, is_some, Some, Option, sym, refl, ap, ◌∙◌, ap₂, ⊎_elim, arith}
use Rattle.std.proofs.lemmas.Bool.{cases_Bool, cases_cond, cases_eq, cond-true}
use Rattle.measure.specs.Algebra.{Ring, joined}
use Rattle.engine.specs.Tables.{sum}
use Rattle.engine.specs.Weights.{first_with}

module _ {M : Type 0} (R : Ring M) (picks : M → M → Bool) (either : (x y : M) → R.join x y ≡ cond (picks x y) x y) (former : (x y : M) → R.join x y ≡ x → picks x y ≡ true) where
  cond_same : (b : Bool) (x : M) → cond b x x ≡ x
  cond_same true x = refl
  cond_same false x = refl

  pub join_same : (x : M) → R.join x x ≡ x
  join_same x = either x x ∙ cond_same (picks x x) x

  pub picks_from : (x y : M) → x ≡ y → picks x y ≡ true
  picks_from x y e = former x y (ap (R.join x) (sym e) ∙ join_same x)

  -- what goes into the total and is picked before it is the total
  pub same_from_picks : (x total : M) → R.join x total ≡ total → picks x total ≡ true → x ≡ total
  same_from_picks x total under picked = sym (cond-true (picks x total) x total picked) ∙ sym (either x total) ∙ under

  -- the parts of what goes into the total go into it
  pub under_left : (x y total : M) → R.join (R.join x y) total ≡ total → R.join x total ≡ total
  under_left x y total under =
      ap (R.join x) (sym under) ∙ sym (R.join_assoc x (R.join x y) total) ∙ ap (λ z. R.join z total) (sym (R.join_assoc x x y) ∙ ap (λ z. R.join z y) (join_same x)) ∙ under

  pub under_right : (x y total : M) → R.join (R.join x y) total ≡ total → R.join y total ≡ total
  under_right x y total under = under_left y x total (ap (λ z. R.join z total) (R.join_comm y x) ∙ under)

  -- each part of a sum goes into it
  pub sum_under : (f : ℕ → M) (n d : ℕ) → d < n → R.join (f d) (sum R f n) ≡ sum R f n
  unfolding sum
  sum_under f zero d h = absurd (omega arith)
  sum_under f (suc n) d h =
      ⊎_elim
      (λ e. ap (λ j. R.join (f j) (sum R f (suc n))) e ∙ under_right (sum R f n) (f n) (sum R f (suc n)) (join_same (sum R f (suc n))))
      (λ ne. sym (R.join_assoc (f d) (sum R f n) (f n)) ∙ ap (λ z. R.join z (f n)) (sum_under f n d (omega arith)))
      (cases_eq d n)

  -- a sum is none or one of its parts
  pub sum_attained : (f : ℕ → M) (n : ℕ) (total : M) → sum R f n ≡ total → (R.none ≡ total → ⊥) → ((d : ℕ) → d < n → f d ≡ total → ⊥) → ⊥
  unfolding sum
  sum_attained f zero total e some apart = some e
  sum_attained f (suc n) total e some apart =
      ⊎_elim
      (λ a. sum_attained f n total (sym a) some (λ d h. apart d (omega arith)))
      (λ b. apart n (omega arith) (sym b))
      (cases_cond (picks (sum R f n) (f n)) (sum R f n) (f n) total (sym e ∙ either (sum R f n) (f n)))

  is_some_cond : {A : Type 0} (b : Bool) (x : A) (o : Option A) → is_some (cond b (Some x) o) ≡ (b || is_some o)
  is_some_cond true x o = refl
  is_some_cond false x o = refl

  -- a join comes to the total exactly if one of the two does
  picks_join : (x y total : M) → R.join (R.join x y) total ≡ total → picks (R.join x y) total ≡ (picks x total || picks y total)
  picks_join x y total under = ⊎_elim first (λ no-x. ⊎_elim (second no-x) (neither no-x) (cases_Bool (picks y total))) (cases_Bool (picks x total))
    where
      under_x : R.join x total ≡ total
      under_x = under_left x y total under

      under_y : R.join y total ≡ total
      under_y = under_right x y total under

      first : picks x total ≡ true → picks (R.join x y) total ≡ (picks x total || picks y total)
      first h =
          let is = same_from_picks x total under_x h in
          picks_from (R.join x y) total (ap (λ z. R.join z y) is ∙ R.join_comm total y ∙ under_y) ∙ sym (ap (λ b. b || picks y total) h)

      second : picks x total ≡ false → picks y total ≡ true → picks (R.join x y) total ≡ (picks x total || picks y total)
      second no-x h =
          let is = same_from_picks y total under_y h in
          picks_from (R.join x y) total (ap (R.join x) is ∙ under_x) ∙ sym (ap₂ ◌||◌ no-x h)

      neither : picks x total ≡ false → picks y total ≡ false → picks (R.join x y) total ≡ (picks x total || picks y total)
      neither no-x no-y =
          ⊎_elim (λ e. ap (λ z. picks z total) e ∙ no-x) (λ e. ap (λ z. picks z total) e ∙ no-y) (cases_cond (picks x y) x y (R.join x y) (either x y)) ∙ sym (ap₂ ◌||◌ no-x no-y)

  -- one of a list comes to the total exactly if all of them joined do
  pub attained : {A : Type 0} (w : A → M) (xs : List A) (total : M) → picks R.none total ≡ false → R.join (joined R (map w xs)) total ≡ total → is_some (first_with (λ x. picks (w x) total) xs) ≡ picks (joined R (map w xs)) total
  attained w [] total some under = sym some
  attained w (x ∷ xs) total some under =
      is_some_cond (picks (w x) total) x (first_with (λ y. picks (w y) total) xs)
      ∙ ap (λ b. picks (w x) total || b) (attained w xs total some (under_right (w x) (joined R (map w xs)) total under))
      ∙ sym (picks_join (w x) (joined R (map w xs)) total under)
