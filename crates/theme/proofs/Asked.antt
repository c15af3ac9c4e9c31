-- The first no to questions that come one list after another. Assumes nothing.
use Rattle.std.proofs.Common.{◌≡◌, ℕ, Bool, true, false, cond, List, [], ◌∷◌, ◌++◌, is_ok, Some, None, Ok, Option, Result, refl, ap, ◌∙◌, arith}
use Rattle.theme.specs.Refusals.{first_no, or_next}

or_next_cond : {R : Type 0} (b : Bool) (r : R) (o next : Option R) → cond b (or_next o next) (Some r) ≡ or_next (cond b o (Some r)) next
or_next_cond true r o next = refl
or_next_cond false r o next = refl

pub first_no-++ : {R : Type 0} (xs ys : List (Bool × R)) → first_no (xs ++ ys) ≡ or_next (first_no xs) (first_no ys)
first_no-++ [] ys = refl
first_no-++ {R} (x ∷ xs) ys =
    ap (λ (o : Option R). cond x.0 o (Some x.1)) (first_no-++ xs ys) ∙ or_next_cond x.0 x.1 (first_no xs) (first_no ys)

-- where the first list has no no, the second decides
pub first_no_next : {R : Type 0} (xs ys : List (Bool × R)) → first_no xs ≡ None → first_no (xs ++ ys) ≡ first_no ys
first_no_next {R} xs ys none = first_no-++ xs ys ∙ ap (λ (o : Option R). or_next o (first_no ys)) none

-- where it has one, that is the answer
pub first_no_stops : {R : Type 0} (xs ys : List (Bool × R)) (r : R) → first_no xs ≡ Some r → first_no (xs ++ ys) ≡ Some r
first_no_stops {R} xs ys r some = first_no-++ xs ys ∙ ap (λ (o : Option R). or_next o (first_no ys)) some

-- every question is answered by yes
abbrev pub AllYes : {R : Type 0} → List (Bool × R) → Type 0
AllYes [] = Unit {0}
AllYes (q ∷ qs) = (q.0 ≡ true) × AllYes qs

yes_first : {R : Type 0} (b : Bool) (r : R) (o : Option R) → cond b o (Some r) ≡ None → (b ≡ true) × (o ≡ None)
yes_first true r o e = (refl, e)
yes_first false r o e = let z : ◌≡◌ {A = ℕ} 0 1 = cc in absurd (omega arith)

-- there is no no exactly if every answer is yes
pub all_yes : {R : Type 0} (qs : List (Bool × R)) → first_no qs ≡ None → AllYes qs
all_yes [] e = tt
all_yes (q ∷ qs) e = let p = yes_first q.0 q.1 (first_no qs) e in (p.0, all_yes qs p.1)

pub none_from_all_yes : {R : Type 0} (qs : List (Bool × R)) → AllYes qs → first_no qs ≡ None
none_from_all_yes [] h = refl
none_from_all_yes {R} (q ∷ qs) h = ap (λ (t : Bool). cond t (first_no qs) (Some q.1)) h.0 ∙ none_from_all_yes qs h.1

-- neither part of what was asked has a no
pub or_next_none : {R : Type 0} (o next : Option R) → or_next o next ≡ None → (o ≡ None) × (next ≡ None)
or_next_none None next e = (refl, e)
or_next_none (Some r) next e = let z : ◌≡◌ {A = ℕ} 0 1 = cc in absurd (omega arith)

pub or_next_both : {R : Type 0} (o next : Option R) → o ≡ None → next ≡ None → or_next o next ≡ None
or_next_both {R} o next none none' = ap (λ (p : Option R). or_next p next) none ∙ none'

-- what stands where a call is accepted
pub where_ok : {X E A : Type 0} (r : Result X E) (x : X) (one other : A) → r ≡ Ok x → cond (is_ok r) one other ≡ one
where_ok {X} {E} r x one other ok = ap (λ (q : Result X E). cond (is_ok q) one other) ok
