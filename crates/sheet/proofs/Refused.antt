-- What a refused or an accepted call answers and holds. Assumes nothing.
use Rattle.std.proofs.Common.{◌≡◌, ℕ, Bool, true, false, cond, not, ◌&&◌, ltb, leb, List, [], ◌∷◌, ◌++◌, length, ℤ, pos, negsuc, nat_abs, Some, None, Ok, Err, Option, Result, sym, refl, ap, ◌∙◌, arith}
use Rattle.std.proofs.lemmas.Bool.{and_from, and_parts}
use Rattle.theme.specs.Refusals.{first_no, answer}
use Rattle.theme.proofs.Asked.{all_yes, first_no-++, first_no_next, or_next_none}
use Rattle.rules.specs.declared.combination.Combination.{Combination}
use Rattle.rules.specs.declared.refusal.Refusal.{Refusal}
use Rattle.rules.specs.declared.refusal.Refusal.TheVariants.{AlreadyListed, ListFull, NotListed}
use Rattle.counterpoint.specs.Interval.{shift_in_range}
use Rattle.rules.specs.Plain.{Plain, unless, places_of, original, same, listed, without, names_place, combination_of, combination_questions, add_questions, drop_questions, all_in_range}

module _ {R X : Type 0} (o : Option R) (after before : X) where
  pub refused_answers : (e : R) → o ≡ Some e → ◌≡◌ {A = Result (Unit {0}) R} (Err e) (answer tt o)
  refused_answers e is = sym (ap (λ (p : Option R). answer {X = Unit {0}} tt p) is)

  pub refused_holds : (e : R) → o ≡ Some e → before ≡ unless o after before
  refused_holds e is = sym (ap (λ (p : Option R). unless p after before) is)

  pub accepted_answers : o ≡ None → ◌≡◌ {A = Result (Unit {0}) R} (Ok tt) (answer tt o)
  accepted_answers is = sym (ap (λ (p : Option R). answer {X = Unit {0}} tt p) is)

  pub accepted_holds : o ≡ None → after ≡ unless o after before
  accepted_holds is = sym (ap (λ (p : Option R). unless p after before) is)

-- what an answer tells of the first no
pub answer_refused : {R : Type 0} (o : Option R) (e : R) → ◌≡◌ {A = Result (Unit {0}) R} (Err e) (answer tt o) → o ≡ Some e
answer_refused None e is = let z : ◌≡◌ {A = ℕ} 0 1 = cc in absurd (omega arith)
answer_refused (Some r) e is = cc

pub answer_accepted : {R : Type 0} (o : Option R) → ◌≡◌ {A = Result (Unit {0}) R} (Ok tt) (answer tt o) → o ≡ None
answer_accepted None is = refl
answer_accepted (Some r) is = let z : ◌≡◌ {A = ℕ} 0 1 = cc in absurd (omega arith)

-- Calls that ask more than the questions they share ----------------------------------------------

module _ (p : Plain) (jv entry : ℤ) where
  abbrev shared : List (Bool × Refusal)
  shared = combination_questions p jv entry

  abbrev add_more : List (Bool × Refusal)
  add_more = (not (listed (combination_of jv entry) p.list), AlreadyListed) ∷ (ltb (length p.list) 8, ListFull) ∷ []

  abbrev drop_more : List (Bool × Refusal)
  drop_more = (listed (combination_of jv entry) p.list && not (same (combination_of jv entry) original), NotListed) ∷ []

  pub add_listed : first_no shared ≡ None → listed (combination_of jv entry) p.list ≡ true → first_no (add_questions p jv entry) ≡ Some AlreadyListed
  add_listed none is = first_no_next shared add_more none ∙ ap (λ (b : Bool). first_no ((not b, AlreadyListed) ∷ (ltb (length p.list) 8, ListFull) ∷ [])) is

  pub add_full : first_no shared ≡ None → listed (combination_of jv entry) p.list ≡ false → ltb (length p.list) 8 ≡ false → first_no (add_questions p jv entry) ≡ Some ListFull
  add_full none is full =
      first_no_next shared add_more none ∙ (λ i. first_no ((not (is i), AlreadyListed) ∷ (full i, ListFull) ∷ []))

  pub add_accepted : first_no shared ≡ None → listed (combination_of jv entry) p.list ≡ false → ltb (length p.list) 8 ≡ true → first_no (add_questions p jv entry) ≡ None
  add_accepted none is few =
      first_no_next shared add_more none ∙ (λ i. first_no ((not (is i), AlreadyListed) ∷ (few i, ListFull) ∷ []))

  pub drop_unlisted : first_no shared ≡ None → listed (combination_of jv entry) p.list ≡ false → first_no (drop_questions p jv entry) ≡ Some NotListed
  drop_unlisted none is =
      first_no_next shared drop_more none ∙ (λ i. first_no ((is i && not (same (combination_of jv entry) original), NotListed) ∷ []))

  pub drop_accepted : first_no shared ≡ None → listed (combination_of jv entry) p.list ≡ true → same (combination_of jv entry) original ≡ false → first_no (drop_questions p jv entry) ≡ None
  drop_accepted none is other =
      first_no_next shared drop_more none ∙ (λ i. first_no ((is i && not (other i), NotListed) ∷ []))

-- a combination that was not refused is in range
pub combination_in_range : (p : Plain) (jv entry : ℤ) → first_no (combination_questions p jv entry) ≡ None → (shift_in_range jv && ltb (nat_abs entry) (places_of p)) ≡ true
combination_in_range p jv entry none =
    let q = all_yes (combination_questions p jv entry) none in
    and_from _ _ q.1.0 (below entry (places_of p) q.1.1.0)
  where
    below : (z : ℤ) (n : ℕ) → names_place z n ≡ true → ltb (nat_abs z) n ≡ true
    below (pos a) n e = (and_parts (leb 0 a) (ltb a n) e).1
    below (negsuc a) n e = let z : ◌≡◌ {A = ℕ} 0 1 = cc in absurd (omega arith)

pub added_in_range : (p : Plain) (jv entry : ℤ) → first_no (add_questions p jv entry) ≡ None → (shift_in_range jv && ltb (nat_abs entry) (places_of p)) ≡ true
added_in_range p jv entry none =
    combination_in_range p jv entry (or_next_none _ _ (sym (first_no-++ (shared p jv entry) (add_more p jv entry)) ∙ none)).0

-- lists of combinations in range
pub in_range_push : (n : ℕ) (cs : List Combination) (c : Combination) → all_in_range n cs ≡ true → (shift_in_range c.jv && ltb c.entry n) ≡ true → all_in_range n (cs ++ c ∷ []) ≡ true
in_range_push n [] c all one = and_from _ true one refl
in_range_push n (x ∷ xs) c all one =
    let q = and_parts (shift_in_range x.jv && ltb x.entry n) (all_in_range n xs) all in
    and_from _ _ q.0 (in_range_push n xs c q.1 one)

pub in_range_without : (n : ℕ) (c : Combination) (cs : List Combination) → all_in_range n cs ≡ true → all_in_range n (without c cs) ≡ true
in_range_without n c [] all = refl
in_range_without n c (x ∷ xs) all =
    let q = and_parts (shift_in_range x.jv && ltb x.entry n) (all_in_range n xs) all in
    go q.1 (and_from _ _ q.0 (in_range_without n c xs q.1)) (same x c)
  where
    go : all_in_range n xs ≡ true → all_in_range n (x ∷ without c xs) ≡ true → (b : Bool) → all_in_range n (cond b xs (x ∷ without c xs)) ≡ true
    go rest all' true = rest
    go rest all' false = all'
