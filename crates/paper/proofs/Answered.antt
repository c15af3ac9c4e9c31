-- What a writing answers and leaves. Assumes nothing.
use Rattle.std.proofs.Common.{◌≡◌, ℕ, zero, suc, ◌<◌, ◌≤◌, Bool, true, ◌&&◌, ltb, leb, List, [], ◌∷◌, length, get_or, Some, None, ◌∙◌, arith}
use Rattle.std.proofs.lemmas.Bool.{and_parts, ltb-true, eqb-true, lt-ltb, le-leb}
use Rattle.counterpoint.specs.Interval.{shift_in_range}
use Rattle.theme.specs.Refusals.{first_no}
use Rattle.theme.proofs.Asked.{all_yes, none_from_all_yes, first_no_next, first_no_stops}
use Rattle.rules.specs.declared.combination.Combination.{Combination}
use Rattle.rules.specs.declared.refusal.Refusal.{Refusal}
use Rattle.rules.specs.declared.refusal.Refusal.TheVariants.{NotListed, OutputTooShort}
use Rattle.rules.specs.Plain.{Plain, places_of, all_in_range}
use Rattle.paper.specs.Written.{line_questions, writing_questions, combination_length}

-- Combinations -----------------------------------------------------------------------------------

-- a combination of a list that is in range is in range
pub numbered_in_range : (n number : ℕ) (list : List Combination) (d : Combination) → all_in_range n list ≡ true → number < length list → (shift_in_range (get_or list number d).jv ≡ true) × ((get_or list number d).entry < n)
numbered_in_range n number [] d all below = absurd (omega arith)
numbered_in_range n zero (c ∷ cs) d all below =
    let both = and_parts (shift_in_range c.jv && ltb c.entry n) (all_in_range n cs) all in
    let own = and_parts (shift_in_range c.jv) (ltb c.entry n) both.0 in
    (own.0, ltb-true c.entry n own.1)
numbered_in_range n (suc number) (c ∷ cs) d all below =
    numbered_in_range n number cs d (and_parts (shift_in_range c.jv && ltb c.entry n) (all_in_range n cs) all).1 (omega arith)

module _ (p : Plain) (line : List ℕ) (number room : ℕ) where
  abbrev more : List (Bool × Refusal)
  more = (ltb number (length p.list), NotListed) ∷ (leb (combination_length (places_of p)) room, OutputTooShort) ∷ []

  pub writing_stops : (e : Refusal) → first_no (line_questions p line) ≡ Some e → first_no (writing_questions p line number room) ≡ Some e
  writing_stops e is = first_no_stops (line_questions p line) more e is

  pub writing_accepted : first_no (line_questions p line) ≡ None → number < length p.list → combination_length (places_of p) ≤ room → first_no (writing_questions p line number room) ≡ None
  writing_accepted none below long =
      first_no_next (line_questions p line) more none
      ∙ none_from_all_yes more (lt-ltb number (length p.list) below, (le-leb (combination_length (places_of p)) room long, tt))

-- a line that was not refused has just the theme's places, and there are some
pub line_fits : (p : Plain) (line : List ℕ) → first_no (line_questions p line) ≡ None → (0 < places_of p) × (length line ≡ places_of p)
line_fits p line none =
    let q = all_yes (line_questions p line) none in
    (ltb-true 0 (places_of p) q.0, eqb-true (length line) (places_of p) q.1.0)
