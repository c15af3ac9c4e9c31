-- One call more of a course. Assumes nothing.
use Rattle.std.proofs.Common.{◌≡◌, ℕ, ◌+◌, List, [], ◌∷◌, ◌++◌, map, take, sym, refl, ap, ◌∙◌, subst}
use Rattle.std.proofs.lemmas.List.{map_push}
use Rattle.measure.specs.Algebra.{Ring}
use Rattle.rules.specs.Courses.{Call, Reached, Course, Blank, Then, then_all, reached}
use Rattle.rules.specs.Faults.{Told, Fault, Kept, Faultless}
use Rattle.rules.proofs.Faultless.{kept_is}

then_more : (course : Course) (calls : List Call) (call : Call) → then_all course (calls ++ call ∷ []) ≡ Then (then_all course calls) call
then_more course [] call = refl
then_more course (first ∷ calls) call = then_more (Then course first) calls call

module _ {M : Type 0} (R : Ring M) where
  faultless_more : (course : Course) (calls : List Call) (tolds : List (Told M)) (call : Call) (told : Told M) → Faultless R course calls tolds → (Fault R (reached (then_all course calls)) call told → ⊥) → Faultless R course (calls ++ call ∷ []) (tolds ++ told ∷ [])
  faultless_more course [] [] call told before faultless = (faultless, tt)
  faultless_more course [] (other ∷ tolds) call told before faultless = absurd before
  faultless_more course (first ∷ calls) [] call told before faultless = absurd before
  faultless_more course (first ∷ calls) (other ∷ tolds) call told before faultless =
      (before.0, faultless_more (Then course first) calls tolds call told before.1 faultless)

  -- the call at i played after those before it, by a name that is the same
  pub played_more : {A : Type 0} (name name' : A → Call) → ((x : A) → name x ≡ name' x) → (calls : List A) (i : ℕ) (call : A) (tolds : List (Told M)) (told : Told M) (here there : Reached) → take (i + 1) calls ≡ take i calls ++ call ∷ [] → Faultless R Blank (map name (take i calls)) tolds → here ≡ reached (then_all Blank (map name (take i calls))) → Kept R here (name' call) told there → Faultless R Blank (map name (take (i + 1) calls)) (tolds ++ told ∷ []) × (there ≡ reached (then_all Blank (map name (take (i + 1) calls))))
  played_more name name' same calls i call tolds told here there more before leads kept' =
      let played = map name (take i calls) in
      let kept = kept_is R here (same call) refl refl kept' in
      let one = kept (then_all Blank played) leads in
      let grown : map name (take (i + 1) calls) ≡ played ++ name call ∷ [] = ap (map name) more ∙ map_push name (take i calls) call in (
        subst (λ (cs : List Call). Faultless R Blank cs (tolds ++ told ∷ [])) (sym grown) (faultless_more Blank played tolds (name call) told before one.0),
        one.1 ∙ ap reached (sym (ap (then_all Blank) grown ∙ then_more Blank played (name call))),
      )
