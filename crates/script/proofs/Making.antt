-- Lines taken one by one make their calls one by one.
use Rattle.std.proofs.Common.{◌≡◌, ℕ, ◌+◌, ◌<◌, ◌≤◌, List, [], ◌∷◌, ◌++◌, length, get_or, take, Ok, Err, Result, sym, refl, ap, ◌∙◌, subst}
use Rattle.std.proofs.lemmas.List.{append-nil, take_all, take_more}
use Rattle.rules.specs.declared.refusal.Refusal.{Refusal}
use Rattle.course.specs.declared.call.Call.{Call}
use Rattle.script.specs.declared.gathering.Row.{Row}
use Rattle.script.specs.declared.step.Step.{Step}
use Rattle.script.specs.Steps.{Makes, MakeAll, steps_in, with_step}

with_step-++ : (made : Result Step Refusal) (steps others : List Step) → with_step made (steps ++ others) ≡ with_step made steps ++ others
with_step-++ (Ok step) steps others = refl
with_step-++ (Err refusal) steps others = refl

pub steps_in-++ : (rows others : List Row) → steps_in (rows ++ others) ≡ steps_in rows ++ steps_in others
steps_in-++ [] others = refl
steps_in-++ (row ∷ rows) others = rw (steps_in-++ rows others) (with_step-++ row.step (steps_in rows) (steps_in others))

pub make_all_push : (steps : List Step) (calls : List Call) (step : Step) (call : Call) → MakeAll steps calls → Makes step call → MakeAll (steps ++ step ∷ []) (calls ++ call ∷ [])
make_all_push [] [] step call m made = (made, tt)
make_all_push [] (c ∷ calls) step call m made = absurd m
make_all_push (s ∷ steps) [] step call m made = absurd m
make_all_push (s ∷ steps) (c ∷ calls) step call m made = (m.0, make_all_push steps calls step call m.1 made)

-- the calls of all lines, once each is taken
pub all_made : (items rows : List Row) (n : ℕ) (calls : List Call) → items ≡ rows → length items ≤ n → MakeAll (steps_in (take n items)) calls → MakeAll (steps_in rows) calls
all_made items rows n calls same all made =
    let P : List Row → Type 0 = λ xs. MakeAll (steps_in xs) calls in
    subst P (take_all n items all ∙ same) made

-- the steps of one line more
steps_in_more : (rows : List Row) (i : ℕ) (row : Row) → i < length rows → row ≡ get_or rows i row → steps_in (take (i + 1) rows) ≡ steps_in (take i rows) ++ with_step row.step []
steps_in_more rows i row less is =
    ap steps_in (take_more rows i row less) ∙ (ap (λ x. steps_in (take i rows ++ x ∷ [])) (sym is) ∙ steps_in-++ (take i rows) (row ∷ []))

module _ (rows : List Row) (i : ℕ) (row : Row) (calls after : List Call) (less : i < length rows) (is : row ≡ get_or rows i row) (made : MakeAll (steps_in (take i rows)) calls) where
  -- a line with a step makes one call more
  pub made_more : (step : Step) (call : Call) → row.step ≡ Ok step → Makes step call → after ≡ calls ++ call ∷ [] → MakeAll (steps_in (take (i + 1) rows)) after
  made_more step call ok makes pushed =
      let P : List Step → Type 0 = λ steps. MakeAll steps (calls ++ call ∷ []) in
      let Q : List Call → Type 0 = λ cs. MakeAll (steps_in (take (i + 1) rows)) cs in
      let e : steps_in (take (i + 1) rows) ≡ steps_in (take i rows) ++ step ∷ [] = steps_in_more rows i row less is ∙ ap (λ r. steps_in (take i rows) ++ with_step r []) ok in
      subst Q (sym pushed) (subst P (sym e) (make_all_push (steps_in (take i rows)) calls step call made makes))

  -- and one without makes none
  pub made_no_more : (refusal : Refusal) → row.step ≡ Err refusal → after ≡ calls → MakeAll (steps_in (take (i + 1) rows)) after
  made_no_more refusal err same =
      let P : List Step → Type 0 = λ steps. MakeAll steps calls in
      let Q : List Call → Type 0 = λ cs. MakeAll (steps_in (take (i + 1) rows)) cs in
      let e : steps_in (take (i + 1) rows) ≡ steps_in (take i rows) = steps_in_more rows i row less is ∙ (ap (λ r. steps_in (take i rows) ++ with_step r []) err ∙ append-nil (steps_in (take i rows))) in
      subst Q (sym same) (subst P (sym e) made)
