-- From what a call promises of itself to the law over courses. Assumes nothing.
use Rattle.std.proofs.Common.{◌≡◌, ℕ, ◌≤◌, Bool, true, false, cond, List, ℤ, Some, None, Ok, Err, Option, Result, sym, refl, ap, ◌∙◌, subst, arith}
use Rattle.std.proofs.lemmas.Bool.{cond-false, true≢false, false≢true, leb-true}
use Rattle.measure.specs.Algebra.{Ring}
use Rattle.theme.specs.declared.refusal.PageRefusal.{PageRefusal}
use Rattle.theme.specs.Refusals.{first_no, answer}
use Rattle.theme.specs.Pages.{refusal_of}
use Rattle.theme.proofs.Asked.{all_yes, or_next_none}
use Rattle.rules.specs.declared.refusal.Refusal.{Refusal}
use Rattle.rules.specs.declared.refusal.Refusal.TheVariants.{NumberNotBelowCount}
use Rattle.rules.specs.Plain.{Plain, unless, loaded, added, add_questions, dropped, drop_questions, fixed, fix_questions, freed, free_questions}
use Rattle.rules.specs.Questions.{weigh_questions, pick_questions, unless_found, picked, count_of, weight_of, decide_no, least_no, pick_no, check_no}
use Rattle.rules.specs.Laws.{Decided, LeastFound, Picked, Checked}
use Rattle.rules.specs.Courses.{Handed, asked_of, Call, Load, Add, Drop, Fix, Free, Close, Reopen, Decide, Count, Weigh, Pick, Least, Check, No, page_no, call_no, of_page, of_call, no_to, lets, made, Reached, draft_at, closed_at, after}
use Rattle.rules.specs.Faults.{Told, Away, Refused, Done, Tells, of_load, of_add, of_drop, of_fix, of_free, of_close, of_reopen, of_decide, of_count, of_weigh, of_pick, of_least, of_check, Fault, decide_denies, decide_errs, decide_late, check_accepts, check_denies, miscounts, misweighs, pick_denies, pick_beyond, pick_errs, misnumbers, least_denies, least_errs, least_beaten, least_late, misrefuses, overlooks, misanswers, turns_away, lets_pass, Kept, told_page, told_done, told_line, told_number, told_weight}

-- Small facts --------------------------------------------------------------------------------------

some_not_none : {X Y : Type 0} (x : X) → ◌≡◌ {A = Option X} None (Some x) → Y
some_not_none x e = let z : ◌≡◌ {A = ℕ} 0 1 = cc in absurd (omega arith)

-- an accepted answer had no no, a refused one had just that
accepted_none : {X : Type 0} (x y : X) (o : Option Refusal) → ◌≡◌ {A = Result X Refusal} (Ok x) (answer y o) → o ≡ None
accepted_none x y None e = refl
accepted_none x y (Some r) e = let z : ◌≡◌ {A = ℕ} 0 1 = cc in absurd (omega arith)

accepted_value : {X : Type 0} (x y : X) (o : Option Refusal) → ◌≡◌ {A = Result X Refusal} (Ok x) (answer y o) → x ≡ y
accepted_value x y None e = cc
accepted_value x y (Some r) e = let z : ◌≡◌ {A = ℕ} 0 1 = cc in absurd (omega arith)

refused_some : {X : Type 0} (r : Refusal) (y : X) (o : Option Refusal) → ◌≡◌ {A = Result X Refusal} (Err r) (answer y o) → o ≡ Some r
refused_some r y None e = let z : ◌≡◌ {A = ℕ} 0 1 = cc in absurd (omega arith)
refused_some r y (Some s) e = let same : s ≡ r = cc in ap (λ (t : Refusal). Some t) same

unless_same : {R X : Type 0} (o : Option R) (x : X) → x ≡ unless o x x
unless_same None x = refl
unless_same (Some r) x = refl

module _ {M : Type 0} (R : Ring M) where
  -- what holds here holds after every course that leads here
  pub kept_from : (here : Reached) (call : Call) (told : Told M) (there : Reached) → (Fault R here call told → ⊥) → there ≡ after here call → Kept R here call told there
  kept_from here call told there faultless is course leads =
      (subst (λ (s : Reached). Fault R s call told → ⊥) leads faultless, is ∙ ap (λ (s : Reached). after s call) leads)

  -- a call that is not let through is turned away, and alters nothing
  pub away_kept : (s : Reached) (call : Call) → lets s.shut call ≡ false → Kept R s call Away s
  away_kept s call barred =
      kept_from s call Away s (away call barred) (sym (cond-false (lets s.shut call) _ s barred))
    where
      away : (call : Call) → lets s.shut call ≡ false → Fault R s call Away → ⊥
      away call barred (overlooks r some accepted) = false≢true accepted
      away call barred (misanswers accepted other) = false≢true accepted
      away call barred (turns_away lets-it) = true≢false (sym lets-it ∙ barred)
      away call barred (lets_pass still other) = other refl

  -- the law of a call by other names
  pub kept_is : (here : Reached) {call call' : Call} {told told' : Told M} {there there' : Reached} → call ≡ call' → told ≡ told' → there ≡ there' → Kept R here call' told' there' → Kept R here call told there
  kept_is here {call} {call'} {told} {told'} {there} {there'} calls tells theres kept =
      subst (λ (c : Call). Kept R here c told there) (sym calls)
      (subst (λ (t : Told M). Kept R here call' t there) (sym tells)
      (subst (λ (x : Reached). Kept R here call' told' x) (sym theres) kept))

  -- Changes ----------------------------------------------------------------------------------------

  draft_done : (p : Plain) (call : Call) → lets false call ≡ true → no_to p call ≡ None → Tells {M = M} call Done → Fault R (draft_at p) call Done → ⊥
  draft_done p call lets-it none tells (check_accepts wrong) = false≢true lets-it
  draft_done p call lets-it none tells (overlooks r some accepted) = some_not_none r (sym none ∙ some)
  draft_done p call lets-it none tells (misanswers accepted other) = other tells
  draft_done p call lets-it none tells (lets_pass barred other) = true≢false (sym lets-it ∙ barred)

  draft_refused : (p : Plain) (call : Call) (r : No) → lets false call ≡ true → no_to p call ≡ Some r → Fault R (draft_at p) call (Refused r) → ⊥
  draft_refused p call r lets-it some (decide_denies line stands) = false≢true lets-it
  draft_refused p call r lets-it some (check_denies about stands) = false≢true lets-it
  draft_refused p call r lets-it some (pick_denies below) = false≢true lets-it
  draft_refused p call r lets-it some (least_denies line stands) = false≢true lets-it
  draft_refused p call r lets-it some (misrefuses other) = other some
  draft_refused p call r lets-it some (overlooks s is accepted) = false≢true accepted
  draft_refused p call r lets-it some (misanswers accepted other) = false≢true accepted
  draft_refused p call r lets-it some (lets_pass barred other) = true≢false (sym lets-it ∙ barred)

  after_draft : (p : Plain) (call : Call) (o : Option No) → lets false call ≡ true → no_to p call ≡ o → after (draft_at p) call ≡ unless o (made p call) (draft_at p)
  after_draft p call o lets-it is =
      ap (λ (b : Bool). cond b (unless (no_to p call) (made p call) (draft_at p)) (draft_at p)) lets-it ∙ ap (λ (x : Option No). unless x (made p call) (draft_at p)) is

  -- a change with its own questions, and what it makes of the sheet
  change_kept : (p : Plain) (call : Call) (o : Option Refusal) (new there : Plain) (r : Result (Unit {0}) Refusal) → lets false call ≡ true → no_to p call ≡ of_call o → Tells {M = M} call Done → made p call ≡ draft_at new → r ≡ answer tt o → there ≡ unless o new p → Kept R (draft_at p) call (told_done r) (draft_at there)
  change_kept p call None new there r lets-it is tells makes answers held =
      kept_from (draft_at p) call (told_done r) (draft_at there)
      (subst (λ (x : Result (Unit {0}) Refusal). Fault R (draft_at p) call (told_done x) → ⊥) (sym answers) (draft_done p call lets-it is tells))
      (ap draft_at held ∙ sym makes ∙ sym (after_draft p call None lets-it is))
  change_kept p call (Some e) new there r lets-it is tells makes answers held =
      kept_from (draft_at p) call (told_done r) (draft_at there)
      (subst (λ (x : Result (Unit {0}) Refusal). Fault R (draft_at p) call (told_done x) → ⊥) (sym answers) (draft_refused p call (call_no e) lets-it is))
      (ap draft_at held ∙ sym (after_draft p call (Some (call_no e)) lets-it is))

  pub load_kept : (p : Plain) (page : List ℕ) (there : Plain) (r : Result (Unit {0}) PageRefusal) → r ≡ answer tt (refusal_of page) → there ≡ unless (refusal_of page) (loaded page) p → Kept R (draft_at p) (Load page) (told_page r) (draft_at there)
  load_kept p page there r = go (refusal_of page) refl
    where
      go : (o : Option PageRefusal) → refusal_of page ≡ o → r ≡ answer tt o → there ≡ unless o (loaded page) p → Kept R (draft_at p) (Load page) (told_page r) (draft_at there)
      go None is answers held =
          kept_from (draft_at p) (Load page) (told_page r) (draft_at there)
          (subst (λ (x : Result (Unit {0}) PageRefusal). Fault R (draft_at p) (Load page) (told_page x) → ⊥) (sym answers) (draft_done p (Load page) refl (ap of_page is) of_load))
          (ap draft_at held ∙ sym (after_draft p (Load page) None refl (ap of_page is)))
      go (Some e) is answers held =
          kept_from (draft_at p) (Load page) (told_page r) (draft_at there)
          (subst (λ (x : Result (Unit {0}) PageRefusal). Fault R (draft_at p) (Load page) (told_page x) → ⊥) (sym answers) (draft_refused p (Load page) (page_no e) refl (ap of_page is)))
          (ap draft_at held ∙ sym (after_draft p (Load page) (Some (page_no e)) refl (ap of_page is)))

  pub add_kept : (p : Plain) (jv entry : ℤ) (there : Plain) (r : Result (Unit {0}) Refusal) → r ≡ answer tt (first_no (add_questions p jv entry)) → there ≡ unless (first_no (add_questions p jv entry)) (added p jv entry) p → Kept R (draft_at p) (Add jv entry) (told_done r) (draft_at there)
  add_kept p jv entry there r = change_kept p (Add jv entry) (first_no (add_questions p jv entry)) (added p jv entry) there r refl refl of_add refl

  pub drop_kept : (p : Plain) (jv entry : ℤ) (there : Plain) (r : Result (Unit {0}) Refusal) → r ≡ answer tt (first_no (drop_questions p jv entry)) → there ≡ unless (first_no (drop_questions p jv entry)) (dropped p jv entry) p → Kept R (draft_at p) (Drop jv entry) (told_done r) (draft_at there)
  drop_kept p jv entry there r = change_kept p (Drop jv entry) (first_no (drop_questions p jv entry)) (dropped p jv entry) there r refl refl of_drop refl

  pub fix_kept : (p : Plain) (place key : ℕ) (there : Plain) (r : Result (Unit {0}) Refusal) → r ≡ answer tt (first_no (fix_questions p place key)) → there ≡ unless (first_no (fix_questions p place key)) (fixed p place key) p → Kept R (draft_at p) (Fix place key) (told_done r) (draft_at there)
  fix_kept p place key there r = change_kept p (Fix place key) (first_no (fix_questions p place key)) (fixed p place key) there r refl refl of_fix refl

  pub free_kept : (p : Plain) (place : ℕ) (there : Plain) (r : Result (Unit {0}) Refusal) → r ≡ answer tt (first_no (free_questions p place)) → there ≡ unless (first_no (free_questions p place)) (freed p place) p → Kept R (draft_at p) (Free place) (told_done r) (draft_at there)
  free_kept p place there r = change_kept p (Free place) (first_no (free_questions p place)) (freed p place) there r refl refl of_free refl

  pub close_kept : (p there : Plain) → there ≡ p → Kept R (draft_at p) Close Done (closed_at there)
  close_kept p there same = kept_from (draft_at p) Close Done (closed_at there) (draft_done p Close refl refl of_close) (ap closed_at same)

  pub reopen_kept : (p there : Plain) → there ≡ p → Kept R (closed_at p) Reopen Done (draft_at there)
  reopen_kept p there same = kept_from (closed_at p) Reopen Done (draft_at there) done (ap draft_at same)
    where
      done : Fault R (closed_at p) Reopen Done → ⊥
      done (overlooks r some accepted) = some_not_none r some
      done (misanswers accepted other) = other of_reopen
      done (lets_pass barred other) = true≢false barred

  -- Questions --------------------------------------------------------------------------------------

  module _ (p : Plain) (h : Handed) where
    -- a question leaves the sheet alone
    asked_kept : (call : Call) (told : Told M) → lets true call ≡ true → made p call ≡ closed_at p → (Fault R (closed_at p) call told → ⊥) → Kept R (closed_at p) call told (closed_at p)
    asked_kept call told lets-it same faultless =
        kept_from (closed_at p) call told (closed_at p) faultless
        (sym (ap (λ (b : Bool). cond b (unless (no_to p call) (made p call) (closed_at p)) (closed_at p)) lets-it ∙ ap (λ (x : Reached). unless (no_to p call) x (closed_at p)) same ∙ sym (unless_same (no_to p call) (closed_at p))))

    pub decide_kept : (room cells : ℕ) (r : Result (Unit {0}) Refusal) (line : List ℕ) → r ≡ answer tt (decide_no (asked_of p h) room cells) → Decided (asked_of p h) r line → Kept R (closed_at p) (Decide h room cells) (told_line r line) (closed_at p)
    decide_kept room cells r line is law = asked_kept (Decide h room cells) (told_line r line) refl refl (go r is law)
      where
        go : (r : Result (Unit {0}) Refusal) → r ≡ answer tt (decide_no (asked_of p h) room cells) → Decided (asked_of p h) r line → Fault R (closed_at p) (Decide h room cells) (told_line r line) → ⊥
        go (Ok u) is law (decide_errs wrong) = wrong law.0
        go (Ok u) is law (decide_late other stands earlier) = true≢false (sym earlier ∙ law.1 other stands)
        go (Ok u) is law (overlooks n some accepted) = some_not_none n (sym (ap of_call (accepted_none u tt _ is)) ∙ some)
        go (Ok u) is law (misanswers accepted other) = other of_decide
        go (Ok u) is law (lets_pass barred other) = true≢false barred
        go (Err e) is law (decide_denies other stands) = law refl other stands
        go (Err e) is law (misrefuses other) = other (ap of_call (refused_some e tt _ is))
        go (Err e) is law (overlooks n some accepted) = false≢true accepted
        go (Err e) is law (misanswers accepted other) = false≢true accepted
        go (Err e) is law (lets_pass barred other) = true≢false barred

    pub least_kept : (room cells : ℕ) (r : Result (Unit {0}) Refusal) (line : List ℕ) → r ≡ answer tt (least_no (asked_of p h) room cells) → LeastFound (asked_of p h) r line → Kept R (closed_at p) (Least h room cells) (told_line r line) (closed_at p)
    least_kept room cells r line is law = asked_kept (Least h room cells) (told_line r line) refl refl (go r is law)
      where
        go : (r : Result (Unit {0}) Refusal) → r ≡ answer tt (least_no (asked_of p h) room cells) → LeastFound (asked_of p h) r line → Fault R (closed_at p) (Least h room cells) (told_line r line) → ⊥
        go (Ok u) is law (least_errs wrong) = wrong law.0
        go (Ok u) is law (least_beaten other stands smaller) = let most = (law.1 other stands).0 in omega arith
        go (Ok u) is law (least_late other stands same earlier) = true≢false (sym earlier ∙ (law.1 other stands).1 same)
        go (Ok u) is law (overlooks n some accepted) = some_not_none n (sym (ap of_call (accepted_none u tt _ is)) ∙ some)
        go (Ok u) is law (misanswers accepted other) = other of_least
        go (Ok u) is law (lets_pass barred other) = true≢false barred
        go (Err e) is law (least_denies other stands) = law refl other stands
        go (Err e) is law (misrefuses other) = other (ap of_call (refused_some e tt _ is))
        go (Err e) is law (overlooks n some accepted) = false≢true accepted
        go (Err e) is law (misanswers accepted other) = false≢true accepted
        go (Err e) is law (lets_pass barred other) = true≢false barred

    -- a number that is picked is below the cap
    picked_small : (room cells number : ℕ) → pick_no (asked_of p h) room cells number ≡ None → number ≤ 999999999
    picked_small room cells number none =
        let all = all_yes (pick_questions p h.compass room cells number) (or_next_none (first_no (pick_questions p h.compass room cells number)) (unless_found (picked (asked_of p h) number) NumberNotBelowCount) none).0 in
        leb-true number 999999999 all.1.1.1.1.0

    pub pick_kept : (room cells number : ℕ) (r : Result (Unit {0}) Refusal) (line : List ℕ) → r ≡ answer tt (pick_no (asked_of p h) room cells number) → Picked (asked_of p h) number r line → Kept R (closed_at p) (Pick h room cells number) (told_line r line) (closed_at p)
    pick_kept room cells number r line is law = asked_kept (Pick h room cells number) (told_line r line) refl refl (go r is law)
      where
        go : (r : Result (Unit {0}) Refusal) → r ≡ answer tt (pick_no (asked_of p h) room cells number) → Picked (asked_of p h) number r line → Fault R (closed_at p) (Pick h room cells number) (told_line r line) → ⊥
        go (Ok u) is law (pick_beyond beyond) = let small = picked_small room cells number (accepted_none u tt _ is) in let below = law.0 in beyond (omega arith)
        go (Ok u) is law (pick_errs wrong) = wrong law.1.0
        go (Ok u) is law (misnumbers other) = other law.1.1
        go (Ok u) is law (overlooks n some accepted) = some_not_none n (sym (ap of_call (accepted_none u tt _ is)) ∙ some)
        go (Ok u) is law (misanswers accepted other) = other of_pick
        go (Ok u) is law (lets_pass barred other) = true≢false barred
        go (Err e) is law (pick_denies below) = let bound = law refl in omega arith
        go (Err e) is law (misrefuses other) = other (ap of_call (refused_some e tt _ is))
        go (Err e) is law (overlooks n some accepted) = false≢true accepted
        go (Err e) is law (misanswers accepted other) = false≢true accepted
        go (Err e) is law (lets_pass barred other) = true≢false barred

    pub check_kept : (r : Result (Unit {0}) Refusal) (line : List ℕ) → r ≡ answer tt (check_no (asked_of p h) line) → Checked (asked_of p h) r line → Kept R (closed_at p) (Check h line) (told_done r) (closed_at p)
    check_kept r line is law = asked_kept (Check h line) (told_done r) refl refl (go r is law)
      where
        go : (r : Result (Unit {0}) Refusal) → r ≡ answer tt (check_no (asked_of p h) line) → Checked (asked_of p h) r line → Fault R (closed_at p) (Check h line) (told_done r) → ⊥
        go (Ok u) is law (check_accepts wrong) = wrong law
        go (Ok u) is law (overlooks n some accepted) = some_not_none n (sym (ap of_call (accepted_none u tt _ is)) ∙ some)
        go (Ok u) is law (misanswers accepted other) = other of_check
        go (Ok u) is law (lets_pass barred other) = true≢false barred
        go (Err e) is law (check_denies about stands) = law about stands
        go (Err e) is law (misrefuses other) = other (ap of_call (refused_some e tt _ is))
        go (Err e) is law (overlooks n some accepted) = false≢true accepted
        go (Err e) is law (misanswers accepted other) = false≢true accepted
        go (Err e) is law (lets_pass barred other) = true≢false barred

    pub count_kept : (room : ℕ) (r : Result ℕ Refusal) → r ≡ answer (count_of (asked_of p h)) (first_no (weigh_questions p h.compass room)) → Kept R (closed_at p) (Count h room) (told_number r) (closed_at p)
    count_kept room r is = asked_kept (Count h room) (told_number r) refl refl (go r is)
      where
        go : (r : Result ℕ Refusal) → r ≡ answer (count_of (asked_of p h)) (first_no (weigh_questions p h.compass room)) → Fault R (closed_at p) (Count h room) (told_number r) → ⊥
        go (Ok n) is (miscounts other) = other (accepted_value n (count_of (asked_of p h)) _ is)
        go (Ok n) is (overlooks m some accepted) = some_not_none m (sym (ap of_call (accepted_none n (count_of (asked_of p h)) _ is)) ∙ some)
        go (Ok n) is (misanswers accepted other) = other of_count
        go (Ok n) is (lets_pass barred other) = true≢false barred
        go (Err e) is (misrefuses other) = other (ap of_call (refused_some e (count_of (asked_of p h)) _ is))
        go (Err e) is (overlooks n some accepted) = false≢true accepted
        go (Err e) is (misanswers accepted other) = false≢true accepted
        go (Err e) is (lets_pass barred other) = true≢false barred

    pub weigh_kept : (room : ℕ) (r : Result M Refusal) → r ≡ answer (weight_of R (asked_of p h)) (first_no (weigh_questions p h.compass room)) → Kept R (closed_at p) (Weigh h room) (told_weight r) (closed_at p)
    weigh_kept room r is = asked_kept (Weigh h room) (told_weight r) refl refl (go r is)
      where
        go : (r : Result M Refusal) → r ≡ answer (weight_of R (asked_of p h)) (first_no (weigh_questions p h.compass room)) → Fault R (closed_at p) (Weigh h room) (told_weight r) → ⊥
        go (Ok w) is (misweighs other) = other (accepted_value w (weight_of R (asked_of p h)) _ is)
        go (Ok w) is (overlooks n some accepted) = some_not_none n (sym (ap of_call (accepted_none w (weight_of R (asked_of p h)) _ is)) ∙ some)
        go (Ok w) is (misanswers accepted other) = other of_weigh
        go (Ok w) is (lets_pass barred other) = true≢false barred
        go (Err e) is (misrefuses other) = other (ap of_call (refused_some e (weight_of R (asked_of p h)) _ is))
        go (Err e) is (overlooks n some accepted) = false≢true accepted
        go (Err e) is (misanswers accepted other) = false≢true accepted
        go (Err e) is (lets_pass barred other) = true≢false barred
