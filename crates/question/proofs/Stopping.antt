-- An answer, and what it tells of the questions. Assumes nothing.
use Rattle.std.proofs.Common.{◌≡◌, ℕ, Some, None, Ok, Err, Option, Result, sym, refl, ap, ◌∙◌, arith}
use Rattle.theme.specs.Refusals.{answer}
use Rattle.rules.specs.declared.refusal.Refusal.{Refusal}

-- an answer without a no
pub accepted_is : {X : Type 0} (o : Option Refusal) (x y : X) → x ≡ y → o ≡ None → ◌≡◌ {A = Result X Refusal} (Ok x) (answer y o)
accepted_is {X} o x y same none = ap (λ (v : X). Ok v) same ∙ sym (ap (λ (p : Option Refusal). answer y p) none)

-- an answer with one
pub stopped_is : {X : Type 0} (o : Option Refusal) (e : Refusal) (y : X) → o ≡ Some e → ◌≡◌ {A = Result X Refusal} (Err e) (answer y o)
stopped_is o e y some = sym (ap (λ (p : Option Refusal). answer y p) some)

-- and what an answer tells of the questions
pub told_no : {X : Type 0} (o : Option Refusal) (e : Refusal) (y : X) → ◌≡◌ {A = Result X Refusal} (Err e) (answer y o) → o ≡ Some e
told_no None e y is = let z : ◌≡◌ {A = ℕ} 0 1 = cc in absurd (omega arith)
told_no (Some r) e y is = cc

pub told_value : {X : Type 0} (o : Option Refusal) (x y : X) → ◌≡◌ {A = Result X Refusal} (Ok x) (answer y o) → (o ≡ None) × (x ≡ y)
told_value None x y is = (refl, cc)
told_value (Some r) x y is = let z : ◌≡◌ {A = ℕ} 0 1 = cc in absurd (omega arith)
