-- Examples worked by hand.
-- Assumes nothing.
use Rattle.std.specs.Prelude.{◌≡◌, true, false, ℤ, pos, neg_ℤ, Ok}
use Rattle.counterpoint.specs.Interval.{class_of}
use Rattle.counterpoint.specs.Kind.{kind_answer}
use Rattle.books.specs.Strict.{strict_admits, strict_allows}
use Rattle.counterpoint.specs.declared.kinds.IntervalKind.TheVariants.{VariableConsonance, VariableDissonance}
use Rattle.counterpoint.specs.declared.moments.Accent.{Accent}
use Rattle.counterpoint.specs.declared.moments.Accent.TheVariants.{Strong}
use Rattle.counterpoint.specs.declared.moments.Moment.{Moment}
use Rattle.counterpoint.specs.declared.moments.Succession.{Succession}
use Rattle.counterpoint.specs.declared.moments.Voice.{Voice}
use Rattle.counterpoint.specs.declared.moments.Voice.TheVariants.{Struck, Held}

-- both voices struck at the interval i
abbrev pub both_struck : Accent → ℤ → Moment
both_struck a i = record { interval = i; line = Struck; theme = Struck; accent = a }

-- from the moment m by the steps dx and dc, with the second moment's voices and accent
abbrev pub leads : Moment → ℤ → ℤ → Voice → Voice → Accent → Succession
leads m dx dc line theme accent = record { first = m; dx = dx; dc = dc; line = line; theme = theme; accent = accent }

-- both voices struck twice, from the interval i by the steps dx and dc
abbrev pub struck_twice : Accent → Accent → ℤ → ℤ → ℤ → Succession
struck_twice a b i dx dc = leads (both_struck a i) dx dc Struck Struck b

-- a suspended strong fourth: the line is held at 3 and goes by dx, while the theme is struck and then held
abbrev pub suspended_fourth : Accent → ℤ → Succession
suspended_fourth b dx = leads (record { interval = pos 3; line = Held; theme = Struck; accent = Strong }) dx (pos 0) Struck Held b

-- whatever accents are left open, these hold
pub record WorkedExamples : Type 0 where
  pub class_of_minus_three : class_of (neg_ℤ (pos 3)) ≡ 3
  pub sixth_under_minus_eleven : kind_answer (neg_ℤ (pos 11)) (pos 5) ≡ Ok VariableConsonance
  pub seventh_under_minus_eleven : kind_answer (neg_ℤ (pos 11)) (pos 6) ≡ Ok VariableDissonance
  pub hundred_admitted : (a : Accent) → strict_admits (both_struck a (pos 100)) ≡ true
  pub hundred_and_two_refused : (a : Accent) → strict_admits (both_struck a (pos 102)) ≡ false
  pub hidden_fifth_refused : (a b : Accent) → strict_allows (struck_twice a b (pos 2) (pos 3) (pos 1)) ≡ false
  pub parallel_fifths_refused : (a b : Accent) → strict_allows (struck_twice a b (pos 4) (pos 1) (pos 1)) ≡ false
  pub parallel_thirds_allowed : (a b : Accent) → strict_allows (struck_twice a b (pos 2) (pos 1) (pos 1)) ≡ true
  pub fourth_resolved_down : (b : Accent) → strict_allows (suspended_fourth b (neg_ℤ (pos 1))) ≡ true
  pub fourth_resolved_up : (b : Accent) → strict_allows (suspended_fourth b (pos 1)) ≡ false
