-- Compass and trial. Assumes nothing.
use Rattle.std.specs.Prelude.{ℕ, Bool, true, ◌&&◌, List, [], ◌∷◌, Some, None, Option, nat_le}
use Rattle.rules.specs.declared.refusal.Refusal.{Refusal}
use Rattle.rules.specs.declared.refusal.Refusal.TheVariants.{CompassUnfit, TrialPlaceOutOfRange, TrialKeyOutOfCompass}
use Rattle.rules.specs.declared.trial.Trial.{Trial}

-- a compass as a value: its lowest and its highest key, and at most one tried key at a place
pub record PlainCompass : Type 0 where
  pub lowest : ℕ
  pub highest : ℕ
  pub trial : Option Trial

-- does a key lie in a compass?
abbrev pub between : ℕ → ℕ → ℕ → Bool
between lowest highest key = nat_le lowest key && nat_le key highest

-- lowest ≤ highest ≤ 23
abbrev pub keys_fit : ℕ → ℕ → Bool
keys_fit lowest highest = nat_le lowest highest && nat_le highest 23

-- a tried key lies in the compass, at a place of at most 63
abbrev pub trial_fits : ℕ → ℕ → Option Trial → Bool
trial_fits lowest highest None = true
trial_fits lowest highest (Some trial) = nat_le trial.place 63 && between lowest highest trial.key

-- what making a compass asks
abbrev pub compass_questions : ℕ → ℕ → List (Bool × Refusal)
compass_questions lowest highest = (keys_fit lowest highest, CompassUnfit) ∷ []

-- what the inquiry after a trial asks, in this order
abbrev pub trial_questions : PlainCompass → Trial → List (Bool × Refusal)
trial_questions compass trial =
    (nat_le trial.place 63, TrialPlaceOutOfRange) ∷ (between compass.lowest compass.highest trial.key, TrialKeyOutOfCompass) ∷ []

-- the compass with another trial in force
abbrev pub with_trial : PlainCompass → Option Trial → PlainCompass
with_trial compass trial = record { lowest = compass.lowest; highest = compass.highest; trial = trial }
