-- The options of a run and their ranges (profile).
use Rattle.std.specs.Prelude.{ℕ, ◌≤◌}
use Rattle.ioa_record.specs.declared.options.TheConstants.{GREATEST_WORKERS, GREATEST_STEPS, GREATEST_ATTEMPTS}
use Rattle.ioa_record.specs.declared.options.TheConstants.{DEFAULT_WORKERS, DEFAULT_STEPS, DEFAULT_ATTEMPTS}

-- how many workers a run has, how long its schedule may become, and how many attempts each node has
pub record PlainOptions : Type 0 where
  pub workers : ℕ
  pub steps : ℕ
  pub attempts : ℕ

abbrev pub plain_options : ℕ → ℕ → ℕ → PlainOptions
plain_options workers steps attempts = record { workers = workers; steps = steps; attempts = attempts }

-- workers from 1, steps from 0, attempts from 1, each up to its greatest number
abbrev pub AreInRange : ℕ → ℕ → ℕ → Type 0
AreInRange workers steps attempts =
    (1 ≤ workers) × (workers ≤ GREATEST_WORKERS) × (steps ≤ GREATEST_STEPS)
    × (1 ≤ attempts) × (attempts ≤ GREATEST_ATTEMPTS)

-- the options if none are given
abbrev pub default_options : PlainOptions
default_options = plain_options DEFAULT_WORKERS DEFAULT_STEPS DEFAULT_ATTEMPTS
