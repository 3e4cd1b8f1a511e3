-- The relation between a calculation and the same one with limits raised: the second is the first, unless that was refused with a number that the limit gave.
-- Assumes nothing.
use Rattle.std.specs.Prelude.{◌≡◌, ◌⊎◌, ℕ}
use Rattle.floats.specs.Outcome.{Out, no}
use Rattle.counted.specs.Counted.{Counted}
use Rattle.thermo_types.specs.declared.ActivityOptions.{ActivityOptions}
use Rattle.question.specs.declared.Question.{Question}

-- o' is o, or o is refused with one of the numbers P
pub record Kept (P : ℕ → Type 0) {A : Type 0} (o o' : Out A) : Type 0 where
  pub same : ((e : ℕ) × (o ≡ no e) × P e) ⊎ (o ≡ o')

-- with the evaluations begun
pub record KeptCounted (P : ℕ → Type 0) {A : Type 0} (c c' : Counted A) : Type 0 where
  pub same : ((e : ℕ) × (c.outcome ≡ no e) × P e) ⊎ (c ≡ c')

-- no turn was left
abbrev pub Spent : ℕ → Type 0
Spent e = e ≡ 27

-- of a whole call: its own check, a limit of 0, no turn left
abbrev pub OfLimits : ℕ → Type 0
OfLimits e = (e ≡ 11) ⊎ ((e ≡ 20) ⊎ Spent e)

-- the options o with the limits M (max_iterations) and N (max_temperature_iterations)
abbrev pub options_with : ActivityOptions → ℕ → ℕ → ActivityOptions
options_with o M N = record {
  max_iterations = M;
  tolerance = o.tolerance;
  max_temperature_iterations = N;
  tm_threshold = o.tm_threshold;
  minimum_temperature_k = o.minimum_temperature_k;
  maximum_temperature_k = o.maximum_temperature_k;
}

-- the question q with them
abbrev pub question_with : Question → ℕ → ℕ → Question
question_with q M N = record {
  task = q.task;
  temperature = q.temperature;
  pressure = q.pressure;
  fractions = q.fractions;
  options = options_with q.options M N;
  ratios = q.ratios;
}
