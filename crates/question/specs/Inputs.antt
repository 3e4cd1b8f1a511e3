-- The tasks by their number, and which inputs each needs (docs/FORMAT.md, "Refusals"). Assumes nothing.
use Rattle.std.specs.Prelude.{ℕ, Bool, not, ◌&&◌, ◌||◌, eqb, leb, Result, Ok, Err}
use Rattle.floats.specs.Outcome.{Out, ok, no}
use Rattle.outcome.specs.Refused.{number}
use Rattle.outcome.specs.declared.Refusal.{Refusal}
use Rattle.question.specs.declared.Task.{Task}
use Rattle.question.specs.declared.Task.TheVariants.{Activity, BubblePressure, DewPressure, BubbleTemperature, DewTemperature, Stability, Flash, Split, NegativeSplit}

abbrev pub task_number : Task → ℕ
task_number Activity = 1
task_number BubblePressure = 2
task_number DewPressure = 3
task_number BubbleTemperature = 4
task_number DewTemperature = 5
task_number Stability = 6
task_number Flash = 7
task_number Split = 8
task_number NegativeSplit = 9

-- a task that was read, as its number
abbrev pub task_found : Result Task Refusal → Out ℕ
task_found (Ok t) = ok (task_number t)
task_found (Err r) = no (number r)

-- from a to b
abbrev pub within : ℕ → ℕ → ℕ → Bool
within a b k = leb a k && leb k b

-- tasks: 1 to 9
abbrev pub is_task : ℕ → Bool
is_task k = within 1 9 k

-- temperature: 1, 2, 3, 6, 7
abbrev pub needs_temperature : ℕ → Bool
needs_temperature k = within 1 3 k || within 6 7 k

-- pressure: 4, 5, 7
abbrev pub needs_pressure : ℕ → Bool
needs_pressure k = within 4 5 k || eqb k 7

-- options and both limits: 3 to 7
abbrev pub needs_options : ℕ → Bool
needs_options k = within 3 7 k

-- K values, and M alone of the limits: 8 and 9
abbrev pub needs_ratios : ℕ → Bool
needs_ratios k = within 8 9 k

-- a test of what a task may not need
abbrev pub if_needed : Bool → Bool → Bool
if_needed needed test = not needed || test
