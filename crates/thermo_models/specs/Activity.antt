-- Excess state and activity as the solvers take them: from the parameters, or from a table and what it stands for. Assumes nothing.
use Rattle.std.specs.Prelude.{ℕ, ◌≡◌, List, length, Float, Result, Ok}
use Rattle.floats.specs.Vector.{at, places}
use Rattle.floats.specs.Outcome.{Out, ok, no, bind}
use Rattle.thermo_types.specs.declared.Temperature.{Temperature}
use Rattle.outcome.specs.declared.Refusal.{Refusal}
use Rattle.outcome.specs.Refused.{number, outcome_by}
use Rattle.book.specs.declared.Model.{Model}
use Rattle.book.specs.declared.Model.TheVariants.{Nrtl, Wilson}
use Rattle.book.specs.Book.{model_of}
use Rattle.excess.specs.State.{Excess, with_state}
use Rattle.nrtl_tables.specs.Table.{table_of, alphas_of}
use Rattle.nrtl.specs.State.{nrtl_of}
use Rattle.nrtl.specs.On.{nrtl_on}
use Rattle.wilson_tables.specs.Table.{lambdas_of}
use Rattle.wilson.specs.State.{wilson_of}
use Rattle.wilson.specs.On.{wilson_on}
use Rattle.thermo_models.specs.declared.Tabled.{Tabled}
use Rattle.thermo_models.specs.Model.{Activity}

-- ln γ and slopes of an excess state
unfoldable pub activity_in : Out Excess → Out Activity
activity_in o = bind o (λ e. ok (record { ln_gamma = e.ln_gamma; slopes = e.slopes }))

-- ---- of the parameters P of n solvents, at T and x
unfoldable pub excess_by : Model → List Float → ℕ → Float → List Float → Out Excess
excess_by Nrtl P n t x = nrtl_of P n t (at x)
excess_by Wilson P n t x = wilson_of P n t (at x)

-- by the book's model
unfoldable pub excess_of : List ℕ → List Float → ℕ → Float → List Float → Out Excess
excess_of book P n t x = excess_by (model_of book) P n t x

unfoldable pub activity_of : List ℕ → List Float → ℕ → Float → List Float → Out Activity
activity_of book P n t x = activity_in (excess_of book P n t x)

-- ---- of a table and what it stands for, whose α were answered no with the number that this says
unfoldable pub model_on : Model → List Float → Out (Unit {0}) → ℕ → Float → (ℕ → Float) → Out Excess
model_on Nrtl table alphas n t x = nrtl_on table alphas n t x
model_on Wilson table alphas n t x = wilson_on table n t x

module _ {E : Type 0} (said : E → ℕ) where
  unfoldable pub excess_by_reason : List Float → Tabled E → List Float → Out Excess
  excess_by_reason table s x = model_on s.model table (outcome_by said s.alphas) (places s.n) s.t.0 (at x)

  unfoldable pub activity_by_reason : List Float → Tabled E → List Float → Out Activity
  activity_by_reason table s x = activity_in (excess_by_reason table s x)

-- α asked ahead of a solver that begins at x: by Wilson's equation there are none; else what the state of x is refused with, first of all x itself
unfoldable pub settled_by : Model → Out (Unit {0}) → Tabled Refusal → ℕ → Float → (ℕ → Float) → Out (Tabled Refusal)
settled_by Wilson alphas s n t x = ok s
settled_by Nrtl (ok u) s n t x = ok s
settled_by Nrtl (no k) s n t x = with_state t x n (no k)

-- the same, and its α passed
abbrev pub passed : {E : Type 0} → Tabled E → Tabled Refusal
passed s = record { model = s.model; alphas = Ok tt; n = s.n; t = s.t }

unfoldable pub settled_of : {E : Type 0} → (E → ℕ) → Tabled E → List Float → Out (Tabled Refusal)
settled_of said s x = settled_by s.model (outcome_by said s.alphas) (passed s) (places s.n) s.t.0 (at x)

-- where it is a refusal, as `tables` has it
abbrev pub excess_on : List Float → Tabled Refusal → List Float → Out Excess
excess_on = excess_by_reason number

abbrev pub activity_on : List Float → Tabled Refusal → List Float → Out Activity
activity_on = activity_by_reason number

-- a table of P at t in the place of an old one, and what it stands for: Wilson has no α to refuse
unfoldable pub table_by : Model → List Float → ℕ → Float → List Float → List Float
table_by Nrtl P n t old = table_of P n t old
table_by Wilson P n t old = lambdas_of P n t old

unfoldable pub alphas_by : Model → List Float → ℕ → Float → Result (Unit {0}) Refusal
alphas_by Nrtl P n t = alphas_of P n t
alphas_by Wilson P n t = Ok tt

unfoldable pub tabled_by : Model → List Float → ℕ → Temperature → Tabled Refusal
tabled_by m P n t = record { model = m; alphas = alphas_by m P n t.0; n = n; t = t }

-- so made: what is said of it, and the table
pub record Made (m : Model) (P : List Float) (n : ℕ) (t : Temperature) (r : Tabled Refusal) (old new : List Float) : Type 0 where
  pub said : r ≡ tabled_by m P n t
  pub table : new ≡ table_by m P n t.0 old

-- what `tables` answers and makes of an old table; so made, the table and r stand for the parameters at t
pub record Stands (book : List ℕ) (P : List Float) (n : ℕ) (t : Temperature) (r : Tabled Refusal) (old new : List Float) : Type 0 where
  pub made : Made (model_of book) P n t r old new
  pub agrees : length old ≡ 512 → (x : List Float) → excess_on new r x ≡ excess_of book P n t.0 x
