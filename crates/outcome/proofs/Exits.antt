-- What the exit of a `?` returns. Assumes nothing.
use mathlib.Core.Path.{◌≡◌, ap}
use Rattle.std.specs.Prelude.{ℕ, Result, Ok, Err}
use Rattle.std.specs.Result.{IsErrAnd}
use Rattle.floats.specs.Outcome.{no}
use Rattle.outcome.specs.Refused.{number, outcome_by, outcome_of}
use Rattle.outcome.specs.declared.Refusal.{Refusal}

-- the refusal that a `?` met is the one that is returned
pub met : {A : Type 0} (e : Refusal) (r : Result A Refusal) → IsErrAnd r (λ y. y ≡ e) → outcome_of r ≡ no (number e)
met e (Err y) h = ap (λ (x : Refusal). no (number x)) h
met e (Ok a) h = absurd h

module _ {A E : Type 0} (said : E → ℕ) where
  -- so is a reason
  pub met_reason : (e : E) (r : Result A E) → IsErrAnd r (λ y. y ≡ e) → outcome_by said r ≡ no (said e)
  met_reason e (Err y) h = ap (λ (x : E). no (said x)) h
  met_reason e (Ok a) h = absurd h

  -- and a reason made of the refusal says its number
  pub met_refusal : {Made : Refusal → E → Type 0} (of_refusal : (e : Refusal) (y : E) → Made e y → said y ≡ number e) (e : Refusal) (r : Result A E)
      → IsErrAnd r (λ y. Made e y) → outcome_by said r ≡ no (number e)
  met_refusal of_refusal e (Err y) h = ap no (of_refusal e y h)
  met_refusal of_refusal e (Ok a) h = absurd h
