-- The one relation that a longer and a shorter call stand in: where the longer one is accepted, so is the shorter, and their answers are related. Assumes nothing.
use Rattle.std.specs.Prelude.{◌≡◌}
use Rattle.floats.specs.Outcome.{Out, ok, no}
use Rattle.counted.specs.Counted.{Counted}

abbrev pub Says : {A B : Type 0} → (A → B → Type 0) → Out A → Out B → Type 0
Says R (no r) o' = Unit {0}
Says R (ok a) (no r) = ⊥
Says R (ok a) (ok b) = R a b

pub record Acc {A B : Type 0} (R : A → B → Type 0) (o : Out A) (o' : Out B) : Type 0 where
  pub says : Says R o o'

-- counted calls: where the longer one is accepted, both have begun as many evaluations
pub record AccCounted {A B : Type 0} (R : A → B → Type 0) (c : Counted A) (c' : Counted B) : Type 0 where
  pub counted : Acc (λ (a : A) (b : B). R a b × (c.begun ≡ c'.begun)) c.outcome c'.outcome
