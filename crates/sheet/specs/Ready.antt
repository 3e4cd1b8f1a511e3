-- What the tasks at a temperature share, whatever the feed: the vapor pressures that a task reads, and tables that stand for the mixture. Assumes nothing.
use Rattle.std.specs.Prelude.{ℕ, ◌≡◌, ◌||◌, List, eqb, Float, Result, Ok, Err}
use Rattle.floats.specs.Vector.{places, zeros8}
use Rattle.floats.specs.Outcome.{Out, ok, no, bind, need, choose}
use Rattle.outcome.specs.Refused.{number}
use Rattle.outcome.specs.declared.Refusal.{Refusal}
use Rattle.thermo_types.specs.Quantities.{positive_of}
use Rattle.thermo_models.specs.declared.Tabled.{Tabled}
use Rattle.thermo_models.specs.Model.{Pures, pressure_in_domain}
use Rattle.thermo_models.specs.Activity.{excess_by_reason}
use Rattle.thermo_models.specs.Mixture.{Mixture}

-- the vapor pressures of the pure liquids
unfoldable pub pressures_in : Out Pures → Out (List Float)
pressures_in o = bind o (λ pure. ok pure.pressure)

module _ (m : Mixture) where
  -- those that 7 reads at t and p: both in the domain (22, 23), then the pure liquids
  unfoldable pub flash_pressures : Float → Float → Out (List Float)
  flash_pressures t p = need (m.domain t) 22 (need (pressure_in_domain p) 23 (pressures_in (m.liquids t)))

  -- by the task: 1 and 6 read none, 2 and 3 those of the pure liquids (22, 25), 7 its own after 14
  unfoldable pub pressures_for : ℕ → Float → Float → Out (List Float)
  pressures_for task p t =
      choose (eqb task 1 || eqb task 6) (ok zeros8)
      (choose (eqb task 2 || eqb task 3) (pressures_in (m.liquids t))
      (bind (positive_of p 14) (flash_pressures t)))

module _ {E : Type 0} (said : E → ℕ) where
  -- a table and what it stands for, which is the mixture at their temperature
  pub record TableBy (m : Mixture) (s : Tabled E) (table : List Float) : Type 0 where
    pub count : places s.n ≡ m.n
    pub excess : (x : List Float) → excess_by_reason said table s x ≡ m.excess s.t.0 x

  -- what was made ready for a task at T, 7 at p too
  pub record ReadiedBy (m : Mixture) (task : ℕ) (T p : Float) (r : Result (Tabled E) E) (table ps : List Float) : Type 0 where
    pub refused : (e : E) → r ≡ Err e → bind (positive_of T 13) (pressures_for m task p) ≡ no (said e)
    pub temperature : (s : Tabled E) → r ≡ Ok s → positive_of T 13 ≡ ok s.t.0
    pub pressures : (s : Tabled E) → r ≡ Ok s → pressures_for m task p s.t.0 ≡ ok ps
    pub tables : (s : Tabled E) → r ≡ Ok s → TableBy m s table

-- with a refusal, as `make_ready` has it
abbrev pub TableOf : Mixture → Tabled Refusal → List Float → Type 0
TableOf m s table = TableBy number m s table

abbrev pub Readied : Mixture → ℕ → Float → Float → Result (Tabled Refusal) Refusal → List Float → List Float → Type 0
Readied m task T p r table ps = ReadiedBy number m task T p r table ps
