-- What the owner of a table learns from `tables`. Assumes nothing.
use Prim.Native.Nat.{ℕ}
use mathlib.Core.Path.{◌≡◌, ap, fun_ext}
use mathlib.Core.List.{List}
use lib.ListN.{length, replicate, length-replicate}
use lib.Ieee.{Float}
use Rattle.floats.specs.Arithmetic.{0f}
use Rattle.thermo_types.specs.declared.Temperature.{Temperature}
use Rattle.outcome.specs.declared.Refusal.{Refusal}
use Rattle.thermo_models.specs.declared.Tabled.{Tabled}
use Rattle.thermo_models.specs.Activity.{activity_in, excess_on, activity_on, activity_by_reason, excess_of, activity_of, tabled_by, Stands}

-- on a table that `tables` made, excess state and activity are those of the parameters
module _ {book : List ℕ} {P : List Float} {n : ℕ} {t : Temperature} {r : Tabled Refusal} {new : List Float} where
  pub stands-excess : {old : List Float} → Stands book P n t r old new → length old ≡ 512 → excess_on new r ≡ excess_of book P n t.0
  stands-excess h l = fun_ext (h.agrees l)

  pub stands-is : {old : List Float} → Stands book P n t r old new → length old ≡ 512 → activity_on new r ≡ activity_of book P n t.0
  unfolding activity_by_reason activity_of
  stands-is h l = fun_ext (λ x. ap activity_in (h.agrees l x))

  -- the owner's `[0.0; 512]`
  pub excess_fresh : Stands book P n t r (replicate 512 0f) new → excess_on new r ≡ excess_of book P n t.0
  excess_fresh h = stands-excess h (length-replicate 512 0f)

  pub stands_fresh : Stands book P n t r (replicate 512 0f) new → activity_on new r ≡ activity_of book P n t.0
  stands_fresh h = stands-is h (length-replicate 512 0f)

  -- the count beside it
  pub stands-count : {old : List Float} → Stands book P n t r old new → r.n ≡ n
  unfolding tabled_by
  stands-count h = ap (λ (s : Tabled Refusal). s.n) h.made.said
