-- For callers: what stands beside a table that `tables` made, and a count that needs no bound. Assumes nothing.
use Prim.Native.Nat.{ℕ, ◌≤◌}
use mathlib.Core.Path.{◌≡◌}
use mathlib.Core.List.{List}
use native.Mathlib.Omega.{arith}
use lib.Ieee.{Float}
use Rattle.floats.specs.Vector.{places}
use Rattle.thermo_types.specs.declared.Temperature.{Temperature}
use Rattle.outcome.specs.declared.Refusal.{Refusal}
use Rattle.thermo_models.specs.declared.Tabled.{Tabled}
use Rattle.thermo_models.specs.Activity.{Stands, tabled_by}
use Rattle.thermo_models.proofs.Answers.{stands-count}

pub places_is : (n : ℕ) → n ≤ 8 → places n ≡ n
places_is n h = omega arith

pub stands-places : (n : ℕ) {book : List ℕ} {P : List Float} {t : Temperature} {r : Tabled Refusal} {old new : List Float} → Stands book P (places n) t r old new → places r.n ≡ places n
stands-places n {r = r} h =
    let e : r.n ≡ places n = stands-count h in
    omega arith

pub stands-kelvin : {book : List ℕ} {P : List Float} {n : ℕ} {t : Temperature} {r : Tabled Refusal} {old new : List Float} → Stands book P n t r old new → r.t ≡ t
unfolding tabled_by
stands-kelvin h = rw h.made.said
