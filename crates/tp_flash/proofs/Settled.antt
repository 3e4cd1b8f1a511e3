-- A flash from tables whose α are settled by its feed. Assumes nothing.
use Prim.Native.Nat.{ℕ, ◌+◌}
use mathlib.Core.Path.{◌≡◌, ap}
use mathlib.Core.List.{List}
use lib.Ieee.{Float}
use Rattle.floats.specs.Vector.{places}
use Rattle.floats.specs.Outcome.{ok, no, bind}
use Rattle.outcome.specs.declared.Refusal.{Refusal}
use Rattle.counted.specs.Counted.{count_word, Counts}
use Rattle.counted.proofs.Laws.{counts_one, counts_stop}
use Rattle.thermo_types.specs.declared.ActivityOptions.{ActivityOptions}
use Rattle.thermo_models.specs.declared.Tabled.{Tabled}
use Rattle.thermo_models.specs.Activity.{activity_by_reason, activity_on, settled_of}
use Rattle.thermo_models.proofs.Settled.{settled-tables, settled-activity, settled-refused}
use Rattle.saturation.specs.Saturation.{bubble_at}
use Rattle.tp_flash.specs.Counted.{phases_counted}

module _ {E : Type 0} (said : E → ℕ) (s : Tabled E) (table : List Float) (o : ActivityOptions) (z : List Float) (p : Float) (ps : List Float) where
  pub phases-settled : {r : Tabled Refusal} → ok r ≡ settled_of said s z
      → phases_counted (activity_by_reason said table s) (places s.n) o z p ps ≡ phases_counted (activity_on table r) (places r.n) o z p ps
  phases-settled {r} e =
      let q : r.n ≡ s.n = ap (λ (t : Tabled Refusal). t.n) (settled-tables said s z e) in
      rw (settled-activity said s z e table, q)

  pub phases-unsettled : {k old new : ℕ} → no k ≡ settled_of said s z → new ≡ count_word (old + 1)
      → Counts old (no k) new (phases_counted (activity_by_reason said table s) (places s.n) o z p ps)
  unfolding phases_counted bubble_at bind
  phases-unsettled e b = counts_stop _ (counts_one b (rw (settled-refused said s z e table)))
