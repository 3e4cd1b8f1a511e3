-- Without its count, the flash is the one of Split.antt and Tp.antt. Assumes nothing.
use Prim.Native.Nat.{ℕ, zero, suc}
use mathlib.Core.Path.{◌≡◌, refl}
use mathlib.Core.Bool.{Bool}
use mathlib.Core.List.{List}
use lib.Ieee.{Float}
use Rattle.floats.specs.Outcome.{Out}
use Rattle.counted.specs.Counted.{uncounted, evaluated}
use Rattle.counted.proofs.Laws.{forget_bind, forget_need, forget_choose}
use Rattle.thermo_types.specs.declared.ActivityOptions.{ActivityOptions}
use Rattle.thermo_models.specs.Model.{Activity, Activities, Liquids}
use Rattle.saturation.proofs.Forgets.{dew-outcome}
use Rattle.liquid_stability.proofs.Forgets.{stability_outcome}
use Rattle.tp_flash.specs.Split.{Split, split_turn, split_from}
use Rattle.tp_flash.specs.Tp.{stable_liquid, dew_of, as_liquid, as_both, boundary_of, from_split, split_feed, between_of, from_dew, phases_of, saturated_of, tp_flash}
use Rattle.tp_flash.specs.Counted.{split_turn_counted, split_counted, stable_counted, dew_of_counted, liquid_counted, both_counted, boundary_counted, from_split_counted, split_feed_counted, between_counted, from_dew_counted, phases_counted, saturated_counted, flash_counted}

module _ (E : List Float → Out Activity) (ps : List Float) (n : ℕ) (p : Float) (z : List Float) where
  turn-outcome : (lg : List Float) (iteration : ℕ) → (split_turn_counted E ps n p z lg iteration).outcome ≡ split_turn E ps n p z lg iteration
  unfolding split_turn_counted split_turn uncounted evaluated
  turn-outcome lg iteration = forget_bind _ _ _ refl (λ rr. forget_bind _ _ _ refl (λ x. forget_bind _ _ _ refl (λ y. refl)))

  pub split-outcome : (tolerance : Float) (left done : ℕ) (lg : List Float) → (split_counted E ps n p z tolerance left done lg).outcome ≡ split_from E ps n p z tolerance left done lg
  unfolding split_counted split_from uncounted
  split-outcome tolerance zero done lg = refl
  split-outcome tolerance (suc left) done lg =
      forget_bind _ _ _ (turn-outcome lg (suc done)) (λ t. forget_choose _ _ _ refl (split-outcome tolerance left (suc done) t.activity.ln_gamma))

module _ (E : List Float → Out Activity) (n : ℕ) (o : ActivityOptions) where
  stable-outcome : (x : List Float) → (stable_counted E n o x).outcome ≡ stable_liquid E n o x
  unfolding stable_counted stable_liquid uncounted
  stable-outcome x = forget_bind _ _ _ (stability_outcome E n o x) (λ s. refl)

  pub pressure-outcome : (z ps : List Float) (bubble : Float) → (dew_of_counted E n o z ps bubble).outcome ≡ dew_of E n o z ps bubble
  unfolding dew_of_counted dew_of uncounted
  pressure-outcome z ps bubble = forget_choose _ _ _ refl (forget_bind _ _ _ (dew-outcome E ps n o z) (λ d. refl))

  module _ (z : List Float) (bubble dew : Float) where
    liquid-outcome : (notes : ℕ) → (liquid_counted E n o z bubble dew notes).outcome ≡ as_liquid E n o z bubble dew notes
    unfolding liquid_counted as_liquid uncounted
    liquid-outcome notes = forget_bind _ _ _ (stable-outcome z) (λ s. refl)

    both-outcome : (s : Split) → (both_counted E n o z bubble dew s).outcome ≡ as_both E n o z bubble dew s
    unfolding both_counted as_both uncounted
    both-outcome s = forget_bind _ _ _ (stable-outcome s.liquid) (λ r. refl)

    from_outcome : (s : Split) → (from_split_counted E n o z bubble dew s).outcome ≡ from_split E n o z bubble dew s
    unfolding from_split_counted from_split boundary_counted boundary_of uncounted
    from_outcome s = forget_choose _ _ _ (forget_choose _ _ _ refl (liquid-outcome _)) (forget_need _ _ _ (both-outcome s))

module _ (E : List Float → Out Activity) (n : ℕ) (o : ActivityOptions) (z : List Float) (p : Float) (ps : List Float) where
  pub feed-outcome : (bubble dew : Float) → (split_feed_counted E n o z p ps bubble dew).outcome ≡ split_feed E n o z p ps bubble dew
  unfolding split_feed_counted split_feed evaluated
  feed-outcome bubble dew =
      forget_bind _ _ _ refl (λ a. forget_bind _ _ _ (split-outcome E ps n p z o.tolerance o.max_iterations 0 a.ln_gamma) (λ s. from_outcome E n o z bubble dew s))

  pub between-outcome : (bubble dew : Float) → (between_counted E n o z p ps bubble dew).outcome ≡ between_of E n o z p ps bubble dew
  unfolding between_counted between_of uncounted
  between-outcome bubble dew = forget_choose _ _ _ (liquid-outcome E n o z bubble dew _) (forget_choose _ _ _ refl (feed-outcome bubble dew))

  pub saturated-outcome : (saturated_counted E n o z ps).outcome ≡ saturated_of E n o z ps
  unfolding saturated_counted saturated_of evaluated uncounted
  saturated-outcome = forget_bind _ _ _ refl (λ b. forget_bind _ _ _ (pressure-outcome E n o z ps b.pressure) (λ dew. refl))

  pub phases-outcome : (phases_counted E n o z p ps).outcome ≡ phases_of E n o z p ps
  unfolding phases_counted phases_of from_dew_counted from_dew evaluated
  phases-outcome = forget_bind _ _ _ refl (λ b. forget_bind _ _ _ (pressure-outcome E n o z ps b.pressure) (λ dew. between-outcome b.pressure dew))

pub flash-outcome : (E : Activities) (L : Liquids) (D : Float → Bool) (n : ℕ) (o : ActivityOptions) (t : Float) (z : List Float) (p : Float)
    → (flash_counted E L D n o t z p).outcome ≡ tp_flash E L D n o t z p
unfolding flash_counted tp_flash uncounted
flash-outcome E L D n o t z p = forget_need _ _ _ (forget_need _ _ _ (forget_bind _ _ _ refl (λ pure. phases-outcome (E t) n o z p pure.pressure)))
