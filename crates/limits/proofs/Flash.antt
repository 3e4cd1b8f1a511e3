-- A flash that ends within M is the same at any greater limit, its evaluations too: its dew point, its split and the trials of its liquid are. Assumes nothing.
use mathlib.Core.Path.{refl}
use mathlib.Core.Bool.{Bool}
use mathlib.Core.List.{List}
use Prim.Native.Nat.{ℕ, ◌≤◌}
use lib.Ieee.{Float}
use Rattle.floats.specs.Outcome.{Out}
use Rattle.thermo_types.specs.declared.ActivityOptions.{ActivityOptions}
use Rattle.thermo_models.specs.Model.{Activity, Activities, Liquids}
use Rattle.tp_flash.specs.Split.{Split}
use Rattle.tp_flash.specs.Counted.{split_counted, stable_counted, dew_of_counted, liquid_counted, both_counted, boundary_counted, from_split_counted}
use Rattle.tp_flash.specs.Counted.{split_feed_counted, between_counted, from_dew_counted, phases_counted, flash_counted}
use Rattle.limits.specs.Kept.{KeptCounted, Spent, options_with}
use Rattle.limits.proofs.Kept.{raised, counting, counted_refl, counted-no, counted-choose, counted-bind}
use Rattle.limits.proofs.Saturation.{kept-dew}
use Rattle.limits.proofs.Stability.{kept_stability}

-- from ln γ after `done` turns; Rachford-Rice has 200 in each, whatever M is
pub kept-split : (E : List Float → Out Activity) (ps : List Float) (n : ℕ) (p : Float) (z : List Float) (tolerance : Float) (M M' : ℕ) → M ≤ M'
    → (done : ℕ) (lg : List Float)
    → KeptCounted Spent (split_counted E ps n p z tolerance M done lg) (split_counted E ps n p z tolerance M' done lg)
unfolding split_counted
kept-split E ps n p z tolerance M M' h done lg =
    raised {S = ℕ × List Float} (KeptCounted Spent) (λ l s. split_counted E ps n p z tolerance l s.0 s.1) (λ s. counted-no 27 refl)
    (λ l m rest s. counted-bind counted_refl (λ turn. counted-choose _ counted_refl (rest (_, _)))) M M' h (done, lg)

module _ (E : List Float → Out Activity) (n : ℕ) (o : ActivityOptions) (M M' N N' : ℕ) (h : M ≤ M') (z : List Float) where
  kept-stable : (x : List Float) → KeptCounted Spent (stable_counted E n (options_with o M N) x) (stable_counted E n (options_with o M' N') x)
  unfolding stable_counted
  kept-stable x = search (counting, kept_stability)

  kept-liquid : (bubble dew : Float) (notes : ℕ)
      → KeptCounted Spent (liquid_counted E n (options_with o M N) z bubble dew notes) (liquid_counted E n (options_with o M' N') z bubble dew notes)
  unfolding liquid_counted
  kept-liquid bubble dew notes = search (counting, kept-stable)

  kept-from_split : (bubble dew : Float) (s : Split)
      → KeptCounted Spent (from_split_counted E n (options_with o M N) z bubble dew s) (from_split_counted E n (options_with o M' N') z bubble dew s)
  unfolding from_split_counted boundary_counted both_counted
  kept-from_split bubble dew s = search (counting, kept-stable, kept-liquid)

  module _ (p : Float) (ps : List Float) where
    kept-split_feed : (bubble dew : Float)
        → KeptCounted Spent (split_feed_counted E n (options_with o M N) z p ps bubble dew) (split_feed_counted E n (options_with o M' N') z p ps bubble dew)
    unfolding split_feed_counted
    kept-split_feed bubble dew = search (counting, kept-split, kept-from_split)

    kept-phases : KeptCounted Spent (phases_counted E n (options_with o M N) z p ps) (phases_counted E n (options_with o M' N') z p ps)
    unfolding phases_counted from_dew_counted dew_of_counted between_counted
    kept-phases = search (counting, kept-dew, kept-liquid, kept-split_feed) depth 7

module _ (E : Activities) (L : Liquids) (D : Float → Bool) (n : ℕ) (o : ActivityOptions) (M M' N N' : ℕ) (h : M ≤ M') where
  pub kept-flash : (t : Float) (z : List Float) (p : Float)
      → KeptCounted Spent (flash_counted E L D n (options_with o M N) t z p) (flash_counted E L D n (options_with o M' N') t z p)
  unfolding flash_counted
  kept-flash t z p = search (counting, kept-phases)
