-- A temperature found within its limits is the same at any greater ones: those of the search, and of each dew point on its way. Assumes nothing.
use mathlib.Core.Path.{refl}
use mathlib.Core.List.{List}
use Prim.Native.Nat.{ℕ, ◌≤◌}
use lib.Ieee.{Float}
use Rattle.floats.specs.Outcome.{Out}
use Rattle.thermo_types.specs.declared.ActivityOptions.{ActivityOptions}
use Rattle.thermo_models.specs.Model.{Activities, Liquids}
use Rattle.saturation.specs.Saturation.{Saturation}
use Rattle.saturation_temperature.specs.Search.{Point, search_from, solve_temperature}
use Rattle.saturation_temperature.specs.Boiling.{dew_point_from, dew_saturation, saturation_temperature, bubble_temperature}
use Rattle.saturation_temperature.specs.Boiling.{dew_point_at, dew_point, dew_found, dew_temperature}
use Rattle.limits.specs.Kept.{Kept, Spent, options_with}
use Rattle.limits.proofs.Kept.{raised_both, keeping, kept_refl, kept-no, kept-need, kept-choose, kept-bind}
use Rattle.limits.proofs.Saturation.{kept-dew_at}

-- f' is the curve f with its own limit raised
module _ (f f' : Float → Out Point) (curve : (t : Float) → Kept Spent (f t) (f' t)) where
  -- from a bracket after `done` turns
  pub kept-search : (tolerance : Float) (N N' : ℕ) → N ≤ N' → (done : ℕ) (b : _)
      → Kept Spent (search_from f tolerance N done b) (search_from f' tolerance N' done b)
  unfolding search_from
  kept-search tolerance N N' h done b =
      raised_both {S = ℕ × _} (Kept Spent) (λ l s. search_from f tolerance l s.0 s.1) (λ l s. search_from f' tolerance l s.0 s.1)
      (λ s. kept-no 27 refl) (λ l m rest s. kept-bind (curve _) (λ v. kept-choose _ kept_refl (kept-need _ 27 (rest (_, _))))) N N' h (done, b)

  module _ (o : ActivityOptions) (M M' N N' : ℕ) (h : N ≤ N') where
    pub kept-solve : Kept Spent (solve_temperature f (options_with o M N)) (solve_temperature f' (options_with o M' N'))
    unfolding solve_temperature
    kept-solve = search (keeping, curve, kept-search) depth 7

    kept-temperature : (found found' : ℕ → Float → Out Saturation) → ((k : ℕ) (t : Float) → Kept Spent (found k t) (found' k t)) → (p : Float)
        → Kept Spent (saturation_temperature f found (options_with o M N) p) (saturation_temperature f' found' (options_with o M' N') p)
    unfolding saturation_temperature
    kept-temperature found found' g p = search (keeping, kept-solve)

module _ (E : Activities) (L : Liquids) (n : ℕ) (o : ActivityOptions) (M M' N N' : ℕ) (h : M ≤ M') (g : N ≤ N') (p : Float) (x : List Float) where
  pub kept-bubble_temperature : Kept Spent (bubble_temperature E L n (options_with o M N) p x) (bubble_temperature E L n (options_with o M' N') p x)
  unfolding bubble_temperature
  kept-bubble_temperature = kept-temperature _ _ (λ t. kept_refl) o M M' N N' g _ _ (λ k t. kept_refl) p

  kept-dew_point : (t : Float) → Kept Spent (dew_point E L n (options_with o M N) p x t) (dew_point E L n (options_with o M' N') p x t)
  unfolding dew_point dew_point_at dew_point_from
  kept-dew_point t = search (keeping, kept-dew_at)

  kept-dew_found : (k : ℕ) (t : Float) → Kept Spent (dew_found E L n (options_with o M N) p x k t) (dew_found E L n (options_with o M' N') p x k t)
  unfolding dew_found dew_saturation
  kept-dew_found k t = search (keeping, kept-dew_at)

  pub kept-dew_temperature : Kept Spent (dew_temperature E L n (options_with o M N) p x) (dew_temperature E L n (options_with o M' N') p x)
  unfolding dew_temperature
  kept-dew_temperature = kept-temperature _ _ kept-dew_point o M M' N N' g _ _ kept-dew_found p
