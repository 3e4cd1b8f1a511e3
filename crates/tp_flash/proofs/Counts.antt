-- At most n trials of the liquid, in an array of eight. Assumes nothing.
use mathlib.Core.Path.{◌≡◌}
use mathlib.Core.Bool.{Bool}
use mathlib.Core.List.{List}
use Prim.Native.Nat.{ℕ}
use lib.Ieee.{Float}
use Rattle.floats.specs.Outcome.{Out, ok}
use Rattle.floats.proofs.Outcomes.{Each, each-ok, each-need, each-choose, each-bind}
use Rattle.thermo_types.specs.declared.ActivityOptions.{ActivityOptions}
use Rattle.thermo_types.specs.Composition.{with_fractions}
use Rattle.thermo_models.specs.Model.{Activity, Pures, Activities, Liquids}
use Rattle.liquid_stability.proofs.Counts.{Few, few-none, stability_few}
use Rattle.tp_flash.specs.Split.{Split}
use Rattle.tp_flash.specs.Tp.{Flash, trials_of, stable_liquid, as_vapor, as_liquid, as_both, boundary_of, from_split, split_feed, between_of, from_dew, phases_of, tp_flash}

FewIn : ℕ → Flash → Type 0
FewIn n f = Few n (trials_of f)

module _ (E : List Float → Out Activity) (n : ℕ) (o : ActivityOptions) where
  stable-few : (x : List Float) → Each (Few n) (stable_liquid E n o x)
  unfolding stable_liquid
  stable-few x = each-bind (Few n) _ _ (λ s e. each-need (Few n) _ 29 (each-ok (Few n) ((stability_few E n o x).each s e)))

module _ (n : ℕ) where
  fractions-few : (x : ℕ → Float) {o : Out Flash} → Each (FewIn n) o → Each (FewIn n) (with_fractions x n o)
  unfolding with_fractions
  fractions-few x h = each-need (FewIn n) _ 15 (each-need (FewIn n) _ 16 (each-need (FewIn n) _ 18 h))

  vapor-few : (z : List Float) (bubble dew : Float) (notes : ℕ) → Each (FewIn n) (as_vapor n z bubble dew notes)
  unfolding as_vapor FewIn
  vapor-few z bubble dew notes = fractions-few _ (each-ok (FewIn n) (few-none n))

module _ (E : List Float → Out Activity) (n : ℕ) (o : ActivityOptions) (z : List Float) where
  liquid-few : (bubble dew : Float) (notes : ℕ) → Each (FewIn n) (as_liquid E n o z bubble dew notes)
  unfolding as_liquid FewIn
  liquid-few bubble dew notes = each-bind (FewIn n) _ _ (λ s e. fractions-few n _ (each-ok (FewIn n) ((stable-few E n o z).each s e)))

  both-few : (bubble dew : Float) (s : Split) → Each (FewIn n) (as_both E n o z bubble dew s)
  unfolding as_both FewIn
  both-few bubble dew s = each-bind (FewIn n) _ _ (λ r e. fractions-few n _ (fractions-few n _ (each-ok (FewIn n) ((stable-few E n o s.liquid).each r e))))

  split-few : (bubble dew : Float) (s : Split) → Each (FewIn n) (from_split E n o z bubble dew s)
  unfolding from_split boundary_of
  split-few bubble dew s =
      each-choose (FewIn n) _ (each-choose (FewIn n) _ (vapor-few n z bubble dew _) (liquid-few bubble dew _))
      (each-need (FewIn n) _ 30 (both-few bubble dew s))

module _ (E : List Float → Out Activity) (n : ℕ) (o : ActivityOptions) (z : List Float) (p : Float) (ps : List Float) where
  each-few : Each (FewIn n) (phases_of E n o z p ps)
  unfolding phases_of from_dew between_of split_feed
  each-few =
      each-bind (FewIn n) _ _ (λ b e.
      each-bind (FewIn n) _ _ (λ dew q.
      each-choose (FewIn n) _
      (liquid-few E n o z _ dew _)
      (each-choose (FewIn n) _
      (vapor-few n z _ dew _)
      (each-bind (FewIn n) _ _ (λ a u. each-bind (FewIn n) _ _ (λ s w. split-few E n o z _ dew s))))))

  pub phases-few : (f : Flash) → phases_of E n o z p ps ≡ ok f → Few n (trials_of f)
  unfolding FewIn
  phases-few f e = each-few.each f e

pub flash_few : (E : Activities) (L : Liquids) (D : Float → Bool) (n : ℕ) (o : ActivityOptions) (t : Float) (z : List Float) (p : Float)
    → (f : Flash) → tp_flash E L D n o t z p ≡ ok f → Few n (trials_of f)
unfolding FewIn tp_flash
flash_few E L D n o t z p f e =
    (each-need (FewIn n) _ 22 (each-need (FewIn n) _ 23 (each-bind (FewIn n) _ _ (λ (pure : Pures) q. each-few (E t) n o z p pure.pressure)))).each f e
