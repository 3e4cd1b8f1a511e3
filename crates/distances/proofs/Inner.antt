-- Once T and p have passed, no flash is refused by 14 or 23. Assumes nothing.
use Prim.Native.Nat.{ℕ, zero, suc}
use mathlib.Core.Path.{◌≡◌, refl, sym}
use mathlib.Core.Logic.{◌⊎◌, inl, inr}
use mathlib.Core.Bool.{Bool, true, false, not, ◌&&◌}
use mathlib.Core.List.{List}
use lib.Dec.{T, eqb}
use lib.Ieee.{Float}
use Rattle.floats.specs.Vector.{at}
use Rattle.floats.specs.Outcome.{Out, ok, no, bind, need, choose}
use Rattle.floats.proofs.Outcomes.{refused}
use Rattle.thermo_types.specs.Composition.{with_fractions, normalize_of}
use Rattle.thermo_types.specs.declared.ActivityOptions.{ActivityOptions}
use Rattle.book.specs.declared.Model.{Model}
use Rattle.book.specs.declared.Model.TheVariants.{Nrtl, Wilson}
use Rattle.book.specs.Book.{model_of}
use Rattle.excess.specs.State.{state_with, state_from, with_state}
use Rattle.nrtl.specs.State.{nrtl_of}
use Rattle.wilson.specs.State.{wilson_of}
use Rattle.thermo_models.specs.Model.{Activity}
use Rattle.thermo_models.specs.Activity.{excess_by, excess_of, activity_in}
use Rattle.thermo_models.specs.Mixture.{activity, mixture_of}
use Rattle.rachford_rice.specs.Rachford.{validate, iterate, between, negative}
use Rattle.saturation.specs.Saturation.{bubble_from, residual_with, dew_liquid, bubble_at, dew_turn, dew_point, dew_loop, dew_at}
use Rattle.liquid_stability.specs.Stability.{judge, trial_from, trials_to, stability_of}
use Rattle.tp_flash.specs.Split.{Split, phase_of, turn_at, split_turn, split_from}
use Rattle.tp_flash.specs.Tp.{stable_liquid, dew_of, as_vapor, as_liquid, as_both, boundary_of, from_split, split_feed, between_of, from_dew, phases_of}
use Rattle.distance.specs.Steps.{phases_in}

-- the other numbers; the test computes at a numeral
abbrev is_inner : ℕ → Bool
is_inner r = not (eqb r 14) && not (eqb r 23)

pub record Inner {A : Type 0} (o : Out A) : Type 0 where
  pub number : (r : ℕ) → o ≡ no r → T (is_inner r)

in_ok : {A : Type 0} {a : A} → Inner (ok a)
in_ok = record { number = λ r e. absurd (refused (sym e)) }

in_no : {A : Type 0} (r : ℕ) → T (is_inner r) → Inner {A = A} (no r)
in_no {A} r k = record { number = same }
  where
    same : (s : ℕ) → ◌≡◌ {A = Out A} (no r) (no s) → T (is_inner s)
    same s e = let q : r ≡ s = cc in rw q at k

in_need : {A : Type 0} (b : Bool) (r : ℕ) {o : Out A} → T (is_inner r) → Inner o → Inner (need b r o)
unfolding need
in_need true r k h = h
in_need false r k h = in_no r k

in_choose : {A : Type 0} (b : Bool) {o p : Out A} → Inner o → Inner p → Inner (choose b o p)
unfolding choose
in_choose true h g = h
in_choose false h g = g

in_bind : {A B : Type 0} (o : Out A) {k : A → Out B} → Inner o → ((a : A) → Inner (k a)) → Inner (bind o k)
unfolding bind
in_bind (ok a) h f = f a
in_bind (no r) h f = in_no r (h.number r refl)

ruleset inners = (in_ok, in_no, in_need, in_choose, in_bind)

-- ---- mole fractions and activity
in_fractions : {A : Type 0} (x : ℕ → Float) (n : ℕ) {o : Out A} → Inner o → Inner (with_fractions x n o)
unfolding with_fractions
in_fractions x n h = search inners

in_normalize : (x : ℕ → Float) (n : ℕ) → Inner (normalize_of x n)
unfolding normalize_of
in_normalize x n = search inners

in_excess : (M : Model) (P : List Float) (n : ℕ) (t : Float) (x : List Float) → Inner (excess_by M P n t x)
unfolding excess_by nrtl_of wilson_of with_state state_from state_with
in_excess Nrtl P n t x = search (inners, in_fractions) depth 12
in_excess Wilson P n t x = search (inners, in_fractions) depth 12

pub in_activity : (book : List ℕ) (n : ℕ) (t : Float) (x : List Float) → Inner (activity (mixture_of book n) t x)
unfolding activity_in excess_of
in_activity book n t x = in_bind _ (in_excess (model_of book) _ n t x) (λ e. in_ok)

-- ---- Rachford-Rice
module _ (z k : ℕ → Float) (n : ℕ) where
  in_validate : {A : Type 0} {o : Out A} → Inner o → Inner (validate z k n o)
  unfolding validate
  in_validate h = search inners

  in_iterate : (left done : ℕ) (lo hi β : Float) → Inner (iterate z k n left done lo hi β)
  unfolding iterate
  in_iterate zero done lo hi β = search inners
  in_iterate (suc left) done lo hi β = search (inners, in_iterate left)

  in_negative : (limit : ℕ) → Inner (negative z k n limit)
  unfolding negative between
  in_negative limit = search (inners, in_validate, in_iterate)

-- ---- over an activity model
in_residual : (lg ps : List Float) (p : Float) (x y : List Float) (n : ℕ) → Inner (residual_with lg ps p x y n)
unfolding residual_with
in_residual lg ps p x y n = search inners

in_vapor : (n : ℕ) (z : List Float) (bubble dew : Float) (notes : ℕ) → Inner (as_vapor n z bubble dew notes)
unfolding as_vapor
in_vapor n z bubble dew notes = search (inners, in_fractions)

module _ (E : List Float → Out Activity) (h : (x : List Float) → Inner (E x)) where
  module _ (ps : List Float) (n : ℕ) where
    in_bubble : (x : List Float) → Inner (bubble_at E ps n x)
    unfolding bubble_at bubble_from
    in_bubble x = search inners

    in_point : (y lg : List Float) (iteration : ℕ) → Inner (dew_point E ps n y lg iteration)
    unfolding dew_point dew_liquid
    in_point y lg iteration = search (inners, in_normalize, in_residual)

    in_loop : (y : List Float) (tolerance : Float) (left done : ℕ) (lg : List Float) → Inner (dew_loop E ps n y tolerance left done lg)
    unfolding dew_loop dew_turn dew_liquid
    in_loop y tolerance zero done lg = search inners
    in_loop y tolerance (suc left) done lg = search (inners, in_normalize, in_point, in_loop y tolerance left) depth 8

    in_dew : (o : ActivityOptions) (y : List Float) → Inner (dew_at E ps n o y)
    unfolding dew_at
    in_dew o y = in_loop y _ _ 0 _

    in_split : (p : Float) (z : List Float) (tolerance : Float) (left done : ℕ) (lg : List Float) → Inner (split_from E ps n p z tolerance left done lg)
    unfolding split_from split_turn phase_of turn_at
    in_split p z tolerance zero done lg = search inners
    in_split p z tolerance (suc left) done lg = search (inners, in_negative, in_normalize, in_split p z tolerance left) depth 8

  in_trial : (n : ℕ) (threshold : Float) (x d : List Float) (j left done : ℕ) (lnW : List Float) → Inner (trial_from E threshold n x d j left done lnW)
  unfolding trial_from judge
  in_trial n threshold x d j zero done lnW = search inners
  in_trial n threshold x d j (suc left) done lnW = search (inners, in_trial n threshold x d j left)

  module _ (n : ℕ) (o : ActivityOptions) where
    in_trials : (x d : List Float) (k : ℕ) → Inner (trials_to E n o x d k)
    unfolding trials_to
    in_trials x d zero = search inners
    in_trials x d (suc k) = let g = in_trials x d k in search (inners, in_trial)

    in_stability : (x : List Float) → Inner (stability_of E n o x)
    unfolding stability_of
    in_stability x = search (inners, in_trials)

    module _ (z : List Float) where
      in_liquid : (bubble dew : Float) (notes : ℕ) → Inner (as_liquid E n o z bubble dew notes)
      unfolding as_liquid stable_liquid
      in_liquid bubble dew notes = search (inners, in_fractions, in_stability)

      in_from : (bubble dew : Float) (s : Split) → Inner (from_split E n o z bubble dew s)
      unfolding from_split boundary_of as_both stable_liquid
      in_from bubble dew s = search (inners, in_fractions, in_stability, in_vapor, in_liquid) depth 7

      pub in_phases : (p : Float) (ps : List Float) → Inner (phases_of E n o z p ps)
      unfolding phases_of from_dew dew_of between_of split_feed
      in_phases p ps = search (inners, in_bubble, in_dew, in_vapor, in_liquid, in_split, in_from) depth 8

-- ---- so a step that is refused by one of them is refused whatever the phases are
inner-leaves : (r : ℕ) → T (is_inner r) → (r ≡ 14) ⊎ (r ≡ 23) → ⊥
inner-leaves r h (inl e) = rw e at h
inner-leaves r h (inr e) = rw e at h

pub leaves : (x : Out Float) (d : Float → Bool) (f f' : Float → Out ℕ) → ((v : Float) → Inner (f v)) → {r : ℕ} → (r ≡ 14) ⊎ (r ≡ 23)
    → bind x (λ v. need (d v) 23 (f v)) ≡ no r → (s : ℕ) × (bind x (λ v. need (d v) 23 (f' v)) ≡ no s)
unfolding bind need
leaves (no s) d f f' h l e = (s, refl)
leaves (ok v) d f f' h {r} l e = go (d v) e
  where
    go : (b : Bool) → need b 23 (f v) ≡ no r → (s : ℕ) × (need b 23 (f' v) ≡ no s)
    go true e = absurd (inner-leaves r ((h v).number r e) l)
    go false e = (23, refl)

pub in_outcome : (book : List ℕ) (n : ℕ) (t : Float) (o : ActivityOptions) (z ps : List Float) (v : Float) → Inner (phases_in (phases_of (activity (mixture_of book n) t) n o z v ps))
in_outcome book n t o z ps v = in_bind _ (in_phases (activity (mixture_of book n) t) (in_activity book n t) n o z v ps) (λ f. in_ok)
