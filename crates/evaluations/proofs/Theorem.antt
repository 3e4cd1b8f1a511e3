-- A flash begins at most (m + 2) M + 4 evaluations: bubble point 1, dew point M + 1, feed 1, split M, trials 1 + m M. Assumes nothing.
use Prim.Native.Nat.{ℕ, suc, ◌+◌, ◌*◌, ◌≤◌}
use mathlib.Core.List.{List}
use native.Mathlib.Nat.{add-mul, le_trans, mul-le-mul_right}
use native.Mathlib.Omega.{arith}
use lib.Ieee.{Float}
use Rattle.floats.specs.Outcome.{Out}
use Rattle.counted.specs.Counted.{evaluated, bind_counted}
use Rattle.counted.proofs.Laws.{most-bind, most-need, most-choose, word_small}
use Rattle.thermo_types.specs.declared.ActivityOptions.{ActivityOptions}
use Rattle.thermo_models.specs.Model.{Activity}
use Rattle.liquid_stability.specs.Stability.{present_count}
use Rattle.liquid_stability.proofs.Laws.{count_le}
use Rattle.tp_flash.specs.Split.{Split}
use Rattle.tp_flash.specs.Counted.{stable_counted, dew_of_counted, liquid_counted, both_counted, boundary_counted, from_split_counted, split_feed_counted, between_counted, from_dew_counted, phases_counted, flash_counted, most_evaluations}
use Rattle.evaluations.specs.Bound.{FlashBound, SomeBegun, PhasesBound, PhasesBegun, LimitedBound, WordExact}
use Rattle.evaluations.proofs.Counts.{none-most, one-most, most-turn, most-rest, most_then, least_on, none-need, none_after}
use Rattle.evaluations.proofs.Present.{Within, present-within}
use Rattle.evaluations.proofs.Solvers.{most-dew, most_stability, most-split, split-within}

more : (k l : ℕ) → suc l ≤ suc (k + suc l)
more k l = omega arith

module _ (E : List Float → Out Activity) (n : ℕ) (o : ActivityOptions) where
  abbrev M : ℕ
  M = o.max_iterations

  -- the most that the trials of a liquid begin
  abbrev trials : List Float → ℕ
  trials x = suc (present_count x n * M)

  most-stable : (x : List Float) → (stable_counted E n o x).begun ≤ trials x
  unfolding stable_counted
  most-stable x = most_then _ _ (most_stability E n o x) (λ s. none-most _ 0)

  module _ (z : List Float) where
    most-liquid : (bubble dew : Float) (notes : ℕ) → (liquid_counted E n o z bubble dew notes).begun ≤ trials z
    unfolding liquid_counted
    most-liquid bubble dew notes = most_then _ _ (most-stable z) (λ s. none-most _ 0)

    -- as many trials as the feed's liquid would have, at most
    most-both : (bubble dew : Float) (s : Split) → Within z s.liquid → (both_counted E n o z bubble dew s).begun ≤ trials z
    unfolding both_counted
    most-both bubble dew s h =
        let l = mul-le-mul_right M (present-within z s.liquid h n) in
        most_then _ _ (le_trans (most-stable s.liquid) (omega (arith, l))) (λ r. none-most _ 0)

    most-from_split : (bubble dew : Float) (s : Split) → Within z s.liquid → (from_split_counted E n o z bubble dew s).begun ≤ trials z
    unfolding from_split_counted boundary_counted
    most-from_split bubble dew s h =
        most-choose _ _ _ (most-choose _ _ _ (none-most _ _) (most-liquid bubble dew _)) (most-need _ 30 _ (most-both bubble dew s h))

    module _ (p : Float) (ps : List Float) where
      most-feed : (bubble dew : Float) → (split_feed_counted E n o z p ps bubble dew).begun ≤ suc (M + trials z)
      unfolding split_feed_counted
      most-feed bubble dew =
          most-turn _ _ (one-most _) (λ a.
          most-bind _ _ (most-split E ps n p z _ _ 0 _) (λ s e.
          most-from_split bubble dew s ((split-within E ps n p z _ _ 0 _).each s e)))

      most-between : (bubble dew : Float) → (between_counted E n o z p ps bubble dew).begun ≤ suc (M + trials z)
      unfolding between_counted
      most-between bubble dew =
          most-choose _ _ _ (le_trans (most-liquid bubble dew _) (more _ _)) (most-choose _ _ _ (none-most _ _) (most-feed bubble dew))

      most-dew_of : (bubble : Float) → (dew_of_counted E n o z ps bubble).begun ≤ suc M
      unfolding dew_of_counted
      most-dew_of bubble = most-choose _ _ _ (none-most _ _) (most_then _ _ (most-dew E ps n o z) (λ d. none-most _ 0))

      most-phases : (phases_counted E n o z p ps).begun ≤ most_evaluations n o z
      unfolding phases_counted from_dew_counted most_evaluations
      most-phases =
          le_trans (most-turn _ _ (one-most _) (λ b. most-bind _ _ (most-dew_of b.pressure) (λ dew e. most-between b.pressure dew)))
          (sum M (present_count z n))
        where
          sum : (k m : ℕ) → suc (suc k + suc (k + suc (m * k))) ≤ (m + 2) * k + 4
          sum k m = let e = add-mul m 2 k in omega (arith, e)

pub phases-bound : PhasesBound
phases-bound = most-phases

pub flash-bound : FlashBound
unfolding flash_counted
flash-bound E L D n o t z p = most-need _ 22 _ (most-need _ 23 _ (most-rest _ _ (none-most _ 0) (λ pure. phases-bound (E t) n o z p pure.pressure)))

pub phases-begun : PhasesBegun
unfolding phases_counted bind_counted evaluated
phases-begun E n o z p ps = least_on _ 1 _

pub some-begun : SomeBegun
unfolding flash_counted
some-begun E L D n o t z p = none-need _ 22 _ (none-need _ 23 _ (none_after (L t) _ (λ pure. phases-begun (E t) n o z p pure.pressure)))

-- ---- within the limit
pub limited-bound : LimitedBound
unfolding most_evaluations
limited-bound n o z h l = most (present_count z n) o.max_iterations (le_trans (count_le z n) h) l
  where
    most : (m k : ℕ) → m ≤ 8 → k ≤ 1000000 → (m + 2) * k + 4 ≤ 10000004
    most m k h l = let a = mul-le-mul_right k h in let e = add-mul m 2 k in omega (arith, a, e, l)

pub word-exact : WordExact
word-exact E L D n o t z p h l =
    let a = flash-bound E L D n o t z p in
    let b = limited-bound n o z h l in
    word_small _ (omega (arith, a, b))
