-- Three ways in which a limit could show in an accepted answer, each a definition of the core with one line changed. None is used:
-- crates/limits/proofs/Leaks.antt refutes the law of raised limits for each of them. Assumes nothing.
use Rattle.std.specs.Prelude.{ℕ, zero, suc, ◌+◌, not, ◌||◌, pos, Float}
use Rattle.std.specs.Float.{binary64}
use Rattle.std.specs.Float.Ieee.{lt, le, of_int}
use Rattle.floats.specs.Arithmetic.{◌⊖◌, ◌⊘◌, 0f, ½, 1f}
use Rattle.floats.specs.Small.{is_finite, abs_of, middle}
use Rattle.floats.specs.Outcome.{Out, ok, no, bind, need, choose}
use Rattle.thermo_types.specs.declared.ActivityOptions.{ActivityOptions}
use Rattle.rachford_rice.specs.Rachford.{Solution, residual_of, slope_of, turn_of, root_of, k_max, k_min, validate, solution_at}
use Rattle.saturation_temperature.specs.Search.{Point, Root, search_from}

module _ (z k : ℕ → Float) (n : ℕ) where
  -- `negative` of Rachford.antt over any iteration
  unfoldable pub negative_by : (ℕ → ℕ → Float → Float → Float → Out Solution) → ℕ → Out Solution
  negative_by loop limit =
      validate z k n
      (need (not (le (k_max z k n) 1f)) 28
      (need (not (le 1f (k_min z k n))) 28
      (loop limit 0 (1f ⊘ (1f ⊖ k_max z k n)) (1f ⊘ (1f ⊖ k_min z k n)) ½)))

  -- ---- 1. the limit reported as the count of iterations
  -- `iterate`, which has `suc done` in place of all turns, those left too
  unfoldable pub reporting : ℕ → ℕ → Float → Float → Float → Out Solution
  reporting zero done lo hi β = no 27
  reporting (suc left) done lo hi β =
      let g = residual_of z k n β in
      let turn = turn_of g (slope_of z k n β) lo hi β in
      need (is_finite g) 25
      (choose turn.last
      (ok (solution_at z k n (root_of g β turn.next) (suc (left + done))))
      (reporting left (suc done) turn.lo turn.hi turn.next))

  -- ---- 2. the last value in place of 27
  -- `iterate`, which has `no 27` where no turn is left
  unfoldable pub lenient : ℕ → ℕ → Float → Float → Float → Out Solution
  lenient zero done lo hi β = ok (solution_at z k n β done)
  lenient (suc left) done lo hi β =
      let g = residual_of z k n β in
      let turn = turn_of g (slope_of z k n β) lo hi β in
      need (is_finite g) 25
      (choose turn.last
      (ok (solution_at z k n (root_of g β turn.next) (suc done)))
      (lenient left (suc done) turn.lo turn.hi turn.next))

-- ---- 3. a tolerance that depends on the limit
module _ (f : Float → Out Point) where
  -- `solve_temperature` of Search.antt, which searches within the tolerance itself and not within its share of a turn
  unfoldable pub sharing : ActivityOptions → Out Root
  sharing o =
      let lo = o.minimum_temperature_k in
      let hi = o.maximum_temperature_k in
      let limit = o.max_temperature_iterations in
      bind (f lo) (λ a.
      bind (f hi) (λ b.
      choose (le (abs_of a.value) o.tolerance)
      (ok (record { temperature = lo; iterations = 0 }))
      (choose (le (abs_of b.value) o.tolerance)
      (ok (record { temperature = hi; iterations = 0 }))
      (need (not (lt 0f a.value || lt b.value 0f)) 26
      (search_from f (o.tolerance ⊘ of_int binary64 (pos limit)) limit 0 (record { lo = lo; hi = hi; next = middle lo hi }))))))
