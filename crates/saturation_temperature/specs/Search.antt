-- `solve_temperature`: safeguarded Newton on f(T) = 0 over a bracket, for any f with its slope, as rounded steps in the order of activity.rs. Assumes nothing.
use Rattle.std.specs.Prelude.{ℕ, zero, suc, Bool, cond, not, ◌&&◌, ◌||◌, Float}
use Rattle.std.specs.Float.Ieee.{lt, le, eq}
use Rattle.floats.specs.Arithmetic.{◌⊖◌, ◌⊗◌, ◌⊘◌, 0f, 4ε}
use Rattle.floats.specs.Small.{abs_of, middle}
use Rattle.floats.specs.Outcome.{Out, ok, no, bind, need, choose}
use Rattle.thermo_types.specs.declared.ActivityOptions.{ActivityOptions}
use Rattle.saturation_temperature.specs.declared.Bracket.{Bracket}
use Rattle.saturation_temperature.specs.declared.Point as the_point
use Rattle.saturation_temperature.specs.declared.Root as the_root

-- f and its slope at a temperature
abbrev pub Point : Type 0
Point = the_point.Point

-- the temperature found, K, and the iterations
abbrev pub Root : Type 0
Root = the_root.Root

-- the bracket after f at its next temperature
unfoldable pub step_of : Point → Bracket → Bracket
step_of f b =
    let lo = cond (lt f.value 0f) b.next b.lo in
    let hi = cond (lt f.value 0f) b.hi b.next in
    let newton = b.next ⊖ f.value ⊘ f.slope in
    record { lo = lo; hi = hi; next = cond (lt 0f f.slope && lt lo newton && lt newton hi) newton (middle lo hi) }

-- no further step can be taken from t: next = t, or the bracket is at most 4 ε T wide
unfoldable pub collapsed : Bracket → Float → Bool
collapsed b t = eq b.next t || le (b.hi ⊖ b.lo) (4ε ⊗ t)

module _ (f : Float → Out Point) where
  -- from a bracket after `done` turns, with `left` turns left; 27 where none is left or the bracket has collapsed
  unfoldable pub search_from : Float → ℕ → ℕ → Bracket → Out Root
  search_from tolerance zero done b = no 27
  search_from tolerance (suc left) done b =
      bind (f b.next) (λ v.
      choose (le (abs_of v.value) tolerance)
      (ok (record { temperature = b.next; iterations = suc done }))
      (need (not (collapsed (step_of v b) b.next)) 27
      (search_from tolerance left (suc done) (step_of v b))))

  -- both ends are evaluated before either is returned, with 0 iterations; 26 where they don't bracket the root
  unfoldable pub solve_temperature : ActivityOptions → Out Root
  solve_temperature o =
      let lo = o.minimum_temperature_k in
      let hi = o.maximum_temperature_k in
      bind (f lo) (λ a.
      bind (f hi) (λ b.
      choose (le (abs_of a.value) o.tolerance)
      (ok (record { temperature = lo; iterations = 0 }))
      (choose (le (abs_of b.value) o.tolerance)
      (ok (record { temperature = hi; iterations = 0 }))
      (need (not (lt 0f a.value || lt b.value 0f)) 26
      (search_from o.tolerance o.max_temperature_iterations 0 (record { lo = lo; hi = hi; next = middle lo hi }))))))
