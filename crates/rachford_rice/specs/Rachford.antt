-- The phase split for given equilibrium ratios K (Rachford and Rice 1952), as rounded steps in the order of rachford_rice.rs:
--   g(β) = Σ z_i (K_i - 1) / (1 + β (K_i - 1)) = 0, over positive feed fractions z_i.
-- Newton's method with bisection as its safeguard. Assumes nothing.
use Rattle.std.specs.Prelude.{ℕ, zero, suc, Bool, not, cond, ◌&&◌, ◌||◌, List, Float}
use Rattle.std.specs.Float.Ieee.{neg, lt, le, eq}
use Rattle.std.specs.declared.ops.ControlFlow.{ControlFlow}
use Rattle.std.specs.declared.ops.ControlFlow.TheVariants.{Break, Continue}
use Rattle.floats.specs.Arithmetic.{◌⊕◌, ◌⊖◌, ◌⊗◌, ◌⊘◌, 0f, ½, 1f, 4ε, ∞, -∞}
use Rattle.floats.specs.Small.{is_finite, max_of, min_of, abs_of, middle}
use Rattle.floats.specs.Fold.{fold_to, sum_to, active}
use Rattle.floats.specs.Vector.{vec, zeros8}
use Rattle.floats.specs.Outcome.{Out, ok, no, bind, need, choose}
use Rattle.thermo_types.specs.Composition.{all_finite, none_negative, all_positive, sums_to_one}
use Rattle.rachford_rice.specs.declared.RachfordRiceOutcome.{RachfordRiceOutcome}
use Rattle.rachford_rice.specs.declared.RachfordRiceOutcome.TheVariants.{LiquidOnly, VaporOnly, TwoPhase}
use Rattle.rachford_rice.specs.declared.RachfordRice.{RachfordRice}
use Rattle.rachford_rice.specs.declared.Bracket.{Bracket}

-- 1 liquid, 2 vapor, 3 both
abbrev pub outcome_number : RachfordRiceOutcome → ℕ
outcome_number LiquidOnly = 1
outcome_number VaporOnly = 2
outcome_number (TwoPhase β g m) = 3

-- 1 + β (K_i - 1)
abbrev pub over : (ℕ → Float) → Float → ℕ → Float
over k β i = 1f ⊕ β ⊗ (k i ⊖ 1f)

-- an accepted split: vapor fraction, compositions, |g(β)|, iterations
pub record Solution : Type 0 where
  pub vapor_fraction : Float
  pub liquid : List Float
  pub vapor : List Float
  pub residual : Float
  pub iterations : ℕ

-- the step is at most 4 ε times max(|β|, 1)
abbrev pub small : Float → Float → Bool
small next β = le (abs_of (next ⊖ β)) (4ε ⊗ max_of (abs_of β) 1f)

-- a turn: the bounds, the next β, whether it is the last
pub record Turn : Type 0 where
  pub lo : Float
  pub hi : Float
  pub next : Float
  pub last : Bool

-- one turn from g(β) and its derivative: the bounds are moved before the step
unfoldable pub turn_of : Float → Float → Float → Float → Float → Turn
turn_of g slope lo₀ hi₀ β =
    let lo = cond (lt 0f g) β lo₀ in
    let hi = cond (lt 0f g) hi₀ β in
    let newton = β ⊖ g ⊘ slope in
    let next = cond (lt lo newton && lt newton hi && is_finite newton) newton (middle lo hi) in
    record { lo = lo; hi = hi; next = next; last = eq g 0f || small next β || eq next lo || eq next hi }

-- the β that the last turn returns
abbrev pub root_of : Float → Float → Float → Float
root_of g β next = cond (eq g 0f) β next

-- what the code does after a turn from β: it ends with the root, or goes on from the bounds and the next β
unfoldable pub goes : Float → Float → Turn → ControlFlow Float Bracket
goes g β turn = cond turn.last (Break (root_of g β turn.next)) (Continue (record { lo = turn.lo; hi = turn.hi; beta = turn.next }))

-- ---- over the feed z and the ratios K, n of each
module _ (z k : ℕ → Float) (n : ℕ) where
  -- g(β)
  unfoldable pub residual_of : Float → Float
  residual_of β = fold_to (active z (λ i s. s ⊕ z i ⊗ (k i ⊖ 1f) ⊘ over k β i)) 0f n

  -- g'(β) = - Σ z_i (K_i - 1)² / (1 + β (K_i - 1))²
  unfoldable pub slope_of : Float → Float
  slope_of β = neg (fold_to (active z (λ i s. s ⊕ z i ⊗ ((k i ⊖ 1f) ⊗ (k i ⊖ 1f)) ⊘ (over k β i ⊗ over k β i))) 0f n)

  -- the largest and the smallest K at a positive fraction
  unfoldable pub k_max : Float
  k_max = fold_to (active z (λ i s. max_of s (k i))) -∞ n

  unfoldable pub k_min : Float
  k_min = fold_to (active z (λ i s. min_of s (k i))) ∞ n

  -- `validate`: z and K finite (15), z not negative (16), K positive (17), z sums to 1 (18)
  unfoldable pub validate : {A : Type 0} → Out A → Out A
  validate next =
      need (all_finite z n && all_finite k n) 15
      (need (none_negative z n) 16
      (need (all_positive k n) 17
      (need (sums_to_one z n) 18 next)))

  -- x_i = z_i / (1 + β (K_i - 1)) at positive z_i, and y_i = x_i K_i, before either is divided by its sum
  unfoldable pub liquid_part : Float → ℕ → Float
  liquid_part β i = cond (lt 0f (z i)) (z i ⊘ over k β i) 0f

  unfoldable pub vapor_part : Float → ℕ → Float
  vapor_part β i = liquid_part β i ⊗ k i

  unfoldable pub solution_at : Float → ℕ → Solution
  solution_at β iteration = record {
    vapor_fraction = β;
    liquid = vec (λ i. liquid_part β i ⊘ sum_to (liquid_part β) n) n;
    vapor = vec (λ i. vapor_part β i ⊘ sum_to (vapor_part β) n) n;
    residual = abs_of (residual_of β);
    iterations = iteration;
  }

  -- from β after `done` turns, with `left` turns left: 25 where g(β) isn't finite, 27 where no turn is left
  unfoldable pub iterate : ℕ → ℕ → Float → Float → Float → Out Solution
  iterate zero done lo hi β = no 27
  iterate (suc left) done lo hi β =
      let g = residual_of β in
      let turn = turn_of g (slope_of β) lo hi β in
      need (is_finite g) 25
      (choose turn.last
      (ok (solution_at (root_of g β turn.next) (suc done)))
      (iterate left (suc done) turn.lo turn.hi turn.next))

  -- between the poles 1 / (1 - Kmax) and 1 / (1 - Kmin), from β = 0.5; 28 where K lies on one side of 1
  unfoldable pub between : ℕ → Out Solution
  between limit =
      need (not (le k_max 1f)) 28
      (need (not (le 1f k_min)) 28
      (iterate limit 0 (1f ⊘ (1f ⊖ k_max)) (1f ⊘ (1f ⊖ k_min)) ½))

  -- the negative flash: β may lie outside [0, 1]
  unfoldable pub negative : ℕ → Out Solution
  negative limit = validate (between limit)

-- ---- as the code's struct
unfoldable pub two_phase : Solution → RachfordRice
two_phase s = record { outcome = TwoPhase s.vapor_fraction s.residual s.iterations; liquid = s.liquid; vapor = s.vapor }

-- a single phase has no compositions
unfoldable pub one_phase : RachfordRiceOutcome → RachfordRice
one_phase o = record { outcome = o; liquid = zeros8; vapor = zeros8 }

-- constrained to 0 ≤ β ≤ 1: g(0) ≤ 0 is liquid, g(1) ≥ 0 vapor
unfoldable pub constrained : (ℕ → Float) → (ℕ → Float) → ℕ → ℕ → Out RachfordRice
constrained z k n limit =
    validate z k n
    (choose (le (residual_of z k n 0f) 0f)
    (ok (one_phase LiquidOnly))
    (choose (le 0f (residual_of z k n 1f))
    (ok (one_phase VaporOnly))
    (bind (negative z k n limit) (λ s. ok (two_phase s)))))
