-- The two-phase split at T and p: successive substitution of K_i = γ_i p_i^sat / p into Rachford-Rice, in the order of activity.rs,
-- over an activity model E at T. z is the feed, ps the vapor pressures, n the count of solvents. Assumes nothing.
use Rattle.std.specs.Prelude.{ℕ, zero, suc, cond, List, Float}
use Rattle.std.specs.Float.Ieee.{lt, le}
use Rattle.floats.specs.Arithmetic.{◌⊕◌, ◌⊖◌, ◌⊗◌, 0f, 1f}
use Rattle.floats.specs.Small.{is_finite, max_of, abs_of}
use Rattle.floats.specs.Fold.{fold_to, active}
use Rattle.floats.specs.Vector.{at, vec}
use Rattle.floats.specs.Outcome.{Out, ok, no, bind, need, choose}
use Rattle.numerics.specs.Numerics.{exp_of, ln_of}
use Rattle.thermo_types.specs.Composition.{normalize_of}
use Rattle.thermo_models.specs.Model.{Activity}
use Rattle.rachford_rice.specs.Rachford.{negative}
use Rattle.rachford_rice.specs.declared.RachfordRiceOutcome.{RachfordRiceOutcome}
use Rattle.rachford_rice.specs.declared.RachfordRiceOutcome.TheVariants.{LiquidOnly, VaporOnly, TwoPhase}
use Rattle.saturation.specs.Saturation.{gap_at}
use Rattle.tp_flash.specs.declared.SplitPoint.{SplitPoint}
use Rattle.tp_flash.specs.declared.SplitTurn.{SplitTurn}

-- the code's struct: a converged split, its vapor fraction, liquid, vapor, largest gap of ln fugacities, iterations
abbrev pub Split : Type 0
Split = SplitPoint

-- RACHFORD_RICE_MAX_ITERATIONS, whatever the options say
abbrev pub rice_limit : ℕ
rice_limit = 200

-- K_i = exp(ln γ_i + ln p_i^sat - ln p) at positive z_i. Rachford-Rice is put the positive entries alone: at the others z is 0, and 1 stands for K,
-- which no sum reads
unfoldable pub k_values : List Float → List Float → Float → List Float → ℕ → List Float
k_values z ps p lg n = vec (λ i. cond (lt 0f (at z i)) (exp_of (at lg i ⊕ ln_of (at ps i) ⊖ ln_of p)) 1f) n

-- the entries of a phase at positive z_i, 0 elsewhere, brought to a sum of 1 (34)
unfoldable pub phase_of : List Float → List Float → ℕ → Out (List Float)
phase_of z l n = normalize_of (λ i. cond (lt 0f (at z i)) (at l i) 0f) n

-- the largest gap of ln fugacities where z is positive; a NaN is passed over
unfoldable pub split_gap : List Float → List Float → List Float → Float → List Float → List Float → ℕ → Float
split_gap z lg ps p x y n = fold_to (active (at z) (λ i r. max_of r (gap_at lg ps p x y i))) 0f n

-- max_i |β y_i + (1 - β) x_i - z_i|, absent solvents too
unfoldable pub balance_of : Float → List Float → List Float → List Float → ℕ → Float
balance_of β x y z n = fold_to (λ i r. max_of r (abs_of (β ⊗ at y i ⊕ (1f ⊖ β) ⊗ at x i ⊖ at z i))) 0f n

-- the vapor fraction of an outcome; what the negative flash accepts has two phases
abbrev pub fraction_in : RachfordRiceOutcome → Float
fraction_in LiquidOnly = 0f
fraction_in VaporOnly = 1f
fraction_in (TwoPhase β residual count) = β

-- the code's struct: a turn's split, and the activity at its liquid
abbrev pub Turn : Type 0
Turn = SplitTurn

module _ (E : List Float → Out Activity) (ps : List Float) (n : ℕ) (p : Float) (z : List Float) where
  -- the phases x and y with their vapor fraction, and the activity at the liquid x (25 where the gap isn't finite)
  unfoldable pub turn_at : Float → List Float → List Float → ℕ → Out Turn
  turn_at β x y iteration =
      bind (E x) (λ a.
      need (is_finite (split_gap z a.ln_gamma ps p x y n)) 25
      (ok (record {
        split = record { vapor_fraction = β; liquid = x; vapor = y; residual = split_gap z a.ln_gamma ps p x y n; iterations = iteration };
        activity = a;
      })))

  -- one turn from ln γ: Rachford-Rice, then the phases of its solution
  unfoldable pub split_turn : List Float → ℕ → Out Turn
  split_turn lg iteration =
      bind (negative (at z) (at (k_values z ps p lg n)) n rice_limit) (λ rr.
      bind (phase_of z rr.liquid n) (λ x.
      bind (phase_of z rr.vapor n) (λ y.
      turn_at rr.vapor_fraction x y iteration)))

  -- from ln γ after `done` turns, with `left` turns left; 27 where none is left
  unfoldable pub split_from : Float → ℕ → ℕ → List Float → Out Split
  split_from tolerance zero done lg = no 27
  split_from tolerance (suc left) done lg =
      bind (split_turn lg (suc done)) (λ turn.
      choose (le turn.split.residual tolerance)
      (ok turn.split)
      (split_from tolerance left (suc done) turn.activity.ln_gamma))
