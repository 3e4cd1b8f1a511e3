-- Where a feed isn't positive, neither is a phase of it: a phase has no more positive entries than its feed. Assumes nothing.
use Prim.Native.Nat.{ℕ, zero, suc, ◌≤◌}
use mathlib.Core.Path.{◌≡◌, refl, ◌∙◌, ap}
use mathlib.Core.Bool.{Bool, true, false, cond, true≢false}
use mathlib.Core.List.{List, [], ◌∷◌}
use native.Mathlib.Omega.{arith}
use lib.ListN.{set, replicate}
use lib.Ieee.{Float, nan, inf, fin, binary64, lt, of_bits}
use Rattle.floats.specs.Arithmetic.{◌⊘◌, 0f}
use Rattle.floats.specs.Fold.{fold_to, sum_to}
use Rattle.floats.specs.Vector.{at, fill, vec, zeros8}
use Rattle.floats.proofs.Outcomes.{Each, each-ok, each-need}
use Rattle.zeros.specs.Below.{Num}
use Rattle.zeros.proofs.Congruence.{≈refl, lt_≈}
use Rattle.zeros.proofs.Zero.{Zero, zero_≈, zero_div}
use Rattle.thermo_types.specs.Composition.{shares_of, normalize_of}
use Rattle.liquid_stability.specs.Stability.{present_count}
use Rattle.tp_flash.specs.Split.{phase_of}

pub record Within (z x : List Float) : Type 0 where
  pub absent : (i : ℕ) → lt 0f (at z i) ≡ false → lt 0f (at x i) ≡ false

-- ---- counts
count-step : (a b : Bool) → (a ≡ false → b ≡ false) → {c d : ℕ} → c ≤ d → cond b (suc c) c ≤ cond a (suc d) d
count-step true true h l = omega (arith, l)
count-step true false h l = omega (arith, l)
count-step false true h l = absurd (true≢false (h refl))
count-step false false h l = l

pub present-within : (z x : List Float) → Within z x → (n : ℕ) → present_count x n ≤ present_count z n
unfolding present_count fold_to
present-within z x h zero = omega arith
present-within z x h (suc n) = count-step _ _ (h.absent n) (present-within z x h n)

-- ---- a zero over a sum
zero_not_pos : (x : Float) → (Num x → Zero x) → lt 0f x ≡ false
unfolding of_bits
zero_not_pos nan h = unfold lt in refl
zero_not_pos (inf s) h = absurd (h tt)
zero_not_pos (fin s m e) h = lt_≈ (≈refl 0f) (zero_≈ (fin s m e) 0f (h tt) tt) ∙ (unfold lt in refl)

none_over : (s : Float) → lt 0f (0f ⊘ s) ≡ false
unfolding of_bits
none_over s = zero_not_pos (0f ⊘ s) (λ h. zero_div binary64 0f s tt h)

-- ---- arrays
set_not_pos : (l : List Float) (k : ℕ) (v : Float) (i : ℕ) → lt 0f (at l i) ≡ false → (k ≡ i → lt 0f v ≡ false) → lt 0f (at (set l k v) i) ≡ false
set_not_pos [] k v i h g = h
set_not_pos (a ∷ l) zero v zero h g = g refl
set_not_pos (a ∷ l) zero v (suc i) h g = h
set_not_pos (a ∷ l) (suc k) v zero h g = h
set_not_pos (a ∷ l) (suc k) v (suc i) h g = set_not_pos l k v i h (λ e. g (ap suc e))

zeros_not_pos : (m i : ℕ) → lt 0f (at (replicate m 0f) i) ≡ false
unfolding of_bits lt
zeros_not_pos zero i = refl
zeros_not_pos (suc m) zero = refl
zeros_not_pos (suc m) (suc i) = zeros_not_pos m i

vec_not_pos : (f : ℕ → Float) (i : ℕ) → lt 0f (f i) ≡ false → (n : ℕ) → lt 0f (at (vec f n) i) ≡ false
unfolding fill
vec_not_pos f i h zero = zeros_not_pos 8 i
vec_not_pos f i h (suc n) = set_not_pos (fill f n zeros8) n (f n) i (vec_not_pos f i h n) (λ e. rw e h)

-- ---- a phase
pub phase_within : (z l : List Float) (n : ℕ) → Each (Within z) (phase_of z l n)
unfolding phase_of normalize_of shares_of
phase_within z l n = each-need (Within z) _ 34 (each-ok (Within z) (record { absent = λ i e. vec_not_pos _ i (share i e) n }))
  where
    part : ℕ → Float
    part i = cond (lt 0f (at z i)) (at l i) 0f

    share : (i : ℕ) → lt 0f (at z i) ≡ false → lt 0f (part i ⊘ sum_to part n) ≡ false
    share i e = rw e (none_over (sum_to part n))
