-- A feed that sums to 1 (question 18) has a solvent that is kept. Assumes nothing.
use mathlib.Core.Path.{◌≡◌, refl, ap, ◌∙◌, subst}
use mathlib.Core.Logic.{⊎_elim}
use Prim.Native.Nat.{ℕ, ◌≤◌, ◌<◌}
use native.Mathlib.Nat.{eq-zero-or-pos}
use mathlib.Core.Bool.{Bool, true, not}
use lib.Dec.{T}
use lib.Ieee.{Float, lt, le, eq, add, sub, neg, of_bits}
use Rattle.floats.specs.Arithmetic.{◌⊖◌, 0f, 1f}
use Rattle.floats.specs.Small.{is_finite, abs_of}
use Rattle.floats.specs.Fold.{fold_to, sum_to, all_to}
use Rattle.thermo_types.specs.Composition.{sum_tolerance, sums_to_one}
use Rattle.striking.specs.Places.{cnt}
use Rattle.striking.specs.Related.{Fractions}
use Rattle.striking.proofs.Excess.{same_sum}

nothing : lt sum_tolerance (abs_of (0f ⊖ 1f)) ≡ true
unfolding lt le eq add sub neg of_bits
nothing = refl

pub some-kept : (keep : ℕ → Bool) (n : ℕ) → n ≤ 8 → (z z' : ℕ → Float) → Fractions keep n z z' → T (all_to (λ i. is_finite (z i)) n) → T (sums_to_one z n) → 0 < cnt keep n
unfolding sums_to_one fold_to
some-kept keep n small z z' hz f h =
    ⊎_elim
    (λ (e : cnt keep n ≡ 0). absurd (subst (λ (b : Bool). T (not b)) nothing (subst (λ (s : Float). T (not (lt sum_tolerance (abs_of (s ⊖ 1f))))) (same_sum keep n small z z' hz f ∙ ap (sum_to z') e) h)))
    (λ (l : 0 < cnt keep n). l)
    (eq-zero-or-pos (cnt keep n))
