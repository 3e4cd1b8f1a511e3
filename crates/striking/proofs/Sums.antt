-- The NRTL sums S, C, g^E / RT and ln γ: striking absent solvents leaves them, up to ⊑. Assumes nothing.
use mathlib.Core.Path.{◌≡◌}
use Prim.Native.Nat.{ℕ, ◌<◌}
use mathlib.Core.Bool.{Bool, not}
use lib.Dec.{T}
use lib.Ieee.{Float, binary64}
use lib.Ieee.Fits.{mul-fits, div-fits}
use Rattle.floats.specs.Arithmetic.{0f}
use Rattle.jet.specs.declared.Jet.{Jet}
use Rattle.jet.specs.Jets.{sub_j, mul_j, scale_j, div_j}
use Rattle.nrtl.specs.Columns.{col_s, col_c, ratio, term_j, ln_from, gibbs_from, ln_gamma_j, reduced_j}
use Rattle.zeros.specs.Same.{◌≈◌}
use Rattle.zeros.specs.Below.{◌⊑◌}
use Rattle.zeros.proofs.Below.{⊑_of}
use Rattle.striking.specs.Places.{cnt}
use Rattle.striking.proofs.Jets.{◌⊑J◌, ◌⊑D◌, J-same, J_of_D, J-sub, J-scale, J-mul, J-div, J-gone-scale, J-gone-div, J-gone-mul, FitsJ, strike_from_j, strike_sum_j}

abbrev pub Matrix : Type 0
Matrix = ℕ → ℕ → Jet

abbrev term : Matrix → Matrix → (ℕ → Float) → ℕ → ℕ → ℕ → Jet
term tau g x n i j = term_j (tau i j) (g i j) (col_s g x n j) (ratio tau g x n j) (x j)

-- the longer problem and the shorter one
pub record Struck (keep : ℕ → Bool) (n : ℕ) (tau g : Matrix) (x : ℕ → Float) (tau' g' : Matrix) (x' : ℕ → Float) : Type 0 where
  pub absent : (k : ℕ) → k < n → T (not (keep k)) → x k ⊑ 0f
  pub fraction : (k : ℕ) → k < n → T (keep k) → x k ≈ x' (cnt keep k)
  pub tau-same : (k i : ℕ) → k < n → T (keep k) → i < n → T (keep i) → tau k i ≡ tau' (cnt keep k) (cnt keep i)
  pub g-same : (k i : ℕ) → k < n → T (keep k) → i < n → T (keep i) → g k i ≡ g' (cnt keep k) (cnt keep i)

module _ (keep : ℕ → Bool) (n : ℕ) (tau g : Matrix) (x : ℕ → Float) (tau' g' : Matrix) (x' : ℕ → Float) (h : Struck keep n tau g x tau' g' x') where
  strike_S : (i : ℕ) → i < n → T (keep i) → col_s g x n i ⊑D col_s g' x' (cnt keep n) (cnt keep i)
  unfolding col_s scale_j
  strike_S i l t =
      strike_sum_j keep (λ k. scale_j (g k i) (x k)) (λ k. scale_j (g' k (cnt keep i)) (x' k)) n
      (λ k p q. J-scale (J-same (h.g-same k i p q l t)) (⊑_of (h.fraction k p q)))
      (λ k p q. J-gone-scale (g k i) (x k) (h.absent k p q))
      (λ k. mul-fits binary64 (g k i).v (x k)) (λ k. mul-fits binary64 (g' k (cnt keep i)).v (x' k))

  strike_C : (i : ℕ) → i < n → T (keep i) → col_c tau g x n i ⊑J col_c tau' g' x' (cnt keep n) (cnt keep i)
  unfolding col_c scale_j
  strike_C i l t =
      J_of_D (strike_sum_j keep (λ k. scale_j (mul_j (tau k i) (g k i)) (x k)) (λ k. scale_j (mul_j (tau' k (cnt keep i)) (g' k (cnt keep i))) (x' k)) n
      (λ k p q. J-scale (J-mul (J-same (h.tau-same k i p q l t)) (J-same (h.g-same k i p q l t))) (⊑_of (h.fraction k p q)))
      (λ k p q. J-gone-scale (mul_j (tau k i) (g k i)) (x k) (h.absent k p q))
      (λ k. mul-fits binary64 (mul_j (tau k i) (g k i)).v (x k)) (λ k. mul-fits binary64 (mul_j (tau' k (cnt keep i)) (g' k (cnt keep i))).v (x' k)))

  strike_ratio : (i : ℕ) → i < n → T (keep i) → ratio tau g x n i ⊑J ratio tau' g' x' (cnt keep n) (cnt keep i)
  strike_ratio i l t = J-div (strike_C i l t) (strike_S i l t)

  ratio-fits : (i : ℕ) → FitsJ (ratio tau g x n i)
  unfolding div_j
  ratio-fits i = record { v = div-fits binary64 _ _; d = div-fits binary64 _ _; dd = div-fits binary64 _ _ }

  pub strike_ge : reduced_j tau g x n ⊑J reduced_j tau' g' x' (cnt keep n)
  unfolding gibbs_from scale_j
  strike_ge =
      J_of_D (strike_sum_j keep (λ i. scale_j (ratio tau g x n i) (x i)) (λ i. scale_j (ratio tau' g' x' (cnt keep n) i) (x' i)) n
      (λ k p q. J-scale (strike_ratio k p q) (⊑_of (h.fraction k p q)))
      (λ k p q. J-gone-scale (ratio tau g x n k) (x k) (h.absent k p q))
      (λ k. mul-fits binary64 (ratio tau g x n k).v (x k)) (λ k. mul-fits binary64 (ratio tau' g' x' (cnt keep n) k).v (x' k)))

  pub strike_ln : (i : ℕ) → i < n → T (keep i) → ln_gamma_j tau g x n i ⊑J ln_gamma_j tau' g' x' (cnt keep n) (cnt keep i)
  unfolding ln_from term_j
  strike_ln i l t =
      strike_from_j keep (term tau g x n i) (term tau' g' x' (cnt keep n) (cnt keep i)) n
      (λ j p q. J-mul (J-div (J-scale (J-same (h.g-same i j l t p q)) (⊑_of (h.fraction j p q))) (strike_S j p q)) (J-sub (J-same (h.tau-same i j l t p q)) (J-div (strike_C j p q) (strike_S j p q))))
      (λ j p q. J-gone-mul (sub_j (tau i j) (div_j (col_c tau g x n j) (col_s g x n j))) (J-gone-div (col_s g x n j) (J-gone-scale (g i j) (x j) (h.absent j p q))))
      (ratio tau g x n i) (ratio tau' g' x' (cnt keep n) (cnt keep i)) (ratio-fits i) (strike_ratio i l t)
