-- The sums of Wilson's equation, in index order and for every n, over Λ as a function of two indices (Wilson 1964). Assumes nothing.
use Rattle.std.specs.Prelude.{ℕ, Float}
use Rattle.floats.specs.Arithmetic.{1f}
use Rattle.jet.specs.declared.Jet.{Jet}
use Rattle.jet.specs.Jets.{const_j, scale_j, sub_j, neg_j, div_j, ln_j, sum_jet_to}

-- S_i = Σ_j x_j Λ_ij
unfoldable pub row_s : (ℕ → ℕ → Jet) → (ℕ → Float) → ℕ → ℕ → Jet
row_s L x n i = sum_jet_to (λ j. scale_j (L i j) (x j)) n

-- Σ_k x_k Λ_ki / S_k
unfoldable pub quotients : (ℕ → ℕ → Jet) → (ℕ → Jet) → (ℕ → Float) → ℕ → ℕ → Jet
quotients L S x n i = sum_jet_to (λ k. div_j (scale_j (L k i) (x k)) (S k)) n

-- 1 - ln S_i - Σ_k x_k Λ_ki / S_k, from S and ln S
unfoldable pub wilson_from : (ℕ → ℕ → Jet) → (ℕ → Jet) → (ℕ → Jet) → (ℕ → Float) → ℕ → ℕ → Jet
wilson_from L S lnS x n i = sub_j (sub_j (const_j 1f) (lnS i)) (quotients L S x n i)

-- - Σ_i x_i ln S_i
unfoldable pub gibbs_of_ln : (ℕ → Jet) → (ℕ → Float) → ℕ → Jet
gibbs_of_ln lnS x n = neg_j (sum_jet_to (λ i. scale_j (lnS i) (x i)) n)

-- ln γ_i
abbrev pub wilson_ln_gamma : (ℕ → ℕ → Jet) → (ℕ → Float) → ℕ → ℕ → Jet
wilson_ln_gamma L x n i = wilson_from L (row_s L x n) (λ k. ln_j (row_s L x n k)) x n i

-- g^E / RT
abbrev pub wilson_reduced : (ℕ → ℕ → Jet) → (ℕ → Float) → ℕ → Jet
wilson_reduced L x n = gibbs_of_ln (λ i. ln_j (row_s L x n i)) x n
