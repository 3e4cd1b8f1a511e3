-- τ, α and G of one ordered pair at a temperature (Renon and Prausnitz 1968, with the Rust's terms in T). The parameters P are a flat list:
-- t0 to t3, a0 and a1 of the pair (i, j) from (i * 8 + j) * 6 on. Assumes nothing.
use Rattle.std.specs.Prelude.{ℕ, ◌+◌, ◌*◌, Bool, true, false, not, cond, ◌&&◌, List, eqb, Float}
use Rattle.std.specs.Float.Ieee.{neg, le, lt, is_nan}
use Rattle.floats.specs.Arithmetic.{◌⊗◌, ◌⊘◌, 0f, 1f, 2f}
use Rattle.floats.specs.Fold.{all_to}
use Rattle.floats.specs.Vector.{at}
use Rattle.numerics.specs.Numerics.{ln_of}
use Rattle.jet.specs.declared.Jet.{Jet}
use Rattle.jet.specs.Jets.{const_j, add_j, scale_j, mul_j, neg_j, exp_j}
use Rattle.nrtl_tables.specs.declared.Basis.{Basis}

abbrev pub -1f : Float
-1f = neg 1f

-- ln T, 1/T and T, each with its derivatives
unfoldable pub basis_of : Float → Basis
basis_of t = record {
  lnt = record { v = ln_of t; d = 1f ⊘ t; dd = -1f ⊘ (t ⊗ t) };
  inv = record { v = 1f ⊘ t; d = -1f ⊘ (t ⊗ t); dd = 2f ⊘ (t ⊗ t ⊗ t) };
  tj = record { v = t; d = 1f; dd = 0f };
}

-- ---- of the pair at e = i * 8 + j

-- t0 + t1 / T + t2 ln T + t3 T
unfoldable pub tau_j : List Float → Basis → ℕ → Jet
tau_j P b e =
    add_j
    (add_j
    (add_j (const_j (at P (e * 6))) (scale_j b.inv (at P (e * 6 + 1))))
    (scale_j b.lnt (at P (e * 6 + 2))))
    (scale_j b.tj (at P (e * 6 + 3)))

-- a0 + a1 T
unfoldable pub alpha_j : List Float → Basis → ℕ → Jet
alpha_j P b e = add_j (const_j (at P (e * 6 + 4))) (scale_j b.tj (at P (e * 6 + 5)))

-- - α τ
unfoldable pub exponent_j : List Float → Basis → ℕ → Jet
exponent_j P b e = neg_j (mul_j (alpha_j P b e) (tau_j P b e))

-- ---- entry (i, j); every diagonal term is zero

-- τ_ij
unfoldable pub tau_ij : List Float → Basis → ℕ → ℕ → Jet
tau_ij P b i j = cond (eqb i j) (const_j 0f) (tau_j P b (i * 8 + j))

-- G_ij = exp (- α_ij τ_ij)
unfoldable pub g_ij : List Float → Basis → ℕ → ℕ → Jet
g_ij P b i j = cond (eqb i j) (const_j 1f) (exp_j (exponent_j P b (i * 8 + j)))

-- α_ij is neither a NaN nor ≤ 0
unfoldable pub alpha_right : List Float → Basis → ℕ → ℕ → Bool
alpha_right P b i j =
    let v = (alpha_j P b (i * 8 + j)).v in
    cond (eqb i j) true (cond (is_nan v) false (not (le v 0f)))

-- ---- at the temperature t

abbrev pub tau_at : List Float → Float → ℕ → ℕ → Jet
tau_at P t i j = tau_ij P (basis_of t) i j

abbrev pub g_at : List Float → Float → ℕ → ℕ → Jet
g_at P t i j = g_ij P (basis_of t) i j

-- question 24: every α_ij of the first n is positive
unfoldable pub all_right : List Float → Basis → ℕ → Bool
all_right P b n = all_to (λ i. all_to (alpha_right P b i) n) n

abbrev pub alphas_right : List Float → Float → ℕ → Bool
alphas_right P t n = all_right P (basis_of t) n

-- ---- the same of the six parameters of each pair that a source gives
unfoldable pub alpha_above : Basis → List Float → Bool
alpha_above b p = lt 0f (alpha_j p b 0).v

unfoldable pub both_above : Basis → (ℕ → ℕ → List Float) → ℕ → ℕ → Bool
both_above b S i j = alpha_above b (S j i) && alpha_above b (S i j)

unfoldable pub all_above : Basis → (ℕ → ℕ → List Float) → ℕ → Bool
all_above b S n = all_to (λ i. all_to (both_above b S i) i) n
