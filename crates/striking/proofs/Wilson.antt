-- Wilson is struck: an accepted call with absent solvents is accepted without them, with equal results for the solvents kept. Assumes nothing.
use mathlib.Core.Path.{◌≡◌, refl, ap}
use Prim.Native.Nat.{ℕ, ◌+◌, ◌*◌, ◌≤◌, ◌<◌}
use native.Mathlib.Omega.{arith}
use mathlib.Core.Bool.{Bool}
use mathlib.Core.List.{List}
use lib.Dec.{T, eqb}
use lib.Ieee.{Float, binary64}
use lib.Ieee.Fits.{mul-fits, div-fits}
use Rattle.floats.specs.Arithmetic.{1f}
use Rattle.floats.specs.Vector.{at}
use Rattle.jet.specs.declared.Jet.{Jet}
use Rattle.jet.specs.Jets.{const_j, scale_j, div_j, exp_j, ln_j}
use Rattle.wilson_tables.specs.Pair.{ln_lambda_j, lambda_ij}
use Rattle.wilson.specs.Sums.{row_s, quotients, wilson_from, gibbs_of_ln, wilson_ln_gamma, wilson_reduced}
use Rattle.wilson.specs.State.{wilson_of}
use Rattle.zeros.proofs.Below.{⊑_of}
use Rattle.striking.specs.Accepted.{Acc}
use Rattle.striking.specs.Places.{cnt}
use Rattle.striking.specs.Related.{Fractions, SameExcess}
use Rattle.striking.proofs.Strike.{cnt_eqb}
use Rattle.striking.proofs.Active.{cond_both}
use Rattle.striking.proofs.Excess.{Params, first_entry, strike_with_state, strike_state}
use Rattle.striking.proofs.Jets.{◌⊑J◌, ◌⊑D◌, J_refl, J-same, J_of_D, J-sub, J-neg, J-scale, J-div, J-ln, J-gone-scale, J-gone-div, strike_sum_j}

same-ln_lambda : (P P' : List Float) (t : Float) (e e' : ℕ) → ((k : ℕ) → k < 6 → at P (e * 6 + k) ≡ at P' (e' * 6 + k)) → ln_lambda_j P t e ≡ ln_lambda_j P' t e'
unfolding ln_lambda_j
same-ln_lambda P P' t e e' h = rw (first_entry P P' e e' (h 0 (omega arith)), h 1 (omega arith))

module _ (keep : ℕ → Bool) (n : ℕ) (small : n ≤ 8) (P P' : List Float) (hp : Params keep n P P') (t : Float) (x x' : ℕ → Float) (hx : Fractions keep n x x') where
  same_lambda : (i j : ℕ) → i < n → T (keep i) → j < n → T (keep j) → lambda_ij P t i j ≡ lambda_ij P' t (cnt keep i) (cnt keep j)
  unfolding lambda_ij
  same_lambda i j l p m q =
      cond_both (eqb i j) (eqb (cnt keep i) (cnt keep j)) _ _ _ _ (cnt_eqb keep i j p q) refl
      (ap (λ (a : Jet). exp_j a) (same-ln_lambda P P' t (i * 8 + j) (cnt keep i * 8 + cnt keep j) (hp.entry i j l p m q)))

  abbrev L : ℕ → ℕ → Jet
  L = lambda_ij P t

  abbrev L' : ℕ → ℕ → Jet
  L' = lambda_ij P' t

  -- x_k Λ_ij of solvents kept
  near-term : (i j k : ℕ) → i < n → T (keep i) → j < n → T (keep j) → k < n → T (keep k)
      → scale_j (L i j) (x k) ⊑J scale_j (L' (cnt keep i) (cnt keep j)) (x' (cnt keep k))
  near-term i j k l p m q o r = J-scale (J-same (same_lambda i j l p m q)) (⊑_of (hx.fraction k o r))

  strike_S : (i : ℕ) → i < n → T (keep i) → row_s L x n i ⊑D row_s L' x' (cnt keep n) (cnt keep i)
  unfolding row_s scale_j
  strike_S i l p =
      strike_sum_j keep (λ j. scale_j (L i j) (x j)) (λ j. scale_j (L' (cnt keep i) j) (x' j)) n
      (λ j m q. near-term i j j l p m q m q)
      (λ j m q. J-gone-scale (L i j) (x j) (hx.absent j m q))
      (λ j. mul-fits binary64 (L i j).v (x j)) (λ j. mul-fits binary64 (L' (cnt keep i) j).v (x' j))

  strike_quotients : (i : ℕ) → i < n → T (keep i) → quotients L (row_s L x n) x n i ⊑J quotients L' (row_s L' x' (cnt keep n)) x' (cnt keep n) (cnt keep i)
  unfolding quotients div_j
  strike_quotients i l p =
      J_of_D (strike_sum_j keep (λ k. div_j (scale_j (L k i) (x k)) (row_s L x n k)) (λ k. div_j (scale_j (L' k (cnt keep i)) (x' k)) (row_s L' x' (cnt keep n) k)) n
      (λ k m q. J-div (near-term k i k m q l p m q) (strike_S k m q))
      (λ k m q. J-gone-div (row_s L x n k) (J-gone-scale (L k i) (x k) (hx.absent k m q)))
      (λ k. div-fits binary64 _ _) (λ k. div-fits binary64 _ _))

  strike_ln_gamma : (i : ℕ) → i < n → T (keep i) → wilson_ln_gamma L x n i ⊑J wilson_ln_gamma L' x' (cnt keep n) (cnt keep i)
  unfolding wilson_from
  strike_ln_gamma i l p = J-sub (J-sub (J_refl (const_j 1f)) (J-ln (strike_S i l p))) (strike_quotients i l p)

  strike_reduced : wilson_reduced L x n ⊑J wilson_reduced L' x' (cnt keep n)
  unfolding gibbs_of_ln scale_j
  strike_reduced =
      J-neg (J_of_D (strike_sum_j keep (λ i. scale_j (ln_j (row_s L x n i)) (x i)) (λ i. scale_j (ln_j (row_s L' x' (cnt keep n) i)) (x' i)) n
      (λ i l p. J-scale (J-ln (strike_S i l p)) (⊑_of (hx.fraction i l p)))
      (λ i l q. J-gone-scale (ln_j (row_s L x n i)) (x i) (hx.absent i l q))
      (λ i. mul-fits binary64 _ _) (λ i. mul-fits binary64 _ _)))

  pub strike_wilson : Acc (SameExcess keep n) (wilson_of P n t x) (wilson_of P' (cnt keep n) t x')
  unfolding wilson_of
  strike_wilson = strike_with_state keep n small x x' hx t _ _ (strike_state keep n small t _ _ strike_reduced _ _ strike_ln_gamma)
