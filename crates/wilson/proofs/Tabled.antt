-- On a table that `tables` made, Wilson of the table is Wilson of the parameters: ln S once is ln S each time, and Jets without second
-- derivatives give the same values and slopes. Assumes nothing.
use Prim.Native.Nat.{ℕ, ◌+◌, ◌*◌, ◌<◌, ◌≤◌}
use mathlib.Core.Path.{◌≡◌, refl, ap}
use mathlib.Core.List.{List}
use native.Mathlib.Omega.{arith}
use lib.ListN.{length}
use lib.Ieee.{Float}
use Rattle.floats.specs.Vector.{at}
use Rattle.jet.specs.declared.Jet.{Jet}
use Rattle.jet.specs.Jets.{scale_j, neg_j, ln_j}
use Rattle.jet.specs.Planes.{jet_at, jets}
use Rattle.jet.proofs.Sums.{sum_jet_cong}
use Rattle.jet.proofs.Near.{◌≃◌, near_refl, scale-near, div-near, sub-near, sum_near}
use Rattle.jet.proofs.Planes.{rows_at, jet_is, first-near, twos-near}
use Rattle.excess.specs.State.{with_state}
use Rattle.excess.proofs.Ways.{state-near}
use Rattle.wilson_tables.specs.Pair.{lambda_ij}
use Rattle.wilson_tables.specs.Table.{kept_of, lambda_rows, lambdas_of}
use Rattle.wilson.specs.Sums.{row_s, quotients, wilson_from, gibbs_of_ln, wilson_ln_gamma, wilson_reduced}
use Rattle.wilson.specs.State.{wilson_of}
use Rattle.wilson.specs.On.{s_on, ln_gamma_on, reduced_on, wilson_on}

-- the table m stands for Λ, below n
abbrev TableOf : (ℕ → ℕ → Jet) → ℕ → List Float → Type 0
TableOf L n m = (i j : ℕ) → i < n → j < n → jets m 0 i j ≡ L i j

rows_stand : (L : ℕ → ℕ → Jet) (n : ℕ) (old : List Float) → length old ≡ 512 → n ≤ 8 → TableOf L n (lambda_rows L n n old)
unfolding jet_at kept_of
rows_stand L n old len n8 i j a b = jet_is (L i j) (e 0 (omega arith)) (e 1 (omega arith)) (e 2 (omega arith))
  where
    e : (k : ℕ) → k < 3 → at (lambda_rows L n n old) (k * 64 + (i * 8 + j)) ≡ kept_of (L i j) k
    e k k3 = rows_at (λ i j. kept_of (L i j)) 3 n n old k i j len (omega arith) n8 n8 k3 a b

module _ (L : ℕ → ℕ → Jet) (n : ℕ) (m : List Float) (s : TableOf L n m) (x : ℕ → Float) where
  s-is : (i : ℕ) → i < n → s_on m x n i ≡ row_s L x n i
  unfolding row_s
  s-is i l = sum_jet_cong n refl (λ j a. ap (λ (q : Jet). scale_j q (x j)) (s i j l a))

  reduced-is : reduced_on m x n ≡ wilson_reduced L x n
  unfolding gibbs_of_ln
  reduced-is = ap neg_j (sum_jet_cong n refl (λ i a. ap (λ (q : Jet). scale_j (ln_j q) (x i)) (s-is i a)))

  ln_gamma_near : (i : ℕ) → i < n → ln_gamma_on m x n i ≃ wilson_ln_gamma L x n i
  unfolding wilson_from quotients
  ln_gamma_near i l =
      sub-near
      (sub-near near_refl (first-near (ap (λ (q : Jet). ln_j q) (s-is i l))))
      (sum_near _ _ n near_refl (λ k h. div-near (scale-near (x k) (twos-near m 0 k i (s k i h l))) (first-near (s-is k h))))

-- the law: a table of `tables` carries the parameters
pub wilson_filled : (P : List Float) (n : ℕ) (t : Float) (old : List Float) → length old ≡ 512 → n ≤ 8 → (x : ℕ → Float)
    → wilson_on (lambdas_of P n t old) n t x ≡ wilson_of P n t x
unfolding wilson_on wilson_of lambdas_of
wilson_filled P n t old len n8 x =
    let s = rows_stand (lambda_ij P t) n old len n8 in
    ap (with_state t x n) (state-near _ _ n t (reduced-is (lambda_ij P t) n _ s x) (ln_gamma_near (lambda_ij P t) n _ s x))
