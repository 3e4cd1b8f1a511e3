-- NRTL is struck: an accepted call with absent solvents is accepted without them, with equal results for the solvents kept. Assumes nothing.
use mathlib.Core.Path.{◌≡◌, refl, ap, ◌∙◌, subst}
use Prim.Native.Nat.{ℕ, ◌+◌, ◌*◌, ◌≤◌, ◌<◌}
use native.Mathlib.Omega.{arith}
use mathlib.Core.Bool.{Bool, false, not, cond}
use mathlib.Core.List.{List}
use lib.Dec.{T, eqb}
use lib.Ieee.{Float, le, is_nan}
use Rattle.floats.specs.Arithmetic.{0f}
use Rattle.floats.specs.Vector.{at}
use Rattle.jet.specs.declared.Jet.{Jet}
use Rattle.jet.specs.Jets.{mul_j, neg_j, exp_j}
use Rattle.nrtl_tables.specs.Pair.{basis_of, tau_j, alpha_j, exponent_j, tau_ij, g_ij, alpha_right, all_right, tau_at, g_at}
use Rattle.nrtl.specs.State.{nrtl_of}
use Rattle.striking.specs.Accepted.{Acc}
use Rattle.striking.specs.Places.{cnt}
use Rattle.striking.specs.Related.{Fractions, SameExcess}
use Rattle.striking.proofs.Strike.{cnt_eqb}
use Rattle.striking.proofs.Acc.{acc_need, strike_all}
use Rattle.striking.proofs.Active.{cond_both}
use Rattle.striking.proofs.Excess.{Params, first_entry, strike_with_state, strike_state}
use Rattle.striking.proofs.Sums.{Struck, strike_ge, strike_ln}

module _ (P P' : List Float) (t : Float) (e e' : ℕ) (h : (k : ℕ) → k < 6 → at P (e * 6 + k) ≡ at P' (e' * 6 + k)) where
  same-tau_j : tau_j P (basis_of t) e ≡ tau_j P' (basis_of t) e'
  unfolding tau_j
  same-tau_j = rw (first_entry P P' e e' (h 0 (omega arith)), h 1 (omega arith), h 2 (omega arith), h 3 (omega arith))

  same-alpha_j : alpha_j P (basis_of t) e ≡ alpha_j P' (basis_of t) e'
  unfolding alpha_j
  same-alpha_j = rw (h 4 (omega arith), h 5 (omega arith))

module _ (keep : ℕ → Bool) (n : ℕ) (small : n ≤ 8) (P P' : List Float) (hp : Params keep n P P') (t : Float) (x x' : ℕ → Float) (hx : Fractions keep n x x') where
  module _ (i j : ℕ) (l : i < n) (p : T (keep i)) (m : j < n) (q : T (keep j)) where
    tau-same : tau_j P (basis_of t) (i * 8 + j) ≡ tau_j P' (basis_of t) (cnt keep i * 8 + cnt keep j)
    tau-same = same-tau_j P P' t (i * 8 + j) (cnt keep i * 8 + cnt keep j) (hp.entry i j l p m q)

    alpha_same : alpha_j P (basis_of t) (i * 8 + j) ≡ alpha_j P' (basis_of t) (cnt keep i * 8 + cnt keep j)
    alpha_same = same-alpha_j P P' t (i * 8 + j) (cnt keep i * 8 + cnt keep j) (hp.entry i j l p m q)

    same-tau : tau_at P t i j ≡ tau_at P' t (cnt keep i) (cnt keep j)
    unfolding tau_ij
    same-tau = cond_both (eqb i j) (eqb (cnt keep i) (cnt keep j)) _ _ _ _ (cnt_eqb keep i j p q) refl tau-same

    same-g : g_at P t i j ≡ g_at P' t (cnt keep i) (cnt keep j)
    unfolding g_ij exponent_j
    same-g = cond_both (eqb i j) (eqb (cnt keep i) (cnt keep j)) _ _ _ _ (cnt_eqb keep i j p q) refl
        (ap (λ (a : Jet). exp_j (neg_j (mul_j a (tau_j P (basis_of t) (i * 8 + j))))) alpha_same
        ∙ ap (λ (b : Jet). exp_j (neg_j (mul_j (alpha_j P' (basis_of t) (cnt keep i * 8 + cnt keep j)) b))) tau-same)

    same-right : alpha_right P (basis_of t) i j ≡ alpha_right P' (basis_of t) (cnt keep i) (cnt keep j)
    unfolding alpha_right
    same-right = cond_both (eqb i j) (eqb (cnt keep i) (cnt keep j)) _ _ _ _ (cnt_eqb keep i j p q) refl
        (ap (λ (a : Jet). cond (is_nan a.v) false (not (le a.v 0f))) alpha_same)

  struck : Struck keep n (tau_at P t) (g_at P t) x (tau_at P' t) (g_at P' t) x'
  struck = record {
    absent = hx.absent;
    fraction = hx.fraction;
    tau-same = λ k i p q l r. same-tau k i p q l r;
    g-same = λ k i p q l r. same-g k i p q l r;
  }

  pub strike_nrtl : Acc (SameExcess keep n) (nrtl_of P n t x) (nrtl_of P' (cnt keep n) t x')
  unfolding nrtl_of all_right
  strike_nrtl =
      strike_with_state keep n small x x' hx t _ _
      (acc_need _ _ 24 _ _ (strike_all keep _ _ n (λ i l p h. strike_all keep _ _ n (λ j m q k. subst T (same-right i j l p m q) k) h)) (λ h.
      strike_state keep n small t _ _ (strike_ge keep n _ _ x _ _ x' struck) _ _ (λ i l p. strike_ln keep n _ _ x _ _ x' struck i l p)))
