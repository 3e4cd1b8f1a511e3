-- What of an excess state isn't its model's own is struck: where the longer call's jets are near the shorter's, an accepted state is accepted, with equal results for the
-- solvents kept. Assumes nothing.
use mathlib.Core.Path.{◌≡◌, refl, sym, ap, ◌∙◌, subst}
use Prim.Native.Nat.{ℕ, zero, suc, ◌+◌, ◌*◌, ◌≤◌, ◌<◌}
use native.Mathlib.Nat.{le_trans, le_refl, add-zero}
use native.Mathlib.Omega.{arith}
use mathlib.Core.Bool.{Bool, true, false, not}
use mathlib.Core.List.{List}
use lib.Dec.{T}
use lib.Ieee.{Float, nan, inf, fin, binary64, neg, lt, of_bits}
use lib.Ieee.Scale.{finite}
use Rattle.floats.specs.Arithmetic.{◌⊖◌, ◌⊗◌, 0f, 1f, 2f}
use Rattle.floats.specs.Small.{is_finite, abs_of}
use Rattle.floats.specs.Fold.{sum_to}
use Rattle.floats.specs.Vector.{at, vec}
use Rattle.floats.specs.Outcome.{Out}
use Rattle.floats.proofs.Fills.{vec-at}
use Rattle.thermo_types.specs.Composition.{sum_tolerance, all_finite, sums_to_one, with_fractions}
use Rattle.jet.specs.declared.Jet.{Jet}
use Rattle.excess.specs.State.{gas_r, gibbs_of, enthalpy_of, heat_capacity_of, entropy_of, state_with, state_from, with_state}
use Rattle.zeros.specs.Same.{plus0, ◌≈◌}
use Rattle.zeros.proofs.Congruence.{≈refl, ≈sym, finite_≈, lt_≈}
use Rattle.zeros.proofs.Zero.{Zero, finite_mul-r, num_finite, zero_of_≈}
use Rattle.zeros.specs.Below.{◌⊑◌}
use Rattle.zeros.proofs.Below.{⊑_refl, ⊑_add, ⊑_sub, ⊑_mul, ⊑_div, ⊑!_of, ⊑_finite}
use Rattle.striking.specs.Accepted.{Acc}
use Rattle.striking.specs.Places.{tick, cnt}
use Rattle.striking.specs.Related.{Fractions, SameExcess}
use Rattle.striking.proofs.Strike.{strike_sum≡, cnt_lt}
use Rattle.striking.proofs.Acc.{acc_need, acc_ok, all_at, strike_all}
use Rattle.striking.proofs.Jets.{◌⊑J◌}

-- ---- the finite test
pub is_finite-is : (x : Float) → is_finite x ≡ finite x
unfolding is_finite
is_finite-is nan = refl
is_finite-is (inf s) = refl
is_finite-is (fin s m e) = refl

pub is_finite_lem : (x : Float) → T (is_finite x) → T (finite x)
is_finite_lem x h = subst T (is_finite-is x) h

pub is_finite_≈ : {x y : Float} → x ≈ y → is_finite x ≡ is_finite y
is_finite_≈ {x} {y} p = is_finite-is x ∙ finite_≈ p ∙ sym (is_finite-is y)

pub finite_to : {x y : Float} → x ⊑ y → T (is_finite x) → T (is_finite y)
finite_to {x} {y} p h = subst T (is_finite_≈ (⊑_finite p (is_finite_lem x h))) h

-- ---- places
pub cnt_le : (keep : ℕ → Bool) (n : ℕ) → cnt keep n ≤ n
unfolding cnt
cnt_le keep zero = le_refl 0
cnt_le keep (suc n) = go (keep n) (cnt_le keep n)
  where
    go : (b : Bool) → cnt keep n ≤ n → tick b (cnt keep n) ≤ suc n
    go true h = omega arith
    go false h = omega arith

-- parameters of pairs of two kept solvents: six of each
pub record Params (keep : ℕ → Bool) (n : ℕ) (P P' : List Float) : Type 0 where
  pub entry : (i j : ℕ) → i < n → T (keep i) → j < n → T (keep j) → (k : ℕ) → k < 6 → at P ((i * 8 + j) * 6 + k) ≡ at P' ((cnt keep i * 8 + cnt keep j) * 6 + k)

-- the first of six
pub first_entry : (P P' : List Float) (e e' : ℕ) → at P (e * 6 + 0) ≡ at P' (e' * 6 + 0) → at P (e * 6) ≡ at P' (e' * 6)
first_entry P P' e e' h = ap (at P) (sym (add-zero (e * 6))) ∙ h ∙ ap (at P') (add-zero (e' * 6))

module _ (keep : ℕ → Bool) (n : ℕ) (small : n ≤ 8) (x x' : ℕ → Float) (hx : Fractions keep n x x') where
  gone_zero : T (all_finite x n) → (k : ℕ) → k < n → T (not (keep k)) → Zero (x k)
  unfolding of_bits
  gone_zero f k l q = zero_of_≈ plus0 (x k) (≈sym (⊑_finite (hx.absent k l q) (is_finite_lem (x k) (all_at (λ i. is_finite (x i)) n k f l)))) tt

  pub same_sum : T (all_finite x n) → sum_to x n ≡ sum_to x' (cnt keep n)
  unfolding of_bits
  same_sum f = strike_sum≡ keep x x' n hx.fit hx.fit' hx.fraction (gone_zero f)

  -- the tests of a composition, with related calls behind them
  pub strike_fractions : {A A' : Type 0} {R : A → A' → Type 0} (o : Out A) (o' : Out A') → (T (all_finite x n) → Acc R o o') → Acc R (with_fractions x n o) (with_fractions x' (cnt keep n) o')
  unfolding with_fractions sums_to_one
  strike_fractions o o' f =
      acc_need _ _ 15 _ _ (strike_all keep _ _ n (λ k l q h. subst T (is_finite_≈ (hx.fraction k l q)) h)) (λ h2.
      acc_need _ _ 16 _ _ (strike_all keep _ _ n (λ k l q h. subst (λ (b : Bool). T (not b)) (lt_≈ (hx.fraction k l q) (≈refl 0f)) h)) (λ h3.
      acc_need _ _ 18 _ _ (λ h. subst (λ (s : Float). T (not (lt sum_tolerance (abs_of (s ⊖ 1f))))) (same_sum h2) h) (λ h4.
      f h2)))

  -- ahead of every model: T, then the composition
  pub strike_with_state : {A A' : Type 0} {R : A → A' → Type 0} (t : Float) (o : Out A) (o' : Out A') → Acc R o o' → Acc R (with_state t x n o) (with_state t x' (cnt keep n) o')
  unfolding with_state
  strike_with_state t o o' f = acc_need _ _ 13 _ _ (λ h. h) (λ h0. acc_need _ _ 13 _ _ (λ h. h) (λ h1. strike_fractions o o' (λ h2. f)))

-- ---- the state of g^E / RT and ln γ
module _ (keep : ℕ → Bool) (n : ℕ) (small : n ≤ 8) (t : Float) (e e' : Jet) (near : e ⊑J e') (L L' : ℕ → Jet) (near-ln : (i : ℕ) → i < n → T (keep i) → L i ⊑J L' (cnt keep i)) where
  near-gibbs : gibbs_of e t ⊑ gibbs_of e' t
  unfolding gibbs_of
  near-gibbs = ⊑_mul (⊑_refl (gas_r ⊗ t)) near.v

  near-enthalpy : enthalpy_of e t ⊑ enthalpy_of e' t
  unfolding enthalpy_of
  near-enthalpy = ⊑_mul (⊑_refl (neg gas_r ⊗ t ⊗ t)) near.d

  near-entropy : entropy_of e t ⊑ entropy_of e' t
  unfolding entropy_of
  near-entropy = ⊑_div (⊑_sub near-enthalpy near-gibbs) (⊑!_of refl)

  near_heat : heat_capacity_of e t ⊑ heat_capacity_of e' t
  unfolding heat_capacity_of
  near_heat = ⊑_mul (⊑_refl (neg gas_r)) (⊑_add (⊑_mul (⊑_refl (2f ⊗ t)) near.d) (⊑_mul (⊑_refl (t ⊗ t)) near.dd))

  fewer : cnt keep n ≤ 8
  fewer = le_trans (cnt_le keep n) small

  listed : (f f' : ℕ → Float) → ((i : ℕ) → i < n → T (keep i) → f i ≈ f' (cnt keep i)) → (i : ℕ) → i < n → T (keep i) → at (vec f n) i ≈ at (vec f' (cnt keep n)) (cnt keep i)
  listed f f' r i l p =
      subst (λ (u : Float). u ≈ at (vec f' (cnt keep n)) (cnt keep i)) (sym (vec-at f n i small l))
      (subst (λ (u : Float). f i ≈ u) (sym (vec-at f' (cnt keep n) (cnt keep i) fewer (cnt_lt keep i n p l))) (r i l p))

  pub strike_state : Acc (SameExcess keep n) (state_from e L n t) (state_from e' L' (cnt keep n) t)
  unfolding state_from state_with gibbs_of
  strike_state =
      acc_need _ _ 25 _ _ (strike_all keep _ _ n (λ k l q u. finite_to (near-ln k l q).v u)) (λ f.
      acc_need _ _ 25 _ _ (strike_all keep _ _ n (λ k l q u. finite_to (near-ln k l q).d u)) (λ g.
      acc_need _ _ 25 _ _ (finite_to near-gibbs) (λ a.
      acc_need _ _ 25 _ _ (finite_to near-enthalpy) (λ b.
      acc_need _ _ 25 _ _ (finite_to near_heat) (λ c.
      acc_need _ _ 25 _ _ (finite_to near-entropy) (λ d.
      acc_ok (record {
        ln_gamma = listed _ _ (λ i l p. ⊑_finite (near-ln i l p).v (is_finite_lem (L i).v (all_at (λ i. is_finite (L i).v) n i f l)));
        slopes = listed _ _ (λ i l p. ⊑_finite (near-ln i l p).d (is_finite_lem (L i).d (all_at (λ i. is_finite (L i).d) n i g l)));
        reduced = near.v.at (num_finite e.v (finite_mul-r binary64 (gas_r ⊗ t) e.v (is_finite_lem (gibbs_of e t) a)));
        gibbs = ⊑_finite near-gibbs (is_finite_lem (gibbs_of e t) a);
        enthalpy = ⊑_finite near-enthalpy (is_finite_lem (enthalpy_of e t) b);
        entropy = ⊑_finite near-entropy (is_finite_lem (entropy_of e t) d);
        heat_capacity = ⊑_finite near_heat (is_finite_lem (heat_capacity_of e t) c);
      })))))))
