-- Validity and the inferred word are struck: only pairs of two solvents present are looked at, and their blocks are those of the shorter book. Assumes nothing.
use mathlib.Core.Path.{◌≡◌, refl, sym, ap, ◌∙◌}
use Prim.Native.Nat.{ℕ, ◌+◌, ◌-◌, ◌≤◌, ◌<◌}
use native.Mathlib.Omega.{arith}
use mathlib.Core.Bool.{Bool, true, false, not, cond, ◌&&◌}
use mathlib.Core.List.{List}
use lib.Dec.{T, ltb, ltb→lt}
use lib.Ieee.{Float, le, eq, lt, of_bits}
use Rattle.floats.specs.Arithmetic.{0f}
use Rattle.floats.specs.Fold.{fold_to}
use Rattle.floats.specs.Vector.{at}
use Rattle.records.specs.Records.{regression_of}
use Rattle.thermo_models.proofs.Pairs.{row_all}
use Rattle.thermo_models.specs.Validity.{unseen, noted, visited, row_seen, all_seen, status_of, validity_of}
use Rattle.zeros.specs.Same.{◌≈◌}
use Rattle.zeros.proofs.Congruence.{≈refl, le_≈}
use Rattle.zeros.proofs.Zero.{Zero, zero_≈}
use Rattle.striking.specs.Places.{cnt}
use Rattle.striking.specs.Books.{KeptPairs}
use Rattle.striking.proofs.Strike.{strike_fold, fold_to_id, cnt_ltb}
use Rattle.striking.proofs.Active.{cond_off, cond_when, cong2}

-- a loop with equal kept steps, and struck ones that do nothing
same_fold : {S : Type 0} (keep : ℕ → Bool) (f f' : ℕ → S → S) (s : S) (n : ℕ) → ((k : ℕ) → k < n → T (keep k) → (a : S) → f k a ≡ f' (cnt keep k) a) → ((k : ℕ) → k < n → T (not (keep k)) → (a : S) → f k a ≡ a)
    → fold_to f s n ≡ fold_to f' s (cnt keep n)
same_fold {S} keep f f' s n kept struck =
    strike_fold keep (λ (a b : S). a ≡ b) f f' s s n refl (λ k l q a b h. kept k l q a ∙ ap (f' (cnt keep k)) h) (λ k l q a b h. struck k l q a ∙ h)

same_regression : (w w' : ℕ → ℕ) → ((k : ℕ) → 3 ≤ k → k ≤ 18 → w k ≡ w' k) → regression_of w ≡ regression_of w'
unfolding regression_of
same_regression w w' h =
    let a : w 15 ≡ w' 15 = h 15 (omega arith) (omega arith) in
    let b : w 16 ≡ w' 16 = h 16 (omega arith) (omega arith) in
    let c : w 17 ≡ w' 17 = h 17 (omega arith) (omega arith) in
    let d : w 18 ≡ w' 18 = h 18 (omega arith) (omega arith) in
    rw (a, b, c, d)

zero_le : (x : Float) → Zero x → le x 0f ≡ true
unfolding of_bits
zero_le x z = le_≈ (zero_≈ x 0f z tt) (≈refl 0f) ∙ (unfold le lt eq in refl)

cond_same : {A : Type 0} (b : Bool) {x y : A} → x ≡ y → cond b x y ≡ y
cond_same true e = e
cond_same false e = refl

and_off : (b c : Bool) → c ≡ true → (b && not c) ≡ false
and_off true c e = ap not e
and_off false c e = refl

and_off' : (b c : Bool) → b ≡ true → (not b && c) ≡ false
and_off' b c e = ap (λ (d : Bool). not d && c) e

module _ (keep : ℕ → Bool) (n : ℕ) (book book' : List ℕ) (hb : KeptPairs keep n book book') (t : Float) (x x' : List Float)
    (kept : (k : ℕ) → k < n → T (keep k) → at x k ≈ at x' (cnt keep k)) (struck : (k : ℕ) → k < n → T (not (keep k)) → Zero (at x k)) where
  same-visit : (i j : ℕ) → i < n → T (keep i) → j < n → T (keep j) → i < j → (s : _) → visited book n t x i j s ≡ visited book' (cnt keep n) t x' (cnt keep i) (cnt keep j) s
  unfolding visited
  same-visit i j li qi lj qj o s =
      cond_when _ _ _ _ _ _ (cong2 (λ c d. not c && not d) (le_≈ (kept i li qi) (≈refl 0f)) (le_≈ (kept j lj qj) (≈refl 0f)))
      (λ u. ap (λ r. noted r t s) (same_regression _ _ (hb.pair i j o lj qi qj)))
      (λ u. refl)

  same_row : (i : ℕ) → i < n → T (keep i) → (s : _) → row_seen book n t x i n s ≡ row_seen book' (cnt keep n) t x' (cnt keep i) (cnt keep n) s
  unfolding visited
  same_row i li qi s =
      row_all book n t x i s n
      ∙ same_fold keep _ (λ j a. cond (ltb (cnt keep i) j) (visited book' (cnt keep n) t x' (cnt keep i) j a) a) s n
      (λ j lj qj a. cond_when _ _ _ _ _ _ (cnt_ltb keep i j qi qj) (λ u. same-visit i j li qi lj qj (ltb→lt i j u) a) (λ u. refl))
      (λ j lj qj a. cond_same (ltb i j) (cond_off _ _ a (and_off (not (le (at x i) 0f)) (le (at x j) 0f) (zero_le (at x j) (struck j lj qj)))))
      ∙ sym (row_all book' (cnt keep n) t x' (cnt keep i) s (cnt keep n))

  no_row : (i : ℕ) → i < n → T (not (keep i)) → (s : _) → row_seen book n t x i n s ≡ s
  unfolding row_seen visited
  no_row i li qi s = fold_to_id (λ k. visited book n t x i (i + 1 + k)) s (n - (i + 1)) (λ k a l. cond_off _ _ a (and_off' (le (at x i) 0f) (not (le (at x (i + 1 + k)) 0f)) (zero_le (at x i) (struck i li qi))))

  same_seen : all_seen book n t x ≡ all_seen book' (cnt keep n) t x'
  unfolding all_seen
  same_seen = same_fold keep (λ i. row_seen book n t x i n) (λ i. row_seen book' (cnt keep n) t x' i (cnt keep n)) unseen n same_row no_row

  -- `validity`
  pub strike_validity : validity_of book n t x ≡ validity_of book' (cnt keep n) t x'
  unfolding validity_of
  strike_validity = ap (λ s. record { status = status_of s; inferred = s.inferred }) same_seen
