-- Loops over 0 .. n, and what is left of them when the indices that `keep` refuses are struck. The new place of a kept index k is `cnt keep k`,
-- the number of kept indices before it, so cnt keep n indices are left of n. Assumes nothing.
use mathlib.Core.Path.{◌≡◌, refl, sym, ap, ◌∙◌, subst}
use Prim.Native.Nat.{ℕ, zero, suc, ◌≤◌, ◌<◌}
use native.Mathlib.Nat.{le_refl, le_trans, le_of_suc-le-suc, eq-or-lt_of_le, not-suc-le-zero, lt_of_not-le, not-le_of_lt, lt_irrefl}
use native.Mathlib.Omega.{arith}
use mathlib.Core.Logic.{inl, inr}
use mathlib.Core.Bool.{Bool, true, false, not}
use lib.Dec.{T, ltb, eqb, ltb→lt, lt→ltb, eqb→eq, eqb_refl}
use lib.Ieee.{Float, binary64, fits}
use lib.Ieee.Fits.{add-fits}
use lib.Ieee.Bits.{is_true}
use Rattle.floats.specs.Arithmetic.{◌⊕◌}
use Rattle.floats.specs.Fold.{fold_to, sum_from}
use Rattle.striking.specs.Places.{tick, cnt}
use Rattle.zeros.specs.Same.{plus0, ◌≈◌}
use Rattle.zeros.proofs.Congruence.{same, add_≈, same_test}
use Rattle.zeros.proofs.Numbers.{sum_fits, sum-plain}
use Rattle.zeros.proofs.Zero.{Zero, Plain, plain-add, plain_≈, add_zero≡}
use Rattle.zeros.specs.Below.{◌⊑◌, ◌⊑!◌}
use Rattle.zeros.proofs.Below.{⊑_refl, ⊑_add, ⊑_plain, gone-drop}

up_one : {k n : ℕ} → k < n → k < suc n
up_one h = omega arith

-- the one law of striking: a relation that holds at the start, that a kept step keeps on both sides, and a struck step on the left alone, holds at the end
pub strike_fold : {S S' : Type 0} (keep : ℕ → Bool) (R : S → S' → Type 0) (f : ℕ → S → S) (f' : ℕ → S' → S') (s : S) (s' : S') (n : ℕ) → R s s'
    → ((k : ℕ) → k < n → T (keep k) → (a : S) (b : S') → R a b → R (f k a) (f' (cnt keep k) b))
    → ((k : ℕ) → k < n → T (not (keep k)) → (a : S) (b : S') → R a b → R (f k a) b)
    → R (fold_to f s n) (fold_to f' s' (cnt keep n))
unfolding cnt fold_to
strike_fold keep R f f' s s' zero r kept struck = r
strike_fold {S} {S'} keep R f f' s s' (suc n) r kept struck =
    go (keep n) (kept n (omega arith)) (struck n (omega arith)) (strike_fold keep R f f' s s' n r (λ k h. kept k (up_one h)) (λ k h. struck k (up_one h)))
  where
    go : (b : Bool) → (T b → (a : S) (c : S') → R a c → R (f n a) (f' (cnt keep n) c)) → (T (not b) → (a : S) (c : S') → R a c → R (f n a) c)
        → R (fold_to f s n) (fold_to f' s' (cnt keep n)) → R (f n (fold_to f s n)) (fold_to f' s' (tick b (cnt keep n)))
    go true k t ih = k tt (fold_to f s n) (fold_to f' s' (cnt keep n)) ih
    go false k t ih = t tt (fold_to f s n) (fold_to f' s' (cnt keep n)) ih

-- ---- sums in index order
abbrev step : (ℕ → Float) → ℕ → Float → Float
step f k a = a ⊕ f k

module _ (keep : ℕ → Bool) (f f' : ℕ → Float) (n : ℕ) (kept : (k : ℕ) → k < n → T (keep k) → f k ⊑ f' (cnt keep k)) (struck : (k : ℕ) → k < n → T (not (keep k)) → f k ⊑ plus0) where
  pub strike_from : (a a' : Float) → T (fits binary64 a) → a ⊑ a' → sum_from a f n ⊑ sum_from a' f' (cnt keep n)
  unfolding fold_to
  strike_from a a' h r =
      (strike_fold keep (λ (x y : Float). (x ⊑ y) × T (fits binary64 x)) (step f) (step f') a a' n (r, h)
      (λ k l t x y q. (⊑_add q.0 (kept k l t), add-fits binary64 x (f k)))
      (λ k l t x y q. (gone-drop q.1 q.0 (struck k l t), add-fits binary64 x (f k)))).0

  -- from +0, and with terms that fit, the two sums are one value
  pub strike_sum : ((k : ℕ) → T (fits binary64 (f k))) → ((k : ℕ) → T (fits binary64 (f' k))) → sum_from plus0 f n ⊑! sum_from plus0 f' (cnt keep n)
  strike_sum p q =
      let z : T (fits binary64 plus0) = unfold fits in tt in
      ⊑_plain (sum_fits plus0 f n z) (sum_fits plus0 f' (cnt keep n) z) (sum-plain plus0 f n z tt (λ k l. p k)) (sum-plain plus0 f' (cnt keep n) z tt (λ k l. q k)) (strike_from plus0 plus0 z (⊑_refl plus0))

-- with struck terms that are zeros, and kept terms equal up to the sign of zero, the two sums are one value, NaN or not
pub strike_sum≡ : (keep : ℕ → Bool) (f f' : ℕ → Float) (n : ℕ) → ((k : ℕ) → T (fits binary64 (f k))) → ((k : ℕ) → T (fits binary64 (f' k)))
    → ((k : ℕ) → k < n → T (keep k) → f k ≈ f' (cnt keep k)) → ((k : ℕ) → k < n → T (not (keep k)) → Zero (f k)) → sum_from plus0 f n ≡ sum_from plus0 f' (cnt keep n)
unfolding fold_to
strike_sum≡ keep f f' n p q kept struck =
    let z : T (fits binary64 plus0) = unfold fits in tt in
    (strike_fold keep Both (step f) (step f') plus0 plus0 n (refl, z, tt)
    (λ k l t x y r. (
      plain_≈ binary64 (step f k x) (step f' (cnt keep k) y) (add-fits binary64 x (f k)) (add-fits binary64 y (f' (cnt keep k)))
          (plain-add binary64 x (f k) r.1 (p k) r.2) (plain-add binary64 y (f' (cnt keep k)) (subst (λ (u : Float). T (fits binary64 u)) r.0 r.1) (q (cnt keep k)) (subst Plain r.0 r.2))
          (add_≈ (same r.0) (kept k l t)),
      add-fits binary64 x (f k),
      plain-add binary64 x (f k) r.1 (p k) r.2,
    ))
    (λ k l t x y r. (add_zero≡ x (f k) r.1 (p k) r.2 (struck k l t) ∙ r.0, add-fits binary64 x (f k), plain-add binary64 x (f k) r.1 (p k) r.2))).0
  where
    Both : Float → Float → Type 0
    Both x y = (x ≡ y) × T (fits binary64 x) × Plain x

-- ---- places: every place below cnt keep n is that of one kept index
pub cnt_suc : (keep : ℕ → Bool) (k : ℕ) → T (keep k) → cnt keep (suc k) ≡ suc (cnt keep k)
unfolding cnt
cnt_suc keep k t = ap (λ (b : Bool). tick b (cnt keep k)) (is_true (keep k) t)

pub cnt_mono : (keep : ℕ → Bool) (k n : ℕ) → k ≤ n → cnt keep k ≤ cnt keep n
unfolding cnt
cnt_mono keep k zero h = ap_le (none k h)
  where
    none : (k : ℕ) → k ≤ 0 → k ≡ 0
    none k h = omega arith

    ap_le : k ≡ 0 → cnt keep k ≤ 0
    ap_le e = subst (λ (x : ℕ). cnt keep x ≤ 0) (sym e) (le_refl 0)
cnt_mono keep k (suc n) h = elim (eq-or-lt_of_le h) [
  | inl e ↦ subst (λ (x : ℕ). cnt keep x ≤ tick (keep n) (cnt keep n)) (sym e) (le_refl (tick (keep n) (cnt keep n)))
  | inr l ↦ le_trans (cnt_mono keep k n (le_of_suc-le-suc l)) (more (keep n) (cnt keep n))
]
  where
    more : (b : Bool) (c : ℕ) → c ≤ tick b c
    more true c = omega arith
    more false c = le_refl c

pub cnt_lt : (keep : ℕ → Bool) (k n : ℕ) → T (keep k) → k < n → cnt keep k < cnt keep n
cnt_lt keep k n t h = subst (λ (x : ℕ). x ≤ cnt keep n) (cnt_suc keep k t) (cnt_mono keep (suc k) n h)

pub record Place (keep : ℕ → Bool) (n i : ℕ) : Type 0 where
  pub old : ℕ
  pub below : old < n
  pub kept : T (keep old)
  pub new : cnt keep old ≡ i

pub place : (keep : ℕ → Bool) (n i : ℕ) → i < cnt keep n → Place keep n i
unfolding cnt
place keep zero i h = absurd (not-suc-le-zero h)
place keep (suc n) i h = go (keep n) refl h (place keep n i)
  where
    up : Place keep n i → Place keep (suc n) i
    up p = record { old = p.old; below = up_one p.below; kept = p.kept; new = p.new }

    go : (b : Bool) → keep n ≡ b → i < tick b (cnt keep n) → (i < cnt keep n → Place keep n i) → Place keep (suc n) i
    go false e l ih = up (ih l)
    go true e l ih = elim (eq-or-lt_of_le (le_of_suc-le-suc l)) [
      | inl s ↦ record { old = n; below = le_refl (suc n); kept = subst T (sym e) tt; new = sym s }
      | inr m ↦ up (ih m)
    ]

-- the order of kept indices is that of their places
pub cnt_lt_back : (keep : ℕ → Bool) (i k : ℕ) → T (keep i) → T (keep k) → cnt keep i < cnt keep k → i < k
cnt_lt_back keep i k p q h = lt_of_not-le (λ (g : k ≤ i). not-le_of_lt h (cnt_mono keep k i g))

pub cnt_ltb : (keep : ℕ → Bool) (i k : ℕ) → T (keep i) → T (keep k) → ltb i k ≡ ltb (cnt keep i) (cnt keep k)
cnt_ltb keep i k p q =
    same_test (ltb i k) (ltb (cnt keep i) (cnt keep k)) (λ t. lt→ltb (cnt keep i) (cnt keep k) (cnt_lt keep i k p (ltb→lt i k t)))
    (λ t. lt→ltb i k (cnt_lt_back keep i k p q (ltb→lt (cnt keep i) (cnt keep k) t)))

pub cnt_inj : (keep : ℕ → Bool) (i k : ℕ) → T (keep i) → T (keep k) → cnt keep i ≡ cnt keep k → i ≡ k
cnt_inj keep i k p q e = tie (lt_of_not_lt k i (λ (g : k < i). lt_irrefl (cnt keep i) (subst (λ (x : ℕ). x < cnt keep i) (sym e) (cnt_lt keep k i q g)))) (lt_of_not_lt i k (λ (g : i < k). lt_irrefl (cnt keep k) (subst (λ (x : ℕ). x < cnt keep k) e (cnt_lt keep i k p g))))
  where
    lt_of_not_lt : (a b : ℕ) → (a < b → ⊥) → b ≤ a
    lt_of_not_lt a b f = le_of_suc-le-suc (lt_of_not-le f)

    tie : i ≤ k → k ≤ i → i ≡ k
    tie a b = omega arith

pub cnt_eqb : (keep : ℕ → Bool) (i k : ℕ) → T (keep i) → T (keep k) → eqb i k ≡ eqb (cnt keep i) (cnt keep k)
cnt_eqb keep i k p q =
    same_test (eqb i k) (eqb (cnt keep i) (cnt keep k)) (λ t. subst (λ (x : ℕ). T (eqb (cnt keep i) (cnt keep x))) (eqb→eq i k t) (eqb_refl (cnt keep i)))
    (λ t. subst (λ (x : ℕ). T (eqb i x)) (cnt_inj keep i k p q (eqb→eq (cnt keep i) (cnt keep k) t)) (eqb_refl i))

-- a loop whose steps do nothing
pub fold_to_id : {S : Type 0} (f : ℕ → S → S) (s : S) (n : ℕ) → ((k : ℕ) (a : S) → k < n → f k a ≡ a) → fold_to f s n ≡ s
unfolding fold_to
fold_to_id f s zero h = refl
fold_to_id f s (suc n) h = h n (fold_to f s n) (omega arith) ∙ fold_to_id f s n (λ k a l. h k a (up_one l))
