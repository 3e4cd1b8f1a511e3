-- Numbers over their sum pass the tests of mole fractions. Assumes nothing.
use mathlib.Core.Path.{◌≡◌, refl, sym}
use mathlib.Core.Bool.{Bool, true, false, not, true≢false}
use Prim.Native.Nat.{ℕ, zero, suc, ◌*◌, ◌<◌, ◌≤◌}
use native.Mathlib.Nat.{le_trans, lt_of_le_of_lt, mul-le-mul_right}
use native.Mathlib.Omega.{arith}
use borrow.Author.Tests.{ltb-true}
use lib.Dec.{lit<, lit≤}
use lib.Ieee.{Float, fin, up, down, lt, of_bits}
use Rattle.floats.specs.Arithmetic.{0f}
use Rattle.floats.specs.Small.{is_finite}
use Rattle.floats.specs.Fold.{sum_to, all_to}
use Rattle.floats.proofs.Folds.{all_at}
use Rattle.thermo_types.specs.Composition.{all_finite, none_negative, sums_to_one}
use Rattle.shares.specs.Shares.{share_of, SharesPass}
use Rattle.shares.proofs.Rounding.{W, Near}
use Rattle.shares.proofs.Totals.{total, rounded, Part, sum-part, shares-part, parts, part-twice, part-half, twice38, total_mono, at-total}
use Rattle.shares.proofs.Values.{Is, Val, W_pos, units_of, is_units, is_of, is_finite_lem, is-plus, sum_val, sum_finite}
use Rattle.shares.proofs.Quotients.{Share, share, top}
use Rattle.shares.proofs.Tolerance.{near-one-passes}

pub all_of : (p : ℕ → Bool) (n : ℕ) → ((i : ℕ) → i < n → p i ≡ true) → all_to p n ≡ true
unfolding all_to
all_of p zero h = refl
all_of p (suc n) h = rw (all_of p n (λ i l. h i (omega arith)), h n (omega arith))

positive : (s : ℕ) (x : Float) → Val s x → lt 0f x ≡ true → 0 < s
unfolding lt of_bits
positive s (fin true m e) v h = absurd (true≢false v.0)
positive s (fin false m e) v h =
    let p : 0 < m * up e = omega (arith, ltb-true (0 * down e) (m * up e * 1) h) in
    top s (down e) (m * up e) W p W_pos (sym v.1)
positive s lib.Ieee.nan v h = elim v [ ]
positive s (lib.Ieee.inf _) v h = elim v [ ]

module _ (x : ℕ → Float) (n : ℕ) (l : n ≤ 1024) (h : (i : ℕ) → i < n → Is (units_of (x i)) (x i)) (c : is_finite (sum_to x n) ≡ true) (d : lt 0f (sum_to x n) ≡ true) where
  abbrev u : ℕ → ℕ
  u i = units_of (x i)

  abbrev y : ℕ → ℕ
  y i = units_of (share_of x n i)

  sum_is : Val (rounded u n) (sum_to x n)
  sum_is = sum_finite x u n h c

  sum_pos : 0 < rounded u n
  sum_pos = positive (rounded u n) (sum_to x n) sum_is d

  share-at : (i : ℕ) → i < n → Share (u i) (rounded u n) (share_of x n i)
  share-at i k = share (u i) (rounded u n) (x i) (sum_to x n) (h i k) sum_is sum_pos (le_trans (at-total u i n k) (part-half (rounded u n) (total u n) (sum-part u n l)))

  share-is : (i : ℕ) → i < n → Is (y i) (share_of x n i)
  share-is i k = let s = share-at i k in rw (is_units s.k (share_of x n i) s.is) s.is

  share-near : (i : ℕ) → i < n → Near (y i) (u i * W) (rounded u n)
  share-near i k = let s = share-at i k in rw (is_units s.k (share_of x n i) s.is) s.near_to

  shares-one : Part 38 (total y n) W
  shares-one = shares-part u y W n l (lit≤ tt) sum_pos share-near

  at_most : (k : ℕ) → k ≤ n → rounded y k ≤ W * 2 * 2
  at_most k m =
      le_trans (part-twice (rounded y k) (total y k) (sum-part y k (le_trans m l))) (mul-le-mul_right 2 (le_trans (total_mono y k n m) (twice38 (total y n) W shares-one)))

  shares_sum : Val (rounded y n) (sum_to (share_of x n) n)
  shares_sum = sum_val (share_of x n) y n share-is (λ k m. lt_of_le_of_lt (at_most k m) (lit< tt))

  passed : (all_finite (share_of x n) n ≡ true) × (none_negative (share_of x n) n ≡ true) × (sums_to_one (share_of x n) n ≡ true)
  passed = (
    all_of (λ i. is_finite (share_of x n i)) n (λ i k. is_finite_lem (y i) (share_of x n i) (share-is i k)),
    all_of (λ i. not (lt (share_of x n i) 0f)) n (λ i k. is-plus (y i) (share_of x n i) (share-is i k)),
    unfold sums_to_one in near-one-passes (rounded y n) (sum_to (share_of x n) n) shares_sum (parts (rounded y n) (total y n) W (sum-part y n l) shares-one),
  )

pub shares_pass : SharesPass
shares_pass x n l f a b = passed x n l (λ i k. is_of (x i) (f i k) (all_at (λ i. is_finite (x i)) n i k a) (all_at (λ i. not (lt (x i) 0f)) n i k b))
