-- Floats as whole numbers of units: what they are, their sum and their quotient. Assumes nothing.
use mathlib.Core.Path.{◌≡◌, refl, sym, ap, ◌∙◌}
use mathlib.Core.Bool.{true, false, not, ◌&&◌, true≢false}
use Prim.Native.Nat.{ℕ, zero, suc, ◌+◌, ◌-◌, ◌*◌, ◌/◌, ◌%◌, ◌^◌, ◌<◌, ◌≤◌}
use native.Mathlib.Nat.{le_of_suc-le-suc, lt_of_not-le, not-le_of_lt, zero-lt-suc, zero-mul, zero-div, mul_assoc, mul_comm, mul_right_comm, mul-pos, mul-one, add-mul, add-zero, sub-zero, mul-div_cancel}
use native.Mathlib.Omega.{arith}
use borrow.Author.Tests.{lt-ltb, le-ltb}
use lib.Dec.{T, ltb, eqb, leb, leb→le}
use lib.Pow.{pow_pos, pow-add, pow-lt}
use lib.IntN.{ℤ, pos, negsuc}
use lib.Ieee.{Float, nan, inf, fin, binary64, up, down, round, sum, add, lt, fits, of_bits}
use lib.Ieee.Digits.{back}
use lib.Ieee.Fits.{down_pos, up_pos, and_l, and_r}
use lib.Ieee.Exact.{HasValue}
use lib.Ieee.Scale.{overflow, round_same, round_val, round_under, finite}
use Rattle.floats.specs.Arithmetic.{◌⊕◌, 0f}
use Rattle.floats.specs.Small.{is_finite}
use Rattle.floats.specs.Fold.{fold_to, sum_to}
use Rattle.shares.proofs.Rounding.{W, G}
use Rattle.shares.proofs.Totals.{rounded}

-- x is a zero of either sign, or positive and n units
abbrev pub Is : ℕ → Float → Type 0
Is n nan = ⊥
Is n (inf s) = ⊥
Is n (fin false m e) = m * up e * W ≡ n * down e
Is n (fin true m e) = (m ≡ 0) × (n ≡ 0)

abbrev pub units_of : Float → ℕ
units_of nan = 0
units_of (inf s) = 0
units_of (fin s m e) = m * up e * W / down e

pub is_units : (n : ℕ) (x : Float) → Is n x → units_of x ≡ n
is_units n (fin false m e) h = rw h (mul-div_cancel n (down_pos e))
is_units n (fin true m e) h = rw (h.0, h.1, zero-mul, zero-mul) (zero-div (down e))
is_units n nan h = elim h [ ]
is_units n (inf _) h = elim h [ ]

-- ---- every float that is finite and not negative
exponent : (a : ℕ) → 2 ^ a ≤ W → a ≤ 1074
exponent a l = le_of_suc-le-suc (lt_of_not-le (λ (g : 1075 ≤ a). not-le_of_lt (pow-lt g) l))

divides : (e : ℤ) → down e ≤ W → (k : ℕ) × (W ≡ k * down e)
divides (pos a) l = (W, sym (mul-one W))
divides (negsuc a) l = (2 ^ (1074 - suc a), sym (sym (pow-add 2 (1074 - suc a) (suc a)) ∙ ap (λ (z : ℕ). 2 ^ z) (back 1074 (suc a) (exponent (suc a) l))))

exact : (n w d k : ℕ) → 0 < d → w ≡ k * d → n * w ≡ n * w / d * d
exact n w d k p h =
    let e : n * w ≡ n * k * d = ap (λ (z : ℕ). n * z) h ∙ sym (mul_assoc n k d) in
    e ∙ ap (λ (z : ℕ). z * d) (sym (mul-div_cancel (n * k) p) ∙ ap (λ (z : ℕ). z / d) (sym e))

nothing : (e : ℤ) → 0 * up e * W / down e ≡ 0
nothing e = rw (zero-mul, zero-mul) (zero-div (down e))

negative : (m : ℕ) (e : ℤ) → lt (fin true (suc m) e) 0f ≡ true
unfolding lt of_bits
negative m e = let p = mul-pos (zero-lt-suc m) (up_pos e) in lt-ltb 0 (suc m * up e * 1 + 0 * down e) (omega arith)

pub is_of : (x : Float) → T (fits binary64 x) → is_finite x ≡ true → not (lt x 0f) ≡ true → Is (units_of x) x
unfolding is_finite
is_of nan f a b = absurd (true≢false (sym a))
is_of (inf s) f a b = absurd (true≢false (sym a))
is_of (fin false zero e) f a b = rw (nothing e, zero-mul (up e), zero-mul W, zero-mul (down e))
is_of (fin true zero e) f a b = (refl, nothing e)
is_of (fin false (suc m) e) f a b =
    let d = divides e (leb→le (down e) W (unfold fits in and_r (eqb (suc m % 2) 1 && ltb (suc m) (2 ^ 53)) (leb (down e) W) (and_l (eqb (suc m % 2) 1 && ltb (suc m) (2 ^ 53) && leb (down e) W) (ltb (suc m * up e) (2 ^ 1024 * down e)) f))) in
    exact (suc m * up e) W (down e) d.0 (down_pos e) d.1
is_of (fin true (suc m) e) f a b = absurd (true≢false (sym b ∙ ap not (negative m e)))

-- and back
pub is_finite_lem : (n : ℕ) (x : Float) → Is n x → is_finite x ≡ true
unfolding is_finite
is_finite_lem n (fin false m e) h = refl
is_finite_lem n (fin true m e) h = refl
is_finite_lem n nan h = elim h [ ]
is_finite_lem n (inf _) h = elim h [ ]

pub is-plus : (n : ℕ) (x : Float) → Is n x → not (lt x 0f) ≡ true
unfolding lt of_bits
is-plus n (fin false m e) h = rw (le-ltb (m * up e * 1) (0 * down e) (omega arith))
is-plus n (fin true m e) h = rw (h.0, le-ltb 0 (0 * up e * 1 + 0 * down e) (omega arith))
is-plus n nan h = elim h [ ]
is-plus n (inf _) h = elim h [ ]

-- ---- sums, from +0
abbrev pub Val : ℕ → Float → Type 0
Val n x = HasValue x false n W

pub W_pos : 0 < W
W_pos = pow_pos 1074

sum-cross : (a e b d w m n : ℕ) → a * w ≡ m * e → b * w ≡ n * d → (a * d + b * e) * w ≡ (m + n) * (e * d)
sum-cross a e b d w m n p q =
    add-mul (a * d) (b * e) w
    ∙ ap (λ (z : ℕ). z + b * e * w) (mul_right_comm a d w ∙ ap (λ (z : ℕ). z * d) p ∙ mul_assoc m e d)
    ∙ ap (λ (z : ℕ). m * (e * d) + z) (mul_right_comm b e w ∙ ap (λ (z : ℕ). z * e) q ∙ mul_assoc n d e ∙ ap (λ (z : ℕ). n * z) (mul_comm d e))
    ∙ sym (add-mul m n (e * d))

pub add_is : (m n : ℕ) (x y : Float) → Val m x → Is n y → x ⊕ y ≡ round binary64 false (m + n) W
unfolding add sum
add_is m n (fin true a e) y v h = absurd (true≢false v.0)
add_is m n (fin false a e) (fin false b d) v h =
    round_same binary64 false (a * up e * down d + b * up d * down e) (down e * down d) (m + n) W (mul-pos (down_pos e) (down_pos d)) W_pos (sum-cross (a * up e) (down e) (b * up d) (down d) W m n v.1 h)
add_is m n (fin false a e) (fin true b d) v h =
    rw (h.0, h.1, zero-mul, zero-mul, sub-zero, add-zero, le-ltb (a * up e * down d) 0 (omega arith))
    (round_same binary64 false (a * up e * down d) (down e * down d) m W (mul-pos (down_pos e) (down_pos d)) W_pos
    (mul_right_comm (a * up e) (down d) W ∙ ap (λ (z : ℕ). z * down d) v.1 ∙ mul_assoc m (down e) (down d)))
add_is m n nan y v h = elim v [ ]
add_is m n (inf _) y v h = elim v [ ]
add_is m n (fin false a e) nan v h = elim h [ ]
add_is m n (fin false a e) (inf _) v h = elim h [ ]

pub is_val : (n : ℕ) (x : Float) → Val n x → Is n x
is_val n (fin false m e) v = v.1
is_val n (fin true m e) v = absurd (true≢false v.0)
is_val n nan v = elim v [ ]
is_val n (inf _) v = elim v [ ]

-- a sum that does not overflow
add_val : (m n : ℕ) (x y : Float) → Val m x → Is n y → G (m + n) < overflow binary64 → Val (G (m + n)) (x ⊕ y)
unfolding G
add_val m n x y v h l = rw (add_is m n x y v h) (round_val binary64 (m + n) W l)

finite_T : (x : Float) → is_finite x ≡ true → T (finite x)
unfolding is_finite
finite_T nan h = absurd (true≢false (sym h))
finite_T (inf s) h = absurd (true≢false (sym h))
finite_T (fin s m e) h = tt

add-under : (m n : ℕ) (x y : Float) → Val m x → Is n y → is_finite (x ⊕ y) ≡ true → G (m + n) < overflow binary64
unfolding G
add-under m n x y v h f = round_under binary64 (m + n) W (finite_T (round binary64 false (m + n) W) (sym (ap is_finite (add_is m n x y v h)) ∙ f))

add_finite : (n : ℕ) (x y : Float) → Is n y → is_finite (x ⊕ y) ≡ true → is_finite x ≡ true
unfolding is_finite add
add_finite n nan y h f = f
add_finite n (inf s) (fin t m e) h f = f
add_finite n (fin s m e) y h f = refl
add_finite n (inf s) nan h f = elim h [ ]
add_finite n (inf s) (inf _) h f = elim h [ ]

zero_val : Val 0 0f
unfolding of_bits
zero_val = (refl, refl)

module _ (x : ℕ → Float) (u : ℕ → ℕ) where
  pub sum_val : (n : ℕ) → ((i : ℕ) → i < n → Is (u i) (x i)) → ((k : ℕ) → k ≤ n → rounded u k < overflow binary64) → Val (rounded u n) (sum_to x n)
  unfolding fold_to rounded
  sum_val zero h l = zero_val
  sum_val (suc n) h l =
      add_val (rounded u n) (u n) (sum_to x n) (x n) (sum_val n (λ i k. h i (omega arith)) (λ i k. l i (omega arith))) (h n (omega arith)) (l (suc n) (omega arith))

  pub sum_finite : (n : ℕ) → ((i : ℕ) → i < n → Is (u i) (x i)) → is_finite (sum_to x n) ≡ true → Val (rounded u n) (sum_to x n)
  unfolding fold_to rounded
  sum_finite zero h f = zero_val
  sum_finite (suc n) h f =
      let y = h n (omega arith) in
      let v = sum_finite n (λ i k. h i (omega arith)) (add_finite (u n) (sum_to x n) (x n) y f) in
      add_val (rounded u n) (u n) (sum_to x n) (x n) v y (add-under (rounded u n) (u n) (sum_to x n) (x n) v y f)
