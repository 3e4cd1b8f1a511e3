-- `exp_of` is never negative, and never -0: 1 + w, the last sum but one, has w from -1 to 1. That holds since v - k * A is at most a half in size. Assumes nothing.
use Rattle.std.proofs.Common.{◌≡◌, ℕ, zero, suc, ◌+◌, ◌*◌, ◌/◌, ◌^◌, ◌<◌, ◌≤◌, min, Bool, true, false, cond, T, ℤ, pos, negsuc, ◌-ℤ◌, neg_ℤ, sym, refl, ap, subst, true≢false, le_trans, le_of_eq, lt_of_lt_of_le, lt_of_le_of_lt, mul-le-mul_right, zero-lt-suc, div-lt_iff_lt-mul, lt_of_mul-lt-mul_right, mul-lt-mul_of_pos_right, mul-pos, pow-suc, mul_right_comm, div-mul-le_self, le_of_mul-le-mul_right, arith, lit<, lit≤, eqb→eq, pow_pos, le-ltb, lt-ltb}
use lib.Signed.{quot_z}
use lib.Ieee.{Float, nan, inf, fin, binary64, up, down, unlike, neg, add, sub, mul, div, lt, of_bits, of_int, to_signed, is_nan, fits}
use lib.Ieee.Fits.{up_pos, down_pos}
use Rattle.floats.specs.Arithmetic.{#, ◌⊕◌, ◌⊖◌, ◌⊗◌, ◌⊘◌, ½, 0f, 1f, 2f}
use Rattle.numerics.specs.Numerics.{A, B, C, whole, pow2, exp_shift, exp_from, exp_of}
use Rattle.numerics.proofs.Bounds.{Within, Plus, round_plus}
use Rattle.numerics.proofs.Limits.{v-within}
use Rattle.numerics.proofs.Grid.{U, Up, At, at_up, up_more, round_at, mul_at, mul-up, add_at, add-up, sub-up, sub-near, div-up, two_minus, one-plus}

-- ---- the constants, in units
C-at : At false 1549082004 1549082005 C
unfolding of_bits
C-at = (refl, lit≤ tt, lit≤ tt)

A-at : At false 744261117 744261118 A
unfolding of_bits
A-at = (refl, lit≤ tt, lit≤ tt)

B-up : Up 1 B
unfolding of_bits
B-up = lit≤ tt

P1-up : Up 178956971 (# 0x3fc555555555553e)
unfolding of_bits
P1-up = lit≤ tt

P2-up : Up 2982617 (# 0xbf66c16c16bebd93)
unfolding of_bits
P2-up = lit≤ tt

P3-up : Up 71015 (# 0x3f11566aaf25de2c)
unfolding of_bits
P3-up = lit≤ tt

P4-up : Up 1776 (# 0xbebbbd41c5d26bf1)
unfolding of_bits
P4-up = lit≤ tt

P5-up : Up 45 (# 0x3e66376972bea4d0)
unfolding of_bits
P5-up = lit≤ tt

half_at : At false 536870912 536870912 ½
unfolding of_bits
half_at = (refl, lit≤ tt, lit≤ tt)

half-at-neg : At true 536870912 536870912 (neg ½)
unfolding of_bits neg
half-at-neg = (refl, lit≤ tt, lit≤ tt)

-- ---- from hi and lo on: with |hi| at most a half and |lo| at most 1494 units
abbrev pub digits : Float → Float → Float
digits hi lo =
    let r = hi ⊖ lo in
    let t = r ⊗ r in
    let c = r ⊖ t ⊗ (# 0x3fc555555555553e ⊕ t ⊗ (# 0xbf66c16c16bebd93 ⊕ t ⊗ (# 0x3f11566aaf25de2c ⊕ t ⊗ (# 0xbebbbd41c5d26bf1 ⊕ t ⊗ # 0x3e66376972bea4d0)))) in
    1f ⊕ (r ⊗ c ⊘ (2f ⊖ c) ⊖ lo ⊕ hi)

digits-at : (hi lo : Float) → Up 536870912 hi → Up 1494 lo → At false 134217728 (2 * U) (digits hi lo)
digits-at hi lo h l =
    let r = hi ⊖ lo in
    let r-up : Up 536872406 r = sub-up 536870912 1494 hi lo (lit< tt) h l in
    let t = r ⊗ r in
    let t-up : Up 268436951 t = mul-up 536872406 536872406 268436951 r r (lit≤ tt) (lit< tt) r-up r-up in
    let q5 = t ⊗ # 0x3e66376972bea4d0 in
    let q5-up : Up 12 q5 = mul-up 268436951 45 12 t (# 0x3e66376972bea4d0) (lit≤ tt) (lit< tt) t-up P5-up in
    let s4 = # 0xbebbbd41c5d26bf1 ⊕ q5 in
    let s4-up : Up 1788 s4 = add-up 1776 12 (# 0xbebbbd41c5d26bf1) q5 (lit< tt) P4-up q5-up in
    let q4-up : Up 448 (t ⊗ s4) = mul-up 268436951 1788 448 t s4 (lit≤ tt) (lit< tt) t-up s4-up in
    let s3 = # 0x3f11566aaf25de2c ⊕ t ⊗ s4 in
    let s3-up : Up 71463 s3 = add-up 71015 448 (# 0x3f11566aaf25de2c) (t ⊗ s4) (lit< tt) P3-up q4-up in
    let q3-up : Up 17866 (t ⊗ s3) = mul-up 268436951 71463 17866 t s3 (lit≤ tt) (lit< tt) t-up s3-up in
    let s2 = # 0xbf66c16c16bebd93 ⊕ t ⊗ s3 in
    let s2-up : Up 3000483 s2 = add-up 2982617 17866 (# 0xbf66c16c16bebd93) (t ⊗ s3) (lit< tt) P2-up q3-up in
    let q2-up : Up 750125 (t ⊗ s2) = mul-up 268436951 3000483 750125 t s2 (lit≤ tt) (lit< tt) t-up s2-up in
    let s1 = # 0x3fc555555555553e ⊕ t ⊗ s2 in
    let s1-up : Up 179707096 s1 = add-up 178956971 750125 (# 0x3fc555555555553e) (t ⊗ s2) (lit< tt) P1-up q2-up in
    let q1-up : Up 44927025 (t ⊗ s1) = mul-up 268436951 179707096 44927025 t s1 (lit≤ tt) (lit< tt) t-up s1-up in
    let c = r ⊖ t ⊗ s1 in
    let c-up : Up 581799431 c = sub-up 536872406 44927025 r (t ⊗ s1) (lit< tt) r-up q1-up in
    let rc-up : Up 290900526 (r ⊗ c) = mul-up 536872406 581799431 290900526 r c (lit≤ tt) (lit< tt) r-up c-up in
    let q-up : Up 290900526 (r ⊗ c ⊘ (2f ⊖ c)) = div-up false 290900526 U (3 * U) 290900526 (r ⊗ c) (2f ⊖ c) (lit< tt) (lit≤ tt) (lit< tt) rc-up (two_minus 581799431 c (lit≤ tt) c-up) in
    let w1-up : Up 290902020 (r ⊗ c ⊘ (2f ⊖ c) ⊖ lo) = sub-up 290900526 1494 (r ⊗ c ⊘ (2f ⊖ c)) lo (lit< tt) q-up l in
    let w = r ⊗ c ⊘ (2f ⊖ c) ⊖ lo ⊕ hi in
    let w-up : Up 827772932 w = add-up 290902020 536870912 (r ⊗ c ⊘ (2f ⊖ c) ⊖ lo) hi (lit< tt) w1-up h in
    one-plus 827772932 w (lit≤ tt) w-up

-- ---- v, in units: from n to n + 1
module _ (m : ℕ) (e : ℤ) where
  pub units_of_lem : ℕ
  units_of_lem = m * up e * U / down e

  pub v-at : (s : Bool) → At s units_of_lem (units_of_lem + 1) (fin s m e)
  unfolding units_of_lem
  v-at s =
      let X = m * up e * U in
      let n = X / down e in
      let l : X < suc n * down e = (div-lt_iff_lt-mul (down_pos e)).0 (omega arith) in
      let k : suc n * down e ≡ (n + 1) * down e = ap (λ (z : ℕ). z * down e) (omega arith) in
      (refl, div-mul-le_self X (down e), omega arith)

  pub units_small : m * up e ≤ 746 * down e → units_of_lem < 801011400705
  unfolding units_of_lem
  units_small h =
      (div-lt_iff_lt-mul (down_pos e)).1 (let p = down_pos e in omega arith)

-- ---- the whole part of a float from L to H units
pub record Cut (s : Bool) (L H : ℕ) (x : Float) : Type 0 where
  pub K : ℕ
  pub is : to_signed 63 x ≡ cond s (neg_ℤ (pos K)) (pos K)
  pub low : L < (K + 1) * U
  pub high : K * U ≤ H

pub cut : (s : Bool) (L H : ℕ) (x : Float) → H < 2 ^ 53 → At s L H x → Cut s L H x
unfolding to_signed
cut s L H (fin t m e) l h =
    let X = m * up e in
    let D = down e in
    let K = X / D in
    let a : K * D ≤ X = div-mul-le_self X D in
    let b : X < suc K * D = (div-lt_iff_lt-mul (down_pos e)).0 (omega arith) in
    let hi : K * U ≤ H = le_of_mul-le-mul_right (le_trans (le_of_eq (mul_right_comm K U D)) (le_trans (mul-le-mul_right U a) h.2)) (down_pos e) in
    let lo : L < suc K * U = lt_of_mul-lt-mul_right D (lt_of_le_of_lt h.1 (lt_of_lt_of_le (mul-lt-mul_of_pos_right b (lit< tt)) (le_of_eq (mul_right_comm (suc K) D U)))) in
    let m1 : min K 9223372036854775808 ≡ K = omega arith in
    let m2 : min K 9223372036854775807 ≡ K = omega arith in
    record { K = K; is = rw (m1, m2, h.0); low = omega arith; high = hi }
cut s L H nan l h = elim h [ ]
cut s L H (inf _) l h = elim h [ ]

-- ---- C * v ± 0.5, in units
same_sign : (s : Bool) → unlike false s ≡ s
same_sign true = refl
same_sign false = refl

abbrev pub LP : ℕ → ℕ
LP n = 1549082004 * n / U

abbrev pub HP : ℕ → ℕ
HP n = 1549082005 * (n + 1) / U + 1

pub product_at : (s : Bool) (n : ℕ) (v : Float) → n < 801011400705 → At s n (n + 1) v → At s (LP n) (HP n) (C ⊗ v)
product_at s n v l h = rw same_sign at (mul_at false s 1549082004 1549082005 n (n + 1) (LP n) (HP n) C v (omega arith) (omega arith) (omega arith) C-at h)

below : (m : ℕ) (e : ℤ) → lt (fin true (suc m) e) 0f ≡ true
unfolding lt of_bits
below m e = let p = mul-pos (zero-lt-suc m) (up_pos e) in lt-ltb 0 (suc m * up e * 1 + 0 * down e) (omega arith)

above : (m : ℕ) (e : ℤ) → lt (fin false (suc m) e) 0f ≡ false
unfolding lt of_bits
above m e = le-ltb (suc m * up e * 1) (0 * down e) (omega arith)

pub shift_at : (s : Bool) (L H m : ℕ) (e : ℤ) → H + 536870912 < 2 ^ 53 → At s L H (C ⊗ fin s (suc m) e) → At s (L + 536870912) (H + 536870912) (exp_shift (fin s (suc m) e))
unfolding exp_shift
shift_at true L H m e l h = rw (below m e) (unfold sub in add_at true L H 536870912 536870912 (C ⊗ fin true (suc m) e) (neg ½) l h half-at-neg)
shift_at false L H m e l h = rw (above m e) (add_at false L H 536870912 536870912 (C ⊗ fin false (suc m) e) ½ l h half_at)

-- ---- k as a float, and hi and lo
pub k-at : (s : Bool) (K : ℕ) → K < 4000 → At s (suc K * U) (suc K * U) (whole (cond s (neg_ℤ (pos (suc K))) (pos (suc K))))
unfolding of_int
k-at true K l = round_at true (suc K) 1 (suc K * U) (suc K * U) (lit< tt) (omega arith) (omega arith) (omega arith)
k-at false K l = round_at false (suc K) 1 (suc K * U) (suc K * U) (lit< tt) (omega arith) (omega arith) (omega arith)

zero_up : (s : Bool) → Up 0 (whole (cond s (neg_ℤ (pos 0)) (pos 0)))
unfolding of_int
zero_up true = lit≤ tt
zero_up false = lit≤ tt

same_sign' : (s : Bool) → unlike s false ≡ s
same_sign' true = refl
same_sign' false = refl

-- the one place where precision counts
near-low : (n K : ℕ) → n < 801011400705 → LP n + 536870912 < (K + 1) * U → n + 1 ≤ K * 744261117 + 536870912
near-low n K l h = omega arith

near-high : (n K : ℕ) → n < 801011400705 → K * U ≤ HP n + 536870912 → K * 744261118 ≤ n + 536870912
near-high n K l h = omega arith

k-small : (n K : ℕ) → n < 801011400705 → K * U ≤ HP n + 536870912 → K < 1494
k-small n K l h = omega arith

hi_up : (s : Bool) (n K : ℕ) (v : Float) → n < 801011400705 → LP n + 536870912 < (K + 1) * U → K * U ≤ HP n + 536870912 → At s n (n + 1) v → Up 536870912 (v ⊖ whole (cond s (neg_ℤ (pos K)) (pos K)) ⊗ A)
hi_up s n zero v l a b h =
    let f = whole (cond s (neg_ℤ (pos 0)) (pos 0)) in
    let z : Up 0 (f ⊗ A) = mul-up 0 744261118 0 f A (lit≤ tt) (lit< tt) (zero_up s) (at_up false 744261117 744261118 A A-at) in
    up_more (n + 1 + 0) 536870912 (v ⊖ f ⊗ A) (omega arith) (sub-up (n + 1) 0 v (f ⊗ A) (omega arith) (at_up s n (n + 1) v h) z)
hi_up s n (suc K) v l a b h =
    let f = whole (cond s (neg_ℤ (pos (suc K))) (pos (suc K))) in
    let k = k-small n (suc K) l b in
    let z : At s (suc K * 744261117) (suc K * 744261118) (f ⊗ A) = rw same_sign' at (mul_at s false (suc K * U) (suc K * U) 744261117 744261118 (suc K * 744261117) (suc K * 744261118) f A (omega arith) (omega arith) (omega arith) (k-at s K (omega arith)) A-at) in
    sub-near s n (n + 1) (suc K * 744261117) (suc K * 744261118) 536870912 v (f ⊗ A) (lit< tt) (near-low n (suc K) l a) (near-high n (suc K) l b) h z

lo_up : (s : Bool) (K : ℕ) → K < 1494 → Up 1494 (whole (cond s (neg_ℤ (pos K)) (pos K)) ⊗ B)
lo_up s zero l = mul-up 0 1 1494 (whole (cond s (neg_ℤ (pos 0)) (pos 0))) B (lit≤ tt) (lit< tt) (zero_up s) B-up
lo_up s (suc K) l = mul-up (suc K * U) 1 1494 (whole (cond s (neg_ℤ (pos (suc K))) (pos (suc K)))) B (omega arith) (lit< tt) (at_up s (suc K * U) (suc K * U) (whole (cond s (neg_ℤ (pos (suc K))) (pos (suc K)))) (k-at s K (omega arith))) B-up

-- ---- the result
mul-plus : (y : Float) (a : ℤ) → Plus y → Plus (y ⊗ pow2 a)
unfolding mul
mul-plus (inf false) a p = refl
mul-plus (inf true) a p = absurd (true≢false p)
mul-plus (fin false m e) a p = round_plus binary64 (m * up e * (1 * up a)) (down e * down a)
mul-plus (fin true m e) a p = absurd (true≢false p)
mul-plus nan a p = elim p [ ]

at-plus : (L H : ℕ) (x : Float) → At false L H x → Plus x
at-plus L H (fin s m e) h = h.0
at-plus L H nan h = elim h [ ]
at-plus L H (inf _) h = elim h [ ]

at-k : (v : Float) (k : ℤ) → At false 134217728 (2 * U) (digits (v ⊖ whole k ⊗ A) (whole k ⊗ B)) → Plus (exp_from v k)
unfolding exp_from
at-k v k h =
    let y = digits (v ⊖ whole k ⊗ A) (whole k ⊗ B) in
    let a = quot_z k (pos 2) in
    mul-plus (y ⊗ pow2 a) (k -ℤ a) (mul-plus y a (at-plus 134217728 (2 * U) y h))

-- with the definition's k
abbrev pub digits_of : Float → Float
digits_of v = let f = whole (to_signed 63 (exp_shift v)) in digits (v ⊖ f ⊗ A) (f ⊗ B)

from_at : (s : Bool) (m : ℕ) (e : ℤ) → suc m * up e ≤ 746 * down e → At false 134217728 (2 * U) (digits_of (fin s (suc m) e))
from_at s m e w =
    let v = fin s (suc m) e in
    let n = units_of_lem (suc m) e in
    let l = units_small (suc m) e w in
    let h = v-at (suc m) e s in
    let c = cut s (LP n + 536870912) (HP n + 536870912) (exp_shift v) (omega arith) (shift_at s (LP n) (HP n) m e (omega arith) (product_at s n v l h)) in
    let k = cond s (neg_ℤ (pos c.K)) (pos c.K) in
    subst (λ (k : ℤ). At false 134217728 (2 * U) (digits (v ⊖ whole k ⊗ A) (whole k ⊗ B))) (sym c.is)
    (digits-at (v ⊖ whole k ⊗ A) (whole k ⊗ B) (hi_up s n c.K v l c.low c.high h) (lo_up s c.K (k-small n c.K l c.high)))

-- a NaN, or of the sign +: so never -0, and never below zero
abbrev pub NoMinus : Float → Type 0
NoMinus nan = Unit
NoMinus (inf s) = s ≡ false
NoMinus (fin s m e) = s ≡ false

weaker : (x : Float) → Plus x → NoMinus x
weaker (inf s) p = p
weaker (fin s m e) p = p
weaker nan p = elim p [ ]

pub plain : (e : ℤ) → up e * down e ≡ 1 → e ≡ pos 0
plain (pos zero) h = refl
plain (pos (suc a)) h = let p = pow_pos a in let q = pow-suc 2 a in absurd (none (2 ^ suc a) (2 ^ a) q p h)
  where
    none : (x y : ℕ) → x ≡ y * 2 → 0 < y → x * 1 ≡ 1 → ⊥
    none x y a b c = omega arith
plain (negsuc a) h = absurd (none (2 ^ suc a) (2 ^ a) (pow-suc 2 a) (pow_pos a) h)
  where
    none : (x y : ℕ) → x ≡ y * 2 → 0 < y → 1 * x ≡ 1 → ⊥
    none x y a b c = omega arith

zero_at : (s : Bool) → At false 134217728 (2 * U) (digits_of (fin s 0 (pos 0)))
unfolding exp_shift of_bits lt add sub mul div of_int to_signed
zero_at true = (refl, lit≤ tt, lit≤ tt)
zero_at false = (refl, lit≤ tt, lit≤ tt)

pub inside-at : (v : Float) → T (fits binary64 v) → Within 746 v → At false 134217728 (2 * U) (digits_of v)
inside-at (fin s zero e) f w = subst (λ (x : ℤ). At false 134217728 (2 * U) (digits_of (fin s 0 x))) (sym (plain e (eqb→eq (up e * down e) 1 (unfold fits in f)))) (zero_at s)
inside-at (fin s (suc m) e) f w = from_at s m e w
inside-at nan f w = elim w [ ]
inside-at (inf _) f w = elim w [ ]

inf_plus : NoMinus (# 0x7ff0000000000000)
unfolding of_bits
inf_plus = refl

zero_is-plus : NoMinus 0f
unfolding of_bits
zero_is-plus = refl

pub exp-no_minus : (v : Float) → T (fits binary64 v) → NoMinus (exp_of v)
unfolding exp_of
exp-no_minus v f = go (is_nan v) refl (lt (# 0x40862e42fefa39ef) v) refl (lt v (# 0xc0874910d52d3051)) refl
  where
    go : (a : Bool) → is_nan v ≡ a → (b : Bool) → lt (# 0x40862e42fefa39ef) v ≡ b → (c : Bool) → lt v (# 0xc0874910d52d3051) ≡ c
        → NoMinus (cond a nan (cond b (# 0x7ff0000000000000) (cond c 0f (exp_from v (to_signed 63 (exp_shift v))))))
    go true p b q c r = tt
    go false p true q c r = inf_plus
    go false p false q true r = zero_is-plus
    go false p false q false r = weaker (exp_from v (to_signed 63 (exp_shift v))) (at-k v (to_signed 63 (exp_shift v)) (inside-at v f (v-within v p q r)))
