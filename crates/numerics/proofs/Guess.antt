-- The whole number that `exp_near` guesses is the definition's k, where C × v is less than ½ - 2 ^ -20 away from it. Assumes nothing.
use Rattle.std.proofs.Common.{◌≡◌, ℕ, zero, suc, ◌+◌, ◌-◌, ◌*◌, ◌/◌, ◌%◌, ◌^◌, ◌<◌, ◌≤◌, Bool, true, false, cond, not, ◌&&◌, ◌||◌, T, eqb, ltb, leb, ℤ, pos, negsuc, ◌-ℤ◌, neg_ℤ, sym, refl, ap, ◌∙◌, subst, true≢false, le_trans, le_of_eq, mul-le-mul_right, add-mul, mul-pos, lt_of_not-le, mul-one, mul_right_comm, le_of_mul-le-mul_right, arith, lit<, lit≤, eqb→eq, ltb→lt, pow_pos, ltb-true, le-ltb, lt-ltb, leb-false, leb-true}
use native.Mathlib.Nat.{eq_of_mul-eq-mul_right}
use lib.Signed.{mag, quot_z}
use lib.Ieee.{Float, nan, inf, fin, binary64, up, down, minus, odd, sum, neg, lt, le, eq, add, sub, mul, of_bits, of_int, to_signed, fits, is_nan, nan_bits}
use lib.Ieee.Fits.{down_pos, add-fits, and_l, and_r}
use lib.Ieee.Bits.{nan_bits_above}
use lib.Ieee.Exact.{HasValue, odd_sign}
use lib.Ieee.Scale.{round_same}
use Rattle.floats.specs.Arithmetic.{#, ◌⊕◌, ◌⊖◌, ◌⊗◌, 0f}
use Rattle.numerics.specs.Numerics.{A, B, C, whole, pow2, exp_shift, exp_from, exp_of}
use Rattle.numerics.proofs.Bounds.{Within, mag_neg, le_or, add-within, mul-within}
use Rattle.numerics.proofs.Limits.{C-within}
use Rattle.numerics.proofs.Powers.{pattern_is, field_is}
use Rattle.numerics.proofs.Patterns.{plus-is, normal-is}
use Rattle.numerics.proofs.Splits.{minus_shift}
use Rattle.numerics.proofs.Grid.{U, At, Down, sub-above, sub-below, sub-apart}
use Rattle.numerics.proofs.Signs.{cut, k-at, v-at, units_of_lem, units_small, LP, HP, product_at, shift_at, plain, digits, digits_of, inside-at}
use Rattle.numerics.proofs.Scales.{scale-once}

-- 700
abbrev limit : Float
limit = # 0x4085e00000000000

-- ½ - 2 ^ -20
abbrev δ : Float
δ = # 0x3fdffffc00000000

-- what is less than δ in size is no 536869888 units in size
far_no : (x : Float) → Down 536869888 x → lt (neg δ) x ≡ true → lt x δ ≡ true → ⊥
unfolding lt neg of_bits
far_no (fin true m e) h a b = let g = ltb-true (m * up e * 1048576) (524287 * down e) a in omega arith
far_no (fin false m e) h a b = let g = ltb-true (m * up e * 1048576) (524287 * down e) b in omega arith
far_no nan h a b = elim h [ ]
far_no (inf _) h a b = elim h [ ]

-- ---- p from P to P + 1 units, and less than δ away from k
abbrev signed : Bool → ℕ → ℤ
signed s K = cond s (neg_ℤ (pos K)) (pos K)

record Beside (s t : Bool) (P K : ℕ) : Type 0 where
  above : P < K * U + 536869888
  below : K * U < P + 1 + 536869888
  sign : signed s K ≡ signed t K

zero_at : At false 0 0 (whole (pos 0))
unfolding of_int
zero_at = (refl, lit≤ tt, lit≤ tt)

module _ (P : ℕ) (p : Float) (l : P < 2 ^ 50) where
  abbrev Close : ℤ → Type 0
  Close k = (lt (neg δ) (p ⊖ whole k) ≡ true) × (lt (p ⊖ whole k) δ ≡ true)

  none : (k : ℤ) → Close k → Down 536869888 (p ⊖ whole k) → ⊥
  none k c d = far_no (p ⊖ whole k) d c.0 c.1

  less : (L : ℕ) (x : Float) → 536869888 ≤ L → Down L x → Down 536869888 x
  less L (fin s m e) a h = le_trans (mul-le-mul_right (down e) a) h
  less L nan a h = elim h [ ]
  less L (inf _) a h = elim h [ ]

  beside_zero : (s : Bool) → At s P (P + 1) p → Close (pos 0) → P < 536869888
  beside_zero false h c = lt_of_not-le (λ g. none (pos 0) c (sub-above false P (P + 1) 0 0 536869888 p (whole (pos 0)) (omega arith) (omega arith) h zero_at))
  beside_zero true h c = lt_of_not-le (λ g. none (pos 0) c (less (P + 0) (p ⊖ whole (pos 0)) (omega arith) (sub-apart true P (P + 1) 0 0 p (whole (pos 0)) (omega arith) h zero_at)))

  beside_same : (s : Bool) (K : ℕ) → suc K < 4000 → At s P (P + 1) p → Close (signed s (suc K)) → Beside s s P (suc K)
  beside_same s K k h c =
      let N = suc K * U in
      let f = whole (signed s (suc K)) in
      let g = k-at s K (omega arith) in
      record {
        above = lt_of_not-le (λ w. none (signed s (suc K)) c (sub-above s P (P + 1) N N 536869888 p f (omega arith) w h g));
        below = lt_of_not-le (λ w. none (signed s (suc K)) c (sub-below s P (P + 1) N N 536869888 p f (lit< tt) (omega arith) w h g));
        sign = refl;
      }

  beside-other : (s : Bool) (K : ℕ) → suc K < 4000 → At s P (P + 1) p → Close (signed (not s) (suc K)) → ⊥
  beside-other s K k h c =
      let N = suc K * U in
      let f = whole (signed (not s) (suc K)) in
      none (signed (not s) (suc K)) c (less (P + N) (p ⊖ f) (omega arith) (sub-apart s P (P + 1) N N p f (omega arith) h (k-at (not s) K (omega arith))))

  beside : (s t : Bool) (K : ℕ) → K < 4000 → At s P (P + 1) p → Close (signed t K) → Beside s t P K
  beside true true zero k h c = let w = beside_zero true h c in record { above = omega arith; below = omega arith; sign = refl }
  beside true false zero k h c = let w = beside_zero true h c in record { above = omega arith; below = omega arith; sign = refl }
  beside false true zero k h c = let w = beside_zero false h c in record { above = omega arith; below = omega arith; sign = refl }
  beside false false zero k h c = let w = beside_zero false h c in record { above = omega arith; below = omega arith; sign = refl }
  beside true true (suc K) k h c = beside_same true K k h c
  beside false false (suc K) k h c = beside_same false K k h c
  beside true false (suc K) k h c = absurd (beside-other true K k h c)
  beside false true (suc K) k h c = absurd (beside-other false K k h c)

-- ---- so k is the whole part of p ± ½
the_cut : (s : Bool) (P K : ℕ) (x : Float) → P < 2 ^ 50 → P < K * U + 536869888 → K * U < P + 1 + 536869888 → At s (P + 536870912) (P + 1 + 536870912) x → to_signed 63 x ≡ signed s K
the_cut s P K x l a b h =
    let c = cut s (P + 536870912) (P + 1 + 536870912) x (omega arith) h in
    let lo = c.low in
    let hi = c.high in
    let e : c.K ≡ K = omega arith in
    c.is ∙ ap (signed s) e

-- ---- of v
record Own (s : Bool) (H : ℕ) (p : Float) : Type 0 where
  P : ℕ
  stands : At s P (P + 1) p
  least : P ≤ H

own : (s : Bool) (L H : ℕ) (p : Float) → At s L H p → Own s H p
own s L H (fin t m e) h =
    let a = v-at m e t in
    record { P = units_of_lem m e; stands = (h.0, a.1, a.2); least = le_of_mul-le-mul_right (le_trans a.1 h.2) (down_pos e) }
own s L H nan h = elim h [ ]
own s L H (inf _) h = elim h [ ]

700_within : (v : Float) → Within 700 v → Within 746 v
700_within (fin s m e) h = let p = down_pos e in omega arith
700_within nan h = elim h [ ]
700_within (inf _) h = elim h [ ]

zero_of : (s : Bool) → At s 0 1 (C ⊗ fin s 0 (pos 0))
unfolding mul of_bits
zero_of true = (refl, lit≤ tt, lit≤ tt)
zero_of false = (refl, lit≤ tt, lit≤ tt)

zero_cut : (s : Bool) → to_signed 63 (exp_shift (fin s 0 (pos 0))) ≡ pos 0
unfolding exp_shift of_bits lt add sub mul to_signed
zero_cut true = refl
zero_cut false = refl

nothing : (t : Bool) → pos 0 ≡ signed t 0
nothing true = refl
nothing false = refl

at_zero : (s t : Bool) (K : ℕ) → K < 4000 → Close 0 (C ⊗ fin s 0 (pos 0)) (lit< tt) (signed t K) → to_signed 63 (exp_shift (fin s 0 (pos 0))) ≡ signed t K
at_zero s t K k c =
    let l = (beside 0 (C ⊗ fin s 0 (pos 0)) (lit< tt) s t K k (zero_of s) c).below in
    let z : K ≡ 0 = omega arith in
    zero_cut s ∙ nothing t ∙ ap (signed t) (sym z)

zero_is : (s : Bool) (e : ℤ) → T (fits binary64 (fin s 0 e)) → e ≡ pos 0
unfolding fits
zero_is s e f = plain e (eqb→eq (up e * down e) 1 f)

pub near-k : (v : Float) (t : Bool) (K : ℕ) → T (fits binary64 v) → Within 700 v → K < 4000 → lt (neg δ) (C ⊗ v ⊖ whole (signed t K)) ≡ true → lt (C ⊗ v ⊖ whole (signed t K)) δ ≡ true → to_signed 63 (exp_shift v) ≡ signed t K
near-k (fin s zero e) t K f w k a b =
    subst (λ (x : ℤ). Close 0 (C ⊗ fin s 0 x) (lit< tt) (signed t K) → to_signed 63 (exp_shift (fin s 0 x)) ≡ signed t K) (sym (zero_is s e f)) (at_zero s t K k) (a, b)
near-k (fin s (suc m) e) t K f w k a b =
    let v = fin s (suc m) e in
    let n = units_of_lem (suc m) e in
    let l = units_small (suc m) e (700_within v w) in
    let o = own s (LP n) (HP n) (C ⊗ v) (product_at s n v l (v-at (suc m) e s)) in
    let g = o.least in
    let z = beside o.P (C ⊗ v) (omega arith) s t K k o.stands (a, b) in
    the_cut s o.P K (exp_shift v) (omega arith) z.above z.below (shift_at s o.P (o.P + 1) m e (omega arith) o.stands) ∙ z.sign
near-k nan t K f w k a b = elim w [ ]
near-k (inf _) t K f w k a b = elim w [ ]

-- it is at most 1010
signed_mag : (s : Bool) (K : ℕ) → mag (signed s K) ≤ K
signed_mag true K = mag_neg K
signed_mag false K = omega arith

pub near_mag : (v : Float) → T (fits binary64 v) → Within 700 v → mag (to_signed 63 (exp_shift v)) < 1022
near_mag (fin s zero e) f w = subst (λ (x : ℤ). mag (to_signed 63 (exp_shift (fin s 0 x))) < 1022) (sym (zero_is s e f)) (rw (zero_cut s) (lit< tt))
near_mag (fin s (suc m) e) f w =
    let v = fin s (suc m) e in
    let n = units_of_lem (suc m) e in
    let h = v-at (suc m) e s in
    let l = units_small (suc m) e (700_within v w) in
    let g : n ≤ 700 * U = le_of_mul-le-mul_right (le_trans h.1 (le_trans (mul-le-mul_right U w) (le_of_eq (mul_right_comm 700 (down e) U)))) (down_pos e) in
    let c = cut s (LP n + 536870912) (HP n + 536870912) (exp_shift v) (omega arith) (shift_at s (LP n) (HP n) m e (omega arith) (product_at s n v l h)) in
    let i = c.high in
    let j = signed_mag s c.K in
    rw c.is (omega arith)
near_mag nan f w = elim w [ ]
near_mag (inf _) f w = elim w [ ]

-- ---- u - 1023 as a float, and the power of 2 with the field u
pub record Counted (u : ℕ) : Type 0 where
  pub t : Bool
  pub K : ℕ
  pub small : K < 4000
  pub is : minus u 1023 ≡ signed t K

pub counted : (u : ℕ) → u < 2048 → Counted u
counted u l = go (leb 1023 u) refl
  where
    go : (b : Bool) → leb 1023 u ≡ b → Counted u
    go true e = record { t = false; K = u - 1023; small = omega arith; is = rw e }
    go false e =
        let h = leb-false 1023 u e in
        let d : 1023 - u ≡ suc (1023 - suc u) = omega arith in
        record { t = true; K = 1023 - u; small = omega arith; is = rw (e, d) }

-- 2 ^ 52 + u
plainer : (x : Float) (q : ℕ) → HasValue x false (q * 2 ^ 1074) (2 ^ 1074) → HasValue x false q 1
plainer (fin t m e) q h = (
  h.0,
  eq_of_mul-eq-mul_right (2 ^ 1074) (pow_pos 1074) (m * up e * 1) (q * down e) (ap (λ (z : ℕ). z * 2 ^ 1074) (mul-one (m * up e)) ∙ h.1 ∙ mul_right_comm q (2 ^ 1074) (down e)),
)
plainer nan q h = elim h [ ]
plainer (inf _) q h = elim h [ ]

shifted : (u : ℕ) → u < 2048 → HasValue (of_bits binary64 (u + 4841369599423283200)) false (u + 4503599627370496) 1
shifted u l =
    let b = u + 4841369599423283200 in
    let f : b / 4503599627370496 ≡ 1075 = omega arith in
    let d : b % 4503599627370496 ≡ u = omega arith in
    let q = u + 4503599627370496 in
    rw (plus-is b (omega arith), f, d, normal-is 1075 u (lit< tt) (lit< tt)) (plainer (odd 53 false q 1074 1074) q (odd_sign 53 false q 1074 1074))

plus : (u n : ℕ) → u ≡ n + 1023 → u + 4503599627370496 ≡ n + 4503599627371519
plus u n e = omega arith

rest : (u n : ℕ) → 1023 ≡ n + u → 4503599627371519 ≡ n + (u + 4503599627370496)
rest u n e = omega arith

unit : (D : ℕ) → 0 < D → 0 < D * 1
unit D p = omega arith

less_1023 : (u : ℕ) (x : Float) → HasValue x false (u + 4503599627370496) 1 → x ⊖ # 0x43300000000003ff ≡ whole (minus u 1023)
unfolding sub add neg sum of_bits of_int
less_1023 u (fin true m e) h = absurd (true≢false h.0)
less_1023 u (fin false m e) h = go (leb 1023 u) refl
  where
    go : (b : Bool) → leb 1023 u ≡ b → fin false m e ⊖ # 0x43300000000003ff ≡ whole (cond b (pos (u - 1023)) (negsuc (1023 - suc u)))
    go true t =
        let l = leb-true 1023 u t in
        let D = down e in
        let n = u - 1023 in
        let i : u ≡ n + 1023 = omega arith in
        let g : (u + 4503599627370496) * D ≡ n * D + 4503599627371519 * D = ap (λ (z : ℕ). z * D) (plus u n i) ∙ add-mul n 4503599627371519 D in
        let j = h.1 in
        let d : m * up e * 1 - 4503599627371519 * D ≡ n * D = omega arith in
        rw (le-ltb (m * up e * 1) (4503599627371519 * D) (omega arith))
        (round_same binary64 false (m * up e * 1 - 4503599627371519 * D) (D * 1) n 1 (unit D (down_pos e)) (lit< tt) (mul-one (m * up e * 1 - 4503599627371519 * D) ∙ d ∙ ap (λ (z : ℕ). n * z) (sym (mul-one D))))
    go false t =
        let l = leb-false 1023 u t in
        let D = down e in
        let n = suc (1023 - suc u) in
        let i : 1023 ≡ n + u = omega arith in
        let g : 4503599627371519 * D ≡ n * D + (u + 4503599627370496) * D = ap (λ (z : ℕ). z * D) (rest u n i) ∙ add-mul n (u + 4503599627370496) D in
        let j = h.1 in
        let p : 0 < n * D = mul-pos (omega arith) (down_pos e) in
        let d : 4503599627371519 * D - m * up e * 1 ≡ n * D = omega arith in
        rw (lt-ltb (m * up e * 1) (4503599627371519 * D) (omega arith))
        (round_same binary64 true (4503599627371519 * D - m * up e * 1) (D * 1) n 1 (unit D (down_pos e)) (lit< tt) (mul-one (4503599627371519 * D - m * up e * 1) ∙ d ∙ ap (λ (z : ℕ). n * z) (sym (mul-one D))))
less_1023 u nan h = elim h [ ]
less_1023 u (inf _) h = elim h [ ]

pub count-is : (u : ℕ) → u < 2048 → of_bits binary64 (u + 4841369599423283200) ⊖ # 0x43300000000003ff ≡ whole (minus u 1023)
count-is u l = less_1023 u (of_bits binary64 (u + 4841369599423283200)) (shifted u l)

pub field_power : (u : ℕ) → 0 < u → u < 2047 → of_bits binary64 (u * 4503599627370496) ≡ pow2 (minus u 1023)
field_power u p l = pattern_is u p l ∙ field_is u p l ∙ ap (λ (z : ℤ). fin false 1 z) (minus_shift u 1023 51)

-- ---- the test of the range
flip_or : (X Y : ℕ) → T (ltb Y X || (eqb X Y && true)) → Y ≤ X
flip_or X Y t = go (ltb Y X) (eqb X Y) (ltb→lt Y X) (eqb→eq X Y) t
  where
    go : (a b : Bool) → (T a → Y < X) → (T b → X ≡ Y) → T (a || (b && true)) → Y ≤ X
    go true b p q t = let h = p tt in omega arith
    go false true p q t = let h = q tt in omega arith
    go false false p q t = absurd t

pub near_within : (v : Float) → T (le (neg limit) v) → T (le v limit) → Within 700 v
unfolding le lt eq neg of_bits
near_within nan a b = absurd a
near_within (inf true) a b = absurd a
near_within (inf false) a b = absurd b
near_within (fin true m e) a b = let h = flip_or (700 * down e) (m * up e * 1) a in omega arith
near_within (fin false m e) a b = let h = le_or (m * up e * 1) (700 * down e) b in omega arith

-- ---- where v is near, `exp_of` is `exp_from`, and its two products are one
inner : (v : Float) → Within 700 v → exp_of v ≡ exp_from v (to_signed 63 (exp_shift v))
unfolding exp_of is_nan lt of_bits
inner (fin true m e) h = rw (le-ltb (0x174910d52d3051 * down e) (m * up e * 8796093022208) (omega arith))
inner (fin false m e) h = rw (le-ltb (0x162e42fefa39ef * down e) (m * up e * 8796093022208) (omega arith))
inner nan h = elim h [ ]
inner (inf _) h = elim h [ ]

module _ (v : Float) {f y : Float} (w : y ≡ digits (v ⊖ f ⊗ A) (f ⊗ B)) where
  pub two_products : (k : ℤ) → f ≡ whole k → y ⊗ pow2 (quot_z k (pos 2)) ⊗ pow2 (k -ℤ quot_z k (pos 2)) ≡ exp_from v k
  unfolding exp_from
  two_products k e = rw (w, e)

  pub one_product : T (fits binary64 v) → T (le (neg limit) v) → T (le v limit) → f ≡ whole (to_signed 63 (exp_shift v))
      → y ⊗ pow2 (to_signed 63 (exp_shift v)) ≡ exp_of v
  one_product g a b e =
      let k = to_signed 63 (exp_shift v) in
      let h = near_within v a b in
      let is : y ≡ digits_of v = w ∙ ap (λ (z : Float). digits (v ⊖ z ⊗ A) (z ⊗ B)) e in
      let at = inside-at v g (700_within v h) in
      sym (scale-once y k (rw is (add-fits binary64 _ _)) (rw is at) (near_mag v g h)) ∙ two_products k e ∙ sym (inner v h)

-- ---- no NaN
pub count-no_nan : (u : ℕ) → u < 2048 → nan_bits binary64 (u + 4841369599423283200) ≡ false
count-no_nan u l = nan_bits_above binary64 (u + 4841369599423283200) ∙ le-ltb 9218868437227405312 ((u + 4841369599423283200) % 9223372036854775808) (omega arith)

pub kept-within : (v : Float) → Within 700 (cond (le (neg limit) v && le v limit) v 0f)
kept-within v = go (le (neg limit) v) (le v limit) (near_within v)
  where
    go : (a b : Bool) → (T a → T b → Within 700 v) → Within 700 (cond (a && b) v 0f)
    go true true h = h tt tt
    go true false h = unfold of_bits in omega arith
    go false b h = unfold of_bits in omega arith

pub sum-no_nan : (v : Float) → Within 700 v → T (not (is_nan (C ⊗ v ⊕ # 0x43380000000003ff)))
sum-no_nan v h = go (C ⊗ v ⊕ # 0x43380000000003ff) (add-within 1400 6755399441056767 (C ⊗ v) (# 0x43380000000003ff) (lit≤ tt) (mul-within 2 700 C v (lit≤ tt) C-within h) big)
  where
    big : Within 6755399441056767 (# 0x43380000000003ff)
    big = unfold of_bits in lit≤ tt

    go : (x : Float) → Within 6755399441058167 x → T (not (is_nan x))
    go (fin s m e) h = unfold is_nan in tt
    go nan h = elim h [ ]
    go (inf _) h = elim h [ ]

-- ---- what `exp_near` returns, where it says ok
is_true : (b : Bool) → T b → b ≡ true
is_true true t = refl
is_true false t = absurd t

field_in : (u : ℕ) → mag (minus u 1023) < 1022 → (0 < u) × (u < 2047)
field_in u = go (leb 1023 u) refl
  where
    go : (b : Bool) → leb 1023 u ≡ b → mag (cond b (pos (u - 1023)) (negsuc (1023 - suc u))) < 1022 → (0 < u) × (u < 2047)
    go true e h = let l = leb-true 1023 u e in (omega arith, omega arith)
    go false e h = let l = leb-false 1023 u e in (omega arith, omega arith)

guessed : (v : Float) (u : ℕ) → u < 2048 → T (fits binary64 v) → Within 700 v → lt (neg δ) (C ⊗ v ⊖ whole (minus u 1023)) ≡ true → lt (C ⊗ v ⊖ whole (minus u 1023)) δ ≡ true
    → minus u 1023 ≡ to_signed 63 (exp_shift v)
guessed v u l g h a b =
    let c = counted u l in
    c.is ∙ sym (near-k v c.t c.K g h c.small (rw c.is at a) (rw c.is at b))

pub near-is : (v w f y : Float) (u : ℕ) → u < 2048 → T (fits binary64 v) → w ≡ cond (le (neg limit) v && le v limit) v 0f → f ≡ whole (minus u 1023)
    → (T (le (neg limit) w) → T (le w limit) → f ≡ whole (to_signed 63 (exp_shift w)) → y ⊗ pow2 (to_signed 63 (exp_shift w)) ≡ exp_of w)
    → (le (neg limit) v && le v limit && lt (neg δ) (C ⊗ w ⊖ f) && lt (C ⊗ w ⊖ f) δ) ≡ true → y ⊗ of_bits binary64 (u * 4503599627370496) ≡ exp_of v
near-is v w f y u l g ew ef h t =
    let A = le (neg limit) v in
    let B = le v limit in
    let P = lt (neg δ) (C ⊗ w ⊖ f) in
    let Q = lt (C ⊗ w ⊖ f) δ in
    let abp = and_l (A && B && P) Q (subst T (sym t) tt) in
    let ab = and_l (A && B) P abp in
    let e : w ≡ v = ew ∙ ap (λ (z : Bool). cond z v 0f) (is_true (A && B) ab) in
    go e (and_l A B ab) (and_r A B ab) (is_true P (and_r (A && B) P abp)) (is_true Q (and_r (A && B && P) Q (subst T (sym t) tt)))
  where
    go : w ≡ v → T (le (neg limit) v) → T (le v limit) → lt (neg δ) (C ⊗ w ⊖ f) ≡ true → lt (C ⊗ w ⊖ f) δ ≡ true → y ⊗ of_bits binary64 (u * 4503599627370496) ≡ exp_of v
    go e a b p q =
        let n = near_within v a b in
        let k : minus u 1023 ≡ to_signed 63 (exp_shift v) = guessed v u l g n (rw (e, ef) at p) (rw (e, ef) at q) in
        let i = field_in u (rw k (near_mag v g n)) in
        rw (field_power u i.0 i.1, k) (rw e at h a b (ef ∙ ap whole k))

pub both : (a b : Bool) → (a && b) ≡ true → (a ≡ true) × (b ≡ true)
both true true e = (refl, refl)
both true false e = absurd (true≢false (sym e))
both false b e = absurd (true≢false (sym e))
