-- v = 2 ^ k × m, from the digits of v's bit pattern. Assumes nothing.
use Rattle.std.proofs.Common.{◌≡◌, ℕ, zero, suc, ◌+◌, ◌-◌, ◌*◌, ◌/◌, ◌%◌, ◌^◌, ◌<◌, ◌≤◌, Bool, true, false, ltb, leb, ℤ, pos, negsuc, ◌+ℤ◌, ◌-ℤ◌, sym, refl, ap, ◌∙◌, subst, le_trans, le_of_eq, lt_of_lt_of_le, le_of_suc-le-suc, lt_of_le_of_lt, lt_irrefl, mul-le-mul_right, mul_assoc, lt_of_mul-lt-mul_right, mul-pos, one-mul, pow-suc, lt_of_not-le, mul-one, not-le_of_lt, le_of_mul-le-mul_right, mul-div_cancel, arith, pow_pos, pow_mono, pow-add, ltb-false, ltb-true, le-ltb, lt-ltb, le-leb, leb-false, leb-true}
use borrow.Author.Tests.{lt-leb}
use lib.Signed.{mag}
use lib.Count.{count_trailing_zeros, under}
use lib.Bits.{shifted_half, shifted_even}
use lib.Ieee.{fin, minus, size, odd}
use lib.Ieee.Digits.{size-lt, size-le}
use Rattle.numerics.specs.Numerics.{mantissa, exponent}

-- ---- an odd number with i zeros after it is written as itself (private in lib.Ieee.Bits)
tz_shift : (d m i : ℕ) → m % 2 ≡ 1 → i < d → count_trailing_zeros d (m * 2 ^ i) ≡ i
unfolding count_trailing_zeros
tz_shift zero m i o h = absurd (none h)
  where
    none : i < 0 → ⊥
    none h = omega arith
tz_shift (suc d) m zero o h = ap (λ (x : ℕ). under (x % 2) (count_trailing_zeros d (x / 2))) (mul-one m) ∙ ap (λ (r : ℕ). under r (count_trailing_zeros d (m / 2))) o
tz_shift (suc d) m (suc i) o h =
    ap (λ (r : ℕ). under r (count_trailing_zeros d (m * 2 ^ suc i / 2))) (shifted_even m i) ∙ ap (λ (x : ℕ). suc (count_trailing_zeros d x)) (shifted_half m i) ∙ ap suc (tz_shift d m i o (le_of_suc-le-suc h))

odd_pos : (d : ℕ) (s : Bool) (q k l : ℕ) → 0 < q → odd d s q k l ≡ fin s (q / 2 ^ count_trailing_zeros d q) (minus (k + count_trailing_zeros d q) l)
unfolding odd
odd_pos d s zero k l h = absurd (lt_irrefl 0 h)
odd_pos d s (suc q) k l h = refl

odd_is_pos : (m : ℕ) → m % 2 ≡ 1 → 0 < m
odd_is_pos m o = omega arith

pub odd_shift : (d : ℕ) (s : Bool) (m i k l : ℕ) → m % 2 ≡ 1 → i < d → odd d s (m * 2 ^ i) k l ≡ fin s m (minus (k + i) l)
odd_shift d s m i k l o h =
    odd_pos d s (m * 2 ^ i) k l (mul-pos (odd_is_pos m o) (pow_pos i))
    ∙ ap (λ (t : ℕ). fin s (m * 2 ^ i / 2 ^ t) (minus (k + t) l)) (tz_shift d m i o h)
    ∙ ap (λ (x : ℕ). fin s x (minus (k + i) l)) (mul-div_cancel m (pow_pos i))

-- ---- every number above 0 is an odd one with zeros after it
pub record OddOf (q : ℕ) : Type 0 where
  pub m : ℕ
  pub t : ℕ
  pub is_odd : m % 2 ≡ 1
  pub is : m * 2 ^ t ≡ q

pub odd_of : (d q : ℕ) → 0 < q → q < 2 ^ d → OddOf q
odd_of zero q p h = absurd (none p h)
  where
    none : 0 < q → q < 1 → ⊥
    none a b = omega arith
odd_of (suc d) q p h = go (q % 2) refl (λ a b. odd_of d (q / 2) a b)
  where
    go : (r : ℕ) → q % 2 ≡ r → (0 < q / 2 → q / 2 < 2 ^ d → OddOf (q / 2)) → OddOf q
    go zero e ih =
        let l : q < 2 ^ d * 2 = rw pow-suc at h in
        let o = ih (omega arith) (omega arith) in
        let w : q / 2 * 2 ≡ q = omega arith in
        record { m = o.m; t = suc o.t; is_odd = o.is_odd; is = ap (λ (z : ℕ). o.m * z) (pow-suc 2 o.t) ∙ sym (mul_assoc o.m (2 ^ o.t) 2) ∙ ap (λ (z : ℕ). z * 2) o.is ∙ w }
    go (suc r) e ih = record { m = q; t = 0; is_odd = omega arith; is = mul-one q }

-- ---- a difference of naturals
pub minus_shift : (a b c : ℕ) → minus (a + c) (b + c) ≡ minus a b
minus_shift a b c = go (leb b a) refl
  where
    go : (r : Bool) → leb b a ≡ r → minus (a + c) (b + c) ≡ minus a b
    go true e =
        let h = leb-true b a e in
        let d : a + c - (b + c) ≡ a - b = omega arith in
        rw (e, le-leb (b + c) (a + c) (omega arith), d)
    go false e =
        let h = leb-false b a e in
        let d : b + c - suc (a + c) ≡ b - suc a = omega arith in
        rw (e, lt-leb (b + c) (a + c) (omega arith), d)

pub minus_pos : (a b : ℕ) → b ≤ a → minus a b ≡ pos (a - b)
minus_pos a b h = rw (le-leb b a h)

pub minus_plus : (a b c : ℕ) → minus a b +ℤ pos c ≡ minus (a + c) b
minus_plus a b c = go (leb b a) refl
  where
    low : (r : Bool) → leb b (a + c) ≡ r → a < b → negsuc (b - suc a) +ℤ pos c ≡ minus (a + c) b
    low true f h =
        let g = leb-true b (a + c) f in
        let d : c - suc (b - suc a) ≡ a + c - b = omega arith in
        rw (f, le-ltb c (suc (b - suc a)) (omega arith), d)
    low false f h =
        let g = leb-false b (a + c) f in
        let d : suc (b - suc a) - suc c ≡ b - suc (a + c) = omega arith in
        rw (f, lt-ltb c (suc (b - suc a)) (omega arith), d)

    go : (r : Bool) → leb b a ≡ r → minus a b +ℤ pos c ≡ minus (a + c) b
    go true e =
        let h = leb-true b a e in
        let d : a - b + c ≡ a + c - b = omega arith in
        rw (e, le-leb b (a + c) (omega arith), d)
    go false e = rw e (low (leb b (a + c)) refl (leb-false b a e))

pub sub-is_minus : (a b : ℕ) → pos a -ℤ pos b ≡ minus a b
sub-is_minus a zero = let d : a + 0 ≡ a - 0 = omega arith in rw (le-leb 0 a (omega arith), d)
sub-is_minus a (suc b) = go (ltb a (suc b)) refl
  where
    go : (r : Bool) → ltb a (suc b) ≡ r → pos a -ℤ pos (suc b) ≡ minus a (suc b)
    go true e = let h = ltb-true a (suc b) e in rw (e, lt-leb (suc b) a h)
    go false e = let h = ltb-false a (suc b) e in rw (e, le-leb (suc b) a h)

-- ---- how many digits m has, where it takes i zeros to make it 53 digits long
pow_lt_back : (i p : ℕ) → 2 ^ i < 2 ^ p → i < p
pow_lt_back i p h = lt_of_not-le (λ (g : p ≤ i). lt_irrefl (2 ^ i) (lt_of_lt_of_le h (pow_mono g)))

size_gt : (n j : ℕ) → 2 ^ j ≤ n → j < size n
size_gt n j h = lt_of_not-le (λ (g : size n ≤ j). not-le_of_lt (lt_of_lt_of_le (size-lt n) (pow_mono g)) h)

pub short : (m i : ℕ) → 0 < m → m * 2 ^ i < 2 ^ 53 → i < 53
short m i p h = pow_lt_back i 53 (lt_of_le_of_lt (le_trans (le_of_eq (sym (one-mul (2 ^ i)))) (mul-le-mul_right (2 ^ i) p)) h)

pub size_is : (m i : ℕ) → i < 53 → 2 ^ 52 ≤ m * 2 ^ i → m * 2 ^ i < 2 ^ 53 → size m ≡ 53 - i
size_is m i l a b =
    let e1 : 53 ≡ 53 - i + i = omega arith in
    let e0 : 52 ≡ 52 - i + i = omega arith in
    let hi : 2 ^ 53 ≡ 2 ^ (53 - i) * 2 ^ i = ap (λ (z : ℕ). 2 ^ z) e1 ∙ pow-add 2 (53 - i) i in
    let lo : 2 ^ 52 ≡ 2 ^ (52 - i) * 2 ^ i = ap (λ (z : ℕ). 2 ^ z) e0 ∙ pow-add 2 (52 - i) i in
    let x : size m ≤ 53 - i = size-le m (53 - i) (lt_of_mul-lt-mul_right (2 ^ i) (rw hi at b)) in
    let y : 52 - i < size m = size_gt m (52 - i) (le_of_mul-le-mul_right (rw lo at a) (pow_pos i)) in
    omega arith

-- ---- the two parts of an odd m with t zeros after it, times 2 ^ y, where j zeros more make 53 digits
Parts : ℕ → ℕ → ℕ → Type 0
Parts q y j = (mantissa (odd 53 false q y 1074) ≡ odd 53 false (q * 2 ^ j) 1022 1074) × (exponent (odd 53 false q y 1074) ≡ minus y (1022 + j))

parts_at : (m t j y : ℕ) → m % 2 ≡ 1 → 2 ^ 52 ≤ m * 2 ^ t * 2 ^ j → m * 2 ^ t * 2 ^ j < 2 ^ 53 → Parts (m * 2 ^ t) y j
unfolding Parts
parts_at m t j y o a b =
    let w : m * 2 ^ t * 2 ^ j ≡ m * 2 ^ (t + j) = mul_assoc m (2 ^ t) (2 ^ j) ∙ ap (λ (z : ℕ). m * z) (sym (pow-add 2 t j)) in
    let a' : 2 ^ 52 ≤ m * 2 ^ (t + j) = rw w at a in
    let b' : m * 2 ^ (t + j) < 2 ^ 53 = rw w at b in
    let i_lt : t + j < 53 = short m (t + j) (odd_is_pos m o) b' in
    let z : size m ≡ 53 - (t + j) = size_is m (t + j) i_lt a' b' in
    let v : odd 53 false (m * 2 ^ t) y 1074 ≡ fin false m (minus (y + t) 1074) = odd_shift 53 false m t y 1074 o (omega arith) in
    let n : odd 53 false (m * 2 ^ t * 2 ^ j) 1022 1074 ≡ fin false m (minus (1022 + (t + j)) 1074) = ap (λ (x : ℕ). odd 53 false x 1022 1074) w ∙ odd_shift 53 false m (t + j) 1022 1074 o i_lt in
    let e1 : 1 + (1021 + (t + j)) ≡ 1022 + (t + j) = omega arith in
    let e2 : 53 - (t + j) + (1021 + (t + j)) ≡ 1074 = omega arith in
    let d1 : minus (1022 + (t + j)) 1074 ≡ minus 1 (53 - (t + j)) = rw (e1, e2) at (minus_shift 1 (53 - (t + j)) (1021 + (t + j))) in
    let e3 : y + t + (53 - (t + j) - 1) ≡ y + (52 - j) = omega arith in
    let e4 : 1022 + j + (52 - j) ≡ 1074 = omega arith in
    let d2 : minus (y + (52 - j)) 1074 ≡ minus y (1022 + j) = rw e4 at (minus_shift y (1022 + j) (52 - j)) in (
      ap mantissa v ∙ ap (λ (x : ℕ). fin false m (minus 1 x)) z ∙ ap (λ (x : ℤ). fin false m x) (sym d1) ∙ sym n,
      ap exponent v ∙ ap (λ (x : ℕ). minus (y + t) 1074 +ℤ minus x 1) z ∙ ap (λ (x : ℤ). minus (y + t) 1074 +ℤ x) (minus_pos (53 - (t + j)) 1 (omega arith)) ∙ minus_plus (y + t) 1074 (53 - (t + j) - 1) ∙ ap (λ (x : ℕ). minus x 1074) e3 ∙ d2,
    )

parts : (q y j : ℕ) → 0 < q → q < 2 ^ 53 → 2 ^ 52 ≤ q * 2 ^ j → q * 2 ^ j < 2 ^ 53 → Parts q y j
parts q y j p l a b =
    let o = odd_of 53 q p l in
    subst (λ (x : ℕ). Parts x y j) o.is (parts_at o.m o.t j y o.is_odd (subst (λ (x : ℕ). 2 ^ 52 ≤ x * 2 ^ j) (sym o.is) a) (subst (λ (x : ℕ). x * 2 ^ j < 2 ^ 53) (sym o.is) b))

pub mantissa-is : (q y j : ℕ) → 0 < q → q < 2 ^ 53 → 2 ^ 52 ≤ q * 2 ^ j → q * 2 ^ j < 2 ^ 53 → mantissa (odd 53 false q y 1074) ≡ odd 53 false (q * 2 ^ j) 1022 1074
unfolding Parts
mantissa-is q y j p l a b = (parts q y j p l a b).0

pub exponent-is : (q y j : ℕ) → 0 < q → q < 2 ^ 53 → 2 ^ 52 ≤ q * 2 ^ j → q * 2 ^ j < 2 ^ 53 → exponent (odd 53 false q y 1074) ≡ minus y (1022 + j)
unfolding Parts
exponent-is q y j p l a b = (parts q y j p l a b).1

-- ---- a difference of two unsigned numbers as the machine's signed one
pub minus_mag : (a b n : ℕ) → a < b + n → b < a + n → mag (minus a b) < n
minus_mag a b n h k = go (leb b a) refl
  where
    go : (r : Bool) → leb b a ≡ r → mag (minus a b) < n
    go true e = let l = leb-true b a e in rw e (omega arith)
    go false e = let l = leb-false b a e in rw e (omega arith)
