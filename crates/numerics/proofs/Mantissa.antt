-- Every positive finite v, subnormals too, is 2 ^ k × m with 1 ≤ m < 2 for ln's k and m: as fractions of naturals, and so with no rounding. Assumes nothing.
use Rattle.std.proofs.Common.{◌≡◌, ℕ, zero, suc, ◌+◌, ◌-◌, ◌*◌, ◌^◌, ◌<◌, ◌≤◌, Bool, true, false, ltb, leb, ℤ, pos, negsuc, ◌+ℤ◌, sym, refl, ap, ◌∙◌, zero-lt-suc, mul_assoc, mul_comm, one-mul, mul-one, arith, pow-add, ltb-false, ltb-true, leb-true}
use lib.Ieee.{Float, fin, up, down, minus, size}
use lib.Ieee.Digits.{size-lt, size_reaches}
use Rattle.numerics.specs.Numerics.{mantissa, exponent}
use Rattle.numerics.proofs.Splits.{minus_pos}

-- `fin false n e` stands for n * up e / down e
pub record Value (v : Float) (num den : ℕ) : Type 0 where
  pub digits : ℕ
  pub scale : ℤ
  pub is : v ≡ fin false digits scale
  pub num_is : num ≡ digits * up scale
  pub den_is : den ≡ down scale

-- v = 2 ^ k × m and 1 ≤ m < 2, for k = exponent v and m = mantissa v = a / b
pub record Parted (n : ℕ) (e : ℤ) : Type 0 where
  pub a : ℕ
  pub b : ℕ
  pub of_mantissa : Value (mantissa (fin false n e)) a b
  pub at_least_one : b ≤ a
  pub below_two : a < 2 * b
  pub exact : (n * up e) * (down (exponent (fin false n e)) * b) ≡ (up (exponent (fin false n e)) * a) * down e

-- adding c to an exponent multiplies by 2 ^ c
scaled : (e : ℤ) (c : ℕ) → up e * (down (e +ℤ pos c) * 2 ^ c) ≡ up (e +ℤ pos c) * down e
scaled (pos x) c = ap (λ (z : ℕ). 2 ^ x * z) (one-mul (2 ^ c)) ∙ sym (pow-add 2 x c) ∙ sym (mul-one (2 ^ (x + c)))
scaled (negsuc x) c = go (ltb c (suc x)) refl
  where
    go : (r : Bool) → ltb c (suc x) ≡ r → 1 * (down (negsuc x +ℤ pos c) * 2 ^ c) ≡ up (negsuc x +ℤ pos c) * 2 ^ suc x
    go true r =
        let h = ltb-true c (suc x) r in
        let d : suc (suc x - suc c) + c ≡ suc x = omega arith in
        rw r (one-mul (2 ^ suc (suc x - suc c) * 2 ^ c) ∙ sym (pow-add 2 (suc (suc x - suc c)) c) ∙ ap (λ (z : ℕ). 2 ^ z) d ∙ sym (one-mul (2 ^ suc x)))
    go false r =
        let h = ltb-false c (suc x) r in
        let d : c ≡ c - suc x + suc x = omega arith in
        rw r (one-mul (1 * 2 ^ c) ∙ one-mul (2 ^ c) ∙ ap (λ (z : ℕ). 2 ^ z) d ∙ pow-add 2 (c - suc x) (suc x))

-- minus 1 p is -(p - 1)
ups : (p : ℕ) → 0 < p → up (minus 1 p) ≡ 1
ups p h = go (leb p 1) refl
  where
    go : (r : Bool) → leb p 1 ≡ r → up (minus 1 p) ≡ 1
    go true r = let l = leb-true p 1 r in let d : 1 - p ≡ 0 = omega arith in rw (r, d)
    go false r = rw r

downs : (p : ℕ) → 0 < p → down (minus 1 p) ≡ 2 ^ (p - 1)
downs p h = go (leb p 1) refl
  where
    go : (r : Bool) → leb p 1 ≡ r → down (minus 1 p) ≡ 2 ^ (p - 1)
    go true r = let l = leb-true p 1 r in let d : p - 1 ≡ 0 = omega arith in rw (r, d)
    go false r = let l = borrow.Author.Tests.leb-false p 1 r in let d : suc (p - 2) ≡ p - 1 = omega arith in rw (r, d)

has_digit : (n : ℕ) → 0 < n → 0 < size n
has_digit n h = go (size n) refl
  where
    go : (p : ℕ) → size n ≡ p → 0 < p
    go zero e = let l : n < 2 ^ 0 = rw e at (size-lt n) in absurd (omega arith)
    go (suc p) e = zero-lt-suc p

pub parted : (n : ℕ) (e : ℤ) → 0 < n → Parted n e
parted n e h =
    let p = size n in
    let c = p - 1 in
    let q : 0 < p = has_digit n h in
    let k : exponent (fin false n e) ≡ e +ℤ pos c = ap (λ (z : ℤ). e +ℤ z) (minus_pos p 1 q) in
    let l : 2 ^ c ≤ n = size_reaches n c (omega arith) in
    let s : p ≡ c + 1 = omega arith in
    let t : 2 ^ p ≡ 2 * 2 ^ c = ap (λ (z : ℕ). 2 ^ z) s ∙ pow-add 2 c 1 ∙ mul_comm (2 ^ c) 2 in
    let u : n < 2 * 2 ^ c = rw t at (size-lt n) in
    record {
      a = n;
      b = 2 ^ c;
      of_mantissa = record { digits = n; scale = minus 1 p; is = refl; num_is = sym (mul-one n) ∙ ap (λ (z : ℕ). n * z) (sym (ups p q)); den_is = sym (downs p q) };
      at_least_one = l;
      below_two = u;
      exact = rw k (mul_assoc n (up e) (down (e +ℤ pos c) * 2 ^ c) ∙ ap (λ (z : ℕ). n * z) (scaled e c) ∙ sym (mul_assoc n (up (e +ℤ pos c)) (down e)) ∙ ap (λ (z : ℕ). z * down e) (mul_comm n (up (e +ℤ pos c))));
    }
