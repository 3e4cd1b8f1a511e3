-- How near a rounded fraction is to the fraction, in units of the smallest float, 2 ^ -1074. Twice as much as the true error is enough here. Assumes nothing.
use mathlib.Core.Path.{◌≡◌, sym, ap, ◌∙◌}
use mathlib.Core.Bool.{Bool, true, false, not}
use mathlib.Core.Logic.{⊎_elim}
use Prim.Native.Nat.{ℕ, suc, ◌+◌, ◌*◌, ◌/◌, ◌%◌, ◌^◌, ◌<◌, ◌≤◌, compare}
use native.Mathlib.Nat.{le_trans, le_of_eq, le_of_mul-le-mul_right, mul-le-mul_right, mul_assoc, mul_comm, mul_right_comm, mul-one, mul-pos, suc-mul, add-mul, eq-zero-or-pos, div-mul-le_self, lt-div-mul-add, le-div_iff_mul-le, mul-div_cancel, div-one, mod-one}
use native.Mathlib.Omega.{arith}
use lib.Dec.{T, ltb, ltb→lt, nltb→le, lit<}
use lib.Pow.{pow_pos, pow-add}
use lib.Ieee.{binary64, size}
use lib.Ieee.Digits.{size_reaches, size-le}
use lib.Ieee.Fits.{nearest-le}
use lib.Ieee.Nearest.{closest, closest_same, nearest-ge}
use lib.Ieee.Order.{drop, kept}
use lib.Ieee.Scale.{grid}

-- 1 in units
abbrev pub W : ℕ
W = 2 ^ 1074

-- r is n / c but for n / 2 ^ 52 and one unit
abbrev pub Near : ℕ → ℕ → ℕ → Type 0
Near r n c = (r * c * 2 ^ 52 ≤ n * 2 ^ 52 + n + c * 2 ^ 52) × (n * 2 ^ 52 ≤ r * c * 2 ^ 52 + n + c * 2 ^ 52)

-- u = c * 2 ^ k is the size of a step: one unit, or at most n / 2 ^ 52
step : (n c : ℕ) → 0 < c → c * 2 ^ drop 53 n c * 2 ^ 52 ≤ n + c * 2 ^ 52
step n c C = ⊎_elim one more (eq-zero-or-pos (drop 53 n c))
  where
    one : drop 53 n c ≡ 0 → c * 2 ^ drop 53 n c * 2 ^ 52 ≤ n + c * 2 ^ 52
    one e = rw e (omega arith)

    more : 0 < drop 53 n c → c * 2 ^ drop 53 n c * 2 ^ 52 ≤ n + c * 2 ^ 52
    more p =
        let k = drop 53 n c in
        let a : 2 ^ (52 + k) ≤ n / c = size_reaches (n / c) (52 + k) (omega arith) in
        let b : 2 ^ (52 + k) * c ≤ n = (le-div_iff_mul-le C).0 a in
        let e : c * 2 ^ k * 2 ^ 52 ≡ 2 ^ (52 + k) * c = mul_assoc c (2 ^ k) (2 ^ 52) ∙ mul_comm c (2 ^ k * 2 ^ 52) ∙ ap (λ (z : ℕ). z * c) (mul_comm (2 ^ k) (2 ^ 52) ∙ sym (pow-add 2 52 k)) in
        omega arith

near_step : (n c k q : ℕ) → n / (c * 2 ^ k) ≤ q → q ≤ suc (n / (c * 2 ^ k)) → 0 < c * 2 ^ k → c * 2 ^ k * 2 ^ 52 ≤ n + c * 2 ^ 52 → Near (q * 2 ^ k) n c
near_step n c k q l h U s =
    let u = c * 2 ^ k in
    let e : q * 2 ^ k * c ≡ q * u = mul_assoc q (2 ^ k) c ∙ ap (λ (z : ℕ). q * z) (mul_comm (2 ^ k) c) in
    let a : n / u * u ≤ n = div-mul-le_self n u in
    let b : n < n / u * u + u = lt-div-mul-add U in
    let p : n / u * u ≤ q * u = mul-le-mul_right u l in
    let r : q * u ≤ n / u * u + u = le_trans (mul-le-mul_right u h) (le_of_eq (suc-mul (n / u) u)) in
    (omega arith, omega arith)

pub near : (a c : ℕ) → 0 < c → Near (grid binary64 a c) (a * W) c
near a c C =
    let n = a * W in
    let k = drop 53 n c in
    let u = c * 2 ^ k in
    near_step n c k (kept 53 n c) (nearest-ge (n / u) (compare (n % u * 2) u)) (nearest-le (n / u) (compare (n % u * 2) u)) (mul-pos C (pow_pos k)) (step n c C)

-- ---- whole numbers of units
unfoldable pub G : ℕ → ℕ
G a = grid binary64 a W

-- those of at most 53 digits are kept
closest_one : (a : ℕ) → closest a 1 ≡ a
closest_one a = rw (mod-one a) (div-one a)

at_zero : (a k : ℕ) → k ≡ 0 → closest (a * W) (W * 2 ^ k) * 2 ^ k ≡ a
at_zero a k e = rw e (mul-one (closest (a * W) (W * 1)) ∙ closest_same (a * W) (W * 1) a 1 (pow_pos 1074) (lit< tt) (mul-one (a * W)) ∙ closest_one a)

kept_whole : (a : ℕ) → a < 2 ^ 53 → G a ≡ a
unfolding G
kept_whole a l =
    let d : a * W / W ≡ a = mul-div_cancel a (pow_pos 1074) in
    let s : size (a * W / W) ≤ 53 = rw d (size-le a 53 l) in
    at_zero a (drop 53 (a * W) W) (omega arith)

-- the others are off by two of 2 ^ 52 at most
abbrev pub Close : ℕ → ℕ → Type 0
Close r a = (r * 2 ^ 51 ≤ a * 2 ^ 51 + a) × (a * 2 ^ 51 ≤ r * 2 ^ 51 + a)

-- with w for W, which is past what `omega` reads
large : (r a w : ℕ) → 0 < w → 2 ^ 53 ≤ a → Near r (a * w) w → Close r a
large r a w p l h =
    let x : r * 2 ^ 52 * w ≡ r * w * 2 ^ 52 = mul_right_comm r (2 ^ 52) w in
    let y : a * 2 ^ 52 * w ≡ a * w * 2 ^ 52 = mul_right_comm a (2 ^ 52) w in
    let z : 2 ^ 52 * w ≡ w * 2 ^ 52 = mul_comm (2 ^ 52) w in
    let hi : r * 2 ^ 52 * w ≤ (a * 2 ^ 52 + a + 2 ^ 52) * w = rw (add-mul, add-mul) (omega arith) in
    let lo : a * 2 ^ 52 * w ≤ (r * 2 ^ 52 + a + 2 ^ 52) * w = rw (add-mul, add-mul) (omega arith) in
    let hi' : r * 2 ^ 52 ≤ a * 2 ^ 52 + a + 2 ^ 52 = le_of_mul-le-mul_right hi p in
    let lo' : a * 2 ^ 52 ≤ r * 2 ^ 52 + a + 2 ^ 52 = le_of_mul-le-mul_right lo p in
    (omega arith, omega arith)

small : (r a : ℕ) → r ≡ a → Close r a
small r a e = (omega arith, omega arith)

pub close : (a : ℕ) → Close (G a) a
unfolding G
close a = go (ltb a (2 ^ 53)) (ltb→lt a (2 ^ 53)) (nltb→le a (2 ^ 53))
  where
    go : (b : Bool) → (T b → a < 2 ^ 53) → (T (not b) → 2 ^ 53 ≤ a) → Close (G a) a
    go true h k = small (G a) a (kept_whole a (h tt))
    go false h k = large (G a) a W (pow_pos 1074) (k tt) (near a W (pow_pos 1074))
