-- Times 2 ^ a, then times 2 ^ (k - a), is times 2 ^ k, where the first product is exact: it is so for a y from an eighth to 2. Assumes nothing.
use Rattle.std.proofs.Common.{◌≡◌, ℕ, zero, suc, ◌+◌, ◌-◌, ◌*◌, ◌/◌, ◌%◌, ◌^◌, ◌<◌, ◌≤◌, Bool, true, false, ◌&&◌, T, eqb, ltb, leb, ℤ, pos, negsuc, ◌-ℤ◌, neg_ℤ, sym, refl, ap, ◌∙◌, true≢false, le_trans, le_of_eq, lt_of_le_of_lt, mul-le-mul_right, mul_assoc, mul_comm, mul-le-mul, mul-le-mul_left, mul-pos, one-mul, lt_of_not-le, mul-one, mul_right_comm, not-le_of_lt, le_of_mul-le-mul_right, mul_left_comm, arith, lit<, lit≤, ltb→lt, pow_pos, pow_mono, pow-add}
use native.Mathlib.Nat.{eq_of_mul-eq-mul_right}
use lib.IntN.{neg_ℤ-neg_ℤ}
use lib.Signed.{mag, quot_z}
use lib.Ieee.{Float, fin, binary64, up, down, round, mul, fits}
use lib.Ieee.Fits.{down_pos, and_l, and_r}
use lib.Ieee.Exact.{HasValue, round_exact}
use lib.Ieee.Scale.{round_same}
use Rattle.floats.specs.Arithmetic.{◌⊗◌}
use Rattle.numerics.specs.Numerics.{pow2}
use Rattle.numerics.proofs.Grid.{U, At}
use Rattle.numerics.proofs.Powers.{pos_sub, neg-add}
use Rattle.numerics.proofs.Bounds.{mag_neg}

-- ---- 2 ^ e in units of 2 ^ -n, for an e of -n at least
record Raised (e : ℤ) (n : ℕ) : Type 0 where
  i : ℕ
  is : up e * 2 ^ n ≡ 2 ^ i * down e

less : (a b : ℕ) → 2 ^ a < 2 ^ b → a < b
less a b h = lt_of_not-le (λ (g : b ≤ a). not-le_of_lt h (pow_mono g))

raised : (e : ℤ) (n : ℕ) → down e ≤ 2 ^ n → Raised e n
raised (pos x) n h = record { i = x + n; is = sym (pow-add 2 x n) ∙ sym (mul-one (2 ^ (x + n))) }
raised (negsuc x) n h =
    let l : suc x < suc n = less (suc x) (suc n) (lt_of_le_of_lt h (more n)) in
    let s : n - suc x + suc x ≡ n = omega arith in
    record { i = n - suc x; is = one-mul (2 ^ n) ∙ ap (λ (z : ℕ). 2 ^ z) (sym s) ∙ pow-add 2 (n - suc x) (suc x) }
  where
    more : (n : ℕ) → 2 ^ n < 2 ^ suc n
    more n = let p = pow_pos n in let q = pow-add 2 n 1 in omega arith

-- ---- 2 ^ a and 2 ^ (k - a) together are 2 ^ k
down_neg : (h : ℕ) → (up (neg_ℤ (pos h)) ≡ 1) × (down (neg_ℤ (pos h)) ≡ 2 ^ h)
down_neg zero = (refl, refl)
down_neg (suc h) = (refl, refl)

parts : (k : ℤ) → up (quot_z k (pos 2)) * up (k -ℤ quot_z k (pos 2)) * down k ≡ up k * (down (quot_z k (pos 2)) * down (k -ℤ quot_z k (pos 2)))
parts (pos n) =
    let s : n / 2 + (n - n / 2) ≡ n = omega arith in
    rw (pos_sub n (n / 2) (omega arith)) (mul-one (2 ^ (n / 2) * 2 ^ (n - n / 2)) ∙ sym (pow-add 2 (n / 2) (n - n / 2)) ∙ ap (λ (z : ℕ). 2 ^ z) s ∙ sym (mul-one (2 ^ n)))
parts (negsuc n) =
    let h = suc n / 2 in
    let s : h + suc (n - h) ≡ suc n = omega arith in
    rw (neg_ℤ-neg_ℤ (pos h), neg-add n h (omega arith), (down_neg h).0, (down_neg h).1)
    (one-mul (2 ^ suc n) ∙ ap (λ (z : ℕ). 2 ^ z) (sym s) ∙ pow-add 2 h (suc (n - h)) ∙ sym (one-mul (2 ^ h * 2 ^ suc (n - h))))

-- ---- z, which is num / den, times 2 ^ b
again : (z : Float) (b : ℤ) (num den n d : ℕ) → 0 < den → 0 < d → HasValue z false num den → num * up b * d ≡ n * (den * down b) → z ⊗ pow2 b ≡ round binary64 false n d
unfolding mul
again (fin t m e) b num den n d P D h w =
    rw h.0
    (round_same binary64 false (m * up e * (1 * up b)) (down e * down b) n d (mul-pos (down_pos e) (down_pos b)) D
    (eq_of_mul-eq-mul_right den P (m * up e * (1 * up b) * d) (n * (down e * down b)) (swap (m * up e) (up b) (down e) (down b) h.1 w)))
  where
    swap : (x u e v : ℕ) → x * den ≡ num * e → num * u * d ≡ n * (den * v) → x * (1 * u) * d * den ≡ n * (e * v) * den
    swap x u e v p q =
        let l : x * (1 * u) * d * den ≡ x * den * (u * d) = simp (mul_assoc, mul_comm, mul_left_comm, one-mul) in
        let r : num * e * (u * d) ≡ num * u * d * e = simp (mul_assoc, mul_comm, mul_left_comm) in
        let f : n * (den * v) * e ≡ n * (e * v) * den = simp (mul_assoc, mul_comm, mul_left_comm) in
        l ∙ ap (λ (z : ℕ). z * (u * d)) p ∙ r ∙ ap (λ (z : ℕ). z * e) q ∙ f
again lib.Ieee.nan b num den n d P D h w = elim h [ ]
again (lib.Ieee.inf _) b num den n d P D h w = elim h [ ]

-- ---- the first product is exact
chain : (m a b P Q R I J c d : ℕ) → a * P ≡ I * c → b * Q ≡ J * d → m * a * (1 * b) * (P * Q * R) ≡ m * (I * J * R) * (c * d)
chain m a b P Q R I J c d p q =
    let l : m * a * (1 * b) * (P * Q * R) ≡ m * R * (a * P * (b * Q)) = simp (mul_assoc, mul_comm, mul_left_comm, one-mul) in
    let r : m * R * (I * c * (J * d)) ≡ m * (I * J * R) * (c * d) = simp (mul_assoc, mul_comm, mul_left_comm) in
    l ∙ ap (λ (z : ℕ). m * R * (z * (b * Q))) p ∙ ap (λ (z : ℕ). m * R * (I * c * z)) q ∙ r

small_power : (a : ℤ) → mag a < 512 → (up a ≤ 2 ^ 512) × (down a ≤ 2 ^ 512)
small_power (pos x) h = let l : x ≤ 512 = omega arith in (pow_mono l, lit≤ tt)
small_power (negsuc x) h = let l : suc x ≤ 512 = omega arith in (lit≤ tt, pow_mono l)

-- an eighth at least, with 53 digits: so no digit stands below 2 ^ -56
deep : (m : ℕ) (e : ℤ) → m < 2 ^ 53 → 134217728 * down e ≤ m * up e * U → down e ≤ 2 ^ 56
deep m (pos x) l h = lit≤ tt
deep m (negsuc x) l h = omega arith

most : (x I u P c : ℕ) → 0 < c → u * P ≡ I * c → x * u ≤ 2 * c → x * I ≤ 2 * P
most x I u P c C p h =
    le_of_mul-le-mul_right (le_trans (le_of_eq (mul_assoc x I c ∙ ap (λ (z : ℕ). x * z) (sym p) ∙ sym (mul_assoc x u P))) (le_trans (mul-le-mul_right P h) (le_of_eq (mul_right_comm 2 c P)))) C

least : (J u Q d : ℕ) → 0 < d → u * Q ≡ J * d → J ≤ u * Q
least J u Q d D p = le_trans (le_of_eq (sym (mul-one J))) (le_trans (mul-le-mul_left J D) (le_of_eq (sym p)))

exact : (m : ℕ) (e a : ℤ) → m < 2 ^ 53 → At false 134217728 (2 * U) (fin false m e) → mag a < 512 → HasValue (fin false m e ⊗ pow2 a) false (m * up e * (1 * up a)) (down e * down a)
unfolding mul
exact m e a l h k =
    let r = raised e 56 (deep m e l h.1) in
    let q = raised a 512 (small_power a k).1 in
    let I = 2 ^ r.i in
    let J = 2 ^ q.i in
    let x : m * I ≤ 2 * 2 ^ 56 = most m I (up e) (2 ^ 56) (down e) (down_pos e) r.is (let g = h.2 in omega arith) in
    let y : J ≤ 2 ^ 512 * 2 ^ 512 = le_trans (least J (up a) (2 ^ 512) (down a) (down_pos a) q.is) (mul-le-mul_right (2 ^ 512) (small_power a k).0) in
    let j : 2 ^ (r.i + q.i + 506) ≡ I * J * 2 ^ 506 = pow-add 2 (r.i + q.i) 506 ∙ ap (λ (z : ℕ). z * 2 ^ 506) (pow-add 2 r.i q.i) in
    let f : m * (I * J * 2 ^ 506) ≤ 2 * 2 ^ 56 * (2 ^ 512 * 2 ^ 512) * 2 ^ 506 = le_trans (le_of_eq (sym (mul_assoc m (I * J) (2 ^ 506)) ∙ ap (λ (z : ℕ). z * 2 ^ 506) (sym (mul_assoc m I J)))) (mul-le-mul_right (2 ^ 506) (mul-le-mul x y)) in
    round_exact binary64 false (m * up e * (1 * up a)) (down e * down a) m (r.i + q.i + 506) (mul-pos (down_pos e) (down_pos a)) l
    (lt_of_le_of_lt (le_trans (le_of_eq (ap (λ (z : ℕ). m * z) j)) f) (lit< tt))
    (chain m (up e) (up a) (2 ^ 56) (2 ^ 512) (2 ^ 506) I J (down e) (down a) r.is q.is ∙ ap (λ (z : ℕ). m * z * (down e * down a)) (sym j))

-- ---- so two products are one
half-small : (k : ℤ) → mag k < 1022 → mag (quot_z k (pos 2)) < 512
half-small (pos n) h = omega arith
half-small (negsuc n) h = omega (arith, mag_neg (suc n / 2))

digits_of_lem : (s : Bool) (m : ℕ) (e : ℤ) → T (fits binary64 (fin s m e)) → m < 2 ^ 53
unfolding fits
digits_of_lem s zero e f = lit< tt
digits_of_lem s (suc m) e f =
    let a = eqb (suc m % 2) 1 in
    let b = ltb (suc m) 9007199254740992 in
    let c = leb (down e) (2 ^ 1074) in
    ltb→lt (suc m) 9007199254740992 (and_r a b (and_l (a && b) c (and_l (a && b && c) (ltb (suc m * up e) (2 ^ 1024 * down e)) f)))

pub scale-once : (y : Float) (k : ℤ) → T (fits binary64 y) → At false 134217728 (2 * U) y → mag k < 1022 → y ⊗ pow2 (quot_z k (pos 2)) ⊗ pow2 (k -ℤ quot_z k (pos 2)) ≡ y ⊗ pow2 k
scale-once (fin true m e) k f h l = absurd (true≢false h.0)
scale-once (fin false m e) k f h l =
    let a = quot_z k (pos 2) in
    let b = k -ℤ a in
    let num = m * up e * (1 * up a) in
    let den = down e * down a in
    again (fin false m e ⊗ pow2 a) b num den (m * up e * (1 * up k)) (down e * down k) (mul-pos (down_pos e) (down_pos a)) (mul-pos (down_pos e) (down_pos k))
    (exact m e a (digits_of_lem false m e f) h (half-small k l)) (join (m * up e) (down e) (up a) (up b) (down a) (down b) (up k) (down k) (parts k))
    ∙ (unfold mul in refl)
  where
    join : (x d a b c e k l : ℕ) → a * b * l ≡ k * (c * e) → x * (1 * a) * b * (d * l) ≡ x * (1 * k) * (d * c * e)
    join x d a b c e k l p =
        let u : x * (1 * a) * b * (d * l) ≡ x * d * (a * b * l) = simp (mul_assoc, mul_comm, mul_left_comm, one-mul) in
        let v : x * d * (k * (c * e)) ≡ x * (1 * k) * (d * c * e) = simp (mul_assoc, mul_comm, mul_left_comm, one-mul) in
        u ∙ ap (λ (z : ℕ). x * d * z) p ∙ v
scale-once lib.Ieee.nan k f h l = elim h [ ]
scale-once (lib.Ieee.inf _) k f h l = elim h [ ]
