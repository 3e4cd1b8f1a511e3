-- The helper numbers and sums, up to the sign of zero: exp and ln give one result for x ≈ y, exp is never negative and never -0, and a sum from +0 is never -0.
-- Assumes nothing.
use mathlib.Core.Path.{◌≡◌, refl, sym, ap, ◌∙◌, subst}
use Prim.Native.Nat.{ℕ, zero, suc, ◌/◌, ◌*◌, ◌^◌, ◌-◌, ◌<◌, min}
use native.Mathlib.Nat.{zero-mul, zero-div}
use native.Mathlib.Omega.{arith}
use mathlib.Core.Bool.{Bool, true, false, cond}
use lib.IntN.{ℤ, pos, neg_ℤ}
use lib.Dec.{T}
use lib.Ieee.{Float, nan, inf, fin, binary64, neg, add, sub, mul, div, lt, eq, fits, up, down, of_bits, of_int, to_signed, is_nan}
use lib.Ieee.Fits.{add-fits, sub-fits, neg-fits}
use Rattle.floats.specs.Arithmetic.{◌⊖◌, ◌⊗◌, #, 0f, 1f, 2f}
use Rattle.floats.specs.Small.{abs_of}
use Rattle.floats.specs.Fold.{fold_to, sum_from, sum_to}
use Rattle.numerics.specs.Numerics.{A, B, whole, exp_from, exp_shift, exp_of, ln_of}
use Rattle.numerics.proofs.Signs.{NoMinus, exp-no_minus}
use Rattle.zeros.specs.Same.{plus0, canon, ◌≈◌}
use Rattle.zeros.proofs.Congruence.{same, ≈refl, ≈trans, add_≈, sub_≈, mul_≈, div_≈, lt_≈, le_≈, eq_≈}
use Rattle.zeros.proofs.Zero.{Zero, Plain, plain-add, plain_≈, solid_≈, zero_≈, respects}

-- ---- choices and tests
nan_canon : (x : Float) → is_nan (canon x) ≡ is_nan x
unfolding canon is_nan
nan_canon nan = refl
nan_canon (inf s) = refl
nan_canon (fin s zero e) = refl
nan_canon (fin s (suc m) e) = refl

pub is_nan_≈ : (x y : Float) → x ≈ y → is_nan x ≡ is_nan y
is_nan_≈ x y p = sym (nan_canon x) ∙ ap is_nan p.is ∙ nan_canon y

pub pick_≈ : (b b' : Bool) {x x' y y' : Float} → b ≡ b' → x ≈ x' → y ≈ y' → cond b x y ≈ cond b' x' y'
pick_≈ b b' {x} {x'} {y} {y'} e p q = subst (λ (c : Bool). cond b x y ≈ cond c x' y') e (go b)
  where
    go : (b : Bool) → cond b x y ≈ cond b x' y'
    go true = p
    go false = q

pub abs_≈ : {x y : Float} → x ≈ y → abs_of x ≈ abs_of y
abs_≈ {x} {y} p = pick_≈ _ _ (le_≈ p (≈refl 0f)) (sub_≈ (≈refl 0f) p) p

-- ---- exp
to_signed_canon : (h : ℕ) (x : Float) → to_signed h (canon x) ≡ to_signed h x
unfolding canon to_signed
to_signed_canon h nan = refl
to_signed_canon h (inf s) = refl
to_signed_canon h (fin s zero e) = ap pos (least (0 * 1 / 1) (2 ^ h - 1) refl) ∙ sym (go s)
  where
    least : (a b : ℕ) → a ≡ 0 → min a b ≡ 0
    least a b z = omega arith

    none : 0 * up e / down e ≡ 0
    none = ap (λ (x : ℕ). x / down e) (zero-mul (up e)) ∙ zero-div (down e)

    go : (s : Bool) → cond s (neg_ℤ (pos (min (0 * up e / down e) (2 ^ h)))) (pos (min (0 * up e / down e) (2 ^ h - 1))) ≡ pos 0
    go true = ap (λ (c : ℕ). neg_ℤ (pos c)) (least (0 * up e / down e) (2 ^ h) none)
    go false = ap pos (least (0 * up e / down e) (2 ^ h - 1) none)
to_signed_canon h (fin s (suc m) e) = refl

same-k : (x y : Float) → x ≈ y → to_signed 63 (exp_shift x) ≡ to_signed 63 (exp_shift y)
unfolding exp_shift
same-k x y p =
    let q = pick_≈ _ _ (lt_≈ p (≈refl 0f)) (sub_≈ (mul_≈ (≈refl _) p) (≈refl _)) (add_≈ (mul_≈ (≈refl _) p) (≈refl _)) in
    sym (to_signed_canon 63 _) ∙ ap (to_signed 63) q.is ∙ to_signed_canon 63 _

plain-two : (c : Float) → T (fits binary64 c) → Plain (2f ⊖ c)
unfolding sub of_bits
plain-two c f = plain-add binary64 2f (neg c) (unfold fits in tt) (neg-fits binary64 c f) tt

-- 2 - c is one value: it is never -0
two_minus : (a b : Float) → T (fits binary64 a) → T (fits binary64 b) → a ≈ b → 2f ⊖ a ≡ 2f ⊖ b
two_minus a b f g p = plain_≈ binary64 (2f ⊖ a) (2f ⊖ b) (sub-fits binary64 2f a) (sub-fits binary64 2f b) (plain-two a f) (plain-two b g) (sub_≈ (≈refl 2f) p)

from_≈ : (x y : Float) (k : ℤ) → x ≈ y → exp_from x k ≈ exp_from y k
unfolding exp_from
from_≈ x y k p =
    let lo = whole k ⊗ B in
    let hi = sub_≈ p (≈refl (whole k ⊗ A)) in
    let r = sub_≈ hi (≈refl lo) in
    let t = mul_≈ r r in
    let c = sub_≈ r (mul_≈ t (add_≈ (≈refl (# 0x3fc555555555553e)) (mul_≈ t (add_≈ (≈refl (# 0xbf66c16c16bebd93)) (mul_≈ t (add_≈ (≈refl (# 0x3f11566aaf25de2c)) (mul_≈ t (add_≈ (≈refl (# 0xbebbbd41c5d26bf1)) (mul_≈ t (≈refl (# 0x3e66376972bea4d0))))))))))) in
    mul_≈ (mul_≈ (add_≈ (≈refl 1f) (add_≈ (sub_≈ (div_≈ (mul_≈ r c) (two_minus _ _ (sub-fits binary64 _ _) (sub-fits binary64 _ _) c)) (≈refl lo)) hi)) (≈refl _)) (≈refl _)

exp_keeps : (x y : Float) → x ≈ y → exp_of x ≈ exp_of y
unfolding exp_of
exp_keeps x y p =
    pick_≈ _ _ (is_nan_≈ x y p) (≈refl nan) (pick_≈ _ _ (lt_≈ (≈refl _) p) (≈refl _) (pick_≈ _ _ (lt_≈ p (≈refl _)) (≈refl 0f)
    (≈trans (from_≈ x y (to_signed 63 (exp_shift x)) p) (same (ap (exp_from y) (same-k x y p))))))

one_solid : Zero 1f → ⊥
unfolding of_bits
one_solid z = z

exp-plus0 : exp_of plus0 ≡ 1f
unfolding exp_of exp_from exp_shift add sub mul div lt neg is_nan of_int to_signed of_bits
exp-plus0 = refl

-- exp gives equal results at +0 and -0
pub exp_≈ : (x y : Float) → x ≈ y → exp_of x ≡ exp_of y
exp_≈ x y p = respects exp_of (λ s e. sym (solid_≈ (exp_of plus0) (exp_of (fin s 0 e)) (λ z. one_solid (subst Zero exp-plus0 z)) (exp_keeps plus0 (fin s 0 e) (zero_≈ plus0 (fin s 0 e) tt tt)))) x y p

-- exp is never negative and never -0
pub exp-plus : (v : Float) → T (fits binary64 v) → NoMinus (exp_of v)
exp-plus v f = exp-no_minus v f

-- ---- ln
zero_tests : (s : Bool) (e : ℤ) → (lt (fin s 0 e) 0f ≡ lt plus0 0f) × (eq (fin s 0 e) 0f ≡ eq plus0 0f)
zero_tests s e = let p = zero_≈ (fin s 0 e) plus0 tt tt in (lt_≈ p (≈refl 0f), eq_≈ p (≈refl 0f))

ln_zero : (s : Bool) (e : ℤ) → ln_of (fin s 0 e) ≡ inf true
unfolding ln_of is_nan
ln_zero s e =
    let t = zero_tests s e in
    let a : lt (fin s 0 e) 0f ≡ false = t.0 ∙ (unfold lt of_bits in refl) in
    let b : eq (fin s 0 e) 0f ≡ true = t.1 ∙ (unfold eq of_bits in refl) in
    rw (a, b)

-- ln of floats that are equal, or both zeros, is equal
pub ln_≈ : (x y : Float) → x ≈ y → ln_of x ≡ ln_of y
ln_≈ x y p = respects ln_of (λ s e. ln_zero s e ∙ sym (ln_zero false (pos 0))) x y p

-- ---- sums
pub sum_fits : (a : Float) (f : ℕ → Float) (n : ℕ) → T (fits binary64 a) → T (fits binary64 (sum_from a f n))
unfolding fold_to
sum_fits a f zero h = h
sum_fits a f (suc n) h = add-fits binary64 (sum_from a f n) (f n)

pub sum-plain : (a : Float) (f : ℕ → Float) (n : ℕ) → T (fits binary64 a) → Plain a → ((k : ℕ) → k < n → T (fits binary64 (f k))) → Plain (sum_from a f n)
unfolding fold_to
sum-plain a f zero h p q = p
sum-plain a f (suc n) h p q = plain-add binary64 (sum_from a f n) (f n) (sum_fits a f n h) (q n (omega arith)) (sum-plain a f n h p (λ k l. q k (omega arith)))

-- a sum from +0 is never -0, for every n
pub sum-never_minus0 : (f : ℕ → Float) (n : ℕ) → ((k : ℕ) → k < n → T (fits binary64 (f k))) → Plain (sum_to f n)
unfolding of_bits
sum-never_minus0 f n q = sum-plain 0f f n (unfold fits in tt) tt q
