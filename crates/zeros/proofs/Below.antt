-- Laws of ⊑. Every operation hands a NaN on, so every operation respects ⊑, with no side condition but one, on a divisor. A product or a quotient of a NaN or
-- zero is such a value again, whatever the other operand is. Assumes nothing.
use mathlib.Core.Path.{◌≡◌}
use lib.Dec.{T}
use lib.Ieee.{Float, nan, inf, fin, binary64, neg, add, sub, mul, div, is_nan, fits}
use lib.Ieee.Scale.{finite}
use Rattle.numerics.specs.Numerics.{ln_of}
use Rattle.zeros.specs.Same.{plus0, ◌≈◌}
use Rattle.zeros.specs.Below.{Num, ◌⊑◌, ◌⊑!◌}
use Rattle.zeros.proofs.Congruence.{same, ≈refl, ≈sym, ≈trans, add_≈, neg_≈, sub_≈, mul_≈, div_≈}
use Rattle.zeros.proofs.Zero.{num_add-l, num_add-r, num_neg, num_sub-l, num_sub-r, num_mul-l, num_mul-r, num_div-l, num_div-r, num_finite, Zero, zero_≈, zero_add≡, zero_sub, zero_mul-l, zero_mul-r, zero_div, zero_of_≈, add_zero≈, Plain, plain_≈}
use Rattle.zeros.proofs.Numbers.{ln_≈}

pub ⊑_of : {x y : Float} → x ≈ y → x ⊑ y
⊑_of p = record { at = λ h. p }

pub ⊑_refl : (x : Float) → x ⊑ x
⊑_refl x = ⊑_of (≈refl x)

pub ⊑!_of : {x y : Float} → x ≡ y → x ⊑! y
⊑!_of p = record { at = λ h. p }

pub ⊑_weaken : {x y : Float} → x ⊑! y → x ⊑ y
⊑_weaken p = record { at = λ h. same (p.at h) }

-- what an accepted result gives
pub ⊑_finite : {x y : Float} → x ⊑ y → T (finite x) → x ≈ y
⊑_finite {x} p h = p.at (num_finite x h)

pub ⊑_plain : {x y : Float} → T (fits binary64 x) → T (fits binary64 y) → Plain x → Plain y → x ⊑ y → x ⊑! y
⊑_plain {x} {y} p q h k r = record { at = λ n. plain_≈ binary64 x y p q h k (r.at n) }

-- ---- the congruences
pub ⊑_add : {x x' y y' : Float} → x ⊑ x' → y ⊑ y' → add binary64 x y ⊑ add binary64 x' y'
⊑_add {x} {x'} {y} {y'} p q = record { at = λ h. add_≈ (p.at (num_add-l binary64 x y h)) (q.at (num_add-r binary64 x y h)) }

pub ⊑_neg : {x x' : Float} → x ⊑ x' → neg x ⊑ neg x'
⊑_neg {x} {x'} p = record { at = λ h. neg_≈ (p.at (num_neg x h)) }

pub ⊑_sub : {x x' y y' : Float} → x ⊑ x' → y ⊑ y' → sub binary64 x y ⊑ sub binary64 x' y'
⊑_sub {x} {x'} {y} {y'} p q = record { at = λ h. sub_≈ (p.at (num_sub-l binary64 x y h)) (q.at (num_sub-r binary64 x y h)) }

pub ⊑_mul : {x x' y y' : Float} → x ⊑ x' → y ⊑ y' → mul binary64 x y ⊑ mul binary64 x' y'
⊑_mul {x} {x'} {y} {y'} p q = record { at = λ h. mul_≈ (p.at (num_mul-l binary64 x y h)) (q.at (num_mul-r binary64 x y h)) }

pub ⊑_div : {x x' y y' : Float} → x ⊑ x' → y ⊑! y' → div binary64 x y ⊑ div binary64 x' y'
⊑_div {x} {x'} {y} {y'} p q = record { at = λ h. div_≈ (p.at (num_div-l binary64 x y h)) (q.at (num_div-r binary64 x y h)) }

num_ln : (x : Float) → Num (ln_of x) → Num x
unfolding ln_of is_nan
num_ln nan h = h
num_ln (inf s) h = tt
num_ln (fin s m e) h = tt

pub ⊑_ln : {x x' : Float} → x ⊑ x' → ln_of x ⊑ ln_of x'
⊑_ln {x} {x'} p = record { at = λ h. same (ln_≈ x x' (p.at (num_ln x h))) }

-- ---- NaN or zero
pub gone : {x : Float} → Zero x → x ⊑ plus0
gone {x} h = ⊑_of (zero_≈ x plus0 h tt)

zeroed : (x : Float) → x ⊑ plus0 → Num x → Zero x
zeroed x p h = zero_of_≈ plus0 x (≈sym (p.at h)) tt

of_zero : (x : Float) → (Num x → Zero x) → x ⊑ plus0
of_zero x f = record { at = λ h. zero_≈ x plus0 (f h) tt }

pub gone-add : {x y : Float} → x ⊑ plus0 → y ⊑ plus0 → add binary64 x y ⊑ plus0
gone-add {x} {y} p q = of_zero (add binary64 x y) (λ h. zero_add≡ binary64 x y (zeroed x p (num_add-l binary64 x y h)) (zeroed y q (num_add-r binary64 x y h)))

pub gone-sub : {x y : Float} → x ⊑ plus0 → y ⊑ plus0 → sub binary64 x y ⊑ plus0
gone-sub {x} {y} p q = of_zero (sub binary64 x y) (λ h. zero_sub binary64 x y (zeroed x p (num_sub-l binary64 x y h)) (zeroed y q (num_sub-r binary64 x y h)))

pub gone-mul-l : {x : Float} (y : Float) → x ⊑ plus0 → mul binary64 x y ⊑ plus0
gone-mul-l {x} y p = of_zero (mul binary64 x y) (λ h. zero_mul-l binary64 x y (zeroed x p (num_mul-l binary64 x y h)) h)

pub gone-mul-r : (x : Float) {y : Float} → y ⊑ plus0 → mul binary64 x y ⊑ plus0
gone-mul-r x {y} p = of_zero (mul binary64 x y) (λ h. zero_mul-r binary64 x y (zeroed y p (num_mul-r binary64 x y h)) h)

pub gone-div : {x : Float} (y : Float) → x ⊑ plus0 → div binary64 x y ⊑ plus0
gone-div {x} y p = of_zero (div binary64 x y) (λ h. zero_div binary64 x y (zeroed x p (num_div-l binary64 x y h)) h)

-- a struck term leaves the sum
pub gone-drop : {x x' z : Float} → T (fits binary64 x) → x ⊑ x' → z ⊑ plus0 → add binary64 x z ⊑ x'
gone-drop {x} {x'} {z} f p q = record { at = λ h. ≈trans (add_zero≈ x z f (zeroed z q (num_add-r binary64 x z h))) (p.at (num_add-l binary64 x z h)) }
