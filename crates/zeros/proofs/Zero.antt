-- Zeros and NaNs. A result that is no NaN has no NaN among its operands; a zero times anything, or over anything, is a zero unless it is a NaN;
-- a value that fits keeps its value when a zero is added; and a sum whose left operand is not -0 is not -0. Assumes nothing.
use mathlib.Core.Path.{◌≡◌, refl, sym, ap, ◌∙◌, subst}
use mathlib.Core.Logic.{◌⊎◌, inl, inr}
use Prim.Native.Nat.{ℕ, zero, suc, ◌+◌, ◌-◌, ◌*◌, ◌/◌, ◌%◌, ◌^◌, ◌≤◌, ◌<◌, compare}
use native.Mathlib.Nat.{add-mul, mul-sub, le_trans, le-add_left, suc-mul, le-div_iff_mul-le, div-div-eq-div-mul, zero-mul, mul_comm, mul_assoc, mul-one, one-mul, mul_right_comm, mul-pos, zero-lt-suc, lt_irrefl, lt_of_lt_of_le, lt_of_not-le, le_of_suc-le-suc, lt_of_mul-lt-mul_right, mul-lt-mul_of_pos_right}
use native.Mathlib.Omega.{arith}
use mathlib.Core.Bool.{Bool, true, false, ◌&&◌, beq, cond, true≢false}
use lib.IntN.{ℤ, pos, negsuc}
use lib.Dec.{T, leb, ltb, eqb, ltb→lt, leb→le, eqb-suc-zero}
use lib.Pow.{pow-add, pow_pos, pow-lt}
use lib.Ieee.{Float, nan, inf, fin, Format, binary64, prec, emax, low, up, down, unlike, size, nearest, odd, units, round, neg, sum, add, sub, mul, div, fits, to_bits, of_bits}
use lib.Ieee.Fits.{up_pos, down_pos, and_l, and_r, round-fits, add-fits, round_is, two, two-le_pos}
use lib.Ieee.Exact.{HasValue, round_exact, odd_sign}
use lib.Ieee.Digits.{size-lt, size_reaches}
use lib.Ieee.Nearest.{div_same, nearest-ge}
use lib.Ieee.Scale.{finite}
use lib.Ieee.Bits.{of_bits-to_bits}
use Rattle.zeros.specs.Same.{canon, plus0, ◌≈◌}
use Rattle.zeros.specs.Below.{Num}
use Rattle.zeros.proofs.Congruence.{by, ≈sym, round_zero, again, add_zero_l, add_comm≡, mul_comm≡}

-- ---- no NaN
pub num_add-l : (f : Format) (x y : Float) → Num (add f x y) → Num x
unfolding add
num_add-l f nan y h = h
num_add-l f (inf s) y h = tt
num_add-l f (fin s m e) y h = tt

pub num_add-r : (f : Format) (x y : Float) → Num (add f x y) → Num y
num_add-r f x y h = num_add-l f y x (subst Num (add_comm≡ f x y) h)

pub num_neg : (x : Float) → Num (neg x) → Num x
unfolding neg
num_neg nan h = h
num_neg (inf s) h = tt
num_neg (fin s m e) h = tt

pub num_sub-l : (f : Format) (x y : Float) → Num (sub f x y) → Num x
unfolding sub
num_sub-l f x y h = num_add-l f x (neg y) h

pub num_sub-r : (f : Format) (x y : Float) → Num (sub f x y) → Num y
unfolding sub
num_sub-r f x y h = num_neg y (num_add-r f x (neg y) h)

pub num_mul-l : (f : Format) (x y : Float) → Num (mul f x y) → Num x
unfolding mul
num_mul-l f nan y h = h
num_mul-l f (inf s) y h = tt
num_mul-l f (fin s m e) y h = tt

pub num_mul-r : (f : Format) (x y : Float) → Num (mul f x y) → Num y
num_mul-r f x y h = num_mul-l f y x (subst Num (mul_comm≡ f x y) h)

pub num_div-l : (f : Format) (x y : Float) → Num (div f x y) → Num x
unfolding div
num_div-l f nan y h = h
num_div-l f (inf s) y h = tt
num_div-l f (fin s m e) y h = tt

pub num_div-r : (f : Format) (x y : Float) → Num (div f x y) → Num y
unfolding div
num_div-r f nan nan h = h
num_div-r f nan (inf t) h = tt
num_div-r f nan (fin t n d) h = tt
num_div-r f (inf s) nan h = h
num_div-r f (inf s) (inf t) h = tt
num_div-r f (inf s) (fin t n d) h = tt
num_div-r f (fin s m e) nan h = h
num_div-r f (fin s m e) (inf t) h = tt
num_div-r f (fin s m e) (fin t n d) h = tt

pub num_finite : (x : Float) → T (finite x) → Num x
num_finite nan h = h
num_finite (inf s) h = tt
num_finite (fin s m e) h = tt

-- ---- zeros
abbrev pub Zero : Float → Type 0
Zero nan = ⊥
Zero (inf s) = ⊥
Zero (fin s zero e) = Unit {0}
Zero (fin s (suc m) e) = ⊥

pub zero_≈ : (x y : Float) → Zero x → Zero y → x ≈ y
unfolding canon
zero_≈ (fin s zero e) (fin t zero d) h k = by refl
zero_≈ nan y h k = elim h [ ]
zero_≈ (inf _) y h k = elim h [ ]
zero_≈ (fin s zero e) nan h k = elim k [ ]
zero_≈ (fin s zero e) (inf _) h k = elim k [ ]
zero_≈ (fin s zero e) (fin t (suc _) d) h k = elim k [ ]
zero_≈ (fin s (suc _) e) y h k = elim h [ ]

pub zero_round : (f : Format) (s : Bool) (a c : ℕ) → a ≡ 0 → 0 < c → Zero (round f s a c)
zero_round f s a c z C = subst Zero (sym (round_zero f s a c z C)) tt

zero_sum : (f : Format) (s : Bool) (a : ℕ) (t : Bool) (b c : ℕ) → a ≡ 0 → b ≡ 0 → 0 < c → Zero (sum f s a t b c)
unfolding sum
zero_sum f s a t b c z w C = go (beq s t) (ltb a b)
  where
    go : (p q : Bool) → Zero (cond p (round f s (a + b) c) (cond q (round f t (b - a) c) (round f (s && ltb b a) (a - b) c)))
    go true q = zero_round f s (a + b) c (omega arith) C
    go false true = zero_round f t (b - a) c (omega arith) C
    go false false = zero_round f (s && ltb b a) (a - b) c (omega arith) C

none : (u v : ℕ) → 0 * u * v ≡ 0
none u v = ap (λ (x : ℕ). x * v) (zero-mul u) ∙ zero-mul v

pub zero_add≡ : (f : Format) (x y : Float) → Zero x → Zero y → Zero (add f x y)
unfolding add
zero_add≡ f (fin s zero e) (fin t zero d) h k = zero_sum f s (0 * up e * down d) t (0 * up d * down e) (down e * down d) (none (up e) (down d)) (none (up d) (down e)) (mul-pos (down_pos e) (down_pos d))
zero_add≡ f nan y h k = elim h [ ]
zero_add≡ f (inf _) y h k = elim h [ ]
zero_add≡ f (fin s zero e) nan h k = elim k [ ]
zero_add≡ f (fin s zero e) (inf _) h k = elim k [ ]
zero_add≡ f (fin s zero e) (fin t (suc _) d) h k = elim k [ ]
zero_add≡ f (fin s (suc _) e) y h k = elim h [ ]

pub zero_neg : (x : Float) → Zero x → Zero (neg x)
unfolding neg
zero_neg (fin s zero e) h = tt
zero_neg nan h = elim h [ ]
zero_neg (inf _) h = elim h [ ]
zero_neg (fin s (suc _) e) h = elim h [ ]

pub zero_sub : (f : Format) (x y : Float) → Zero x → Zero y → Zero (sub f x y)
unfolding sub
zero_sub f x y h k = zero_add≡ f x (neg y) h (zero_neg y k)

pub zero_mul-l : (f : Format) (x y : Float) → Zero x → Num (mul f x y) → Zero (mul f x y)
unfolding mul
zero_mul-l f (fin s zero e) nan h k = k
zero_mul-l f (fin s zero e) (inf t) h k = k
zero_mul-l f (fin s zero e) (fin t n d) h k = zero_round f (unlike s t) (0 * up e * (n * up d)) (down e * down d) (none (up e) (n * up d)) (mul-pos (down_pos e) (down_pos d))
zero_mul-l f nan y h k = elim h [ ]
zero_mul-l f (inf _) y h k = elim h [ ]
zero_mul-l f (fin s (suc _) e) y h k = elim h [ ]

pub zero_mul-r : (f : Format) (x y : Float) → Zero y → Num (mul f x y) → Zero (mul f x y)
zero_mul-r f x y h k = subst Zero (mul_comm≡ f y x) (zero_mul-l f y x h (subst Num (mul_comm≡ f x y) k))

-- over what is finite and no zero
pub zero_over_lem : (f : Format) (x y : Float) → Zero x → T (finite y) → (Zero y → ⊥) → Zero (div f x y)
unfolding div
zero_over_lem f (fin s zero e) (fin t zero d) h k g = absurd (g tt)
zero_over_lem f (fin s zero e) (fin t (suc n) d) h k g =
    subst (λ (b : Bool). Zero (cond b nan (round f (unlike s t) (0 * up e * down d) (suc n * up d * down e)))) (sym (eqb-suc-zero n))
    (zero_round f (unlike s t) (0 * up e * down d) (suc n * up d * down e) (none (up e) (down d)) (mul-pos (mul-pos (zero-lt-suc n) (up_pos d)) (down_pos e)))
zero_over_lem f nan y h k g = elim h [ ]
zero_over_lem f (inf _) y h k g = elim h [ ]
zero_over_lem f (fin s zero e) nan h k g = elim k [ ]
zero_over_lem f (fin s zero e) (inf _) h k g = elim k [ ]
zero_over_lem f (fin s (suc _) e) y h k g = elim h [ ]

pub zero_div : (f : Format) (x y : Float) → Zero x → Num (div f x y) → Zero (div f x y)
unfolding div
zero_div f (fin s zero e) nan h k = k
zero_div f (fin s zero e) (inf t) h k = tt
zero_div f (fin s zero e) (fin t zero d) h k = k
zero_div f (fin s zero e) (fin t (suc n) d) h k = zero_over_lem f (fin s zero e) (fin t (suc n) d) h tt (λ z. z)
zero_div f nan y h k = elim h [ ]
zero_div f (inf _) y h k = elim h [ ]
zero_div f (fin s (suc _) e) y h k = elim h [ ]

-- ---- two values that fit and are one number with one sign are one value: their bits are the same
unique : (f : Format) (x : Float) (s : Bool) (m : ℕ) (e : ℤ) → T (fits f x) → T (fits f (fin s m e)) → HasValue x s (m * up e) (down e) → x ≡ fin s m e
unfolding to_bits
unique f (fin t n d) s m e p q v =
    let l = 2 ^ low f in
    let a : n * up d * l / down d ≡ m * up e * l / down e =
    div_same (n * up d * l) (down d) (m * up e * l) (down e) (down_pos d) (down_pos e) (mul_right_comm (n * up d) l (down e) ∙ ap (λ (x : ℕ). x * l) v.1 ∙ mul_right_comm (m * up e) (down d) l) in
    let b : to_bits f (fin t n d) ≡ to_bits f (fin s m e) =
    ap (λ (x : ℕ). cond t (lib.Ieee.top f) 0 + (size x - prec f) * lib.Ieee.hid f + x / 2 ^ (size x - prec f)) a
    ∙ ap (λ (z : Bool). to_bits f (fin z m e)) v.0 in
    sym (of_bits-to_bits f (fin t n d) p) ∙ ap (of_bits f) b ∙ of_bits-to_bits f (fin s m e) q
unique f nan s m e p q v = elim v [ ]
unique f (inf _) s m e p q v = elim v [ ]

pow_le_back : (a l : ℕ) → 2 ^ a ≤ 2 ^ l → a ≤ l
pow_le_back a l h = le_of_suc-le-suc (lt_of_not-le (λ (g : suc l ≤ a). lt_irrefl (2 ^ l) (lt_of_lt_of_le (pow-lt g) h)))

-- in units of 2 ^ -l
units_of_lem : (l : ℕ) (e : ℤ) → down e ≤ 2 ^ l → (j : ℕ) × ((m : ℕ) → m * up e * 2 ^ l ≡ m * 2 ^ j * down e)
units_of_lem l (pos k) h = (k + l, λ m. mul_assoc m (2 ^ k) (2 ^ l) ∙ ap (λ (x : ℕ). m * x) (sym (pow-add 2 k l)) ∙ sym (mul-one (m * 2 ^ (k + l))))
units_of_lem l (negsuc k) h =
    let g : suc k ≤ l = pow_le_back (suc k) l h in
    (l - suc k, λ m. ap (λ (x : ℕ). x * 2 ^ l) (mul-one m) ∙ ap (λ (x : ℕ). m * 2 ^ x) (over g) ∙ ap (λ (x : ℕ). m * x) (pow-add 2 (l - suc k) (suc k)) ∙ sym (mul_assoc m (2 ^ (l - suc k)) (2 ^ suc k)))
  where
    over : suc k ≤ l → l ≡ l - suc k + suc k
    over g = omega arith

again-value : (f : Format) (s : Bool) (m : ℕ) (e : ℤ) → m < 2 ^ prec f → down e ≤ 2 ^ low f → m * up e < 2 ^ suc (emax f) * down e → HasValue (round f s (m * up e) (down e)) s (m * up e) (down e)
again-value f s m e a b c =
    let k = units_of_lem (low f) e b in
    let d : m * up e * 2 ^ low f < 2 ^ (low f + suc (emax f)) * down e =
    subst (λ (x : ℕ). m * up e * 2 ^ low f < x) (mul_right_comm (2 ^ suc (emax f)) (down e) (2 ^ low f) ∙ ap (λ (x : ℕ). x * down e) (mul_comm (2 ^ suc (emax f)) (2 ^ low f) ∙ sym (pow-add 2 (low f) (suc (emax f)))))
    (mul-lt-mul_of_pos_right c (pow_pos (low f))) in
    round_exact f s (m * up e) (down e) m k.0 (down_pos e) a (lt_of_mul-lt-mul_right (down e) (subst (λ (x : ℕ). x < 2 ^ (low f + suc (emax f)) * down e) (k.1 m) d)) (k.1 m)

-- what `fits` says of a value that is not zero
record Fit (f : Format) (m : ℕ) (e : ℤ) : Type 0 where
  digits : m < 2 ^ prec f
  deep : down e ≤ 2 ^ low f
  high : m * up e < 2 ^ suc (emax f) * down e

fit : (f : Format) (s : Bool) (m : ℕ) (e : ℤ) → T (fits f (fin s (suc m) e)) → Fit f (suc m) e
unfolding fits
fit f s m e t =
    let a : Bool = eqb (suc m % 2) 1 in
    let b : Bool = ltb (suc m) (2 ^ prec f) in
    let c : Bool = leb (down e) (2 ^ low f) in
    let d : Bool = ltb (suc m * up e) (2 ^ suc (emax f) * down e) in
    record {
      digits = ltb→lt (suc m) (2 ^ prec f) (and_r a b (and_l (a && b) c (and_l (a && b && c) d t)));
      deep = leb→le (down e) (2 ^ low f) (and_r (a && b) c (and_l (a && b && c) d t));
      high = ltb→lt (suc m * up e) (2 ^ suc (emax f) * down e) (and_r (a && b && c) d t);
    }

pub again-fits : (f : Format) (x : Float) → T (fits f x) → again f x ≡ x
again-fits f nan p = refl
again-fits f (inf s) p = refl
again-fits f (fin s zero e) p =
    round_zero f s (0 * up e) (down e) (zero-mul (up e)) (down_pos e)
    ∙ unique f (fin s 0 (pos 0)) s 0 e (unfold fits in tt) p (refl, none 1 (down e) ∙ sym (none (up e) 1))
again-fits f (fin s (suc m) e) p =
    let k = fit f s m e p in
    unique f (round f s (suc m * up e) (down e)) s (suc m) e (round-fits f s (suc m * up e) (down e)) p (again-value f s (suc m) e k.digits k.deep k.high)

pub add_zero≈ : (x z : Float) → T (fits binary64 x) → Zero z → add binary64 x z ≈ x
add_zero≈ x (fin s zero e) p h = by (ap canon (add_comm≡ binary64 x (fin s 0 e)) ∙ add_zero_l binary64 s e x ∙ ap canon (again-fits binary64 x p))
add_zero≈ x nan p h = elim h [ ]
add_zero≈ x (inf _) p h = elim h [ ]
add_zero≈ x (fin s (suc _) e) p h = elim h [ ]

-- ---- not -0
abbrev pub Plain : Float → Type 0
Plain nan = Unit {0}
Plain (inf s) = Unit {0}
Plain (fin true zero e) = ⊥
Plain (fin true (suc m) e) = Unit {0}
Plain (fin false m e) = Unit {0}

plain_value : (x : Float) (s : Bool) (a c : ℕ) → HasValue x s a c → 0 < a → Plain x
plain_value nan s a c v h = tt
plain_value (inf t) s a c v h = tt
plain_value (fin true zero e) s a c v h = lt_irrefl 0 (subst (λ (x : ℕ). 0 < x) (sym v.1 ∙ none (up e) c) (mul-pos h (down_pos e)))
plain_value (fin true (suc m) e) s a c v h = tt
plain_value (fin false m e) s a c v h = tt

plain_false : (x : Float) (a c : ℕ) → HasValue x false a c → Plain x
plain_false nan a c v = tt
plain_false (inf t) a c v = tt
plain_false (fin true m e) a c v = absurd (true≢false v.0)
plain_false (fin false m e) a c v = tt

plain_units : (f : Format) (s : Bool) (q k : ℕ) → ((s ≡ false) ⊎ (0 < q)) → Plain (units f s q k)
unfolding units
plain_units f s q k h = go (ltb (q * 2 ^ k) (2 ^ (low f + suc (emax f))))
  where
    go : (b : Bool) → Plain (cond b (odd (suc (prec f)) s q k (low f)) (inf s))
    go true = elim h [
      | inl z ↦ plain_false (odd (suc (prec f)) s q k (low f)) (q * 2 ^ k) (2 ^ low f) (subst (λ (t : Bool). HasValue (odd (suc (prec f)) s q k (low f)) t (q * 2 ^ k) (2 ^ low f)) z (odd_sign (suc (prec f)) s q k (low f)))
      | inr p ↦ plain_value (odd (suc (prec f)) s q k (low f)) s (q * 2 ^ k) (2 ^ low f) (odd_sign (suc (prec f)) s q k (low f)) (mul-pos p (pow_pos k))
    ]
    go false = tt

plain_round_false : (f : Format) (a c : ℕ) → Plain (round f false a c)
plain_round_false f a c = subst Plain (sym (round_is f false a c)) (plain_units f false _ (size (a * 2 ^ low f / c) - prec f) (inl refl))

few : (z p : ℕ) → 0 < z → 0 < p → z - p < z
few z p h k = omega arith

size_pos : (w : ℕ) → 0 < w → 0 < size w
size_pos w h = go (size w) (size-lt w)
  where
    go : (z : ℕ) → w < 2 ^ z → 0 < z
    go zero l = absurd (small w h l)
      where
        small : (w : ℕ) → 0 < w → w < 1 → ⊥
        small w a b = omega arith
    go (suc z) l = zero-lt-suc z

-- a fraction of one unit at least is not lost
plain_round : (f : Format) (s : Bool) (a c : ℕ) → 0 < c → c ≤ a * 2 ^ low f → Plain (round f s a c)
plain_round f s a c C h =
    let n = a * 2 ^ low f in
    let w = n / c in
    let k = size w - prec f in
    let u = c * 2 ^ k in
    let w1 : 1 ≤ w = (le-div_iff_mul-le C).1 (subst (λ (x : ℕ). x ≤ n) (sym (one-mul c)) h) in
    let w2 : 2 ^ k ≤ w = size_reaches w k (few (size w) (prec f) (size_pos w w1) (two-le_pos (prec f) (two f))) in
    let w3 : 1 ≤ w / 2 ^ k = (le-div_iff_mul-le (pow_pos k)).1 (subst (λ (x : ℕ). x ≤ w) (sym (one-mul (2 ^ k))) w2) in
    let w4 : 1 ≤ n / u = subst (λ (x : ℕ). 1 ≤ x) (div-div-eq-div-mul n c (2 ^ k)) w3 in
    subst Plain (sym (round_is f s a c)) (plain_units f s (nearest (n / u) (compare (n % u * 2) u)) k (inr (le_trans w4 (nearest-ge (n / u) (compare (n % u * 2) u)))))

-- a multiple of the unit that is not 0 is one unit at least
unit_le : (a l q c : ℕ) → 0 < a → 0 < l → 0 < c → a * l ≡ q * c → c ≤ a * l
unit_le a l zero c A L C e = absurd (lt_irrefl 0 (subst (λ (x : ℕ). 0 < x) (e ∙ zero-mul c) (mul-pos A L)))
unit_le a l (suc q) c A L C e = subst (λ (x : ℕ). c ≤ x) (sym e) (subst (λ (x : ℕ). c ≤ x) (sym (suc-mul q c)) (le-add_left c (q * c)))

sub-mul : (a b l : ℕ) → (a - b) * l ≡ a * l - b * l
sub-mul a b l = mul_comm (a - b) l ∙ mul-sub l a b ∙ ap (λ (x : ℕ). x - l * b) (mul_comm l a) ∙ ap (λ (x : ℕ). a * l - x) (mul_comm l b)

plain-less : (f : Format) (s : Bool) (a b c p q : ℕ) → 0 < c → a * 2 ^ low f ≡ p * c → b * 2 ^ low f ≡ q * c → b < a → Plain (round f s (a - b) c)
plain-less f s a b c p q C u v h =
    let l = 2 ^ low f in
    let e : (a - b) * l ≡ (p - q) * c = sub-mul a b l ∙ ap (λ (x : ℕ). x - b * l) u ∙ ap (λ (x : ℕ). p * c - x) v ∙ sym (sub-mul p q c) in
    plain_round f s (a - b) c C (unit_le (a - b) l (p - q) c (omega arith) (pow_pos (low f)) C e)

plain-sum : (f : Format) (s : Bool) (a : ℕ) (t : Bool) (b c p q : ℕ) → 0 < c → a * 2 ^ low f ≡ p * c → b * 2 ^ low f ≡ q * c → ((s ≡ false) ⊎ (0 < a)) → Plain (sum f s a t b c)
unfolding sum
plain-sum f false a false b c p q C u v h = plain_round_false f (a + b) c
plain-sum f true a true b c p q C u v h = elim h [
  | inl z ↦ absurd (true≢false z)
  | inr k ↦
      let l = 2 ^ low f in
      let e : (a + b) * l ≡ (p + q) * c = add-mul a b l ∙ ap (λ (x : ℕ). x + b * l) u ∙ ap (λ (x : ℕ). p * c + x) v ∙ sym (add-mul p q c) in
      plain_round f true (a + b) c C (unit_le (a + b) l (p + q) c (omega arith) (pow_pos (low f)) C e)
]
plain-sum f true a false b c p q C u v h = go (ltb a b) (ltb b a) (ltb→lt b a)
  where
    go : (x y : Bool) → (T y → b < a) → Plain (cond x (round f false (b - a) c) (round f y (a - b) c))
    go true y k = plain_round_false f (b - a) c
    go false true k = plain-less f true a b c p q C u v (k tt)
    go false false k = plain_round_false f (a - b) c
plain-sum f false a true b c p q C u v h = go (ltb a b) (ltb→lt a b)
  where
    go : (x : Bool) → (T x → a < b) → Plain (cond x (round f true (b - a) c) (round f false (a - b) c))
    go true k = plain-less f true b a c q p C v u (k tt)
    go false k = plain_round_false f (a - b) c

-- a value that fits is a whole number of units
whole_units : (f : Format) (s : Bool) (m : ℕ) (e : ℤ) (d : ℕ) → T (fits f (fin s m e)) → (p : ℕ) × (m * up e * d * 2 ^ low f ≡ p * (down e * d))
whole_units f s zero e d h = (0, ap (λ (x : ℕ). x * 2 ^ low f) (none (up e) d) ∙ zero-mul (2 ^ low f) ∙ sym (zero-mul (down e * d)))
whole_units f s (suc m) e d h =
    let k = units_of_lem (low f) e (fit f s m e h).deep in
    (suc m * 2 ^ k.0, mul_right_comm (suc m * up e) d (2 ^ low f) ∙ ap (λ (x : ℕ). x * d) (k.1 (suc m)) ∙ mul_assoc (suc m * 2 ^ k.0) (down e) d)

-- of a sum whose operands fit: it is -0 only where its left operand is
pub plain-add : (f : Format) (x y : Float) → T (fits f x) → T (fits f y) → Plain x → Plain (add f x y)
unfolding add
plain-add f nan y p q h = tt
plain-add f (inf s) nan p q h = tt
plain-add f (inf s) (inf t) p q h = go (beq s t)
  where
    go : (b : Bool) → Plain (cond b (inf s) nan)
    go true = tt
    go false = tt
plain-add f (inf s) (fin t n d) p q h = tt
plain-add f (fin s m e) nan p q h = tt
plain-add f (fin s m e) (inf t) p q h = tt
plain-add f (fin s m e) (fin t n d) p q h =
    let j = whole_units f s m e (down d) p in
    let k = whole_units f t n d (down e) q in
    plain-sum f s (m * up e * down d) t (n * up d * down e) (down e * down d) j.0 k.0 (mul-pos (down_pos e) (down_pos d))
    j.1 (k.1 ∙ ap (λ (x : ℕ). k.0 * x) (mul_comm (down d) (down e))) (signed s m h)
  where
    signed : (s : Bool) (m : ℕ) → Plain (fin s m e) → (s ≡ false) ⊎ (0 < m * up e * down d)
    signed false m h = inl refl
    signed true zero h = absurd h
    signed true (suc m) h = inr (mul-pos (mul-pos (zero-lt-suc m) (up_pos e)) (down_pos d))

-- ---- from ≈ to one value
pub one_zero : (f : Format) (s : Bool) (e : ℤ) → T (fits f (fin s 0 e)) → fin s 0 (pos 0) ≡ fin s 0 e
one_zero f s e p = unique f (fin s 0 (pos 0)) s 0 e (unfold fits in tt) p (refl, none 1 (down e) ∙ sym (none (up e) 1))

plain-canon : (f : Format) (x : Float) → T (fits f x) → Plain x → canon x ≡ x
unfolding canon
plain-canon f nan p h = refl
plain-canon f (inf s) p h = refl
plain-canon f (fin true zero e) p h = absurd h
plain-canon f (fin false zero e) p h = one_zero f false e p
plain-canon f (fin s (suc m) e) p h = refl

-- where neither is -0
pub plain_≈ : (f : Format) (x y : Float) → T (fits f x) → T (fits f y) → Plain x → Plain y → x ≈ y → x ≡ y
plain_≈ f x y p q h k r = sym (plain-canon f x p h) ∙ r.is ∙ plain-canon f y q k

solid_canon : (x : Float) → (Zero x → ⊥) → canon x ≡ x
unfolding canon
solid_canon nan h = refl
solid_canon (inf s) h = refl
solid_canon (fin s zero e) h = absurd (h tt)
solid_canon (fin s (suc m) e) h = refl

zero_canon : (x : Float) → Zero x → Zero (canon x)
unfolding canon
zero_canon (fin s zero e) h = tt
zero_canon nan h = elim h [ ]
zero_canon (inf _) h = elim h [ ]
zero_canon (fin s (suc _) e) h = elim h [ ]

canon_zero : (x : Float) → Zero (canon x) → Zero x
unfolding canon
canon_zero nan h = h
canon_zero (inf s) h = h
canon_zero (fin s zero e) h = tt
canon_zero (fin s (suc m) e) h = h

pub zero_of_≈ : (x y : Float) → x ≈ y → Zero x → Zero y
zero_of_≈ x y r h = canon_zero y (subst Zero r.is (zero_canon x h))

-- where one is no zero
pub solid_≈ : (x y : Float) → (Zero x → ⊥) → x ≈ y → x ≡ y
solid_≈ x y h r = sym (solid_canon x h) ∙ r.is ∙ solid_canon y (λ z. h (zero_of_≈ y x (≈sym r) z))

-- exactly: a value that fits and is not -0 keeps its value, sign and all, when a zero is added
pub add_zero≡ : (x z : Float) → T (fits binary64 x) → T (fits binary64 z) → Plain x → Zero z → add binary64 x z ≡ x
add_zero≡ x z p q h k = plain_≈ binary64 (add binary64 x z) x (add-fits binary64 x z) p (plain-add binary64 x z p q h) h (add_zero≈ x z p k)

-- ---- finite results have finite operands; a quotient's divisor is no zero and no NaN, and may be an infinity
pub finite_add-l : (f : Format) (x y : Float) → T (finite (add f x y)) → T (finite x)
unfolding add
finite_add-l f nan y h = h
finite_add-l f (inf s) nan h = h
finite_add-l f (inf s) (inf t) h = absurd (go (beq s t) h)
  where
    go : (b : Bool) → T (finite (cond b (inf s) nan)) → ⊥
    go true h = h
    go false h = h
finite_add-l f (inf s) (fin t n d) h = h
finite_add-l f (fin s m e) y h = tt

pub finite_mul-l : (f : Format) (x y : Float) → T (finite (mul f x y)) → T (finite x)
unfolding mul
finite_mul-l f nan y h = h
finite_mul-l f (inf s) nan h = h
finite_mul-l f (inf s) (inf t) h = h
finite_mul-l f (inf s) (fin t n d) h = absurd (go (eqb n 0) h)
  where
    go : (b : Bool) → T (finite (cond b nan (inf (unlike s t)))) → ⊥
    go true h = h
    go false h = h
finite_mul-l f (fin s m e) y h = tt

pub finite_mul-r : (f : Format) (x y : Float) → T (finite (mul f x y)) → T (finite y)
finite_mul-r f x y h = finite_mul-l f y x (subst (λ (z : Float). T (finite z)) (mul_comm≡ f x y) h)

pub finite_div-l : (f : Format) (x y : Float) → T (finite (div f x y)) → T (finite x)
unfolding div
finite_div-l f nan y h = h
finite_div-l f (inf s) nan h = h
finite_div-l f (inf s) (inf t) h = h
finite_div-l f (inf s) (fin t n d) h = h
finite_div-l f (fin s m e) y h = tt

pub finite_div-r : (f : Format) (x y : Float) → T (finite (div f x y)) → Num y × (Zero y → ⊥)
unfolding div
finite_div-r f x nan h = absurd (go x h)
  where
    go : (x : Float) → T (finite (div f x nan)) → ⊥
    go nan h = h
    go (inf s) h = h
    go (fin s m e) h = h
finite_div-r f x (inf t) h = (tt, λ z. z)
finite_div-r f x (fin t zero d) h = absurd (go x h)
  where
    go : (x : Float) → T (finite (div f x (fin t zero d))) → ⊥
    go nan h = h
    go (inf s) h = h
    go (fin s m e) h = cut (eqb m 0) h
      where
        cut : (b : Bool) → T (finite (cond b nan (inf (unlike s t)))) → ⊥
        cut true h = h
        cut false h = h
finite_div-r f x (fin t (suc n) d) h = (tt, λ z. z)

-- a function of one float gives one result for x ≈ y where it does so for every zero
pub respects : {A : Type 0} (f : Float → A) → ((s : Bool) (e : ℤ) → f (fin s 0 e) ≡ f plus0) → (x y : Float) → x ≈ y → f x ≡ f y
unfolding canon
respects {A} f h x y p = sym (at x) ∙ ap f p.is ∙ at y
  where
    at : (x : Float) → f (canon x) ≡ f x
    at nan = refl
    at (inf s) = refl
    at (fin s zero e) = sym (h s e)
    at (fin s (suc m) e) = refl

-- ---- the sign clear: no NaN, and neither negative nor -0
abbrev pub Clear : Float → Type 0
Clear nan = ⊥
Clear (inf true) = ⊥
Clear (inf false) = Unit {0}
Clear (fin true m e) = ⊥
Clear (fin false m e) = Unit {0}

clear_round : (f : Format) (a c : ℕ) → Clear (round f false a c)
clear_round f a c = subst Clear (sym (round_is f false a c)) (clear_units (nearest (a * 2 ^ low f / u) (compare (a * 2 ^ low f % u * 2) u)) k)
  where
    k : ℕ
    k = size (a * 2 ^ low f / c) - prec f

    u : ℕ
    u = c * 2 ^ k

    clear_value : (x : Float) (a c : ℕ) → HasValue x false a c → Clear x
    clear_value nan a c v = v
    clear_value (inf true) a c v = v
    clear_value (inf false) a c v = tt
    clear_value (fin true m e) a c v = true≢false v.0
    clear_value (fin false m e) a c v = tt

    clear_units : (q k : ℕ) → Clear (units f false q k)
    clear_units q k = unfold units in go (ltb (q * 2 ^ k) (2 ^ (low f + suc (emax f))))
      where
        go : (b : Bool) → Clear (cond b (odd (suc (prec f)) false q k (low f)) (inf false))
        go true = clear_value (odd (suc (prec f)) false q k (low f)) (q * 2 ^ k) (2 ^ low f) (odd_sign (suc (prec f)) false q k (low f))
        go false = tt

pub clear_add : (f : Format) (x y : Float) → Clear x → Clear y → Clear (add f x y)
unfolding add sum
clear_add f nan y p q = absurd p
clear_add f (inf true) y p q = absurd p
clear_add f (inf false) nan p q = absurd q
clear_add f (inf false) (inf true) p q = absurd q
clear_add f (inf false) (inf false) p q = tt
clear_add f (inf false) (fin t n d) p q = tt
clear_add f (fin true m e) y p q = absurd p
clear_add f (fin false m e) nan p q = absurd q
clear_add f (fin false m e) (inf true) p q = absurd q
clear_add f (fin false m e) (inf false) p q = tt
clear_add f (fin false m e) (fin true n d) p q = absurd q
clear_add f (fin false m e) (fin false n d) p q = clear_round f (m * up e * down d + n * up d * down e) (down e * down d)
