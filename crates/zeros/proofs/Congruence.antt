-- Each operation, comparison and test respects ≈: `canon (op x y)` depends on canon x and canon y alone; a quotient, where the divisors are equal. Assumes nothing.
use mathlib.Core.Path.{◌≡◌, refl, sym, ap, ◌∙◌, subst}
use Prim.Native.Nat.{ℕ, zero, suc, ◌+◌, ◌-◌, ◌*◌, ◌≤◌, ◌<◌}
use native.Mathlib.Nat.{add_comm, zero-mul, mul_comm, mul_assoc, mul-one, mul-pos, zero-lt-suc, zero-add, add-zero, lt_irrefl}
use native.Mathlib.Omega.{arith}
use mathlib.Core.Logic.{◌⊎◌, inl, inr}
use mathlib.Core.Bool.{Bool, true, false, not, ◌&&◌, ◌||◌, beq, cond}
use lib.IntN.{ℤ, pos}
use lib.Dec.{T, ltb, eqb, ltb→lt, lt→ltb, nltb→le, eqb→eq, eqb-suc-zero, leb-suc-zero}
use lib.Ieee.{Float, nan, inf, fin, Format, binary32, binary64, up, down, unlike, round, neg, sum, add, sub, mul, div, below, level, lt, le, eq}
use lib.Ieee.Fits.{up_pos, down_pos}
use lib.Ieee.Scale.{round_same, finite}
use lib.Ieee.Bits.{is_true}
use Rattle.zeros.specs.Same.{plus0, canon, ◌≈◌}

pub by : {x y : Float} → canon x ≡ canon y → x ≈ y
by p = record { is = p }

pub same : {x y : Float} → x ≡ y → x ≈ y
same p = by (ap canon p)

pub ≈refl : (x : Float) → x ≈ x
≈refl x = by refl

pub ≈sym : {x y : Float} → x ≈ y → y ≈ x
≈sym p = by (sym p.is)

pub ≈trans : {x y z : Float} → x ≈ y → y ≈ z → x ≈ z
≈trans p q = by (p.is ∙ q.is)

pub canon-canon : (x : Float) → canon (canon x) ≡ canon x
unfolding canon
canon-canon nan = refl
canon-canon (inf s) = refl
canon-canon (fin s zero e) = refl
canon-canon (fin s (suc m) e) = refl

-- ---- a zero, rounded
round_zero1 : (f : Format) (s : Bool) → round f s 0 1 ≡ fin s 0 (pos 0)
unfolding round
round_zero1 binary32 s = refl
round_zero1 binary64 s = refl

pub round_zero : (f : Format) (s : Bool) (a c : ℕ) → a ≡ 0 → 0 < c → round f s a c ≡ fin s 0 (pos 0)
round_zero f s a c z C = round_same f s a c 0 1 C (zero-lt-suc 0) (mul-one a ∙ z ∙ sym (zero-mul c)) ∙ round_zero1 f s

pub round_zero≈ : (f : Format) (s : Bool) (a c : ℕ) → a ≡ 0 → 0 < c → canon (round f s a c) ≡ plus0
unfolding canon
round_zero≈ f s a c z C = ap canon (round_zero f s a c z C)

-- ---- addition commutes, exactly
sum_comm : (f : Format) (s : Bool) (a : ℕ) (t : Bool) (b c : ℕ) → sum f s a t b c ≡ sum f t b s a c
unfolding sum
sum_comm f true a true b c = ap (λ (x : ℕ). round f true x c) (add_comm a b)
sum_comm f false a false b c = ap (λ (x : ℕ). round f false x c) (add_comm a b)
sum_comm f true a false b c = go (ltb a b) (ltb b a) (ltb→lt a b) (nltb→le a b) (ltb→lt b a) (nltb→le b a)
  where
    go : (p q : Bool) → (T p → a < b) → (T (not p) → b ≤ a) → (T q → b < a) → (T (not q) → a ≤ b)
        → cond p (round f false (b - a) c) (round f (true && q) (a - b) c) ≡ cond q (round f true (a - b) c) (round f (false && p) (b - a) c)
    go true true h h' k k' = absurd (clash (h tt) (k tt))
      where
        clash : a < b → b < a → ⊥
        clash x y = omega arith
    go true false h h' k k' = refl
    go false true h h' k k' = refl
    go false false h h' k k' = ap (λ (x : ℕ). round f false x c) (tie (h' tt) (k' tt))
      where
        tie : b ≤ a → a ≤ b → a - b ≡ b - a
        tie x y = omega arith
sum_comm f false a true b c = go (ltb a b) (ltb b a) (ltb→lt a b) (nltb→le a b) (ltb→lt b a) (nltb→le b a)
  where
    go : (p q : Bool) → (T p → a < b) → (T (not p) → b ≤ a) → (T q → b < a) → (T (not q) → a ≤ b)
        → cond p (round f true (b - a) c) (round f (false && q) (a - b) c) ≡ cond q (round f false (a - b) c) (round f (true && p) (b - a) c)
    go true true h h' k k' = absurd (clash (h tt) (k tt))
      where
        clash : a < b → b < a → ⊥
        clash x y = omega arith
    go true false h h' k k' = refl
    go false true h h' k k' = refl
    go false false h h' k k' = ap (λ (x : ℕ). round f false x c) (tie (h' tt) (k' tt))
      where
        tie : b ≤ a → a ≤ b → a - b ≡ b - a
        tie x y = omega arith

beq_comm : (s t : Bool) (x : Float) → cond (beq s t) (inf s) x ≡ cond (beq t s) (inf t) x
beq_comm true true x = refl
beq_comm true false x = refl
beq_comm false true x = refl
beq_comm false false x = refl

pub add_comm≡ : (f : Format) (x y : Float) → add f x y ≡ add f y x
unfolding add
add_comm≡ f nan nan = refl
add_comm≡ f nan (inf t) = refl
add_comm≡ f nan (fin t n d) = refl
add_comm≡ f (inf s) nan = refl
add_comm≡ f (inf s) (inf t) = beq_comm s t nan
add_comm≡ f (inf s) (fin t n d) = refl
add_comm≡ f (fin s m e) nan = refl
add_comm≡ f (fin s m e) (inf t) = refl
add_comm≡ f (fin s m e) (fin t n d) =
    sum_comm f s (m * up e * down d) t (n * up d * down e) (down e * down d)
    ∙ ap (λ (c : ℕ). sum f t (n * up d * down e) s (m * up e * down d) c) (mul_comm (down e) (down d))

-- ---- a zero on the left of a sum: what comes is the other operand, rounded
none : (u v : ℕ) → 0 * u * v ≡ 0
none u v = ap (λ (x : ℕ). x * v) (zero-mul u) ∙ zero-mul v

sum_zero : (f : Format) (s : Bool) (a : ℕ) (t : Bool) (b c : ℕ) → a ≡ 0 → 0 < c → canon (sum f s a t b c) ≡ canon (round f t b c)
unfolding sum
sum_zero f true a true b c z C = ap (λ (x : ℕ). canon (round f true (x + b) c)) z ∙ ap (λ (x : ℕ). canon (round f true x c)) (zero-add b)
sum_zero f false a false b c z C = ap (λ (x : ℕ). canon (round f false (x + b) c)) z ∙ ap (λ (x : ℕ). canon (round f false x c)) (zero-add b)
sum_zero f true a false b c z C = go (ltb a b) (nltb→le a b)
  where
    go : (p : Bool) → (T (not p) → b ≤ a) → canon (cond p (round f false (b - a) c) (round f (true && ltb b a) (a - b) c)) ≡ canon (round f false b c)
    go true h = ap (λ (x : ℕ). canon (round f false x c)) (omega arith)
    go false h = round_zero≈ f (ltb b a) (a - b) c (omega arith) C ∙ sym (round_zero≈ f false b c (omega (arith, h tt)) C)
sum_zero f false a true b c z C = go (ltb a b) (nltb→le a b)
  where
    go : (p : Bool) → (T (not p) → b ≤ a) → canon (cond p (round f true (b - a) c) (round f (false && ltb b a) (a - b) c)) ≡ canon (round f true b c)
    go true h = ap (λ (x : ℕ). canon (round f true x c)) (omega arith)
    go false h = round_zero≈ f false (a - b) c (omega arith) C ∙ sym (round_zero≈ f true b c (omega (arith, h tt)) C)

-- x on its own, rounded: x itself where x fits (`again-fits`, below)
abbrev pub again : Format → Float → Float
again f nan = nan
again f (inf s) = inf s
again f (fin s m e) = round f s (m * up e) (down e)

pub add_zero_l : (f : Format) (s : Bool) (e : ℤ) (y : Float) → canon (add f (fin s 0 e) y) ≡ canon (again f y)
unfolding add
add_zero_l f s e nan = refl
add_zero_l f s e (inf t) = refl
add_zero_l f s e (fin t n d) =
    sum_zero f s (0 * up e * down d) t (n * up d * down e) (down e * down d) (none (up e) (down d)) (mul-pos (down_pos e) (down_pos d))
    ∙ ap canon (round_same f t (n * up d * down e) (down e * down d) (n * up d) (down d) (mul-pos (down_pos e) (down_pos d)) (down_pos d) (mul_assoc (n * up d) (down e) (down d)))

pub add-canon-l : (f : Format) (x y : Float) → canon (add f (canon x) y) ≡ canon (add f x y)
unfolding canon
add-canon-l f nan y = refl
add-canon-l f (inf s) y = refl
add-canon-l f (fin s zero e) y = add_zero_l f false (pos 0) y ∙ sym (add_zero_l f s e y)
add-canon-l f (fin s (suc m) e) y = refl

pub add-canon-r : (f : Format) (x y : Float) → canon (add f x (canon y)) ≡ canon (add f x y)
add-canon-r f x y = ap canon (add_comm≡ f x (canon y)) ∙ add-canon-l f y x ∙ ap canon (add_comm≡ f y x)

pub neg-canon : (x : Float) → canon (neg (canon x)) ≡ canon (neg x)
unfolding canon neg
neg-canon nan = refl
neg-canon (inf s) = refl
neg-canon (fin s zero e) = refl
neg-canon (fin s (suc m) e) = refl

-- ---- a zero in a product
zero_times : (u v w : ℕ) → 0 * u * (v * w) ≡ 0
zero_times u v w = none u (v * w)

abbrev times_zero : Float → Float
times_zero nan = nan
times_zero (inf s) = nan
times_zero (fin s m e) = plus0

pub mul_zero_l : (f : Format) (s : Bool) (e : ℤ) (y : Float) → canon (mul f (fin s 0 e) y) ≡ times_zero y
unfolding mul canon
mul_zero_l f s e nan = refl
mul_zero_l f s e (inf t) = refl
mul_zero_l f s e (fin t n d) = round_zero≈ f (unlike s t) (0 * up e * (n * up d)) (down e * down d) (zero_times (up e) n (up d)) (mul-pos (down_pos e) (down_pos d))

pub mul-canon-l : (f : Format) (x y : Float) → canon (mul f (canon x) y) ≡ canon (mul f x y)
unfolding canon
mul-canon-l f nan y = refl
mul-canon-l f (inf s) y = refl
mul-canon-l f (fin s zero e) y = mul_zero_l f false (pos 0) y ∙ sym (mul_zero_l f s e y)
mul-canon-l f (fin s (suc m) e) y = refl

unlike_comm : (s t : Bool) → unlike s t ≡ unlike t s
unlike_comm true true = refl
unlike_comm true false = refl
unlike_comm false true = refl
unlike_comm false false = refl

pub mul_comm≡ : (f : Format) (x y : Float) → mul f x y ≡ mul f y x
unfolding mul
mul_comm≡ f nan nan = refl
mul_comm≡ f nan (inf t) = refl
mul_comm≡ f nan (fin t n d) = refl
mul_comm≡ f (inf s) nan = refl
mul_comm≡ f (inf s) (inf t) = ap inf (unlike_comm s t)
mul_comm≡ f (inf s) (fin t n d) = ap (λ (b : Bool). cond (eqb n 0) nan (inf b)) (unlike_comm s t)
mul_comm≡ f (fin s m e) nan = refl
mul_comm≡ f (fin s m e) (inf t) = ap (λ (b : Bool). cond (eqb m 0) nan (inf b)) (unlike_comm s t)
mul_comm≡ f (fin s m e) (fin t n d) =
    ap (λ (b : Bool). round f b (m * up e * (n * up d)) (down e * down d)) (unlike_comm s t)
    ∙ ap (λ (a : ℕ). round f (unlike t s) a (down e * down d)) (mul_comm (m * up e) (n * up d))
    ∙ ap (λ (c : ℕ). round f (unlike t s) (n * up d * (m * up e)) c) (mul_comm (down e) (down d))

pub mul-canon-r : (f : Format) (x y : Float) → canon (mul f x (canon y)) ≡ canon (mul f x y)
mul-canon-r f x y = ap canon (mul_comm≡ f x (canon y)) ∙ mul-canon-l f y x ∙ ap canon (mul_comm≡ f y x)

-- ---- a zero over anything
abbrev zero_over : Float → Float
zero_over nan = nan
zero_over (inf s) = plus0
zero_over (fin s zero e) = nan
zero_over (fin s (suc m) e) = plus0

cond_eqb : {X : Type 0} (n : ℕ) (x y : X) → cond (eqb (suc n) 0) x y ≡ y
cond_eqb n x y = ap (λ b. cond b x y) (eqb-suc-zero n)

pub div_zero_l : (f : Format) (s : Bool) (e : ℤ) (y : Float) → canon (div f (fin s 0 e) y) ≡ zero_over y
unfolding div canon
div_zero_l f s e nan = refl
div_zero_l f s e (inf t) = refl
div_zero_l f s e (fin t zero d) = refl
div_zero_l f s e (fin t (suc n) d) =
    ap canon (cond_eqb n nan (round f (unlike s t) (0 * up e * down d) (suc n * up d * down e)))
    ∙ round_zero≈ f (unlike s t) (0 * up e * down d) (suc n * up d * down e) (none (up e) (down d)) (mul-pos (mul-pos (zero-lt-suc n) (up_pos d)) (down_pos e))

pub div-canon-l : (f : Format) (x y : Float) → canon (div f (canon x) y) ≡ canon (div f x y)
unfolding canon
div-canon-l f nan y = refl
div-canon-l f (inf s) y = refl
div-canon-l f (fin s zero e) y = div_zero_l f false (pos 0) y ∙ sym (div_zero_l f s e y)
div-canon-l f (fin s (suc m) e) y = refl

-- ---- the congruences
-- one law for both places of an operation
lift2 : (op : Float → Float → Float) → ((x y : Float) → canon (op (canon x) y) ≡ canon (op x y)) → ((x y : Float) → canon (op x (canon y)) ≡ canon (op x y))
    → (x x' y y' : Float) → x ≈ x' → y ≈ y' → op x y ≈ op x' y'
lift2 op l r x x' y y' p q =
    by (sym (l x y) ∙ ap (λ (z : Float). canon (op z y)) p.is ∙ l x' y ∙ sym (r x' y) ∙ ap (λ (z : Float). canon (op x' z)) q.is ∙ r x' y')

pub add_≈ : {x x' y y' : Float} → x ≈ x' → y ≈ y' → add binary64 x y ≈ add binary64 x' y'
add_≈ {x} {x'} {y} {y'} p q = lift2 (add binary64) (add-canon-l binary64) (add-canon-r binary64) x x' y y' p q

pub neg_≈ : {x x' : Float} → x ≈ x' → neg x ≈ neg x'
neg_≈ {x} {x'} p = by (sym (neg-canon x) ∙ ap (λ (z : Float). canon (neg z)) p.is ∙ neg-canon x')

pub sub_≈ : {x x' y y' : Float} → x ≈ x' → y ≈ y' → sub binary64 x y ≈ sub binary64 x' y'
unfolding sub
sub_≈ p q = add_≈ p (neg_≈ q)

pub mul_≈ : {x x' y y' : Float} → x ≈ x' → y ≈ y' → mul binary64 x y ≈ mul binary64 x' y'
mul_≈ {x} {x'} {y} {y'} p q = lift2 (mul binary64) (mul-canon-l binary64) (mul-canon-r binary64) x x' y y' p q

-- a quotient: the divisor must be one value, for 1 / -0 is not 1 / +0
pub div_≈ : {x x' y y' : Float} → x ≈ x' → y ≡ y' → div binary64 x y ≈ div binary64 x' y'
div_≈ {x} {x'} {y} {y'} p q = by (sym (div-canon-l binary64 x y) ∙ ap (λ (z : Float). canon (div binary64 z y)) p.is ∙ div-canon-l binary64 x' y ∙ ap (λ (z : Float). canon (div binary64 x' z)) q)

-- ---- comparisons
zero_or : (n : ℕ) → (n ≡ 0) ⊎ (0 < n)
zero_or zero = inl refl
zero_or (suc n) = inr (zero-lt-suc n)

pub same_test : (a b : Bool) → (T a → T b) → (T b → T a) → a ≡ b
same_test true true f g = refl
same_test true false f g = absurd (f tt)
same_test false true f g = absurd (g tt)
same_test false false f g = refl

-- with a zero on the left, below and level look only at whether the right is 0, and at its sign
ltb_scale : (b c d : ℕ) → 0 < c → 0 < d → ltb 0 (b * c) ≡ ltb 0 (b * d)
ltb_scale b c d C D = elim (zero_or b) [
  | inl z ↦ ap (λ (x : ℕ). ltb 0 (x * c)) z ∙ ap (ltb 0) (zero-mul c ∙ sym (zero-mul d)) ∙ ap (λ (x : ℕ). ltb 0 (x * d)) (sym z)
  | inr p ↦ is_true (ltb 0 (b * c)) (lt→ltb 0 (b * c) (mul-pos p C)) ∙ sym (is_true (ltb 0 (b * d)) (lt→ltb 0 (b * d) (mul-pos p D)))
]

below-l : (s : Bool) (a : ℕ) (t : Bool) (b : ℕ) → a ≡ 0 → below s a t b ≡ (not t && ltb 0 b)
below-l false a false b z = ap (λ (x : ℕ). ltb x b) z
below-l false a true b z = refl
below-l true a false b z = ap (λ (x : ℕ). ltb 0 (x + b)) z ∙ ap (ltb 0) (zero-add b)
below-l true a true b z = ap (λ (x : ℕ). ltb b x) z ∙ leb-suc-zero b

below-r : (s : Bool) (a : ℕ) (t : Bool) (b : ℕ) → b ≡ 0 → below s a t b ≡ (s && ltb 0 a)
below-r false a false b z = ap (λ (x : ℕ). ltb a x) z ∙ leb-suc-zero a
below-r false a true b z = refl
below-r true a false b z = ap (λ (x : ℕ). ltb 0 (a + x)) z ∙ ap (ltb 0) (add-zero a)
below-r true a true b z = ap (λ (x : ℕ). ltb x a) z

or_true : (b : Bool) → (b || true) ≡ true
or_true true = refl
or_true false = refl

and_or : (a b : Bool) → (a && (b || a)) ≡ a
and_or true b = or_true b
and_or false b = refl

level-r : (s : Bool) (a : ℕ) (t : Bool) (b : ℕ) → b ≡ 0 → level s a t b ≡ eqb a 0
level-r s a t b z = ap (λ (x : ℕ). eqb a x && (beq s t || eqb a 0)) z ∙ and_or (eqb a 0) (beq s t)

level-l : (s : Bool) (a : ℕ) (t : Bool) (b : ℕ) → a ≡ 0 → level s a t b ≡ eqb 0 b
level-l s a t b z = ap (λ (x : ℕ). eqb x b && (beq s t || eqb x 0)) z ∙ ap (λ (x : Bool). eqb 0 b && x) (or_true (beq s t)) ∙ and_true (eqb 0 b)
  where
    and_true : (b : Bool) → (b && true) ≡ b
    and_true true = refl
    and_true false = refl

eqb_scale : (b c d : ℕ) → 0 < c → 0 < d → eqb (b * c) 0 ≡ eqb (b * d) 0
eqb_scale b c d C D = same_test (eqb (b * c) 0) (eqb (b * d) 0) (go c d C) (go d c D)
  where
    go : (c d : ℕ) → 0 < c → T (eqb (b * c) 0) → T (eqb (b * d) 0)
    go c d C t = elim (zero_or b) [
      | inl z ↦ subst (λ (x : ℕ). T (eqb (x * d) 0)) (sym z) (subst (λ (x : ℕ). T (eqb x 0)) (sym (zero-mul d)) tt)
      | inr p ↦ absurd (lt_irrefl 0 (subst (λ (x : ℕ). 0 < x) (eqb→eq (b * c) 0 t) (mul-pos p C)))
    ]

eqb_scale' : (b c d : ℕ) → 0 < c → 0 < d → eqb 0 (b * c) ≡ eqb 0 (b * d)
eqb_scale' b c d C D = same_test (eqb 0 (b * c)) (eqb 0 (b * d)) (go c d C) (go d c D)
  where
    go : (c d : ℕ) → 0 < c → T (eqb 0 (b * c)) → T (eqb 0 (b * d))
    go c d C t = elim (zero_or b) [
      | inl z ↦ subst (λ (x : ℕ). T (eqb 0 (x * d))) (sym z) (subst (λ (x : ℕ). T (eqb 0 x)) (sym (zero-mul d)) tt)
      | inr p ↦ absurd (lt_irrefl 0 (subst (λ (x : ℕ). 0 < x) (sym (eqb→eq 0 (b * c) t)) (mul-pos p C)))
    ]

zero_lt_one : 0 < 1
zero_lt_one = zero-lt-suc 0

lt_canon-l : (x y : Float) → lt (canon x) y ≡ lt x y
unfolding canon lt
lt_canon-l nan y = refl
lt_canon-l (inf s) y = refl
lt_canon-l (fin s zero e) nan = refl
lt_canon-l (fin s zero e) (inf t) = refl
lt_canon-l (fin s zero e) (fin t n d) =
    below-l false (0 * 1 * down d) t (n * up d * 1) (none 1 (down d)) ∙ ap (λ (x : Bool). not t && x) (ltb_scale (n * up d) 1 (down e) zero_lt_one (down_pos e))
    ∙ sym (below-l s (0 * up e * down d) t (n * up d * down e) (none (up e) (down d)))
lt_canon-l (fin s (suc m) e) y = refl

lt_canon-r : (x y : Float) → lt x (canon y) ≡ lt x y
unfolding canon lt
lt_canon-r nan y = refl
lt_canon-r (inf s) nan = refl
lt_canon-r (inf s) (inf t) = refl
lt_canon-r (inf s) (fin t zero d) = refl
lt_canon-r (inf s) (fin t (suc n) d) = refl
lt_canon-r (fin s m e) nan = refl
lt_canon-r (fin s m e) (inf t) = refl
lt_canon-r (fin s m e) (fin t zero d) =
    below-r s (m * up e * 1) false (0 * 1 * down e) (none 1 (down e)) ∙ ap (λ (x : Bool). s && x) (ltb_scale (m * up e) 1 (down d) zero_lt_one (down_pos d))
    ∙ sym (below-r s (m * up e * down d) t (0 * up d * down e) (none (up d) (down e)))
lt_canon-r (fin s m e) (fin t (suc n) d) = refl

eq_canon-l : (x y : Float) → eq (canon x) y ≡ eq x y
unfolding canon eq
eq_canon-l nan y = refl
eq_canon-l (inf s) y = refl
eq_canon-l (fin s zero e) nan = refl
eq_canon-l (fin s zero e) (inf t) = refl
eq_canon-l (fin s zero e) (fin t n d) =
    level-l false (0 * 1 * down d) t (n * up d * 1) (none 1 (down d)) ∙ eqb_scale' (n * up d) 1 (down e) zero_lt_one (down_pos e)
    ∙ sym (level-l s (0 * up e * down d) t (n * up d * down e) (none (up e) (down d)))
eq_canon-l (fin s (suc m) e) y = refl

eq_canon-r : (x y : Float) → eq x (canon y) ≡ eq x y
unfolding canon eq
eq_canon-r nan y = refl
eq_canon-r (inf s) nan = refl
eq_canon-r (inf s) (inf t) = refl
eq_canon-r (inf s) (fin t zero d) = refl
eq_canon-r (inf s) (fin t (suc n) d) = refl
eq_canon-r (fin s m e) nan = refl
eq_canon-r (fin s m e) (inf t) = refl
eq_canon-r (fin s m e) (fin t zero d) =
    level-r s (m * up e * 1) false (0 * 1 * down e) (none 1 (down e)) ∙ eqb_scale (m * up e) 1 (down d) zero_lt_one (down_pos d)
    ∙ sym (level-r s (m * up e * down d) t (0 * up d * down e) (none (up d) (down e)))
eq_canon-r (fin s m e) (fin t (suc n) d) = refl

test2 : (p : Float → Float → Bool) → ((x y : Float) → p (canon x) y ≡ p x y) → ((x y : Float) → p x (canon y) ≡ p x y) → (x x' y y' : Float) → x ≈ x' → y ≈ y' → p x y ≡ p x' y'
test2 p l r x x' y y' h k = sym (l x y) ∙ ap (λ (z : Float). p z y) h.is ∙ l x' y ∙ sym (r x' y) ∙ ap (λ (z : Float). p x' z) k.is ∙ r x' y'

pub lt_≈ : {x x' y y' : Float} → x ≈ x' → y ≈ y' → lt x y ≡ lt x' y'
lt_≈ {x} {x'} {y} {y'} p q = test2 lt lt_canon-l lt_canon-r x x' y y' p q

pub eq_≈ : {x x' y y' : Float} → x ≈ x' → y ≈ y' → eq x y ≡ eq x' y'
eq_≈ {x} {x'} {y} {y'} p q = test2 eq eq_canon-l eq_canon-r x x' y y' p q

pub le_≈ : {x x' y y' : Float} → x ≈ x' → y ≈ y' → le x y ≡ le x' y'
unfolding le
le_≈ {x} {x'} {y} {y'} p q = ap (λ (b : Bool). b || eq x y) (lt_≈ p q) ∙ ap (λ (b : Bool). lt x' y' || b) (eq_≈ p q)

-- neither NaN nor infinite; a test that ≈ keeps
finite_canon : (x : Float) → finite (canon x) ≡ finite x
unfolding canon
finite_canon nan = refl
finite_canon (inf s) = refl
finite_canon (fin s zero e) = refl
finite_canon (fin s (suc m) e) = refl

pub finite_≈ : {x x' : Float} → x ≈ x' → finite x ≡ finite x'
finite_≈ {x} {x'} p = sym (finite_canon x) ∙ ap finite p.is ∙ finite_canon x'
