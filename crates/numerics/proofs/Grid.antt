-- How large a result is, in units of 2 ^ -30: rounding keeps a bound that is a whole number of units, since each such number up to 2 ^ 53 is a float. Assumes nothing.
use Rattle.std.proofs.Common.{◌≡◌, ℕ, ◌+◌, ◌-◌, ◌*◌, ◌^◌, ◌<◌, ◌≤◌, Bool, true, false, cond, not, ◌&&◌, T, ltb, pos, sym, refl, ap, ◌∙◌, true≢false, le_trans, le_of_eq, lt_of_lt_of_le, mul-le-mul_right, mul_assoc, mul_comm, add-mul, mul-le-mul, mul-le-mul_left, mul-lt-mul_of_pos_right, mul-pos, zero-mul, mul_right_comm, le_of_mul-le-mul_right, mul_left_comm, arith, lit<, lit≤, pow_pos, le-ltb, lt-ltb, ne_eqb}
use mathlib.Core.Bool.{beq}
use lib.Ieee.{Float, nan, inf, fin, binary64, up, down, unlike, round, neg, sum, add, sub, mul, div, le, of_bits}
use lib.Ieee.Fits.{down_pos}
use lib.Ieee.Exact.{HasValue, round_exact}
use lib.Ieee.Order.{round_mono}
use Rattle.numerics.proofs.Bounds.{Plus, round_plus, round_flip, le_or}

abbrev pub U : ℕ
U = 1073741824

-- x is finite and at most H units in size
abbrev pub Up : ℕ → Float → Type 0
Up H nan = ⊥
Up H (inf s) = ⊥
Up H (fin s m e) = m * up e * U ≤ H * down e

-- x is finite, has the sign s, and is from L to H units in size
abbrev pub At : Bool → ℕ → ℕ → Float → Type 0
At s L H nan = ⊥
At s L H (inf t) = ⊥
At s L H (fin t m e) = (t ≡ s) × (L * down e ≤ m * up e * U) × (m * up e * U ≤ H * down e)

pub at_up : (s : Bool) (L H : ℕ) (x : Float) → At s L H x → Up H x
at_up s L H (fin t m e) h = h.2
at_up s L H nan h = elim h [ ]
at_up s L H (inf _) h = elim h [ ]

pub up_more : (H K : ℕ) (x : Float) → H ≤ K → Up H x → Up K x
up_more H K (fin t m e) l h = le_trans h (mul-le-mul_right (down e) l)
up_more H K nan l h = elim h [ ]
up_more H K (inf _) l h = elim h [ ]

-- ---- rounding
grid_value : (N : ℕ) → N < 2 ^ 53 → HasValue (round binary64 false N U) false N U
grid_value N l = round_exact binary64 false N U N 1044 (lit< tt) l (fine N l) (same N)
  where
    fine : (N : ℕ) → N < 2 ^ 53 → N * 2 ^ 1044 < 2 ^ 2098
    fine N l = lt_of_lt_of_le (mul-lt-mul_of_pos_right l (pow_pos 1044)) (lit≤ tt)

    same : (N : ℕ) → N * 2 ^ 1074 ≡ N * 2 ^ 1044 * U
    same N = sym (mul_assoc N (2 ^ 1044) U)

cross : (X E Y D H : ℕ) → 0 < D → X * D ≤ Y * E → Y * U ≡ H * D → X * U ≤ H * E
cross X E Y D H p h w =
    le_of_mul-le-mul_right (le_trans (le_of_eq (mul_right_comm X U D)) (le_trans (mul-le-mul_right U h) (le_of_eq (mul_right_comm Y E U ∙ ap (λ (z : ℕ). z * E) w ∙ mul_right_comm H D E)))) p

cross-low : (X E Y D L : ℕ) → 0 < D → Y * E ≤ X * D → Y * U ≡ L * D → L * E ≤ X * U
cross-low X E Y D L p h w =
    le_of_mul-le-mul_right (le_trans (le_of_eq (mul_right_comm L E D ∙ ap (λ (z : ℕ). z * E) (sym w) ∙ mul_right_comm Y U E)) (le_trans (mul-le-mul_right U h) (le_of_eq (mul_right_comm X D U)))) p

between : (L H : ℕ) (x y z : Float) → Plus x → HasValue y false L U → HasValue z false H U → T (le y x) → T (le x z) → At false L H x
unfolding le
between L H (inf false) y (fin s n d) p v w a b = absurd b
between L H (inf true) y z p v w a b = absurd (true≢false p)
between L H (fin true m e) y z p v w a b = absurd (true≢false p)
between L H (fin false m e) (fin true n d) z p v w a b = absurd (true≢false v.0)
between L H (fin false m e) (fin false n d) (fin true n' d') p v w a b = absurd (true≢false w.0)
between L H (fin false m e) (fin false n d) (fin false n' d') p v w a b = (
  refl,
  cross-low (m * up e) (down e) (n * up d) (down d) L (down_pos d) (le_or (n * up d * down e) (m * up e * down d) a) v.1,
  cross (m * up e) (down e) (n' * up d') (down d') H (down_pos d') (le_or (m * up e * down d') (n' * up d' * down e) b) w.1,
)
between L H nan y z p v w a b = elim p [ ]
between L H (inf false) y nan p v w a b = elim w [ ]
between L H (inf false) y (inf _) p v w a b = elim w [ ]
between L H (fin false m e) nan z p v w a b = elim v [ ]
between L H (fin false m e) (inf _) z p v w a b = elim v [ ]
between L H (fin false m e) (fin false n d) nan p v w a b = elim w [ ]
between L H (fin false m e) (fin false n d) (inf _) p v w a b = elim w [ ]

neg-at : (L H : ℕ) (x : Float) → At false L H x → At true L H (neg x)
unfolding neg
neg-at L H (fin t m e) h = (ap not h.0, h.1, h.2)
neg-at L H nan h = elim h [ ]
neg-at L H (inf _) h = elim h [ ]

round_at-plus : (a c L H : ℕ) → 0 < c → H < 2 ^ 53 → L * c ≤ a * U → a * U ≤ H * c → At false L H (round binary64 false a c)
round_at-plus a c L H C l h k =
    between L H (round binary64 false a c) (round binary64 false L U) (round binary64 false H U) (round_plus binary64 a c)
    (grid_value L (lower (le_of_mul-le-mul_right (le_trans h k) C))) (grid_value H l)
    (round_mono binary64 L U a c (lit< tt) C h) (round_mono binary64 a c H U C (lit< tt) k)
  where
    lower : L ≤ H → L < 2 ^ 53
    lower g = omega arith

pub round_at : (s : Bool) (a c L H : ℕ) → 0 < c → H < 2 ^ 53 → L * c ≤ a * U → a * U ≤ H * c → At s L H (round binary64 s a c)
round_at false a c L H C l h k = round_at-plus a c L H C l h k
round_at true a c L H C l h k = rw (round_flip binary64 a c) (neg-at L H (round binary64 false a c) (round_at-plus a c L H C l h k))

pub round_up : (s : Bool) (a c H : ℕ) → 0 < c → H < 2 ^ 53 → a * U ≤ H * c → Up H (round binary64 s a c)
round_up s a c H C l k = at_up s 0 H (round binary64 s a c) (round_at s a c 0 H C l (omega arith) k)

-- ---- products
prod : (X E H Y D K : ℕ) → X * U ≤ H * E → Y * U ≤ K * D → X * Y * U * U ≤ H * K * (E * D)
prod X E H Y D K h k = le_trans (le_of_eq (simp (mul_assoc, mul_comm, mul_left_comm))) (le_trans (mul-le-mul h k) (le_of_eq (simp (mul_assoc, mul_comm, mul_left_comm))))

prod-low : (X E H Y D K : ℕ) → H * E ≤ X * U → K * D ≤ Y * U → H * K * (E * D) ≤ X * Y * U * U
prod-low X E H Y D K h k = le_trans (le_of_eq (simp (mul_assoc, mul_comm, mul_left_comm))) (le_trans (mul-le-mul h k) (le_of_eq (simp (mul_assoc, mul_comm, mul_left_comm))))

-- with the units taken out once
U_pos : 0 < U
U_pos = lit< tt

lift : (Z c A P : ℕ) → A * U ≤ P → P * c ≤ Z * U * U → A * c ≤ Z * U
lift Z c A P h k = le_of_mul-le-mul_right (le_trans (le_of_eq (mul_right_comm A c U)) (le_trans (mul-le-mul_right c h) k)) U_pos

drop : (Z c B P : ℕ) → P ≤ B * U → Z * U * U ≤ P * c → Z * U ≤ B * c
drop Z c B P h k = le_of_mul-le-mul_right (le_trans k (le_trans (mul-le-mul_right c h) (le_of_eq (mul_right_comm B U c)))) U_pos

pub mul_at : (s t : Bool) (L H M K A B : ℕ) (x y : Float) → A * U ≤ L * M → H * K ≤ B * U → B < 2 ^ 53 → At s L H x → At t M K y → At (unlike s t) A B (mul binary64 x y)
unfolding mul
mul_at s t L H M K A B (fin s' m e) (fin t' n d) p q l h k =
    rw (sym h.0, sym k.0)
    (round_at (unlike s' t') (m * up e * (n * up d)) (down e * down d) A B (mul-pos (down_pos e) (down_pos d)) l
    (lift (m * up e * (n * up d)) (down e * down d) A (L * M) p (prod-low (m * up e) (down e) L (n * up d) (down d) M h.1 k.1))
    (drop (m * up e * (n * up d)) (down e * down d) B (H * K) q (prod (m * up e) (down e) H (n * up d) (down d) K h.2 k.2)))
mul_at s t L H M K A B nan y p q l h k = elim h [ ]
mul_at s t L H M K A B (inf _) y p q l h k = elim h [ ]
mul_at s t L H M K A B (fin s' m e) nan p q l h k = elim k [ ]
mul_at s t L H M K A B (fin s' m e) (inf _) p q l h k = elim k [ ]

pub mul-up : (H K B : ℕ) (x y : Float) → H * K ≤ B * U → B < 2 ^ 53 → Up H x → Up K y → Up B (mul binary64 x y)
unfolding mul
mul-up H K B (fin s m e) (fin t n d) q l h k =
    round_up (unlike s t) (m * up e * (n * up d)) (down e * down d) B (mul-pos (down_pos e) (down_pos d)) l
    (drop (m * up e * (n * up d)) (down e * down d) B (H * K) q (prod (m * up e) (down e) H (n * up d) (down d) K h k))
mul-up H K B nan y q l h k = elim h [ ]
mul-up H K B (inf _) y q l h k = elim h [ ]
mul-up H K B (fin s m e) nan q l h k = elim k [ ]
mul-up H K B (fin s m e) (inf _) q l h k = elim k [ ]

-- ---- sums
wide : (X E H D : ℕ) → X * U ≤ H * E → X * D * U ≤ H * (E * D)
wide X E H D h = le_trans (le_of_eq (mul_right_comm X D U)) (le_trans (mul-le-mul_right D h) (le_of_eq (mul_assoc H E D)))

wide_low : (X E L D : ℕ) → L * E ≤ X * U → L * (E * D) ≤ X * D * U
wide_low X E L D h = le_trans (le_of_eq (sym (mul_assoc L E D))) (le_trans (mul-le-mul_right D h) (le_of_eq (mul_right_comm X U D)))

wide' : (X E H D : ℕ) → X * U ≤ H * E → X * D * U ≤ H * (D * E)
wide' X E H D h = le_trans (wide X E H D h) (le_of_eq (ap (λ (z : ℕ). H * z) (mul_comm E D)))

wide_low' : (X E L D : ℕ) → L * E ≤ X * U → L * (D * E) ≤ X * D * U
wide_low' X E L D h = le_trans (le_of_eq (ap (λ (z : ℕ). L * z) (mul_comm D E))) (wide_low X E L D h)

-- two of one sign
sum-at : (s : Bool) (a b c L H M K : ℕ) → 0 < c → H + K < 2 ^ 53 → L * c ≤ a * U → a * U ≤ H * c → M * c ≤ b * U → b * U ≤ K * c → At s (L + M) (H + K) (sum binary64 s a s b c)
unfolding sum
sum-at true a b c L H M K C l h h' k k' = round_at true (a + b) c (L + M) (H + K) C l (rw (add-mul, add-mul) (omega arith)) (rw (add-mul, add-mul) (omega arith))
sum-at false a b c L H M K C l h h' k k' = round_at false (a + b) c (L + M) (H + K) C l (rw (add-mul, add-mul) (omega arith)) (rw (add-mul, add-mul) (omega arith))

pub add_at : (s : Bool) (L H M K : ℕ) (x y : Float) → H + K < 2 ^ 53 → At s L H x → At s M K y → At s (L + M) (H + K) (add binary64 x y)
unfolding add
add_at s L H M K (fin s' m e) (fin t' n d) l h k =
    rw (h.0, k.0)
    (sum-at s (m * up e * down d) (n * up d * down e) (down e * down d) L H M K (mul-pos (down_pos e) (down_pos d)) l (wide_low (m * up e) (down e) L (down d) h.1) (wide (m * up e) (down e) H (down d) h.2)
    (wide_low' (n * up d) (down d) M (down e) k.1) (wide' (n * up d) (down d) K (down e) k.2))
add_at s L H M K nan y l h k = elim h [ ]
add_at s L H M K (inf _) y l h k = elim h [ ]
add_at s L H M K (fin s' m e) nan l h k = elim k [ ]
add_at s L H M K (fin s' m e) (inf _) l h k = elim k [ ]

pick : (H : ℕ) (x y : Bool) (p q r : Float) → Up H p → Up H q → Up H r → Up H (cond x p (cond y q r))
pick H true y p q r u v w = u
pick H false true p q r u v w = v
pick H false false p q r u v w = w

sum-up : (s : Bool) (a : ℕ) (t : Bool) (b c H K : ℕ) → 0 < c → H + K < 2 ^ 53 → a * U ≤ H * c → b * U ≤ K * c → Up (H + K) (sum binary64 s a t b c)
unfolding sum
sum-up s a t b c H K C l h k =
    pick (H + K) (beq s t) (ltb a b) (round binary64 s (a + b) c) (round binary64 t (b - a) c) (round binary64 (s && ltb b a) (a - b) c)
    (round_up s (a + b) c (H + K) C l (rw (add-mul, add-mul) (omega arith)))
    (round_up t (b - a) c (H + K) C l (rw (add-mul) (omega arith)))
    (round_up (s && ltb b a) (a - b) c (H + K) C l (rw (add-mul) (omega arith)))

pub add-up : (H K : ℕ) (x y : Float) → H + K < 2 ^ 53 → Up H x → Up K y → Up (H + K) (add binary64 x y)
unfolding add
add-up H K (fin s m e) (fin t n d) l h k =
    sum-up s (m * up e * down d) t (n * up d * down e) (down e * down d) H K (mul-pos (down_pos e) (down_pos d)) l (wide (m * up e) (down e) H (down d) h) (wide' (n * up d) (down d) K (down e) k)
add-up H K nan y l h k = elim h [ ]
add-up H K (inf _) y l h k = elim h [ ]
add-up H K (fin s m e) nan l h k = elim k [ ]
add-up H K (fin s m e) (inf _) l h k = elim k [ ]

neg-up : (H : ℕ) (x : Float) → Up H x → Up H (neg x)
unfolding neg
neg-up H (fin t m e) h = h
neg-up H nan h = elim h [ ]
neg-up H (inf _) h = elim h [ ]

pub sub-up : (H K : ℕ) (x y : Float) → H + K < 2 ^ 53 → Up H x → Up K y → Up (H + K) (sub binary64 x y)
unfolding sub
sub-up H K x y l h k = add-up H K x (neg y) l h (neg-up K y k)

-- the difference of two of one sign
diff_up : (s : Bool) (a b c L H M K D : ℕ) → 0 < c → D < 2 ^ 53 → H ≤ M + D → K ≤ L + D → L * c ≤ a * U → a * U ≤ H * c → M * c ≤ b * U → b * U ≤ K * c → Up D (sum binary64 s a (not s) b c)
unfolding sum
diff_up s a b c L H M K D C l p q h h' k k' =
    let P : H * c ≤ M * c + D * c = le_trans (mul-le-mul_right c p) (le_of_eq (add-mul M D c)) in
    let Q : K * c ≤ L * c + D * c = le_trans (mul-le-mul_right c q) (le_of_eq (add-mul L D c)) in
    let A : (b - a) * U ≤ D * c = omega arith in
    let B : (a - b) * U ≤ D * c = omega arith in
    go s A B
  where
    go : (s : Bool) → (b - a) * U ≤ D * c → (a - b) * U ≤ D * c → Up D (cond (beq s (not s)) (round binary64 s (a + b) c) (cond (ltb a b) (round binary64 (not s) (b - a) c) (round binary64 (s && ltb b a) (a - b) c)))
    go true A B = pick D false (ltb a b) (fin false 0 (pos 0)) (round binary64 false (b - a) c) (round binary64 (true && ltb b a) (a - b) c) (omega arith) (round_up false (b - a) c D C l A) (round_up (true && ltb b a) (a - b) c D C l B)
    go false A B = pick D false (ltb a b) (fin false 0 (pos 0)) (round binary64 true (b - a) c) (round binary64 (false && ltb b a) (a - b) c) (omega arith) (round_up true (b - a) c D C l A) (round_up (false && ltb b a) (a - b) c D C l B)

pub sub-near : (s : Bool) (L H M K D : ℕ) (x y : Float) → D < 2 ^ 53 → H ≤ M + D → K ≤ L + D → At s L H x → At s M K y → Up D (sub binary64 x y)
unfolding sub add neg
sub-near s L H M K D (fin s' m e) (fin t' n d) l p q h k =
    rw (h.0, k.0)
    (diff_up s (m * up e * down d) (n * up d * down e) (down e * down d) L H M K D (mul-pos (down_pos e) (down_pos d)) l p q (wide_low (m * up e) (down e) L (down d) h.1) (wide (m * up e) (down e) H (down d) h.2)
    (wide_low' (n * up d) (down d) M (down e) k.1) (wide' (n * up d) (down d) K (down e) k.2))
sub-near s L H M K D nan y l p q h k = elim h [ ]
sub-near s L H M K D (inf _) y l p q h k = elim h [ ]
sub-near s L H M K D (fin s' m e) nan l p q h k = elim k [ ]
sub-near s L H M K D (fin s' m e) (inf _) l p q h k = elim k [ ]

-- x is finite and at least L units in size
abbrev pub Down : ℕ → Float → Type 0
Down L nan = ⊥
Down L (inf s) = ⊥
Down L (fin s m e) = L * down e ≤ m * up e * U

pub at_down : (s : Bool) (L H : ℕ) (x : Float) → At s L H x → Down L x
at_down s L H (fin t m e) h = h.1
at_down s L H nan h = elim h [ ]
at_down s L H (inf _) h = elim h [ ]

round_down : (s : Bool) (a c L H : ℕ) → 0 < c → H < 2 ^ 53 → L * c ≤ a * U → a * U ≤ H * c → Down L (round binary64 s a c)
round_down s a c L H C l h k = at_down s L H (round binary64 s a c) (round_at s a c L H C l h k)

-- the difference of two of one sign that are D apart: the first is the larger, or the second
diff_above : (s : Bool) (a b c L H K D : ℕ) → 0 < c → H < 2 ^ 53 → K + D ≤ L → L * c ≤ a * U → a * U ≤ H * c → b * U ≤ K * c → Down D (sum binary64 s a (not s) b c)
unfolding sum
diff_above s a b c L H K D C l p h h' k =
    let P : K * c + D * c ≤ L * c = le_trans (le_of_eq (sym (add-mul K D c))) (mul-le-mul_right c p) in
    rw (le-ltb a b (omega arith)) (go s (omega arith))
  where
    go : (s : Bool) → D * c ≤ (a - b) * U → Down D (cond (beq s (not s)) (round binary64 s (a + b) c) (cond false (round binary64 (not s) (b - a) c) (round binary64 (s && ltb b a) (a - b) c)))
    go true g = round_down (true && ltb b a) (a - b) c D H C l g (omega arith)
    go false g = round_down (false && ltb b a) (a - b) c D H C l g (omega arith)

diff_below : (s : Bool) (a b c H M K D : ℕ) → 0 < c → 0 < D → K < 2 ^ 53 → H + D ≤ M → a * U ≤ H * c → M * c ≤ b * U → b * U ≤ K * c → Down D (sum binary64 s a (not s) b c)
unfolding sum
diff_below s a b c H M K D C d l p h k k' =
    let P : H * c + D * c ≤ M * c = le_trans (le_of_eq (sym (add-mul H D c))) (mul-le-mul_right c p) in
    let z : 0 < D * c = mul-pos d C in
    rw (lt-ltb a b (omega arith)) (go s (omega arith))
  where
    go : (s : Bool) → D * c ≤ (b - a) * U → Down D (cond (beq s (not s)) (round binary64 s (a + b) c) (cond true (round binary64 (not s) (b - a) c) (round binary64 (s && ltb b a) (a - b) c)))
    go true g = round_down false (b - a) c D K C l g (omega arith)
    go false g = round_down true (b - a) c D K C l g (omega arith)

pub sub-above : (s : Bool) (L H M K D : ℕ) (x y : Float) → H < 2 ^ 53 → K + D ≤ L → At s L H x → At s M K y → Down D (sub binary64 x y)
unfolding sub add neg
sub-above s L H M K D (fin s' m e) (fin t' n d) l p h k =
    rw (h.0, k.0)
    (diff_above s (m * up e * down d) (n * up d * down e) (down e * down d) L H K D (mul-pos (down_pos e) (down_pos d)) l p (wide_low (m * up e) (down e) L (down d) h.1) (wide (m * up e) (down e) H (down d) h.2)
    (wide' (n * up d) (down d) K (down e) k.2))
sub-above s L H M K D nan y l p h k = elim h [ ]
sub-above s L H M K D (inf _) y l p h k = elim h [ ]
sub-above s L H M K D (fin s' m e) nan l p h k = elim k [ ]
sub-above s L H M K D (fin s' m e) (inf _) l p h k = elim k [ ]

pub sub-below : (s : Bool) (L H M K D : ℕ) (x y : Float) → 0 < D → K < 2 ^ 53 → H + D ≤ M → At s L H x → At s M K y → Down D (sub binary64 x y)
unfolding sub add neg
sub-below s L H M K D (fin s' m e) (fin t' n d) z l p h k =
    rw (h.0, k.0)
    (diff_below s (m * up e * down d) (n * up d * down e) (down e * down d) H M K D (mul-pos (down_pos e) (down_pos d)) z l p (wide (m * up e) (down e) H (down d) h.2)
    (wide_low' (n * up d) (down d) M (down e) k.1) (wide' (n * up d) (down d) K (down e) k.2))
sub-below s L H M K D nan y z l p h k = elim h [ ]
sub-below s L H M K D (inf _) y z l p h k = elim h [ ]
sub-below s L H M K D (fin s' m e) nan z l p h k = elim k [ ]
sub-below s L H M K D (fin s' m e) (inf _) z l p h k = elim k [ ]

neg-sign : (s : Bool) (L H : ℕ) (x : Float) → At s L H x → At (not s) L H (neg x)
unfolding neg
neg-sign s L H (fin t m e) h = (ap not h.0, h.1, h.2)
neg-sign s L H nan h = elim h [ ]
neg-sign s L H (inf _) h = elim h [ ]

-- of two signs
pub sub-apart : (s : Bool) (L H M K : ℕ) (x y : Float) → H + K < 2 ^ 53 → At s L H x → At (not s) M K y → Down (L + M) (sub binary64 x y)
unfolding sub
sub-apart s L H M K x y l h k = at_down s (L + M) (H + K) (add binary64 x (neg y)) (add_at s L H M K x (neg y) l h (back s (neg-sign (not s) M K y k)))
  where
    back : (s : Bool) → At (not (not s)) M K (neg y) → At s M K (neg y)
    back true g = g
    back false g = g

-- ---- quotients
div-bound : (X E H Y D L B : ℕ) → H * U ≤ B * L → X * U ≤ H * E → L * D ≤ Y * U → X * D * U ≤ B * (Y * E)
div-bound X E H Y D L B q h k =
    let a : X * D * U * U ≤ H * U * (E * D) = le_trans (le_of_eq (ap (λ (z : ℕ). z * U) (mul_right_comm X D U))) (le_trans (mul-le-mul_right U (mul-le-mul_right D h)) (le_of_eq (simp (mul_assoc, mul_comm, mul_left_comm)))) in
    let b : H * U * (E * D) ≤ B * (Y * E) * U = le_trans (mul-le-mul_right (E * D) q) (le_trans (le_of_eq (simp (mul_assoc, mul_comm, mul_left_comm))) (le_trans (mul-le-mul_left (B * E) k) (le_of_eq (simp (mul_assoc, mul_comm, mul_left_comm))))) in
    le_of_mul-le-mul_right (le_trans a b) U_pos

some : (n L D E : ℕ) → 0 < L → 0 < D → L * D ≤ n * E * U → n ≡ 0 → ⊥
some n L D E l d h z =
    let p = mul-pos l d in
    let w : n * E * U ≡ 0 = ap (λ (x : ℕ). x * E * U) z ∙ ap (λ (x : ℕ). x * U) (zero-mul E) in
    omega arith

pub div-up : (t : Bool) (H L M B : ℕ) (x y : Float) → 0 < L → H * U ≤ B * L → B < 2 ^ 53 → Up H x → At t L M y → Up B (div binary64 x y)
unfolding div
div-up t H L M B (fin s m e) (fin t' n d) p q l h k =
    rw (ne_eqb n 0 (some n L (down d) (up d) p (down_pos d) k.1))
    (round_up (unlike s t') (m * up e * down d) (n * up d * down e) B (mul-pos (first n (up d) k.1) (down_pos e)) l (div-bound (m * up e) (down e) H (n * up d) (down d) L B q h k.1))
  where
    first : (n u : ℕ) → L * down d ≤ n * u * U → 0 < n * u
    first n u g = let z = mul-pos p (down_pos d) in omega arith
div-up t H L M B nan y p q l h k = elim h [ ]
div-up t H L M B (inf _) y p q l h k = elim h [ ]
div-up t H L M B (fin s m e) nan p q l h k = elim k [ ]
div-up t H L M B (fin s m e) (inf _) p q l h k = elim k [ ]

-- ---- 2 - x and 1 + x, for an x that is smaller; 1 + x is an eighth at least
pub two_minus : (H : ℕ) (x : Float) → H ≤ U → Up H x → At false U (3 * U) (sub binary64 (of_bits binary64 0x4000000000000000) x)
unfolding sub add neg sum of_bits
two_minus H (fin true n d) l h =
    let g : n * up d * U ≤ U * down d = le_trans h (mul-le-mul_right (down d) l) in
    let p = down_pos d in
    round_at false (2 * down d + n * up d * 1) (1 * down d) U (3 * U) (omega arith) (lit< tt) (omega arith) (omega arith)
two_minus H (fin false n d) l h =
    let g : n * up d * U ≤ U * down d = le_trans h (mul-le-mul_right (down d) l) in
    let p = down_pos d in
    rw (le-ltb (2 * down d) (n * up d * 1) (omega arith)) (round_at false (2 * down d - n * up d * 1) (1 * down d) U (3 * U) (omega arith) (lit< tt) (omega arith) (omega arith))
two_minus H nan l h = elim h [ ]
two_minus H (inf _) l h = elim h [ ]

pub one-plus : (H : ℕ) (x : Float) → H + 134217728 ≤ U → Up H x → At false 134217728 (2 * U) (add binary64 (of_bits binary64 0x3ff0000000000000) x)
unfolding add sum of_bits
one-plus H (fin true n d) l h =
    let g : (H + 134217728) * down d ≤ U * down d = mul-le-mul_right (down d) l in
    let k = add-mul H 134217728 (down d) in
    let p = down_pos d in
    rw (le-ltb (1 * down d) (n * up d * 1) (omega arith))
    (round_at false (1 * down d - n * up d * 1) (1 * down d) 134217728 (2 * U) (omega arith) (lit< tt) (omega arith) (omega arith))
one-plus H (fin false n d) l h =
    let g : (H + 134217728) * down d ≤ U * down d = mul-le-mul_right (down d) l in
    let k = add-mul H 134217728 (down d) in
    let p = down_pos d in
    round_at false (1 * down d + n * up d * 1) (1 * down d) 134217728 (2 * U) (omega arith) (lit< tt) (omega arith) (omega arith)
one-plus H nan l h = elim h [ ]
one-plus H (inf _) l h = elim h [ ]
