-- The test of the sum: what is 1 but for a part of 2 ^ 37 passes it. Assumes nothing.
use mathlib.Core.Path.{◌≡◌, refl, sym, ap, ◌∙◌}
use mathlib.Core.Bool.{Bool, true, false, not, cond, true≢false}
use Prim.Native.Nat.{ℕ, ◌+◌, ◌-◌, ◌*◌, ◌^◌, ◌<◌, ◌≤◌}
use native.Mathlib.Nat.{le_trans, le_of_eq, lt_of_le_of_lt, le_of_mul-le-mul_right, le-mul_of_pos_right, mul-le-mul_right, mul-le-mul_left, mul_assoc, mul_comm, mul_left_comm, mul_right_comm, add-mul}
use native.Mathlib.Omega.{arith}
use borrow.Author.Tests.{le-ltb}
use lib.Dec.{ltb, lit<, lit≤}
use lib.Ieee.{Float, nan, inf, fin, binary64, up, down, round, neg, sum, add, sub, lt, le, of_bits}
use lib.Ieee.Fits.{down_pos, round_is}
use lib.Ieee.Exact.{HasValue, units_val}
use lib.Ieee.Order.{drop, kept}
use lib.Ieee.Scale.{grid, overflow}
use Rattle.floats.specs.Arithmetic.{◌⊖◌, 0f, 1f}
use Rattle.floats.specs.Small.{abs_of}
use Rattle.thermo_types.specs.Composition.{sum_tolerance}
use Rattle.shares.proofs.Rounding.{W, Near, near}
use Rattle.shares.proofs.Totals.{Part}
use Rattle.shares.proofs.Values.{Val, W_pos}

-- x is at most 1 / j in size
abbrev Small : ℕ → Float → Type 0
Small j nan = ⊥
Small j (inf s) = ⊥
Small j (fin s m e) = m * up e * j ≤ down e

-- ---- a fraction of at most half as much is rounded to such an x
half : (a b c d : ℕ) → a * 2 ^ 52 ≤ b * 2 ^ 52 + b + c * 2 ^ 52 → b * 2 ≤ d → c * 4 ≤ d → a ≤ d
half a b c d h k l = omega arith

grid_small : (g a c w j : ℕ) → 0 < c → j * 4 ≤ w → a * (j * 2) ≤ c → Near g (a * w) c → g * j ≤ w
grid_small g a c w j p l h n =
    let x : g * c * j * 2 ^ 52 ≤ a * w * j * 2 ^ 52 + a * w * j + c * j * 2 ^ 52 =
    le_trans (le_of_eq (mul_right_comm (g * c) j (2 ^ 52)))
    (le_trans (mul-le-mul_right j n.0)
    (le_of_eq (add-mul (a * w * 2 ^ 52 + a * w) (c * 2 ^ 52) j ∙ ap (λ (z : ℕ). z + c * 2 ^ 52 * j) (add-mul (a * w * 2 ^ 52) (a * w) j) ∙ simp (mul_right_comm (a * w) (2 ^ 52) j, mul_right_comm c (2 ^ 52) j)))) in
    let y : a * w * j * 2 ≤ c * w = le_trans (le_of_eq (simp (mul_assoc, mul_comm, mul_left_comm))) (mul-le-mul_right w h) in
    let z : c * j * 4 ≤ c * w = le_trans (le_of_eq (mul_assoc c j 4)) (mul-le-mul_left c l) in
    let r : g * c * j ≤ c * w = half (g * c * j) (a * w * j) (c * j) (c * w) x y z in
    le_of_mul-le-mul_right (le_trans (le_of_eq (mul_right_comm g j c)) (le_trans r (le_of_eq (mul_comm c w)))) p

value-small : (g j : ℕ) (s : Bool) (x : Float) → g * j ≤ W → HasValue x s g W → Small j x
value-small g j s (fin t m e) l v =
    le_of_mul-le-mul_right (le_trans (le_of_eq (mul_right_comm (m * up e) j W ∙ ap (λ (z : ℕ). z * j) v.1 ∙ mul_right_comm g (down e) j)) (le_trans (mul-le-mul_right (down e) l) (le_of_eq (mul_comm W (down e))))) W_pos
value-small g j s nan l v = elim v [ ]
value-small g j s (inf _) l v = elim v [ ]

round_value : (s : Bool) (a c : ℕ) → grid binary64 a c < overflow binary64 → HasValue (round binary64 s a c) s (grid binary64 a c) W
round_value s a c h = rw (round_is binary64 s a c) (units_val binary64 s (kept 53 (a * W) c) (drop 53 (a * W) c) h)

round_small : (s : Bool) (a c j : ℕ) → 0 < c → 0 < j → j * 4 ≤ W → a * (j * 2) ≤ c → Small j (round binary64 s a c)
round_small s a c j p q l h =
    let g = grid binary64 a c in
    let r : g * j ≤ W = grid_small g a c W j p l h (near a c p) in
    value-small g j s (round binary64 s a c) r (round_value s a c (lt_of_le_of_lt (le_trans (le-mul_of_pos_right g q) r) (lit< tt)))

-- ---- the difference to 1
pick : (j : ℕ) (b : Bool) (x y : Float) → Small j x → Small j y → Small j (cond b x y)
pick j true x y h k = h
pick j false x y h k = k

near-one : (a d q w : ℕ) → 0 < w → a * w ≡ q * d → Part 37 q w → (a * 2 ^ 37 ≤ d * 2 ^ 37 + d) × (d * 2 ^ 37 ≤ a * 2 ^ 37 + d)
near-one a d q w p e h =
    let hi : q * 2 ^ 37 * d ≤ (w * 2 ^ 37 + w) * d = mul-le-mul_right d h.0 in
    let lo : w * 2 ^ 37 * d ≤ (q * 2 ^ 37 + w) * d = mul-le-mul_right d h.1 in
    let x = add-mul (w * 2 ^ 37) w d in
    let y = add-mul (q * 2 ^ 37) w d in
    let z = mul_right_comm q (2 ^ 37) d in
    let u = mul_right_comm w (2 ^ 37) d in
    let v = mul_comm w d in
    let f = add-mul (d * 2 ^ 37) d w in
    let g = add-mul (a * 2 ^ 37) d w in
    let i = mul_right_comm a (2 ^ 37) w in
    let k = mul_right_comm d (2 ^ 37) w in
    (le_of_mul-le-mul_right (omega arith) p, le_of_mul-le-mul_right (omega arith) p)

pub minus_one : (q : ℕ) (x : Float) → Val q x → Part 37 q W → Small (2 ^ 36) (x ⊖ 1f)
unfolding sub add neg sum of_bits
minus_one q (fin true m e) v h = absurd (true≢false v.0)
minus_one q (fin false m e) v h =
    let p = down_pos e in
    let n = near-one (m * up e) (down e) q W W_pos v.1 h in
    pick (2 ^ 36) (ltb (m * up e * 1) (1 * down e)) (round binary64 true (1 * down e - m * up e * 1) (down e * 1)) (round binary64 false (m * up e * 1 - 1 * down e) (down e * 1))
    (round_small true (1 * down e - m * up e * 1) (down e * 1) (2 ^ 36) (omega arith) (lit< tt) (lit≤ tt) (omega arith))
    (round_small false (m * up e * 1 - 1 * down e) (down e * 1) (2 ^ 36) (omega arith) (lit< tt) (lit≤ tt) (omega arith))
minus_one q nan v h = elim v [ ]
minus_one q (inf _) v h = elim v [ ]

less : (x : Float) → Small (2 ^ 36) x → Small (2 ^ 35) x
less (fin s m e) h = omega arith
less nan h = elim h [ ]
less (inf _) h = elim h [ ]

from_zero : (x : Float) → Small (2 ^ 36) x → Small (2 ^ 35) (0f ⊖ x)
unfolding sub add neg sum of_bits
from_zero (fin true m e) h = let p = down_pos e in round_small false (0 * down e + m * up e * 1) (1 * down e) (2 ^ 35) (omega arith) (lit< tt) (lit≤ tt) (omega arith)
from_zero (fin false m e) h =
    let p = down_pos e in
    pick (2 ^ 35) (ltb (0 * down e) (m * up e * 1)) (round binary64 true (m * up e * 1 - 0 * down e) (1 * down e)) (round binary64 false (0 * down e - m * up e * 1) (1 * down e))
    (round_small true (m * up e * 1 - 0 * down e) (1 * down e) (2 ^ 35) (omega arith) (lit< tt) (lit≤ tt) (omega arith))
    (round_small false (0 * down e - m * up e * 1) (1 * down e) (2 ^ 35) (omega arith) (lit< tt) (lit≤ tt) (omega arith))
from_zero nan h = elim h [ ]
from_zero (inf _) h = elim h [ ]

abs-small : (x : Float) → Small (2 ^ 36) x → Small (2 ^ 35) (abs_of x)
abs-small x h = pick (2 ^ 35) (le x 0f) (0f ⊖ x) x (from_zero x h) (less x h)

passes : (x : Float) → Small (2 ^ 35) x → not (lt sum_tolerance x) ≡ true
unfolding lt of_bits
passes (fin true m e) h = refl
passes (fin false m e) h = rw (le-ltb (7737125245533627 * down e) (m * up e * 2 ^ 86) (le_trans (le_of_eq (sym (mul_assoc (m * up e) (2 ^ 35) (2 ^ 51)))) (le_trans (mul-le-mul_right (2 ^ 51) h) (omega arith))))
passes nan h = elim h [ ]
passes (inf _) h = elim h [ ]

pub near-one-passes : (q : ℕ) (x : Float) → Val q x → Part 37 q W → not (lt sum_tolerance (abs_of (x ⊖ 1f))) ≡ true
near-one-passes q x v h = passes (abs_of (x ⊖ 1f)) (abs-small (x ⊖ 1f) (minus_one q x v h))
