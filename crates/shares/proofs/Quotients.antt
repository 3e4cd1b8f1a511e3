-- A number over the sum that it is part of, in units. Assumes nothing.
use mathlib.Core.Path.{◌≡◌, refl, sym, ap, ◌∙◌}
use mathlib.Core.Bool.{true, false, true≢false}
use Prim.Native.Nat.{ℕ, zero, suc, ◌*◌, ◌<◌, ◌≤◌}
use native.Mathlib.Nat.{zero-lt-suc, lt_of_le_of_lt, mul_assoc, mul_comm, mul_left_comm, mul_right_comm, mul-pos, zero-mul, eq_of_mul-eq-mul_right}
use native.Mathlib.Omega.{arith}
use borrow.Author.Tests.{ne_eqb}
use lib.Dec.{lit<, lit≤}
use lib.IntN.{pos}
use lib.Ieee.{Float, fin, binary64, up, down, span, climb, size, odd, units, round, div}
use lib.Ieee.Fits.{down_pos}
use lib.Ieee.Positive.{first_pos}
use lib.Ieee.Scale.{grid, overflow, round_same, round_val}
use Rattle.floats.specs.Arithmetic.{◌⊘◌}
use Rattle.shares.proofs.Rounding.{W, Near, near}
use Rattle.shares.proofs.Totals.{share-most}
use Rattle.shares.proofs.Values.{Is, Val, W_pos, is_val}

-- y is n / s of 1, rounded
pub record Share (n s : ℕ) (y : Float) : Type 0 where
  pub k : ℕ
  pub is : Is k y
  pub near_to : Near k (n * W) s

-- a / e = n / w and b / d = s / w
div-cross : (a e b d w n s : ℕ) → 0 < w → a * w ≡ n * e → b * w ≡ s * d → a * d * s ≡ n * (b * e)
div-cross a e b d w n s p h k =
    eq_of_mul-eq-mul_right w p (a * d * s) (n * (b * e))
    (mul_right_comm (a * d) s w ∙ ap (λ (z : ℕ). z * s) (mul_right_comm a d w ∙ ap (λ (z : ℕ). z * d) h)
    ∙ mul_assoc (n * e) d s ∙ ap (λ (z : ℕ). n * e * z) (mul_comm d s ∙ sym k) ∙ simp (mul_assoc, mul_comm, mul_left_comm))

pub top : (b w s d : ℕ) → 0 < s → 0 < d → b * w ≡ s * d → 0 < b
top zero w s d p q h = omega (arith, mul-pos p q)
top (suc b) w s d p q h = zero-lt-suc b

pub zero_round : (c : ℕ) → 0 < c → round binary64 true 0 c ≡ fin true 0 (pos 0)
unfolding round size span climb units odd
zero_round c p = round_same binary64 true 0 c 0 1 p (lit< tt) (sym (zero-mul c)) ∙ refl

under : (g : ℕ) → g ≤ W * 4 → g < overflow binary64
under g l = lt_of_le_of_lt l (lit< tt)

zero_near : (s w : ℕ) → Near 0 (0 * w) s
zero_near s w = (omega arith, omega arith)

zero_share : (s : ℕ) (y : Float) → y ≡ fin true 0 (pos 0) → Share 0 s y
zero_share s y e = rw e (record { k = 0; is = (refl, refl); near_to = zero_near s W })

pub share : (n s : ℕ) (x t : Float) → Is n x → Val s t → 0 < s → n ≤ s * 2 → Share n s (x ⊘ t)
unfolding div
share n s x (fin true b d) h v p l = absurd (true≢false v.0)
share n s (fin false a e) (fin false b d) h v p l =
    let u : 0 < b * up d = top (b * up d) W s (down d) p (down_pos d) v.1 in
    let r : 0 < b = first_pos b (up d) u in
    let g = grid binary64 n s in
    rw (ne_eqb b 0 (λ z. omega arith), round_same binary64 false (a * up e * down d) (b * up d * down e) n s (mul-pos u (down_pos e)) p (div-cross (a * up e) (down e) (b * up d) (down d) W n s W_pos h v.1))
    (record { k = g; is = is_val g (round binary64 false n s) (round_val binary64 n s (under g (share-most g n W s (lit≤ tt) p l (near n s p)))); near_to = near n s p })
share n s (fin true a e) (fin false b d) h v p l =
    let u : 0 < b * up d = top (b * up d) W s (down d) p (down_pos d) v.1 in
    let r : 0 < b = first_pos b (up d) u in
    rw (ne_eqb b 0 (λ z. omega arith), h.0, h.1, zero-mul, zero-mul)
    (zero_share s (round binary64 true 0 (b * up d * down e)) (zero_round (b * up d * down e) (mul-pos u (down_pos e))))
share n s x lib.Ieee.nan h v p l = elim v [ ]
share n s x (lib.Ieee.inf _) h v p l = elim v [ ]
share n s lib.Ieee.nan (fin false b d) h v p l = elim h [ ]
share n s (lib.Ieee.inf _) (fin false b d) h v p l = elim h [ ]
