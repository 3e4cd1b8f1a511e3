-- Counts as floats: each up to 2^53 is exact, and so is their sum. Assumes nothing.
use Prim.Native.Nat.{ℕ, zero, suc, ◌+◌, ◌*◌, ◌^◌, ◌<◌, ◌≤◌}
use mathlib.Core.Path.{◌≡◌, refl, sym, ap, ◌∙◌}
use mathlib.Core.Bool.{true, false, not, true≢false}
use native.Mathlib.Nat.{mul-one, mul_right_comm, mul-pos, add-mul}
use native.Mathlib.Omega.{arith}
use borrow.Author.Tests.{lt-ltb}
use lib.Dec.{T}
use lib.Ieee.{Float, fin, binary64, up, down, span, climb, size, odd, units, round, of_int, of_bits, lt, fits}
use lib.Ieee.Fits.{down_pos, of_int-fits}
use lib.Ieee.Exact.{HasValue}
use lib.Ieee.Back.{round_whole}
use lib.Ieee.Scale.{round_same}
use Rattle.floats.specs.Arithmetic.{◌⊕◌, 0f}
use Rattle.floats.specs.Small.{is_finite, positive}
use Rattle.floats.specs.Fold.{fold_to, sum_to}
use Rattle.shares.proofs.Rounding.{W}
use Rattle.shares.proofs.Values.{Is, Val, W_pos, is_val, is-plus, add_is}
use Rattle.pool.specs.Pool.{total_to, amount}

amount-value : (c : ℕ) → c ≤ 2 ^ 53 → HasValue (amount c) false c 1
unfolding of_int
amount-value c l = round_whole binary64 false c l

-- in units of the smallest float
in_units : (x : Float) (c : ℕ) → HasValue x false c 1 → Val (c * W) x
in_units (fin s m e) c h = (h.0, ap (λ (z : ℕ). z * W) (sym (mul-one (m * up e)) ∙ h.1) ∙ mul_right_comm c (down e) W)
in_units lib.Ieee.nan c h = elim h [ ]
in_units (lib.Ieee.inf _) c h = elim h [ ]

pub amount_units : (c : ℕ) → c ≤ 2 ^ 53 → Val (c * W) (amount c)
amount_units c l = in_units (amount c) c (amount-value c l)

pub amount-is : (c : ℕ) → c ≤ 2 ^ 53 → Is (c * W) (amount c)
amount-is c l = is_val (c * W) (amount c) (amount_units c l)

pub amount-plus : (c : ℕ) → c ≤ 2 ^ 53 → not (lt (amount c) 0f) ≡ true
amount-plus c l = is-plus (c * W) (amount c) (amount-is c l)

pub amount-fits : (c : ℕ) → T (fits binary64 (amount c))
amount-fits c = of_int-fits binary64 _

value-positive : (x : Float) (c : ℕ) → HasValue x false c 1 → 0 < c → positive x ≡ true
unfolding positive is_finite lt of_bits
value-positive (fin true m e) c h p = absurd (true≢false h.0)
value-positive (fin false m e) c h p = lt-ltb (0 * down e) (m * up e * 1) (omega (arith, h.1, mul-pos p (down_pos e)))
value-positive lib.Ieee.nan c h p = elim h [ ]
value-positive (lib.Ieee.inf _) c h p = elim h [ ]

pub amount-positive : (c : ℕ) → 0 < c → c ≤ 2 ^ 53 → positive (amount c) ≡ true
amount-positive c p l = value-positive (amount c) c (amount-value c l) p

-- ---- sums
add-amounts : (a b : ℕ) → a + b ≤ 2 ^ 53 → amount a ⊕ amount b ≡ amount (a + b)
unfolding of_int
add-amounts a b l =
    add_is (a * W) (b * W) (amount a) (amount b) (amount_units a (omega arith)) (amount-is b (omega arith))
    ∙ round_same binary64 false (a * W + b * W) W (a + b) 1 W_pos (omega arith) (mul-one (a * W + b * W) ∙ sym (add-mul a b W))

pub none : 0f ≡ amount 0
unfolding of_bits of_int round size span climb units odd
none = refl

pub sum-exact : (c : ℕ → ℕ) (n : ℕ) → total_to c n ≤ 2 ^ 53 → sum_to (λ i. amount (c i)) n ≡ amount (total_to c n)
unfolding fold_to
sum-exact c zero l = none
sum-exact c (suc n) l = ap (λ (s : Float). s ⊕ amount (c n)) (sum-exact c n (omega arith)) ∙ add-amounts (total_to c n) (c n) l
