use Rattle.std.proofs.Common.{◌≡◌, ℕ, ◌+◌, ◌-◌, ◌*◌, ◌^◌, ◌<◌, ◌≤◌, ap, sym, ◌∙◌, arith, lt_irrefl, lt_of_not-le, lt_of_le_of_lt, mul-le-mul_right, mul-lt-mul_of_pos_right, pow_pos, pow_mono, pow-add, pow-suc}
use lib.Count.{count_leading_zeros}
use Rattle.std.proofs.lemmas.Nat.{leading_top}
use Rattle.numerics.proofs.shift_up.Goals as goal

-- the leading one stands at 2 ^ t, with u more to 2 ^ 52
record Top (digits : ℕ) : Type 0 where
  t : ℕ
  u : ℕ
  zeros : count_leading_zeros 64 digits ≡ u + 11
  places : t + u ≡ 52
  low : 2 ^ t ≤ digits
  high : digits < 2 ^ t * 2

top : (digits : ℕ) → 0 < digits → digits < 2 ^ 53 → Top digits
top digits p h =
    let w : digits < 2 ^ 64 = omega arith in
    let (t, e, l, r) = leading_top 64 digits p w in
    let b : t < 53 = lt_of_not-le (λ (g : 53 ≤ t). lt_irrefl (2 ^ 53) (lt_of_le_of_lt (pow_mono g) (lt_of_le_of_lt l h))) in
    record { t = t; u = 52 - t; zeros = omega arith; places = omega arith; low = l; high = rw pow-suc at r }

pub overflow_sub-result : goal.overflow_sub-result
overflow_sub-result c = let t = top c.args.digits c.requires.0 c.requires.1 in omega arith

pub returns : goal.returns
returns c =
    let t = top c.args.digits c.requires.0 c.requires.1 in
    let j : count_leading_zeros 64 c.args.digits - 11 ≡ t.u = omega arith in
    let e : 2 ^ 52 ≡ 2 ^ t.t * 2 ^ t.u = ap (λ z. 2 ^ z) (sym t.places) ∙ pow-add 2 t.t t.u in
    let l : 2 ^ t.t * 2 ^ t.u ≤ c.args.digits * 2 ^ t.u = mul-le-mul_right (2 ^ t.u) t.low in
    let r : c.args.digits * 2 ^ t.u < 2 ^ t.t * 2 * 2 ^ t.u = mul-lt-mul_of_pos_right t.high (pow_pos t.u) in
    rw j (omega arith, omega arith)
