-- `numerics::exp_far` meets its contract. Each arm returns what `exp_of` picks where the tests are as the arm found them; what the two calls require is in `proofs/Limits.antt`.
use Rattle.std.proofs.Common.{◌≡◌, ◌<◌, ℤ, sym, refl, ap, ◌∙◌, arith, lit<, w64, to_z, of_z, false}
use lib.Signed.{mag}
use lib.Ieee.{Float, is_nan, of_bits, neg, to_signed, lt}
use mir.ValLaws.{to_z-of_z}
use Rattle.floats.specs.Arithmetic.{#}
use Rattle.numerics.specs.Numerics.{exp_of, exp_from, exp_shift}
use Rattle.floats.proofs.Nan.{is_nan_lem}
use Rattle.numerics.proofs.Bounds.{Within, cut-within, above-min, below-max}
use Rattle.numerics.proofs.Powers.{small}
use Rattle.numerics.proofs.Limits.{v-within, shift_within}
use Rattle.numerics.proofs.exp_far.Goals as goal

-- the limit below, as the source has it: a negation
below : (v : Float) → lt v (neg (# 0x40874910d52d3051)) ≡ lt v (# 0xc0874910d52d3051)
unfolding neg of_bits
below v = refl

-- where none of the tests passed, the shifted argument is at most 1493 in size
within :
    (v : Float) → false ≡ is_nan v → lt (# 0x40862e42fefa39ef) v ≡ false → lt v (neg (# 0x40874910d52d3051)) ≡ false
    → Within 1493 (exp_shift v)
within v n above under = shift_within v (v-within v (sym n) above (sym (below v) ∙ under))

module _ (v s : Float) (k : ℤ) (is : s ≡ exp_shift v) (cut : k ≡ to_signed 63 s) (w : Within 1493 (exp_shift v)) where
  k-is : k ≡ to_signed 63 (exp_shift v)
  k-is = cut ∙ ap (λ (x : Float). to_signed 63 x) is

  k-small : mag k < 1494
  k-small = rw k-is (cut-within 1493 (exp_shift v) w)

  k-back : to_z w64 (of_z w64 k) ≡ k
  k-back = let h = k-small in to_z-of_z w64 k (small k (omega arith))

pub returns-then-is_nan : goal.returns-then-is_nan
unfolding exp_of
returns-then-is_nan c = rw (sym c.if-is_nan.ensures.value) (is_nan_lem c.args.v (sym c.if-is_nan.ensures.value))

pub returns-then-v : goal.returns-then-v
unfolding exp_of
returns-then-v c = rw (sym c.if-is_nan.ensures.value, c.if-v.true)

pub returns-then-v-2 : goal.returns-then-v-2
unfolding exp_of
returns-then-v-2 c = rw (sym c.if-is_nan.ensures.value, c.if-v.false, sym (below c.args.v), c.if-v-2.true)

pub truncating_f64_to_i64-requires : goal.truncating_f64_to_i64-requires
truncating_f64_to_i64-requires c =
    let x = exp_shift c.args.v in
    let w = within c.args.v c.if-is_nan.ensures.value c.if-v.false c.if-v-2.false in
    rw c.exp_shift.ensures (record { lower_bound = above-min 1493 x (lit< tt) w; upper_bound = below-max 1493 x (lit< tt) w })

pub exp_from-requires : goal.exp_from-requires
exp_from-requires c =
    let w = within c.args.v c.if-is_nan.ensures.value c.if-v.false c.if-v-2.false in
    let k = c.truncating_f64_to_i64 in
    let h = k-small c.args.v c.exp_shift.result k.result c.exp_shift.ensures k.ensures w in
    rw (k-back c.args.v c.exp_shift.result k.result c.exp_shift.ensures k.ensures w) (omega arith)

pub returns-else-v-2 : goal.returns-else-v-2
unfolding exp_of
returns-else-v-2 c =
    let v = c.args.v in
    let w = within v c.if-is_nan.ensures.value c.if-v.false c.if-v-2.false in
    let k = c.truncating_f64_to_i64 in
    rw (sym c.if-is_nan.ensures.value, c.if-v.false, sym (below v), c.if-v-2.false)
    (c.exp_from.ensures
    ∙ ap (λ (k : ℤ). exp_from v k)
    (k-back v c.exp_shift.result k.result c.exp_shift.ensures k.ensures w ∙ k-is v c.exp_shift.result k.result c.exp_shift.ensures k.ensures w))
