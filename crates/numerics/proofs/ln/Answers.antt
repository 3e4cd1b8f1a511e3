-- `numerics::ln` meets its contract. Each arm returns what `ln_of` picks where the tests are as the arm found them; past all tests v is positive.
use Rattle.std.proofs.Common.{◌≡◌, zero, suc, ◌+◌, ◌*◌, true, false, T, refl, sym, true≢false, zero-lt-suc, mul-pos, zero-mul, arith, ltb-false, lt-ltb}
use lib.Ieee.{Float, nan, inf, fin, binary64, up, down, of_bits, lt, eq, is_nan}
use lib.Ieee.Fits.{up_pos}
use lib.Ieee.Positive.{positive}
use Rattle.floats.specs.Arithmetic.{0f, ∞}
use Rattle.numerics.specs.Numerics.{ln_of}
use Rattle.floats.proofs.Nan.{is_nan_lem}
use Rattle.numerics.proofs.ln.Goals as goal

past : (v : Float) → false ≡ is_nan v → lt v 0f ≡ false → eq v 0f ≡ false → eq v ∞ ≡ false → T (positive v)
unfolding is_nan lt eq of_bits
past nan a b c d = absurd (true≢false (sym a))
past (inf true) a b c d = absurd (true≢false b)
past (inf false) a b c d = absurd (true≢false d)
past (fin true zero e) a b c d = absurd (true≢false (rw (zero-mul (up e), zero-mul (down e)) at c))
past (fin true (suc m) e) a b c d = let p = mul-pos (zero-lt-suc m) (up_pos e) in let h = ltb-false 0 (suc m * up e * 1 + 0 * down e) b in omega arith
past (fin false zero e) a b c d = absurd (true≢false (rw (zero-mul (up e), zero-mul (down e)) at c))
past (fin false (suc m) e) a b c d = rw (lt-ltb 0 (suc m) (omega arith)) tt

made_nan : of_bits binary64 0x7ff8000000000000 ≡ nan
unfolding of_bits
made_nan = refl

minus_inf : of_bits binary64 0xfff0000000000000 ≡ inf true
unfolding of_bits
minus_inf = refl

pub returns-then-is_nan : goal.returns-then-is_nan
unfolding ln_of
returns-then-is_nan c = rw (sym c.if-is_nan.ensures.value) (is_nan_lem c.args.v (sym c.if-is_nan.ensures.value))

pub returns-then-v : goal.returns-then-v
unfolding ln_of
returns-then-v c = rw (sym c.if-is_nan.ensures.value, c.if-v.true, made_nan)

pub returns-then-v-2 : goal.returns-then-v-2
unfolding ln_of
returns-then-v-2 c = rw (sym c.if-is_nan.ensures.value, c.if-v.false, c.if-v-2.true, minus_inf)

pub ln_positive-requires : goal.ln_positive-requires
ln_positive-requires c = past c.args.v c.if-is_nan.ensures.value c.if-v.false c.if-v-2.false c.if-v-3.false
