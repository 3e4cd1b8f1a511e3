-- What `exp`'s proof needs of its argument: between the two limits v is at most 746 in size, so C * v ± 0.5 is at most 1493. Assumes nothing.
use Rattle.std.proofs.Common.{◌≡◌, ◌*◌, Bool, true, false, cond, true≢false, arith, lit≤, ltb-false}
use lib.Ieee.{Float, nan, inf, fin, up, down, lt, is_nan, of_bits}
use Rattle.floats.specs.Arithmetic.{#, ◌⊕◌, ◌⊖◌, ◌⊗◌, ½, 0f}
use Rattle.numerics.specs.Numerics.{C, exp_shift}
use Rattle.numerics.proofs.Bounds.{Within, add-within, sub_within, mul-within}

pub v-within : (v : Float) → is_nan v ≡ false → lt (# 0x40862e42fefa39ef) v ≡ false → lt v (# 0xc0874910d52d3051) ≡ false → Within 746 v
unfolding is_nan lt of_bits
v-within nan a b c = absurd (true≢false a)
v-within (inf true) a b c = absurd (true≢false c)
v-within (inf false) a b c = absurd (true≢false b)
v-within (fin true m e) a b c = let h = ltb-false (0x174910d52d3051 * down e) (m * up e * 8796093022208) c in omega arith
v-within (fin false m e) a b c = let h = ltb-false (0x162e42fefa39ef * down e) (m * up e * 8796093022208) b in omega arith

pub C-within : Within 2 C
unfolding of_bits
C-within = lit≤ tt

½-within : Within 1 ½
unfolding of_bits
½-within = lit≤ tt

pub shift_within : (v : Float) → Within 746 v → Within 1493 (exp_shift v)
unfolding exp_shift
shift_within v h = go (lt v 0f)
  where
    Cv : Within 1492 (C ⊗ v)
    Cv = mul-within 2 746 C v (lit≤ tt) C-within h

    go : (b : Bool) → Within 1493 (cond b (C ⊗ v ⊖ ½) (C ⊗ v ⊕ ½))
    go true = sub_within 1492 1 (C ⊗ v) ½ (lit≤ tt) Cv ½-within
    go false = add-within 1492 1 (C ⊗ v) ½ (lit≤ tt) Cv ½-within
