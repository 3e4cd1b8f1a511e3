-- ln, exp and powf of docs/FORMAT.md, "How it is calculated", step by step. Each ⊕ ⊖ ⊗ ⊘ is one f64 operation in the written order; constants by their bits (fdlibm's). Assumes nothing.
use Rattle.std.specs.Prelude.{true, false, cond, ℤ, pos, ◌+ℤ◌, ◌-ℤ◌, int_div, is_nan, Float}
use Rattle.std.specs.Float.{nan, inf, fin, binary64}
use Rattle.std.specs.Float.Ieee.{lt, eq, of_int, to_signed, minus, size}
use Rattle.floats.specs.Arithmetic.{◌⊕◌, ◌⊖◌, ◌⊗◌, ◌⊘◌, #, 0f, ½, 1f, 2f, ∞}

abbrev pub whole : ℤ → Float
whole k = of_int binary64 k

-- 2 ^ a
abbrev pub pow2 : ℤ → Float
pow2 a = fin false 1 a

-- ---- constants, by their bits (fdlibm's)
abbrev pub A : Float
A = # 0x3fe62e42fee00000

abbrev pub B : Float
B = # 0x3dea39ef35793c76

abbrev pub C : Float
C = # 0x3ff71547652b82fe

-- 1.4142135623730951
abbrev pub √2 : Float
√2 = # 0x3ff6a09e667f3bcd

-- ---- ln

-- a positive finite v is 2 ^ k × m with 1 ≤ m < 2: v is n * 2 ^ e, and n has `size n` binary digits
abbrev pub mantissa : Float → Float
mantissa nan = nan
mantissa (inf s) = inf s
mantissa (fin s n e) = fin s n (minus 1 (size n))

abbrev pub exponent : Float → ℤ
exponent nan = pos 0
exponent (inf s) = pos 0
exponent (fin s n e) = e +ℤ minus (size n) 1

-- the result from k and m, after the halving
unfoldable pub ln_from : Float → Float → Float
ln_from k m =
    let f = m ⊖ 1f in
    let s = f ⊘ (2f ⊕ f) in
    let z = s ⊗ s in
    let h = ½ ⊗ f ⊗ f in
    let L = z ⊗ (# 0x3fe5555555555593 ⊕ z ⊗ (# 0x3fd999999997fa04 ⊕ z ⊗ (# 0x3fd2492494229359 ⊕ z ⊗ (# 0x3fcc71c51d8e78af ⊕ z ⊗ (# 0x3fc7466496cb03de ⊕ z ⊗ (# 0x3fc39a09d078c69f ⊕ z ⊗ # 0x3fc2f112df3e5244)))))) in
    k ⊗ A ⊖ ((h ⊖ (s ⊗ (h ⊕ L) ⊕ k ⊗ B)) ⊖ f)

-- if m > 1.4142135623730951, halve m and add 1 to k
unfoldable pub ln_split : ℤ → Float → Float
unfolding ln_from
ln_split k m = cond (lt √2 m) (ln_from (whole (k +ℤ pos 1)) (m ⊗ ½)) (ln_from (whole k) m)

unfoldable pub ln_of : Float → Float
unfolding ln_split
ln_of v = cond (is_nan v) nan (cond (lt v 0f) nan (cond (eq v 0f) (inf true) (cond (eq v ∞) v (ln_split (exponent v) (mantissa v)))))

-- ---- exp

unfoldable pub exp_from : Float → ℤ → Float
exp_from v k =
    let hi = v ⊖ whole k ⊗ A in
    let lo = whole k ⊗ B in
    let r = hi ⊖ lo in
    let t = r ⊗ r in
    let c = r ⊖ t ⊗ (# 0x3fc555555555553e ⊕ t ⊗ (# 0xbf66c16c16bebd93 ⊕ t ⊗ (# 0x3f11566aaf25de2c ⊕ t ⊗ (# 0xbebbbd41c5d26bf1 ⊕ t ⊗ # 0x3e66376972bea4d0)))) in
    let y = 1f ⊕ (r ⊗ c ⊘ (2f ⊖ c) ⊖ lo ⊕ hi) in
    let a = int_div k (pos 2) in
    y ⊗ pow2 a ⊗ pow2 (k -ℤ a)

-- C × v plus 0.5 (minus, if v < 0)
unfoldable pub exp_shift : Float → Float
exp_shift v = cond (lt v 0f) (C ⊗ v ⊖ ½) (C ⊗ v ⊕ ½)

unfoldable pub exp_of : Float → Float
unfolding exp_from exp_shift
exp_of v = cond (is_nan v) nan (cond (lt (# 0x40862e42fefa39ef) v) ∞ (cond (lt v (# 0xc0874910d52d3051)) 0f (exp_from v (to_signed 63 (exp_shift v)))))

-- ---- powf, for b > 0
abbrev pub powf_of : Float → Float → Float
powf_of b e = exp_of (e ⊗ ln_of b)
