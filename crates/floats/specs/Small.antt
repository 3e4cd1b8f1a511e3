-- The small functions on floats: finite and positive tests, max, min, abs, a middle, bits. Assumes nothing.
use Rattle.std.specs.Prelude.{ℕ, Bool, true, false, cond, ◌&&◌, Float}
use Rattle.std.specs.Float.{nan, inf, fin, binary64}
use Rattle.std.specs.Float.Ieee.{lt, le, is_nan, of_bits, to_bits}
use Rattle.floats.specs.Arithmetic.{◌⊕◌, ◌⊖◌, ◌⊘◌, 0f, 2f}

-- neither a NaN nor infinite
unfoldable pub is_finite : Float → Bool
is_finite nan = false
is_finite (inf s) = false
is_finite (fin s m e) = true

-- finite and above 0
unfoldable pub positive : Float → Bool
positive v = is_finite v && lt 0f v

-- Rust's max and min: a NaN is passed over; of two equal values the first
abbrev pub max_of : Float → Float → Float
max_of a b = cond (is_nan a) b (cond (lt a b) b a)

abbrev pub min_of : Float → Float → Float
min_of a b = cond (is_nan a) b (cond (lt b a) b a)

-- |x|: 0 - x is exact, and +0 at both zeros
abbrev pub abs_of : Float → Float
abs_of x = cond (le x 0f) (0f ⊖ x) x

-- bisection: halfway from lo to hi
abbrev pub middle : Float → Float → Float
middle lo hi = lo ⊕ (hi ⊖ lo) ⊘ 2f

-- the bits of x; `to_bits` writes a NaN as 0x7ff8000000000000
abbrev pub bits_of : Float → ℕ
bits_of x = to_bits binary64 x

-- the float of any 64 bits; `of_bits` gives the one NaN for every pattern of a NaN
abbrev pub float_of : ℕ → Float
float_of b = of_bits binary64 b

-- the float in word k
abbrev pub float : (ℕ → ℕ) → ℕ → Float
float w k = float_of (w k)
