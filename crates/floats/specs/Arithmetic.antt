-- f64 arithmetic as the definitions write it: each ⊕ ⊖ ⊗ ⊘ is one operation, rounded once, none fused. Assumes nothing.
use Rattle.std.specs.Prelude.{ℕ, Float}
use Rattle.std.specs.Float.{binary64}
use Rattle.std.specs.Float.Ieee.{add, sub, mul, div, of_bits}

infixl 6 ◌⊕◌
infixl 6 ◌⊖◌
infixl 7 ◌⊗◌
infixl 7 ◌⊘◌
abbrev pub ◌⊕◌ : Float → Float → Float
x ⊕ y = add binary64 x y

abbrev pub ◌⊖◌ : Float → Float → Float
x ⊖ y = sub binary64 x y

abbrev pub ◌⊗◌ : Float → Float → Float
x ⊗ y = mul binary64 x y

abbrev pub ◌⊘◌ : Float → Float → Float
x ⊘ y = div binary64 x y

-- the float of a bit pattern
abbrev pub # : ℕ → Float
# b = of_bits binary64 b

-- +0, 0.5, 1, 2, +infinity, -infinity
abbrev pub 0f : Float
0f = # 0

abbrev pub ½ : Float
½ = # 0x3fe0000000000000

abbrev pub 1f : Float
1f = # 0x3ff0000000000000

abbrev pub 2f : Float
2f = # 0x4000000000000000

abbrev pub ∞ : Float
∞ = # 0x7ff0000000000000

abbrev pub -∞ : Float
-∞ = # 0xfff0000000000000

-- four times the machine epsilon, 2^-50
abbrev pub 4ε : Float
4ε = # 0x3cd0000000000000
