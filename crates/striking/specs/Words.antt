-- When two words of answer blocks count as equal: as 64 bits, or as the floats +0 and -0. Assumes nothing.
use Rattle.std.specs.Prelude.{ℕ, ◌≡◌, ◌⊎◌}

-- the bits of +0 or of -0
abbrev pub ZeroWord : ℕ → Type 0
ZeroWord w = (w ≡ 0) ⊎ (w ≡ 0x8000000000000000)

pub record SameWord (a b : ℕ) : Type 0 where
  pub either : (a ≡ b) ⊎ (ZeroWord a × ZeroWord b)
