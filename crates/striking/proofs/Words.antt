-- Floats that are equal up to the sign of zero are written as words that count as equal. Assumes nothing.
use mathlib.Core.Path.{◌≡◌, refl, ap, ◌∙◌}
use mathlib.Core.Logic.{inl, inr}
use Prim.Native.Nat.{ℕ, zero, suc, ◌+◌, ◌*◌, ◌/◌, ◌^◌, ◌-◌}
use native.Mathlib.Nat.{zero-mul, zero-div}
use mathlib.Core.Bool.{Bool, true, false, cond}
use lib.Ieee.{Float, nan, inf, fin, binary64, to_bits, up, down, size, low, prec, hid, top}
use Rattle.floats.specs.Small.{bits_of}
use Rattle.zeros.specs.Same.{◌≈◌}
use Rattle.zeros.proofs.Zero.{Zero, zero_of_≈, solid_≈}
use Rattle.striking.specs.Words.{ZeroWord, SameWord}

zero_bits : (x : Float) → Zero x → ZeroWord (bits_of x)
unfolding to_bits
zero_bits (fin s zero e) z = go s
  where
    none : 0 * up e * 2 ^ low binary64 / down e ≡ 0
    none = ap (λ (a : ℕ). a * 2 ^ low binary64 / down e) (zero-mul (up e)) ∙ ap (λ (a : ℕ). a / down e) (zero-mul (2 ^ low binary64)) ∙ zero-div (down e)

    bits : Bool → ℕ → ℕ
    bits s n = cond s (top binary64) 0 + (size n - prec binary64) * hid binary64 + n / 2 ^ (size n - prec binary64)

    go : (s : Bool) → ZeroWord (bits s (0 * up e * 2 ^ low binary64 / down e))
    go true = inr (ap (bits true) none ∙ (unfold size in refl))
    go false = inl (ap (bits false) none ∙ (unfold size in refl))
zero_bits nan z = elim z [ ]
zero_bits (inf _) z = elim z [ ]
zero_bits (fin s (suc _) e) z = elim z [ ]

pub same_word : {x y : Float} → x ≈ y → SameWord (bits_of x) (bits_of y)
same_word {x} {y} p = go x p
  where
    go : (x : Float) → x ≈ y → SameWord (bits_of x) (bits_of y)
    go nan p = record { either = inl (ap bits_of (solid_≈ nan y (λ z. z) p)) }
    go (inf s) p = record { either = inl (ap bits_of (solid_≈ (inf s) y (λ z. z) p)) }
    go (fin s zero e) p = record { either = inr (zero_bits (fin s 0 e) tt, zero_bits y (zero_of_≈ (fin s 0 e) y p tt)) }
    go (fin s (suc m) e) p = record { either = inl (ap bits_of (solid_≈ (fin s (suc m) e) y (λ z. z) p)) }
