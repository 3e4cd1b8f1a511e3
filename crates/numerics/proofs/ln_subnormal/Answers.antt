-- `numerics::ln_subnormal` meets its contract: shifted up, the digits are those of v's mantissa, and -1022 - j is v's exponent (`proofs/Splits.antt`).
use Rattle.std.proofs.Common.{◌≡◌, ℕ, ◌+◌, ◌*◌, ◌%◌, ◌^◌, ◌<◌, ◌≤◌, false, pos, ◌-ℤ◌, sym, ap, ◌∙◌, ap₂, add_comm, arith, w64, to_z, of_z}
use lib.Signed.{mag}
use lib.Ieee.{Float, minus, odd, binary64, of_bits, nan_bits}
use mir.ValLaws.{to_z_pos, to_z-of_z}
use Rattle.numerics.specs.Numerics.{ln_split, mantissa, exponent}
use Rattle.floats.proofs.Nan.{no_nan}
use Rattle.numerics.proofs.Powers.{small}
use Rattle.numerics.proofs.Patterns.{unit-is, unit-no_nan}
use Rattle.numerics.proofs.Splits.{short, sub-is_minus, minus_mag, mantissa-is, exponent-is}
use Rattle.numerics.proofs.ln_subnormal.Goals as goal

module _ (digits j : ℕ) (d : 0 < digits) (u : digits < 2 ^ 53) (lo : 2 ^ 52 ≤ digits * 2 ^ j) (hi : digits * 2 ^ j < 2 ^ 53) where
  j-lt : j < 53
  j-lt = short digits j d hi

  k-is : pos 0 -ℤ to_z w64 (j + 1022) ≡ minus 0 (j + 1022)
  k-is = let l = j-lt in rw (to_z_pos w64 (j + 1022) (omega arith)) (sub-is_minus 0 (j + 1022))

  k-mag : mag (minus 0 (j + 1022)) < 1999
  k-mag = let l = j-lt in minus_mag 0 (j + 1022) 1999 (omega arith) (omega arith)

  k-back : to_z w64 (of_z w64 (pos 0 -ℤ to_z w64 (j + 1022))) ≡ minus 0 (j + 1022)
  k-back = let h = k-mag in rw k-is (to_z-of_z w64 (minus 0 (j + 1022)) (small (minus 0 (j + 1022)) (omega arith)))

  -- the machine's shift loses nothing
  shifted : digits * 2 ^ j % 18446744073709551616 ≡ digits * 2 ^ j
  shifted = omega arith

  exponent-at : exponent (odd 53 false digits 0 1074) ≡ minus 0 (j + 1022)
  exponent-at = exponent-is digits 0 j d u lo hi ∙ ap (minus 0) (add_comm 1022 j)

  mantissa-at : mantissa (odd 53 false digits 0 1074) ≡ of_bits binary64 (digits * 2 ^ j % 18446744073709551616 + 4602678819172646912)
  mantissa-at = mantissa-is digits 0 j d u lo hi ∙ sym (unit-is (digits * 2 ^ j) lo hi) ∙ ap (λ z. of_bits binary64 (z + 4602678819172646912)) (sym shifted)

  ln-at : {v r : Float} → v ≡ odd 53 false digits 0 1074
      → r ≡ ln_split (to_z w64 (of_z w64 (pos 0 -ℤ to_z w64 (j + 1022)))) (of_bits binary64 (digits * 2 ^ j % 18446744073709551616 + 4602678819172646912))
      → r ≡ ln_split (exponent v) (mantissa v)
  ln-at e h = h ∙ ap₂ ln_split (k-back ∙ sym exponent-at ∙ ap exponent (sym e)) (sym mantissa-at ∙ ap mantissa (sym e))

pub overflow_add-j : goal.overflow_add-j
overflow_add-j c =
    let l = j-lt c.args.digits c.shift_up-j.result c.requires.0 c.requires.1 c.shift_up-j.ensures.0 c.shift_up-j.ensures.1 in
    omega arith

pub overflow_shl-digits : goal.overflow_shl-digits
overflow_shl-digits c =
    let l = j-lt c.args.digits c.shift_up-j.result c.requires.0 c.requires.1 c.shift_up-j.ensures.0 c.shift_up-j.ensures.1 in
    omega arith

pub float_from_bits-digits : goal.float_from_bits-digits
float_from_bits-digits c =
    let q = c.args.digits * 2 ^ c.shift_up-j.result % 18446744073709551616 in
    no_nan (nan_bits binary64 (q + 4602678819172646912)) (unit-no_nan q (omega (arith, c.shift_up-j.ensures.1)))

pub ln_split-requires : goal.ln_split-requires
ln_split-requires c =
    let j = c.shift_up-j in
    rw (k-back c.args.digits j.result c.requires.0 c.requires.1 j.ensures.0 j.ensures.1)
    (k-mag c.args.digits j.result c.requires.0 c.requires.1 j.ensures.0 j.ensures.1)

pub returns : goal.returns
returns c =
    let j = c.shift_up-j in
    ln-at c.args.digits j.result c.requires.0 c.requires.1 j.ensures.0 j.ensures.1 c.requires.2 c.ln_split.ensures
