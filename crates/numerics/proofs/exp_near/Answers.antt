-- `numerics::exp_near` meets its contract (`proofs/Guess.antt`).
use Rattle.std.proofs.Common.{◌*◌, ◌%◌, T, sym, subst, arith}
use lib.Ieee.{binary64, nan_bits, to_bits}
use Rattle.floats.specs.Arithmetic.{#, ◌⊕◌, ◌⊗◌}
use Rattle.floats.proofs.Nan.{no_nan}
use Rattle.numerics.specs.Numerics.{C}
use Rattle.numerics.proofs.Bounds.{Within}
use Rattle.numerics.proofs.Powers.{no_nan_field}
use Rattle.numerics.proofs.Guess.{kept-within, sum-no_nan, near-is}
use Rattle.numerics.proofs.exp_near.Goals as goal

pub float_to_bits-u : goal.float_to_bits-u
float_to_bits-u c = sum-no_nan c.select_unpredictable-w.result (subst (Within 700) (sym c.select_unpredictable-w.ensures) (kept-within c.args.v))

-- the guess of k + 1023
pub float_from_bits-result : goal.float_from_bits-result
float_from_bits-result c =
    let u = to_bits binary64 (C ⊗ c.select_unpredictable-w.result ⊕ # 0x43380000000003ff) % 2048 in
    no_nan (nan_bits binary64 (u * 4503599627370496)) (no_nan_field u (omega arith))

pub returns : goal.returns
returns c =
    let w = c.select_unpredictable-w.result in
    let u = to_bits binary64 (C ⊗ w ⊕ # 0x43380000000003ff) % 2048 in
    near-is c.args.v w c.count-f.result c.exp_digits.result u (omega arith) (subst T (sym c.well_formed.0.1) tt) c.select_unpredictable-w.ensures c.count-f.ensures c.exp_digits.ensures.v_value
