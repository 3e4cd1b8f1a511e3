-- `numerics::ln_fields` meets its contract. Assumes nothing.
use Rattle.std.proofs.Common.{◌≡◌, ℕ, ◌+◌, Bool, true, false, cond, arith}
use mir.Val.{bool_byte}
use lib.Ieee.{nan_bits, binary64, of_bits}
use Rattle.floats.proofs.Nan.{no_nan}
use Rattle.numerics.proofs.Fields.{digits-no_nan, split-made}
use Rattle.numerics.proofs.ln_fields.Goals as goal

raised : (up : Bool) (x : ℕ) {b : ℕ} → b ≡ bool_byte up → x + b ≡ cond up (x + 1) x
raised true x e = rw e
raised false x e = rw e (omega arith)

pub float_from_bits-m : goal.float_from_bits-m
float_from_bits-m c = no_nan (nan_bits binary64 (c.args.digits + 4607182418800017408)) (digits-no_nan c.args.digits c.requires.1)

pub returns : goal.returns
returns c = split-made c.args.field (of_bits binary64 (c.args.digits + 4607182418800017408)) (raised _ _ c.from.ensures) c.count.ensures c.select_unpredictable.ensures c.ln_from.ensures
