-- `numerics::ln_positive` meets its contract: what its two arms pass on are the digits and the place of v's bit pattern (`proofs/Patterns.antt`).
use Rattle.std.proofs.Common.{T, sym, ◌∙◌, subst, arith}
use lib.Ieee.{Float, binary64, fits, to_bits, of_bits}
use lib.Ieee.Bits.{of_bits-to_bits}
use lib.Ieee.Positive.{positive}
use Rattle.numerics.proofs.Patterns.{field_lt, subnormal}
use Rattle.numerics.proofs.Fields.{no_nan_of, normal-split}
use Rattle.numerics.proofs.ln_positive.Goals as goal

read-positive : (v : Float) → T (fits binary64 v) → T (positive v) → T (positive (of_bits binary64 (to_bits binary64 v)))
read-positive v h p = subst (λ (z : Float). T (positive z)) (sym (of_bits-to_bits binary64 v h)) p

pub float_to_bits-bits : goal.float_to_bits-bits
float_to_bits-bits c = no_nan_of c.args.v c.requires

pub ln_subnormal-requires : goal.ln_subnormal-requires
ln_subnormal-requires c =
    let v = c.args.v in
    let r = subnormal (to_bits binary64 v) (read-positive v (subst T (sym c.well_formed.0.1) tt) c.requires) c.if-field-eq0.true in
    (r.0, omega arith, sym (of_bits-to_bits binary64 v (subst T (sym c.well_formed.0.1) tt)) ∙ r.1)

pub ln_fields-requires : goal.ln_fields-requires
ln_fields-requires c = (field_lt (to_bits binary64 c.args.v) (read-positive c.args.v (subst T (sym c.well_formed.0.1) tt) c.requires), omega arith)

pub returns-else-field-eq0 : goal.returns-else-field-eq0
returns-else-field-eq0 c =
    let v = c.args.v in
    let n = c.if-field-eq0.false in
    normal-split v (to_bits binary64 v) (of_bits-to_bits binary64 v (subst T (sym c.well_formed.0.1) tt)) c.requires (omega arith) c.ln_fields.ensures
