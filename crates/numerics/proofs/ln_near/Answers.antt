-- `numerics::ln_near` meets its contract. Assumes nothing.
use Rattle.std.proofs.Common.{T, sym, subst, arith}
use Rattle.numerics.proofs.Fields.{near_field, near-ln}
use Rattle.numerics.proofs.ln_near.Goals as goal

pub ln_fields-requires : goal.ln_fields-requires
ln_fields-requires c = (near_field c.args.v c.select_unpredictable-bits.result (subst T (sym c.well_formed.0.1) tt) c.select_unpredictable-bits.ensures, omega arith)

pub returns : goal.returns
returns c = near-ln c.args.v c.select_unpredictable-bits.result c.ln_fields.result (subst T (sym c.well_formed.0.1) tt) c.select_unpredictable-bits.ensures c.ln_fields.ensures
