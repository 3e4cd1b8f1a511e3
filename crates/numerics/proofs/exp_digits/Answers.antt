-- `numerics::exp_digits` meets its contract: its steps are those of `digits` (`proofs/Signs.antt`, `proofs/Guess.antt`).
use Rattle.std.proofs.Common.{T, sym, refl, subst}
use lib.Ieee.{of_bits, neg}
use Rattle.numerics.proofs.Guess.{two_products, one_product}
use Rattle.numerics.proofs.exp_digits.Goals as goal

pub returns : goal.returns
unfolding of_bits neg
returns c = record {
  pos_value = λ k e. two_products c.args.v refl k e;
  v_value = λ a b e. one_product c.args.v refl (subst T (sym c.well_formed.0.1) tt) a b e;
}
