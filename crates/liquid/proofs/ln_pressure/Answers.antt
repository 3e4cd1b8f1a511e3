-- `liquid::ln_pressure` meets its contract. Assumes nothing.
use Rattle.liquid.proofs.Ways.{logarithm_is}
use Rattle.liquid.proofs.ln_pressure.Goals as goal

pub returns : goal.returns
returns c = logarithm_is _ _ c.of.ensures c.sum_terms-sums.ensures (c.from_sums.ensures _ c.ln_two-l.ensures.1)
