-- `records::PairBlocks::fill_both` meets its contract. Assumes nothing.
use Rattle.std.proofs.Common.{ap, arith}
use Rattle.blocks.specs.Words.{word}
use Rattle.records.specs.Offered.{pair_at}
use Rattle.records.proofs.Loads.{both_stored, pair_stored}
use Rattle.records.proofs.PairBlocks.fill_both.Goals as goal

pub returns : goal.returns
returns c =
    both_stored _ (λ k. word (pair_at _ _ _ k)) _ _ _ (omega arith) _ (ap word c.block.ensures)
    (pair_stored _ _ _ _ _ c.both_terms.ensures.lower c.both_terms.ensures.upper c.set_terms.ensures c.set_terms-2.ensures)
