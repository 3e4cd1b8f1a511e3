-- `records::WholePairs::of` meets its contract. Assumes nothing.
use Rattle.std.proofs.Common.{arith, length}
use Rattle.blocks.proofs.Laws.{block-whole}
use Rattle.records.proofs.Sources.{whole_long}
use Rattle.records.proofs.WholePairs.of.Goals as goal

pub returns : goal.returns
returns c =
    let long = whole_long (length c.as_chunks.result.0.now) c.of-m.ensures c.saturating_sub.ensures (omega (arith, c.if-blocks-m.false)) in
    record {
      count = c.of-m.ensures;
      same = λ k h. rw c.as_chunks.ensures.front (block-whole _ c.args.book.now k (omega (arith, h, long, c.as_chunks.ensures.front_len)));
    }
