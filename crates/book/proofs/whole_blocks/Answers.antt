-- `book::whole_blocks` meets its contract. Assumes nothing.
use Rattle.std.proofs.Common.{◌≡◌, arith, length, rules}
use borrow.Author.Tests.{tests}
use Rattle.book.proofs.Blocks.{whole}
use Rattle.book.proofs.whole_blocks.Goals as goal

pub returns : goal.returns
returns c =
    let some : length c.as_chunks.result.0.now ≡ 0 → ⊥ = search (rules, tests) in
    let exact : length c.as_chunks.result.1.now ≡ 0 = search (rules, tests) in
    whole c.as_chunks.ensures.front c.as_chunks.ensures.front_len (omega (arith, c.as_chunks.ensures.back_len)) (omega arith)
