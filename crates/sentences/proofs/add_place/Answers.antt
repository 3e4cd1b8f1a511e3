-- `sentences::add_place` meets its contract: its parts one after the other. Assumes nothing.
use Rattle.std.proofs.Common.{arith, ◌+◌, ◌≤◌, length, codes}
use Rattle.std.specs.Fmt.{decimal}
use Rattle.sentences.specs.Sentence.{where_of}
use Rattle.sentences.proofs.Parts.{one_part, more_parts, ends}
use Rattle.sentences.proofs.Fits.{where_block, where_pair}
use Rattle.sentences.proofs.add_place.Goals as goal

pub returns-in-Offered : goal.returns-in-Offered
unfolding where_of
returns-in-Offered c = rw c.in-Offered.is c.add-in-Offered.ensures

pub returns-in-Block : goal.returns-in-Block
unfolding where_of
returns-in-Block c =
    let room : c.args.at + (8 + length (decimal c.in-Block.k) + 1) ≤ length c.args.text.now = rw (c.in-Block.is, where_block c.in-Block.k) at c.requires in
    let a = one_part (codes " (block ") c.add-at.ensures in
    let b = more_parts (decimal c.in-Block.k) a c.add_number-at.ensures (omega arith) in
    rw c.in-Block.is (ends (more_parts (codes ")") b c.add.ensures (omega arith)))

pub returns-in-Pair : goal.returns-in-Pair
unfolding where_of
returns-in-Pair c =
    let i = decimal c.in-Pair.i in
    let j = decimal c.in-Pair.j in
    let room : c.args.at + (11 + length i + 5 + length j + 1) ≤ length c.args.text.now = rw (c.in-Pair.is, where_pair c.in-Pair.i c.in-Pair.j) at c.requires in
    let a = one_part (codes " (solvents ") c.add-at-in-Pair.ensures in
    let b = more_parts i a c.add_number-at-in-Pair.ensures (omega arith) in
    let d = more_parts (codes " and ") b c.add-at-in-Pair-2.ensures (omega arith) in
    let e = more_parts j d c.add_number-at-in-Pair-2.ensures (omega arith) in
    rw c.in-Pair.is (ends (more_parts (codes ")") e c.add-in-Pair.ensures (omega arith)))
