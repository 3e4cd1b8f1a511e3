-- `book::floats_finite` meets its contract. The invariant: the test of the words so far. Assumes nothing.
use Rattle.std.proofs.Common.{◌≡◌, ltb}
use Rattle.blocks.specs.Words.{word}
use Rattle.book.specs.Book.{floats_finite}
use Rattle.book.proofs.floats_finite.Given as goal

abbrev pub invariant-loop-k : goal.invariant-loop-k
invariant-loop-k l = ltb l.carries 0x8000000000000000 ≡ floats_finite (word l.s) l.from l.k
