-- `book::Book::wrong_pair` meets its contract. So far every row passed its test, and the pairs that are left begin with row i. Assumes nothing.
use Rattle.std.proofs.Common.{◌≡◌, drop}
use Rattle.book.specs.Book.{pair_right}
use Rattle.book.specs.Places.{row_from, pair_place, words_in}
use Rattle.book.proofs.Places.{RowsPass}
use Rattle.book.proofs.Book.wrong_pair.Given as goal

abbrev pub invariant-loop-i : goal.invariant-loop-i
invariant-loop-i l =
    RowsPass (λ i j. pair_right (words_in l.self.blocks.now (pair_place l.self.head.n i j)) i j) l.self.head.n l.i
    × (l.pairs ≡ drop (row_from l.self.head.n l.i) l.self.blocks.now)
