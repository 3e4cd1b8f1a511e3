-- `book::Book::pairs_right` meets its contract. So far every row passed its test, and those that are left begin with row i. Assumes nothing.
use Rattle.std.proofs.Common.{◌≡◌, ◌-◌, true, drop}
use Rattle.floats.specs.Fold.{all_to}
use Rattle.book.specs.Book.{row_right}
use Rattle.book.specs.Places.{row_from, words_in}
use Rattle.book.proofs.Book.pairs_right.Given as goal

abbrev pub invariant-loop-i : goal.invariant-loop-i
invariant-loop-i l = (all_to (λ k. row_right (words_in l.self.blocks.now) k (row_from l.self.head.n k) (l.self.head.n - k - 1)) l.i ≡ true) × (l.pairs ≡ drop (row_from l.self.head.n l.i) l.self.blocks.now)
