-- `book::first_twice` meets its contract. So far no solvent has the number of one behind it. Assumes nothing.
use Rattle.std.proofs.Common.{not, ◌==◌, length}
use Rattle.book.specs.Places.{words_in}
use Rattle.book.proofs.Places.{RowsPass}
use Rattle.book.proofs.first_twice.Given as goal

abbrev pub invariant-loop-i : goal.invariant-loop-i
invariant-loop-i l = RowsPass (λ i j. not (words_in l.solvents i 2 == words_in l.solvents j 2)) (length l.solvents) l.i
