-- `book::open_book` meets its contract. Each return rewrites by the tests that led there. Assumes nothing.
use Rattle.std.proofs.Common.{sym}
use Rattle.floats.specs.Outcome.{need}
use Rattle.book.proofs.Laws.{no_book}
use Rattle.book.proofs.Blocks.{book_asked}
use Rattle.book.proofs.open_book.Goals as goal

pub returns-in_default : goal.returns-in_default
returns-in_default c = no_book _ (sym c.in_default.ensures)

pub returns-then-not-version_right : goal.returns-then-not-version_right
unfolding need
returns-then-not-version_right c = rw (book_asked c.in-Some.ensures, ← c.if-not-version_right.ensures)

pub returns-then-not-checks_right : goal.returns-then-not-checks_right
unfolding need
returns-then-not-checks_right c = let checks = rw c.rule_in.ensures at c.if-not-checks_right.ensures in
    rw (book_asked c.in-Some.ensures, ← c.if-not-version_right.ensures, ← checks)

pub returns : goal.returns
unfolding need
returns c = let checks = rw c.rule_in.ensures at c.if-not-checks_right.ensures in
    rw (book_asked c.in-Some.ensures, ← c.if-not-version_right.ensures, ← checks) c.open_head.ensures
