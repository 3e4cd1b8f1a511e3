-- `thermo_models::book_tables` meets its contract: with nothing offered the book is its own copy. Assumes nothing.
use Rattle.std.proofs.Common.{◌≡◌, arith, length, rules}
use borrow.Author.Tests.{tests}
use Rattle.floats.specs.Vector.{places}
use Rattle.records.proofs.Offered.{copy-cut}
use Rattle.thermo_models.proofs.book_tables.Goals as goal

pub returns-in-Some : goal.returns-in-Some
returns-in-Some c =
    let none : length c.args.offered.now ≡ 0 = search (rules, tests) in
    rw (copy-cut (places c.args.n) c.args.book.now c.args.offered.now (λ e. omega (arith, e, none))) c.whole_tables.ensures
