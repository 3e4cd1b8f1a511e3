-- `thermo_models::Present::see_row` meets its contract: the loop is the definition's fold over j from i + 1 on. Assumes nothing.
use mathlib.Core.Path.{◌≡◌}
use Rattle.records.specs.Offered.{with_pair}
use Rattle.thermo_models.specs.Validity.{row_seen}
use Rattle.thermo_models.proofs.Present.see_row.Given as goal

abbrev pub invariant-loop-j : goal.invariant-loop-j
invariant-loop-j l =
    let p = l.self in
    l.s ≡ row_seen (with_pair p.m.n p.book.now p.offered.now) p.m.n p.t p.x.now l.i l.j l.fn.s
