-- `thermo_models::Present::see_all` meets its contract: the loop is the definition's fold. Assumes nothing.
use mathlib.Core.Path.{◌≡◌}
use Rattle.floats.specs.Fold.{fold_to}
use Rattle.records.specs.Offered.{with_pair}
use Rattle.thermo_models.specs.Validity.{unseen, row_seen}
use Rattle.thermo_models.proofs.Present.see_all.Given as goal

abbrev pub invariant-loop-i : goal.invariant-loop-i
invariant-loop-i l =
    let p = l.self in
    l.s ≡ fold_to (λ k. row_seen (with_pair p.m.n p.book.now p.offered.now) p.m.n p.t p.x.now k p.m.n) unseen l.i
