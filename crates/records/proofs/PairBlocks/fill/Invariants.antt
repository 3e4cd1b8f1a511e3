-- `records::PairBlocks::fill` meets its contract. The invariant: the rows so far. Assumes nothing.
use mathlib.Core.Path.{◌≡◌}
use Rattle.records.specs.Parameters.{offered_parameter, parameter_rows}
use Rattle.records.proofs.PairBlocks.fill.Given as goal

abbrev pub invariant-loop-i : goal.invariant-loop-i
invariant-loop-i l = l.plane ≡ parameter_rows (offered_parameter l.self.model l.self.book.now l.self.offered.now l.self.place l.self.m.n) l.i l.i
