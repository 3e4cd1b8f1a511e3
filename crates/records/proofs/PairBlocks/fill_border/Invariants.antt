-- `records::PairBlocks::fill_border` meets its contract. The invariant: the pairs so far. Assumes nothing.
use mathlib.Core.Path.{◌≡◌}
use Rattle.records.specs.Parameters.{offered_parameter, parameter_border}
use Rattle.records.proofs.PairBlocks.fill_border.Given as goal

abbrev pub invariant-loop-j : goal.invariant-loop-j
invariant-loop-j l = l.plane ≡ parameter_border (offered_parameter l.self.model l.self.book.now l.self.offered.now l.self.place l.self.m.n) l.i l.j l.initial.plane
