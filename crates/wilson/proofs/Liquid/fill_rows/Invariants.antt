-- `wilson::Liquid::fill_rows` meets its contract. Assumes nothing.
use Rattle.std.proofs.Common.{◌*◌}
use Rattle.floats.specs.Vector.{at}
use Rattle.wilson.specs.On.{s_on}
use Rattle.wilson.proofs.Entries.{Rows}
use Rattle.wilson.proofs.Liquid.fill_rows.Given as goal

abbrev pub invariant-loop-h : goal.invariant-loop-h
invariant-loop-h l = Rows (s_on l.self.table.now (at l.self.x.now) l.self.m.n) (2 * l.h) l.rows
