-- `wilson::Liquid::fill_sums` meets its contract. Assumes nothing.
use Rattle.std.proofs.Common.{◌*◌}
use Rattle.floats.specs.Vector.{at}
use Rattle.excess.specs.Steps.{SumsTo}
use Rattle.wilson.specs.On.{s_on, ln_s_on}
use Rattle.wilson.proofs.Liquid.fill_sums.Given as goal

abbrev pub invariant-loop-h : goal.invariant-loop-h
invariant-loop-h l =
    let q = l.self in
    SumsTo (s_on q.table.now (at q.x.now) q.m.n) (ln_s_on q.table.now (at q.x.now) q.m.n) (at q.x.now) (2 * l.h) l.total l.initial.sums l.sums
