-- `wilson::Summed::fill_lns` meets its contract. Assumes nothing.
use Rattle.std.proofs.Common.{◌*◌}
use Rattle.floats.specs.Vector.{at}
use Rattle.jet.specs.Planes.{twos}
use Rattle.excess.specs.Steps.{s_in, r_in, GammasTo}
use Rattle.wilson.specs.Sums.{wilson_from}
use Rattle.wilson.proofs.Summed.fill_lns.Given as goal

abbrev pub invariant-loop-h : goal.invariant-loop-h
invariant-loop-h l =
    let q = l.self in
    GammasTo (wilson_from (twos q.of.table.now 0) (s_in q.sums.now) (r_in q.sums.now) (at q.of.x.now) q.of.m.n) (4 * l.h) l.initial.ln_gamma l.initial.slopes l.ln_gamma l.slopes
