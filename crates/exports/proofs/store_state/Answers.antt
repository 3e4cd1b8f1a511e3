-- `exports::store_state` meets its contract: the two arrays, then the rest. Assumes nothing.
use Prim.Native.Nat.{◌+◌, ◌≤◌}
use native.Mathlib.Omega.{arith}
use lib.Ieee.{nan}
use lib.ListN.{length}
use Rattle.floats.specs.Vector.{at, fill_from}
use Rattle.floats.proofs.Copies.{copied}
use Rattle.floats.proofs.Fills.{fill_from_length}
use Rattle.exports.proofs.store_state.Goals as goal

pub returns : goal.returns
returns c = let a = c.args in
    let room : 0 + 8 ≤ length a.out.now = omega arith in
    let more : 8 + 8 ≤ length (fill_from (at a.lg.now) 0 8 a.out.now) = rw fill_from_length (omega arith) in
    rw (
      ← copied a.sl.now nan 8 8 (fill_from (at a.lg.now) 0 8 a.out.now) c.told-sl more,
      ← copied a.lg.now nan 0 8 a.out.now c.told-lg room,
      ← c.copy_from_slice.ensures.after,
      ← c.copy_from_slice-2.ensures.after,
    ) c.store_energies.ensures
