-- `rice_exports::put_both` meets its contract: three entries, then the two parts. Assumes nothing.
use Prim.Native.Nat.{◌+◌, ◌≤◌}
use mathlib.Core.List.{List}
use native.Mathlib.Omega.{arith}
use lib.Ieee.{Float, nan}
use lib.ListN.{set, length, length-set}
use Rattle.floats.specs.Vector.{at, fill_from}
use Rattle.floats.proofs.Copies.{copied}
use Rattle.floats.proofs.Fills.{fill_from_length}
use Rattle.rice_exports.specs.Splits.{count_of, both}
use Rattle.rice_exports.proofs.put_both.Goals as goal

pub returns : goal.returns
unfolding both
returns c = let a = c.args in
    let l : List Float = set (set (set a.out.now 0 a.beta) 1 a.residual) 2 (count_of a.iterations) in
    let room : 3 + 8 ≤ length l = simp length-set (omega arith) in
    let more : 11 + 8 ≤ length (fill_from (at a.liquid.now) 3 8 l) = rw fill_from_length (simp length-set (omega arith)) in
    rw (
      c.count.ensures,
      c.copy_from_slice.ensures.after,
      c.copy_from_slice-2.ensures.after,
      copied a.liquid.now nan 3 8 l c.told-liquid room,
      copied a.vapor.now nan 11 8 (fill_from (at a.liquid.now) 3 8 l) c.told-vapor more,
    )
