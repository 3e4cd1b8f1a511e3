-- `jet::pair` meets its contract: what the closure gives at the six indices. Assumes nothing.
use Rattle.std.proofs.Common.{rules, ℕ, ◌+◌, ◌*◌, ◌%◌}
use native.Mathlib.Nat.{add-zero}
use lib.Ieee.{nan}
use Rattle.std.proofs.lemmas.List.FromFn.{fill_by_all}
use Rattle.floats.specs.Vector.{at}
use Rattle.floats.proofs.Made.{made-at}
use Rattle.jet.proofs.pair.Goals as goal

pub returns : goal.returns
returns c =
    let w = λ (k : ℕ). at c.args.parameters.now ((c.args.i % 8 * 8 + c.args.j % 8) * 6 + k) in
    let made = c.from_fn.ensures.items in
    rw add-zero at (fill_by_all w _ 6 nan made.long (made-at _ w nan (λ k y q h. search rules) made))
