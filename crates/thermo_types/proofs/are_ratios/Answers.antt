use borrow.Author.Tests.{tests}
use mathlib.Core.Bool.{Bool, true}
use mathlib.Core.Path.{◌∙◌}
use Prim.Native.Nat.{ℕ}
use lib.Ieee.{lt}
use Rattle.std.proofs.Common.{rules}
use Rattle.floats.proofs.Chains.{fold_of_range}
use Rattle.floats.specs.Arithmetic.{0f}
use Rattle.floats.specs.Small.{is_finite}
use Rattle.floats.specs.Vector.{at, places}
use Rattle.thermo_types.proofs.OneReading.{tested, both_tests}
use Rattle.thermo_types.proofs.are_ratios.Goals as goal

pub returns : goal.returns
returns c =
    let k = at c.args.k.now in
    let p : ℕ → Bool = λ i. is_finite (k i) in
    let q : ℕ → Bool = λ i. lt 0f (k i) in
    let n = places c.args.n in
    fold_of_range (tested p q) true n c.places.ensures c.fold.ensures.ran (λ s i r f k. search (rules, tests)) ∙ both_tests p q n
