use borrow.Author.Tests.{tests}
use mathlib.Core.Bool.{Bool, true, not}
use mathlib.Core.Path.{refl}
use Prim.Native.Nat.{ℕ}
use lib.Ieee.{lt}
use Rattle.std.proofs.Common.{rules}
use Rattle.floats.proofs.Chains.{fold_of_range}
use Rattle.floats.specs.Arithmetic.{0f}
use Rattle.floats.specs.Small.{is_finite}
use Rattle.floats.specs.Vector.{at, places}
use Rattle.thermo_types.specs.Composition.{sums_to_one}
use Rattle.thermo_types.proofs.OneReading.{summed, sum_beside, tests_beside}
use Rattle.thermo_types.proofs.are_fractions.Goals as goal

pub returns : goal.returns
unfolding sums_to_one
returns c =
    let x = at c.args.x.now in
    let p : ℕ → Bool = λ i. is_finite (x i) in
    let q : ℕ → Bool = λ i. not (lt (x i) 0f) in
    let n = places c.args.n in
    let e = fold_of_range (summed p q x) (0f, true) n c.places.ensures c.fold-sum.ensures.ran (λ s i r f k. search (rules, tests)) in
    rw (← sum_beside p q x n e, ← tests_beside p q x n e, c.abs.ensures) refl
