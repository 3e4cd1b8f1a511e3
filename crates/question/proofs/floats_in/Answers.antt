-- `question::floats_in` meets its contract. Assumes nothing.
use mathlib.Core.Bool.{cond}
use mathlib.Core.Path.{◌≡◌, refl, ◌∙◌}
use Prim.Native.Nat.{◌+◌, ◌-◌, ◌^◌, ◌%◌, min}
use lib.Dec.{ltb}
use borrow.Author.Tests.{tests}
use Rattle.std.proofs.Common.{arith, rules}
use Rattle.floats.specs.Arithmetic.{0f}
use Rattle.floats.specs.Small.{float}
use Rattle.floats.specs.Vector.{places}
use Rattle.floats.proofs.Made.{filled}
use Rattle.blocks.specs.Words.{word}
use Rattle.question.proofs.Laws.{word-within}
use Rattle.question.proofs.floats_in.Goals as goal

pub returns : goal.returns
returns c = filled _ _ (places c.args.n) (omega arith) c.from_fn.ensures.items
    (λ i y q k.
    let e : y ≡ cond (ltb i (places c.args.n)) (float (word c.args.q.now) (min (c.args.from + i) (2 ^ 64 - 1) % 64)) 0f = search (rules, tests) in
    (search (rules, tests), e ∙ word-within _ _ _ _ c.requires (omega arith) refl))
