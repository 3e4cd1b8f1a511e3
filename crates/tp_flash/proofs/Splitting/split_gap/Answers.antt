use borrow.Author.Tests.{tests}
use lib.Ieee.{Float}
use Rattle.std.proofs.Common.{arith, rules}
use Rattle.floats.specs.Arithmetic.{◌⊕◌, ◌⊖◌, 0f}
use Rattle.floats.specs.Small.{max_of, abs_of}
use Rattle.floats.specs.Fold.{active}
use Rattle.floats.specs.Vector.{at, places}
use Rattle.floats.proofs.Chains.{fold_of_range}
use Rattle.numerics.specs.Numerics.{ln_of}
use Rattle.tp_flash.proofs.Laws.{split-gap-is}
use Rattle.tp_flash.proofs.Splitting.split_gap.Goals as goal

pub returns : goal.returns
returns c = let l = c.args.self in let f = l.feed in
    split-gap-is f.z.now f.ps.now (places f.at.n) (omega arith) _ l.of_pressures l.of_p c.args.lg.now c.args.x.now c.args.y.now
    (fold_of_range (active (at f.z.now) (λ i (s : Float). max_of s (abs_of (ln_of (at c.args.y.now i) ⊕ l.ln_p ⊖ ln_of (at c.args.x.now i) ⊖ at c.args.lg.now i ⊖ at l.ln_ps.now i)))) 0f (places f.at.n)
    c.places.ensures c.fold.ensures.ran (λ s i r g k. search (rules, tests)))
