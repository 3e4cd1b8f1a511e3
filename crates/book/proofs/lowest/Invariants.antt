-- `book::lowest` meets its contract. So far every one passed. Assumes nothing.
use Rattle.std.proofs.Common.{◌≡◌, ℕ, ◌<◌, Bool, true}
use Rattle.floats.specs.Fold.{all_to}
use Rattle.book.proofs.lowest.Given as goal

abbrev pub invariant-loop-k : goal.invariant-loop-k
invariant-loop-k g l = (q : ℕ → Bool) → ((k : ℕ) (b : Bool) → k < l.n → goal.F-post g l.passes k b → b ≡ q k) → all_to q l.k ≡ true
