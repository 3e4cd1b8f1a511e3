-- `blocks::plain_sum` meets its contract. The invariant: the sum so far, of any words that the closure gives. Assumes nothing.
use Rattle.std.proofs.Common.{◌≡◌, ℕ}
use Rattle.blocks.specs.Words.{check_sum, GivesWords}
use Rattle.blocks.proofs.plain_sum.Given as goal

abbrev pub invariant-loop-k : goal.invariant-loop-k
invariant-loop-k g l = (w : ℕ → ℕ) → GivesWords (goal.F-post g l.word) w → l.sum ≡ check_sum w l.k
