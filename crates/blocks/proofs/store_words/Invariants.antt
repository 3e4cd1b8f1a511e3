-- `blocks::store_words` meets its contract. The invariant: the words so far in front, the old bytes behind. Assumes nothing.
use Rattle.std.proofs.Common.{◌≡◌, ◌-◌, ◌*◌, ◌≤◌, ◌++◌, length, drop}
use Rattle.blocks.specs.Bytes.{word_at, bytes, row_to}
use Rattle.blocks.proofs.store_words.Given as goal

abbrev pub invariant-loop-k : goal.invariant-loop-k
invariant-loop-k l = (l.k ≤ 63) × (l.out ≡ row_to (λ i. bytes (word_at l.ws i)) l.k ++ drop (8 * l.k) l.initial.out) × (length l.out ≡ length l.initial.out)

abbrev pub decreases-loop-k : goal.decreases-loop-k
decreases-loop-k l = 63 - l.k
