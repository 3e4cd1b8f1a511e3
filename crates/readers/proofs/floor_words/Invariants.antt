-- `readers::floor_words` meets its contract. The loop's invariant: the words passed are filled. Assumes nothing.
use mathlib.Core.Path.{◌≡◌}
use Prim.Native.Nat.{◌≤◌}
use lib.ListN.{length, replicate}
use Rattle.floats.specs.Vector.{fill}
use Rattle.blocks.specs.Words.{word}
use Rattle.readers.specs.Readers.{floor_place}
use Rattle.readers.proofs.floor_words.Given as goal

abbrev pub invariant-loop-i : goal.invariant-loop-i
invariant-loop-i l = (l.i ≤ l.shown) × (l.ws ≡ fill (λ k. word l.s (floor_place k)) l.i (replicate 22 0)) × (length l.ws ≡ 22)
