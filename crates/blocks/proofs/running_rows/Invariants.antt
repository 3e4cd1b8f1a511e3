-- `blocks::running_rows` meets its contract. The invariants: the eight sums after r rows, and after c words of the next. Assumes nothing.
use Rattle.blocks.specs.Words.{word}
use Rattle.blocks.proofs.Running.{Lanes}
use Rattle.blocks.proofs.running_rows.Given as goal

abbrev pub invariant-loop-r : goal.invariant-loop-r
invariant-loop-r l = Lanes (word l.s) l.r 0 l.a l.t

abbrev pub invariant-loop-c : goal.invariant-loop-c
invariant-loop-c l = Lanes (word l.s) l.r l.c l.a l.t
