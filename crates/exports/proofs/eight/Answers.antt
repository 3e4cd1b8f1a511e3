-- `exports::eight` meets its contract: the slice's front where it has one, else each entry. Assumes nothing.
use lib.Ieee.{nan, of_bits}
use lib.Seq.{length-take-le}
use Rattle.std.proofs.Common.{rules}
use Rattle.std.proofs.lemmas.List.{get_or-take}
use Rattle.floats.specs.Vector.{at}
use Rattle.floats.proofs.Made.{made-at}
use Rattle.exports.proofs.Ways.{eight_is}
use Rattle.exports.proofs.eight.Goals as goal

pub returns-in-Some : goal.returns-in-Some
returns-in-Some c = let s = c.args.s.now in let h = c.in-Some.ensures.cases in
    rw h.same (eight_is s (length-take-le 8 s h.enough) (λ i q. get_or-take 8 s i nan q))

pub returns-in-None : goal.returns-in-None
unfolding of_bits
returns-in-None c = let s = c.args.s.now in let made = c.from_fn.ensures.items in
    eight_is s made.long (made-at _ (at s) nan (λ i y q k. search rules) made)
