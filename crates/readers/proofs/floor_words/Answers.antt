use mathlib.Core.Path.{◌≡◌, refl, ◌∙◌}
use lib.ListN.{length-set}
use native.Mathlib.Omega.{arith}
use Rattle.floats.specs.Vector.{fill}
use Rattle.floats.proofs.Fills.{fill-turn, fill_done}
use Rattle.readers.specs.Readers.{floor_words}
use Rattle.readers.proofs.floor_words.Goals as goal

pub loop-i-init : goal.loop-i-init
unfolding fill
loop-i-init c = (omega arith, refl, refl)

pub loop-i-preserved : goal.loop-i-preserved
loop-i-preserved c = let loop = c.loop-i in
    (omega arith, fill-turn _ _ _ (rw c.floor_place.ensures at c.word-in-loop-i.ensures) loop.invariant.1, simp length-set loop.invariant.2)

pub returns : goal.returns
unfolding floor_words
returns c = let e = rw c.word.ensures at c.shown_of-shown.ensures.0 in
    let d : c.loop-i.i ≡ c.shown_of-shown.result = omega arith in
    fill_done _ _ _ _ (d ∙ e) c.loop-i.invariant.1
