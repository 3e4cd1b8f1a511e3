-- `exports::zektonk_fractions` meets its contract: what comes after the tests has no part in the number. Assumes nothing.
use mathlib.Core.Path.{◌∙◌}
use Rattle.thermo_types.proofs.Passing.{fractions_first}
use Rattle.exports.proofs.Ways.{number_then}
use Rattle.exports.proofs.zektonk_fractions.Goals as goal

pub returns : goal.returns
returns c = rw (fractions_first, ← c.eight.ensures, ← c.with_fractions.ensures) (c.number_in.ensures ∙ number_then c.with_fractions.result _)
