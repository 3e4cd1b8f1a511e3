-- `liquid::vapor_pressure` meets its contract. Assumes nothing.
use mathlib.Core.Path.{sym}
use Rattle.floats.specs.Outcome.{need}
use Rattle.liquid.specs.Vapor.{vapor_pressure_of}
use Rattle.liquid.proofs.Ways.{vapor_is, sound_is}
use Rattle.liquid.proofs.vapor_pressure.Goals as goal

pub returns-then-not-is_representable : goal.returns-then-not-is_representable
unfolding vapor_pressure_of need
returns-then-not-is_representable c =
    rw (← c.value-v.ensures, sym c.in_range.ensures, c.if-not-in_range.false, vapor_is _ _ c.exp-pressure.ensures c.ln_pressure-ln.ensures, sound_is, sym c.if-not-is_representable.ensures)

pub returns : goal.returns
unfolding vapor_pressure_of need
returns c =
    rw (← c.value-v.ensures, sym c.in_range.ensures, c.if-not-in_range.false, vapor_is _ _ c.exp-pressure.ensures c.ln_pressure-ln.ensures, sound_is, sym c.if-not-is_representable.ensures)
