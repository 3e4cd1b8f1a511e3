-- `exports::zektonk_repeat_activity` meets its contract. Assumes nothing.
use mathlib.Core.Path.{sym, ◌∙◌}
use Rattle.exports.proofs.Ways.{repeated-ok, repeated-no}
use Rattle.exports.proofs.zektonk_repeat_activity.Goals as goal

pub returns-in-Ok : goal.returns-in-Ok
returns-in-Ok c = c.repeat_from.ensures ∙ sym (repeated-ok _ _ c.in-Ok.ensures)

pub returns-in-Err : goal.returns-in-Err
returns-in-Err c = sym (repeated-no _ _ c.in-Err.ensures)
