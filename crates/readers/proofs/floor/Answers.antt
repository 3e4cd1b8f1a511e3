-- `readers::floor` meets its contract. Assumes nothing.
use mathlib.Core.Path.{sym, ◌∙◌}
use Rattle.outcome.proofs.Exits.{met}
use Rattle.readers.proofs.Laws.{floor-no, floor-ok}
use Rattle.readers.proofs.floor.Goals as goal

pub returns-in_err-find_part : goal.returns-in_err-find_part
returns-in_err-find_part c = met _ _ c.from_residual.ensures.1 ∙ sym (floor-no _ c.in_err-find_part.ensures)

pub returns : goal.returns
returns c = floor-ok _ c.in_ok-find_part.ensures c.floor_words.ensures
