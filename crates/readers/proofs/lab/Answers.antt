-- `readers::lab` meets its contract. Assumes nothing.
use mathlib.Core.Path.{sym}
use lib.Seq.{length-take-le}
use Rattle.readers.proofs.Laws.{part-within, lab-no, lab-ok}
use Rattle.readers.proofs.lab.Goals as goal

pub returns-in_err-bytes : goal.returns-in_err-bytes
returns-in_err-bytes c = lab-no _ _ _ c.from_residual.ensures.1 c.in_err-bytes.ensures

pub slice_bounds-result-end : goal.slice_bounds-result-end
slice_bounds-result-end c = sym (length-take-le _ _ (part-within _ c.in_ok-bytes.ensures))

pub returns : goal.returns
returns c = lab-ok _ c.in_ok-bytes.ensures
