-- `zektonk::store` meets its contract. Assumes nothing.
use Rattle.zektonk.proofs.Words.{short, stored}
use Rattle.zektonk.proofs.store.Goals as goal

pub returns-in_default : goal.returns-in_default
returns-in_default g c = short g.row.N _ _ c.in_default.ensures.cases

pub returns : goal.returns
returns g c = stored g.row.N _ _ c.in-Some.ensures.cases.enough
