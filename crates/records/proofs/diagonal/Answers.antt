-- `records::diagonal` meets its contract. Assumes nothing.
use Rattle.records.proofs.Loads.{none-stored}
use Rattle.records.proofs.diagonal.Goals as goal

pub returns : goal.returns
returns c = let (t0, (t1, (t2, (t3, (a0, a1))))) = c.default.ensures in none-stored _ _ (rw (t0, t1, t2, t3, a0, a1) at c.set_terms.ensures)
