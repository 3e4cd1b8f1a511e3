-- `sheet::Asked::write_alone` meets its contract. Assumes nothing.
use Rattle.sheet.proofs.Asked.write_alone.Goals as goal

pub returns-in-Plain : goal.returns-in-Plain
returns-in-Plain c = rw c.in-Plain.is c.write_by.ensures
