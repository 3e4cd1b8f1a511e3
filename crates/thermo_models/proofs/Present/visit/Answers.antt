-- `thermo_models::Present::visit` meets its contract. Assumes nothing.
use native.Mathlib.Omega.{arith}
use Rattle.records.proofs.Offered.{copy_interval}
use Rattle.thermo_models.proofs.Pairs.{visited_yes}
use Rattle.thermo_models.proofs.Present.visit.Goals as goal

pub returns-then-self-i : goal.returns-then-self-i
returns-then-self-i c = let (a, b) = c.requires in
    visited_yes _ _ _ _ _ _ _ c.if-self-i.true (copy_interval _ _ _ _ _ (omega arith) a b c.args.self.placed c.pair_record-pair.ensures) c.note.ensures
