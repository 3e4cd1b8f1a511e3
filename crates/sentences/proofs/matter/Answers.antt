-- `sentences::matter` meets its contract: each arm by what is written there, and none is left. Assumes nothing.
use Rattle.std.proofs.Common.{sym, arith}
use Rattle.sentences.proofs.Matters.{matter_none}
use Rattle.sentences.proofs.matter.Goals as goal

pub returns-in_default : goal.returns-in_default
returns-in_default c = sym (matter_none _ (λ l. omega arith))
