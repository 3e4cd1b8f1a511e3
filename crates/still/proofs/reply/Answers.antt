-- `still::reply` meets its contract. Assumes nothing.
use native.Mathlib.Omega.{arith}
use Rattle.still.proofs.Laws.{sent_number, sent_answer, sent_refusal}
use Rattle.still.proofs.reply.Goals as goal

pub returns-in-Ok-clause-sent : goal.returns-in-Ok-clause-sent
returns-in-Ok-clause-sent c = sent_answer _ _ (omega arith) c.in-Ok.ensures c.answer_length.ensures

pub returns-in-Ok-clause-refused : goal.returns-in-Ok-clause-refused
returns-in-Ok-clause-refused c = sent_number _ _ (omega arith) c.in-Ok.ensures

pub returns-in-Err-clause-sent : goal.returns-in-Err-clause-sent
returns-in-Err-clause-sent c = sent_refusal _ _ (omega arith) _ c.in-Err.ensures c.rule_of.ensures (rw c.from.ensures at c.write_refusal.ensures)

pub returns-in-Err-clause-refused : goal.returns-in-Err-clause-refused
returns-in-Err-clause-refused c = sent_number _ _ (omega arith) c.in-Err.ensures
