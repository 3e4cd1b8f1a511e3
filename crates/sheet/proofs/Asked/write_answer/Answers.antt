use native.Mathlib.Omega.{arith}
use mathlib.Core.Path.{◌≡◌, refl}
use Rattle.sheet.proofs.Laws.{behind-none, behind-turn, trial-put, answer_yes}
use Rattle.sheet.proofs.Asked.write_answer.Goals as goal

pub loop-k-init : goal.loop-k-init
loop-k-init c = (behind-none _ _ _ (omega arith), refl)

pub loop-k-preserved : goal.loop-k-preserved
loop-k-preserved c = let l = c.loop-k in
    let stands = trial-put _ _ _ _ (omega arith) (omega arith) c.trial_words.ensures c.write_at.ensures in
    (behind-turn _ l.invariant.0 (omega arith) stands, omega arith)

pub returns : goal.returns
returns c = let e : c.loop-k.k ≡ c.args.b.state.trials = omega arith in
    answer_yes _ _ _ _ (omega arith) c.answer_words.ensures c.write_block.ensures (rw (← e) c.loop-k.invariant.0.row)
