-- `tp_flash::Splitting::split_turn` meets its contract. Assumes nothing.
use Rattle.counted.proofs.Laws.{counts_pure, counts-pure-stop}
use Rattle.outcome.proofs.Exits.{met}
use Rattle.tp_flash.proofs.Laws.{no_rice, from_rice}
use Rattle.tp_flash.proofs.Splitting.split_turn.Goals as goal

pub returns-in_err-rr : goal.returns-in_err-rr
returns-in_err-rr c = rw (met c.in_err-rr.field-0.0 c.from_residual.result c.from_residual.ensures.1) (no_rice _ _ _ _ _ _ _ c.k_values-k.ensures c.in_err-rr.ensures)

pub returns-in_err-x : goal.returns-in_err-x
returns-in_err-x c = rw (met c.in_err-x.field-0.0 c.from_residual-in_err-x.result c.from_residual-in_err-x.ensures.1)
    (from_rice _ _ _ _ _ _ _ c.k_values-k.ensures c.in_ok-rr.ensures (counts-pure-stop _ c.in_err-x.ensures))

pub returns-in_err-y : goal.returns-in_err-y
returns-in_err-y c = rw (met c.in_err-y.field-0.0 c.from_residual-in_err-y.result c.from_residual-in_err-y.ensures.1)
    (from_rice _ _ _ _ _ _ _ c.k_values-k.ensures c.in_ok-rr.ensures (counts_pure _ c.in_ok-x.ensures (counts-pure-stop _ c.in_err-y.ensures)))

pub returns : goal.returns
returns c = from_rice _ _ _ _ _ _ _ c.k_values-k.ensures c.in_ok-rr.ensures (counts_pure _ c.in_ok-x.ensures (counts_pure _ c.in_ok-y.ensures (rw c.vapor_fraction-beta.ensures at c.turn_at.ensures)))
