-- `tp_flash::activity_tp_flash` meets its contract. Assumes nothing.
use Rattle.floats.specs.Outcome.{bind}
use Rattle.outcome.proofs.Exits.{met_refusal}
use Rattle.tp_flash.proofs.Laws.{saturated-stop, saturated-next}
use Rattle.tp_flash.proofs.Settled.{phases-settled, phases-unsettled}
use Rattle.tp_flash.proofs.activity_tp_flash.Goals as goal

pub returns-in_err-feed : goal.returns-in_err-feed
unfolding bind
returns-in_err-feed g c =
    let a = c.args in
    rw (phases-settled g.E.Reason.said a.at a.table.now a.o a.z.now a.p.0 a.ps.now c.in-Ok.ensures, met_refusal g.E.Reason.said g.met.E.Reason.of_refusal _ _ c.from_residual.ensures.1)
    (saturated-stop _ _ _ _ _ _ c.in_err-feed.ensures.saturated)

pub returns-in_err-at : goal.returns-in_err-at
unfolding bind
returns-in_err-at g c =
    let a = c.args in
    let f = c.in_ok-feed.ensures in
    rw (phases-settled g.E.Reason.said a.at a.table.now a.o a.z.now a.p.0 a.ps.now c.in-Ok.ensures, met_refusal g.E.Reason.said g.met.E.Reason.of_refusal _ _ c.from_residual-in_err-at.ensures.1)
    (saturated-next _ _ _ _ _ _ f.saturated (rw f.feed at c.in_err-at.ensures))

pub returns : goal.returns
unfolding bind
returns g c =
    let a = c.args in
    let f = c.in_ok-feed.ensures in
    rw (phases-settled g.E.Reason.said a.at a.table.now a.o a.z.now a.p.0 a.ps.now c.in-Ok.ensures) (saturated-next _ _ _ _ _ _ f.saturated (rw f.feed at c.in_ok-at.ensures))

pub returns-in-Err : goal.returns-in-Err
returns-in-Err g c =
    let a = c.args in
    phases-unsettled g.E.Reason.said a.at a.table.now a.o a.z.now a.p.0 a.ps.now c.in-Err.ensures c.begin.ensures
