-- `sheet::task_or_flash` meets its contract. Assumes nothing.
use Rattle.sheet.proofs.Dispatch.{by_seven}
use Rattle.sheet.proofs.task_or_flash.Goals as goal

pub returns : goal.returns
returns c = by_seven c.args.number _ c.unwrap_or.ensures c.try_from.ensures
