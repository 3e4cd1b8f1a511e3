-- `sheet::Source::tables_at` meets its contract. Assumes nothing.
use mathlib.Core.Path.{refl}
use native.Mathlib.Omega.{arith}
use Rattle.sheet.proofs.Shared.{tabled}
use Rattle.sheet.proofs.Source.tables_at.Goals as goal

pub returns : goal.returns
returns c = tabled _ _ _ refl c.book_tables.ensures (omega arith)
