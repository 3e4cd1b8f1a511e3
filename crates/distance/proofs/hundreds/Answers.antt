-- `distance::hundreds` meets its contract. Assumes nothing.
use borrow.Author.Rules.{rules}
use Rattle.distance.proofs.Steps.{hundreds-fit}
use Rattle.distance.proofs.hundreds.Goals as goal

pub int_to_float-result : goal.int_to_float-result
int_to_float-result c = search hundreds-fit
