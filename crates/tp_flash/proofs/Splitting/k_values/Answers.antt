use borrow.Author.Tests.{tests}
use Rattle.std.proofs.Common.{arith, rules}
use Rattle.floats.proofs.Made.{filled}
use Rattle.tp_flash.proofs.Laws.{k-values-is}
use Rattle.tp_flash.proofs.Splitting.k_values.Goals as goal

pub returns : goal.returns
returns c = let f = c.args.self.feed in
    k-values-is f.z.now f.ps.now _ (omega arith) _ c.args.self.of_pressures c.args.self.of_p c.args.lg.now c.exps-k.result
    (filled _ _ _ (omega arith) c.from_fn-ln_k.ensures.items (λ i y q k. search (rules, tests))) (rw c.places-n.ensures at c.exps-k.ensures)
    (filled _ _ _ (omega arith) c.from_fn.ensures.items (λ i y q k. search (rules, tests)))
