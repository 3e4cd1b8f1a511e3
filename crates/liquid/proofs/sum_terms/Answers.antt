-- `liquid::sum_terms` meets its contract: the pairs, and the term that an odd count has besides. Assumes nothing.
use Prim.Native.Nat.{◌+◌, ◌*◌, ◌/◌, ◌-◌}
use native.Mathlib.Omega.{arith}
use Rattle.liquid.proofs.Ways.{terms_done, term-next}
use Rattle.liquid.proofs.sum_terms.Goals as goal

pub returns : goal.returns
returns c = let k = c.args.m.n - 1 in
    terms_done _ _ _ _ (k + 1) c.args.m.n (omega arith)
    (term-next _ _ _ _ k c.requires c.exp_two-p.ensures.0 c.exp_two-p.ensures.1 c.exp-r.ensures c.add_term.ensures
    (terms_done _ _ _ _ (2 * (c.args.m.n / 2)) k (omega arith) c.sum_pairs-z.ensures))
