-- `rice_exports::put_split` meets its contract: what is stored in the first nineteen entries is stored in the slice. Assumes nothing.
use mathlib.Core.Path.{◌≡◌, ◌∙◌}
use mathlib.Core.Bool.{true}
use Rattle.std.proofs.Common.{rules}
use Rattle.rice_exports.specs.Splits.{sized}
use Rattle.rice_exports.proofs.Fronts.{written_in_front}
use Rattle.rice_exports.proofs.put_split.Goals as goal

pub returns : goal.returns
unfolding sized
returns g c = λ f h. let a = c.args in let s = c.in-Some-Some in let o = c.in-Some in
    let n : sized a.z.now a.k.now a.out.now ≡ true = search rules in
    let e = h _ _ _ s.ensures.cases.same s.ensures'.cases.same c.split.ensures in
    rw n (c.put_answer.ensures.value ∙ rw e, rw (c.put_answer.ensures.out_after, o.ensures.cases.same, e) (written_in_front f _ o.ensures.cases.enough))
