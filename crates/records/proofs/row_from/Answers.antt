-- `records::row_from` meets its contract. The law `row_code` computes both sides. Assumes nothing.
use Rattle.std.proofs.Common.{◌∙◌, ◌≤◌, arith}
use Rattle.records.proofs.Rows.{row_code, row-few, row_capped}
use Rattle.records.proofs.row_from.Goals as goal

pub returns : goal.returns
returns c =
    let low : c.min-i.result ≤ c.args.m.n = omega arith in
    let e = row_code c.args.m.n c.min-i.result c.args.m.few low in
    (e ∙ row_capped c.args.m.n c.args.i c.min-i.ensures, omega (arith, e, row-few c.args.m.n c.min-i.result c.args.m.few low))
