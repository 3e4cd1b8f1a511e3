-- `saturation_temperature::activity_bubble_temperature` meets its contract. Assumes nothing.
use Rattle.std.proofs.Common.{◌≡◌, rules}
use Rattle.floats.specs.Outcome.{ok, bind, need}
use Rattle.outcome.proofs.Exits.{met}
use Rattle.thermo_models.specs.Activity.{activity_of}
use Rattle.thermo_models.specs.Domain.{pure_liquids_of}
use Rattle.saturation_temperature.specs.Boiling.{saturation_temperature, bubble_point, bubble_temperature}
use Rattle.saturation_temperature.specs.Answers.{bubble_tried}
use Rattle.saturation_temperature.proofs.Points.{bubble-first, bubble-answer}
use Rattle.saturation_temperature.proofs.activity_bubble_temperature.Goals as goal

pub returns-in_err-root : goal.returns-in_err-root
unfolding bubble_temperature saturation_temperature need bind
returns-in_err-root c =
    let n = c.of.result.n in
    let E = activity_of c.args.book.now c.args.parameters.now n in
    let L = pure_liquids_of c.args.book.now n in
    let p = c.value-p.result in
    rw (met c.in_err-root.field-0.0 c.from_residual.result c.from_residual.ensures.1, ← c.of.ensures, ← c.value-p.ensures, ← c.if-not-check_pressure.ensures)
    (rw (← c.in_err-root.ensures.root (bubble_point E L n p c.args.x.now) (λ t r q. bubble-first _ _ _ _ _ t (search rules))))

pub returns : goal.returns
unfolding bubble_temperature saturation_temperature need
returns c =
    let n = c.of.result.n in
    let E = activity_of c.args.book.now c.args.parameters.now n in
    let L = pure_liquids_of c.args.book.now n in
    let p = c.value-p.result in
    let q = c.in_ok-root.ensures.beside.1 in
    let k : ok (c.in_ok-root.ensures.beside.0, (c.in_ok-root.lg, c.in_ok-root.ps)) ≡ bubble_tried E L n p c.args.x.now c.in_ok-root.root.temperature = search rules in
    rw (← c.of.ensures, ← c.value-p.ensures, ← c.if-not-check_pressure.ensures)
    (bubble-answer _ _ _ _ _ c.args.o
    (c.in_ok-root.ensures.root (bubble_point E L n p c.args.x.now) (λ t r q. bubble-first _ _ _ _ _ t (search rules)))
    k
    (c.bubble_with.ensures _))
