-- `saturation_temperature::Feed::try_bubble` meets its contract. Assumes nothing.
use Rattle.floats.specs.Outcome.{bind}
use Rattle.outcome.proofs.Exits.{met}
use Rattle.saturation_temperature.specs.Answers.{bubble_tried}
use Rattle.saturation_temperature.proofs.Points.{kelvin_ok, feed-is, pures-is}
use Rattle.saturation_temperature.proofs.Feed.try_bubble.Goals as goal

pub returns-in_err-a : goal.returns-in_err-a
unfolding bubble_tried bind
returns-in_err-a c =
    rw (
      met c.in_err-a.field-0.0 c.from_residual-in_err-a.result c.from_residual-in_err-a.ensures.1,
      kelvin_ok _ c.in_ok-kelvin.ensures,
      feed-is _ _ _ c.args.self.m.few _ _ c.tables-s.ensures c.in_err-a.ensures,
    )

pub returns-in_err-pure : goal.returns-in_err-pure
unfolding bubble_tried bind
returns-in_err-pure c =
    rw (
      met c.in_err-pure.field-0.0 c.from_residual-in_err-pure.result c.from_residual-in_err-pure.ensures.1,
      kelvin_ok _ c.in_ok-kelvin.ensures,
      feed-is _ _ _ c.args.self.m.few _ _ c.tables-s.ensures c.in_ok-a.ensures,
      pures-is _ _ _ c.args.self.m.few c.in_err-pure.ensures,
    )

pub returns : goal.returns
unfolding bubble_tried bind
returns c =
    rw (
      kelvin_ok _ c.in_ok-kelvin.ensures,
      feed-is _ _ _ c.args.self.m.few _ _ c.tables-s.ensures c.in_ok-a.ensures,
      pures-is _ _ _ c.args.self.m.few c.in_ok-pure.ensures,
      ← c.weigh-sum.ensures.sum,
      ← c.weigh-sum.ensures.slopes,
      ← c.ln.ensures,
      ← c.ln-2.ensures,
    )
