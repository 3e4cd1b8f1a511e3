-- `saturation_temperature::Feed::try_dew` meets its contract. Assumes nothing.
use Rattle.floats.specs.Outcome.{bind}
use Rattle.outcome.proofs.Exits.{met}
use Rattle.saturation_temperature.specs.Boiling.{dew_slope}
use Rattle.saturation_temperature.specs.Answers.{dew_tried}
use Rattle.saturation_temperature.proofs.Points.{kelvin_ok, dew-is, pures-is}
use Rattle.saturation_temperature.proofs.Feed.try_dew.Goals as goal

pub returns-in_err-d : goal.returns-in_err-d
unfolding dew_tried bind
returns-in_err-d c =
    rw (
      met c.in_err-d.field-0.0 c.from_residual-in_err-d.result c.from_residual-in_err-d.ensures.1,
      kelvin_ok _ c.in_ok-kelvin.ensures,
      pures-is _ _ _ c.args.self.m.few c.in_ok-pure.ensures,
      dew-is _ _ _ c.args.self.m.few _ _ c.tables-s.ensures _ _ c.in_err-d.ensures,
    )

pub returns : goal.returns
unfolding dew_tried bind dew_slope
returns c =
    rw (
      kelvin_ok _ c.in_ok-kelvin.ensures,
      pures-is _ _ _ c.args.self.m.few c.in_ok-pure.ensures,
      dew-is _ _ _ c.args.self.m.few _ _ c.tables-s.ensures _ _ c.in_ok-d.ensures,
      ← c.dew_slope.ensures,
      ← c.ln.ensures,
      ← c.ln-2.ensures,
    )
