-- The steps once bubble and dew pressure are known, and what the code keeps from step to step. Assumes nothing.
use Rattle.std.specs.Prelude.{ℕ, ◌≡◌, true, false, List, Float, Result, Some}
use Rattle.std.specs.Float.Ieee.{le}
use Rattle.floats.specs.Vector.{places}
use Rattle.floats.specs.Outcome.{Out, ok, bind, need}
use Rattle.outcome.specs.Refused.{outcome_of}
use Rattle.outcome.specs.declared.Refusal.{Refusal}
use Rattle.thermo_types.specs.Quantities.{positive_of}
use Rattle.thermo_types.specs.declared.ActivityOptions.{ActivityOptions}
use Rattle.thermo_models.specs.Model.{Activity, pressure_in_domain}
use Rattle.thermo_models.specs.Activity.{activity_on}
use Rattle.tp_flash.specs.Tp.{Flash, between_of}
use Rattle.tp_flash.specs.declared.Saturated.{Saturated}
use Rattle.tp_flash.specs.declared.FlashFeed.{FlashFeed}
use Rattle.replies.specs.Answers.{phase_number}
use Rattle.distance.specs.declared.Kept.{Kept}

-- word 3 of a flash's answer
abbrev pub phases_in : Out Flash → Out ℕ
phases_in f = bind f (λ f. ok (phase_number f.phases))

-- the outcome at p: 14, 23, then by bubble and dew; over the activity model E at T, the count n of solvents, the options o, the feed z and its vapor pressures ps
unfoldable pub outcome_by : (List Float → Out Activity) → ℕ → ActivityOptions → List Float → List Float → Saturated → Float → Out ℕ
outcome_by E n o z ps s p =
    bind (positive_of p 14) (λ v.
    need (pressure_in_domain v) 23
    (phases_in (between_of E n o z v ps s.bubble s.dew)))

-- ---- of a feed as the code has it

-- its phases at p
unfoldable pub phases_at : FlashFeed → Float → Out ℕ
phases_at f p = phases_in (between_of (activity_on f.feed.table.now f.feed.at) (places f.feed.at.n) f.feed.o f.feed.z.now p f.feed.ps.now f.saturated.bubble f.saturated.dew)

-- its outcome at p
unfoldable pub outcome_in : FlashFeed → Float → Out ℕ
outcome_in f = outcome_by (activity_on f.feed.table.now f.feed.at) (places f.feed.at.n) f.feed.o f.feed.z.now f.feed.ps.now f.saturated

-- what is kept from step to step: once known, that of one liquid at each p ≥ bubble, and of one vapor at each other p ≤ dew
pub record Keeps (f : FlashFeed) (k : Kept) : Type 0 where
  pub liquid : (r : Result ℕ Refusal) → k.liquid ≡ Some r → (p : Float) → le f.saturated.bubble p ≡ true → outcome_of r ≡ phases_at f p
  pub vapor : (r : Result ℕ Refusal) → k.vapor ≡ Some r → (p : Float) → le f.saturated.bubble p ≡ false → le p f.saturated.dew ≡ true → outcome_of r ≡ phases_at f p
