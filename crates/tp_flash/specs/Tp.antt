-- `activity_tp_flash`: the phases of a feed at T and p, in the order of activity.rs, over an activity model E, the pure liquids L
-- and the domain D of temperatures. Assumes nothing.
use Rattle.std.specs.Prelude.{ℕ, ◌+◌, Bool, not, ◌&&◌, List, eqb, Float, Some, None, unwrap_or}
use Rattle.std.specs.Float.Ieee.{lt, le}
use Rattle.floats.specs.Arithmetic.{◌⊖◌, #, 0f, 1f}
use Rattle.floats.specs.Small.{min_of, abs_of}
use Rattle.floats.specs.Vector.{at, zeros8}
use Rattle.floats.specs.Outcome.{Out, ok, bind, need, choose}
use Rattle.thermo_types.specs.Composition.{with_fractions}
use Rattle.thermo_types.specs.declared.ActivityOptions.{ActivityOptions}
use Rattle.thermo_models.specs.Model.{Activity, Activities, Liquids, pressure_in_domain}
use Rattle.saturation.specs.Saturation.{bubble_at, dew_at}
use Rattle.liquid_stability.specs.Stability.{Trials, no_trials, present_count, stability_of}
use Rattle.tp_flash.specs.Split.{Split, balance_of, split_from}
use Rattle.tp_flash.specs.declared.FlashPhases.{FlashPhases}
use Rattle.tp_flash.specs.declared.FlashPhases.TheVariants.{Liquid, Vapor, Both}
use Rattle.tp_flash.specs.declared.Saturated.{Saturated}
use Rattle.tp_flash.specs.declared.ActivityTpFlash.{ActivityTpFlash}

-- notes: bit 0 A7-GAMMA-PHI, bit 1 A7-SPLIT-AT-SATURATION-BOUNDARY, bit 2 A7-LIQUID-TPD-FINITE-TRIALS
abbrev pub gamma_phi : ℕ
gamma_phi = 1

abbrev pub at_boundary : ℕ
at_boundary = 1 + 2

abbrev pub finite_trials : ℕ
finite_trials = 1 + 4

-- the code's struct: pressures in Pa; a single phase has the feed's composition and zeros for the other's; `trials` are of the liquid, where there is one
abbrev pub Flash : Type 0
Flash = ActivityTpFlash

-- the trials of a flash, none where it has no liquid
abbrev pub trials_of : Flash → Trials
trials_of f = unwrap_or f.trials no_trials

-- a vapor fraction inside (0, 1)
unfoldable pub inside : Float → Bool
inside β = lt 0f β && lt β 1f

-- SATURATION_BETA_ROUNDOFF, 1e-10
abbrev pub beta_roundoff : Float
beta_roundoff = # 0x3ddb7cdfd9d7bdbb

-- at 0 or at 1 but for rounding
unfoldable pub near_edge : Float → Bool
near_edge β = le (abs_of (min_of β (1f ⊖ β))) beta_roundoff

-- ---- over the activity model E at T, the count n of solvents, the options o and the feed z

-- `require_stable_liquid`: 29 where the trials find a split
unfoldable pub stable_liquid : (List Float → Out Activity) → ℕ → ActivityOptions → List Float → Out Trials
stable_liquid E n o x = bind (stability_of E n o x) (λ s. need s.stable 29 (ok s))

-- the dew pressure; with one solvent present it is the bubble pressure
unfoldable pub dew_of : (List Float → Out Activity) → ℕ → ActivityOptions → List Float → List Float → Float → Out Float
dew_of E n o z ps bubble = choose (eqb (present_count z n) 1) (ok bubble) (bind (dew_at E ps n o z) (λ d. ok d.pressure))

-- the feed z as one vapor, or as one liquid with its trials
abbrev pub vapor_phase : Float → Float → ℕ → List Float → Flash
vapor_phase bubble dew notes z = record {
  phases = Vapor;
  bubble = bubble;
  dew = dew;
  iterations = 0;
  residual = 0f;
  balance = 0f;
  vapor_fraction = 1f;
  notes = notes;
  liquid = zeros8;
  vapor = z;
  trials = None;
}

abbrev pub liquid_phase : Float → Float → ℕ → List Float → Trials → Flash
liquid_phase bubble dew notes z trials = record {
  phases = Liquid;
  bubble = bubble;
  dew = dew;
  iterations = 0;
  residual = 0f;
  balance = 0f;
  vapor_fraction = 0f;
  notes = notes;
  liquid = z;
  vapor = zeros8;
  trials = Some trials;
}

-- a split with its balance and the trials of its liquid
abbrev pub both_phases : Float → Float → Split → Float → Trials → Flash
both_phases bubble dew s balance trials = record {
  phases = Both;
  bubble = bubble;
  dew = dew;
  iterations = s.iterations;
  residual = s.residual;
  balance = balance;
  vapor_fraction = s.vapor_fraction;
  notes = finite_trials;
  liquid = s.liquid;
  vapor = s.vapor;
  trials = Some trials;
}

-- the feed as one vapor: `with_fractions`
unfoldable pub as_vapor : ℕ → List Float → Float → Float → ℕ → Out Flash
as_vapor n z bubble dew notes = with_fractions (at z) n (ok (vapor_phase bubble dew notes z))

module _ (E : List Float → Out Activity) (n : ℕ) (o : ActivityOptions) (z : List Float) where
  -- the feed as one liquid: its trials, then `with_fractions`
  unfoldable pub as_liquid : Float → Float → ℕ → Out Flash
  as_liquid bubble dew notes =
      bind (stable_liquid E n o z) (λ s.
      with_fractions (at z) n (ok (liquid_phase bubble dew notes z s)))

  -- both: the trials of the liquid, then `with_fractions` of the vapor and of the liquid
  unfoldable pub as_both : Float → Float → Split → Out Flash
  as_both bubble dew s =
      bind (stable_liquid E n o s.liquid) (λ r.
      with_fractions (at s.vapor) n
      (with_fractions (at s.liquid) n
      (ok (both_phases bubble dew s (balance_of s.vapor_fraction s.liquid s.vapor z n) r))))

  -- a split at a boundary is the saturated single phase: vapor if β ≥ 1, else liquid
  unfoldable pub boundary_of : Float → Float → Float → Out Flash
  boundary_of bubble dew β = choose (le 1f β) (as_vapor n z bubble dew at_boundary) (as_liquid bubble dew at_boundary)

  -- a converged split: outside (0, 1) but near an edge, the boundary; else 30 unless β is inside (0, 1)
  unfoldable pub from_split : Float → Float → Split → Out Flash
  from_split bubble dew s =
      choose (not (inside s.vapor_fraction) && near_edge s.vapor_fraction)
      (boundary_of bubble dew s.vapor_fraction)
      (need (inside s.vapor_fraction) 30
      (as_both bubble dew s))

module _ (E : List Float → Out Activity) (n : ℕ) (o : ActivityOptions) (z : List Float) (p : Float) (ps : List Float) where
  -- between dew and bubble: the split from ln γ of the feed
  unfoldable pub split_feed : Float → Float → Out Flash
  split_feed bubble dew =
      bind (E z) (λ a.
      bind (split_from E ps n p z o.tolerance o.max_iterations 0 a.ln_gamma) (λ s.
      from_split E n o z bubble dew s))

  -- p ≥ bubble is liquid, then p ≤ dew is vapor, else the split
  unfoldable pub between_of : Float → Float → Out Flash
  between_of bubble dew =
      choose (le bubble p)
      (as_liquid E n o z bubble dew gamma_phi)
      (choose (le p dew)
      (as_vapor n z bubble dew gamma_phi)
      (split_feed bubble dew))

  -- the dew pressure, then the phases
  unfoldable pub from_dew : Float → Out Flash
  from_dew bubble = bind (dew_of E n o z ps bubble) (λ dew. between_of bubble dew)

  -- bubble and dew both, then the phases
  unfoldable pub phases_of : Out Flash
  phases_of = bind (bubble_at E ps n z) (λ b. from_dew b.pressure)

-- bubble and dew pressure both, which no pressure changes
unfoldable pub saturated_of : (List Float → Out Activity) → ℕ → ActivityOptions → List Float → List Float → Out Saturated
saturated_of E n o z ps = bind (bubble_at E ps n z) (λ b. bind (dew_of E n o z ps b.pressure) (λ dew. ok (record { bubble = b.pressure; dew = dew })))

-- T in the domain (22), p in the domain (23), the pure liquids (25), then the phases
unfoldable pub tp_flash : Activities → Liquids → (Float → Bool) → ℕ → ActivityOptions → Float → List Float → Float → Out Flash
tp_flash E L D n o t z p =
    need (D t) 22
    (need (pressure_in_domain p) 23
    (bind (L t) (λ pure.
    phases_of (E t) n o z p pure.pressure)))

-- ---- as the code begins one phase: without its composition and its trials
abbrev pub single_phase : FlashPhases → Saturated → Float → ℕ → Flash
single_phase phases saturated β notes = record {
  phases = phases;
  bubble = saturated.bubble;
  dew = saturated.dew;
  iterations = 0;
  residual = 0f;
  balance = 0f;
  vapor_fraction = β;
  notes = notes;
  liquid = zeros8;
  vapor = zeros8;
  trials = None;
}
