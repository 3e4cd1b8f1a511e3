-- The answer block of each task from what its solver found. Assumes nothing.
use Rattle.std.specs.Prelude.{ℕ, Bool, false, List, Float, is_some}
use Rattle.floats.specs.Arithmetic.{0f}
use Rattle.floats.specs.Vector.{zeros8}
use Rattle.excess.specs.State.{Excess}
use Rattle.thermo_models.specs.declared.Assessment.{Assessment}
use Rattle.thermo_models.specs.declared.ValidityStatus.TheVariants.{Unassessed}
use Rattle.rachford_rice.specs.declared.RachfordRiceOutcome.{RachfordRiceOutcome}
use Rattle.rachford_rice.specs.declared.RachfordRiceOutcome.TheVariants.{LiquidOnly, VaporOnly, TwoPhase}
use Rattle.saturation.specs.Saturation.{Saturation}
use Rattle.tp_flash.specs.Tp.{Flash, trials_of}
use Rattle.tp_flash.specs.declared.FlashPhases.{FlashPhases}
use Rattle.tp_flash.specs.declared.FlashPhases.TheVariants.{Liquid, Vapor, Both}
use Rattle.replies.specs.declared.State.{State}
use Rattle.replies.specs.declared.ModelState.{ModelState}
use Rattle.replies.specs.declared.AnswerBlock.{AnswerBlock}

-- words 30 to 38 of a task that has none of these but, in 6 and 7, whether the liquid is stable, and in 7 the evaluations begun
abbrev pub no_model : Bool → ℕ → ModelState
no_model stable evaluations = record { reduced = 0f; gibbs = 0f; enthalpy = 0f; entropy = 0f; heat_capacity = 0f; validity = Unassessed; inferred = false; stable = stable; evaluations = evaluations }

-- the block of such a task
abbrev pub plain_block : ℕ → State → List Float → List Float → Bool → ℕ → AnswerBlock
plain_block outcome state liquid vapor stable evaluations = record { outcome = outcome; state = state; liquid = liquid; vapor = vapor; model = no_model stable evaluations }

-- words 4 to 13 of a feed's split (8 and 9)
abbrev pub split_state : Float → Float → ℕ → State
split_state β residual count =
    record { temperature = 0f; pressure = 0f; bubble = 0f; dew = 0f; iterations = count; residual = residual; balance = 0f; vapor_fraction = β; trials = 0; notes = 0 }

-- 1: ln γ and slopes in the places of liquid and vapor
abbrev pub excess_block : Float → Excess → Assessment → AnswerBlock
excess_block t e v = record {
  outcome = 0;
  state = record { temperature = t; pressure = 0f; bubble = 0f; dew = 0f; iterations = 0; residual = 0f; balance = 0f; vapor_fraction = 0f; trials = 0; notes = 0 };
  liquid = e.ln_gamma;
  vapor = e.slopes;
  model = record {
    reduced = e.reduced;
    gibbs = e.gibbs;
    enthalpy = e.enthalpy;
    entropy = e.entropy;
    heat_capacity = e.heat_capacity;
    validity = v.status;
    inferred = v.inferred;
    stable = false;
    evaluations = 0;
  };
}

-- 2 to 5
abbrev pub saturation_block : Saturation → AnswerBlock
saturation_block s =
    plain_block 0
    (record {
      temperature = s.temperature;
      pressure = s.pressure;
      bubble = 0f;
      dew = 0f;
      iterations = s.iterations;
      residual = s.residual;
      balance = 0f;
      vapor_fraction = 0f;
      trials = 0;
      notes = 0;
    })
    s.liquid s.vapor false 0

-- 6: whether the liquid is stable in its trials
abbrev pub stability_block : Bool → ℕ → AnswerBlock
stability_block stable count =
    plain_block 0
    (record { temperature = 0f; pressure = 0f; bubble = 0f; dew = 0f; iterations = 0; residual = 0f; balance = 0f; vapor_fraction = 0f; trials = count; notes = 0 })
    zeros8 zeros8 stable 0

-- 1 liquid, 2 vapor, 3 both
abbrev pub phase_number : FlashPhases → ℕ
phase_number Liquid = 1
phase_number Vapor = 2
phase_number Both = 3

-- 7, with the evaluations that it began: a liquid that was tested is stable, else it was refused with 29
abbrev pub flash_block : Float → Float → Flash → ℕ → AnswerBlock
flash_block t p f evaluations =
    plain_block (phase_number f.phases)
    (record {
      temperature = t;
      pressure = p;
      bubble = f.bubble;
      dew = f.dew;
      iterations = f.iterations;
      residual = f.residual;
      balance = f.balance;
      vapor_fraction = f.vapor_fraction;
      trials = (trials_of f).count;
      notes = f.notes;
    })
    f.liquid f.vapor (is_some f.trials) evaluations

-- 8 and 9: 1 liquid, 2 vapor, 3 both with vapor fraction, residual and count
unfoldable pub rice_block : RachfordRiceOutcome → List Float → List Float → AnswerBlock
rice_block LiquidOnly x y = plain_block 1 (split_state 0f 0f 0) x y false 0
rice_block VaporOnly x y = plain_block 2 (split_state 0f 0f 0) x y false 0
rice_block (TwoPhase β residual count) x y = plain_block 3 (split_state β residual count) x y false 0
