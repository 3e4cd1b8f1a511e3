-- The words of an answer block, of a trial block and of a refusal's block (docs/FORMAT.md, "The answer"). What a task's answer lacks is 0. Assumes nothing.
use Rattle.std.specs.Prelude.{ℕ, ◌+◌, ◌*◌, Bool, true, false, cond, ◌||◌, List, [], ◌∷◌, ◌++◌, eqb, leb, get_or, replicate}
use Rattle.floats.specs.Small.{bits_of}
use Rattle.floats.specs.Vector.{at, fill_from}
use Rattle.blocks.specs.declared.Rule.{Rule}
use Rattle.blocks.specs.Words.{word}
use Rattle.blocks.specs.Bytes.{word_at, row_to, block_bytes}
use Rattle.thermo_models.specs.declared.ValidityStatus.{ValidityStatus}
use Rattle.thermo_models.specs.declared.ValidityStatus.TheVariants.{Unassessed, WithinDeclaredDomain, Extrapolated}
use Rattle.liquid_stability.specs.declared.LiquidStabilityTrial.{LiquidStabilityTrial}
use Rattle.liquid_stability.specs.Stability.{no_trial}
use Rattle.replies.specs.declared.State.{State}
use Rattle.replies.specs.declared.ModelState.{ModelState}
use Rattle.replies.specs.declared.AnswerBlock.{AnswerBlock}

-- 1 for yes
abbrev pub bit : Bool → ℕ
bit true = 1
bit false = 0

-- of validity: 0 unassessed, 1 within, 2 extrapolated
abbrev pub status_number : ValidityStatus → ℕ
status_number Unassessed = 0
status_number WithinDeclaredDomain = 1
status_number Extrapolated = 2

-- words 4 to 13
unfoldable pub state_words : State → List ℕ
state_words s =
    bits_of s.temperature ∷ bits_of s.pressure ∷ bits_of s.bubble ∷ bits_of s.dew ∷ s.iterations ∷ bits_of s.residual ∷ bits_of s.balance
    ∷ bits_of s.vapor_fraction ∷ s.trials ∷ s.notes ∷ []

-- words 30 to 38
unfoldable pub model_words : ModelState → List ℕ
model_words m =
    bits_of m.reduced ∷ bits_of m.gibbs ∷ bits_of m.enthalpy ∷ bits_of m.entropy ∷ bits_of m.heat_capacity ∷ status_number m.validity
    ∷ bit m.inferred ∷ bit m.stable ∷ m.evaluations ∷ []

-- the answer block: 9, task, 0, outcome, then words 4 to 13, 14 to 21 liquid, 22 to 29 vapor, 30 to 38
unfoldable pub answer_words : ℕ → AnswerBlock → List ℕ
answer_words task b =
    fill_from (word_at (model_words b.model)) 30 9
    (fill_from (λ i. bits_of (at b.vapor i)) 22 8
    (fill_from (λ i. bits_of (at b.liquid i)) 14 8
    (fill_from (word_at (state_words b.state)) 4 10
    (9 ∷ task ∷ 0 ∷ b.outcome ∷ replicate 60 0))))

-- a trial's: 10, component, distance, iterations, trivial, eight fractions
unfoldable pub trial_words : LiquidStabilityTrial → List ℕ
trial_words t =
    fill_from (λ i. bits_of (at t.composition i)) 5 8
    (10 ∷ t.component ∷ bits_of t.distance ∷ t.iterations ∷ bit t.trivial ∷ replicate 59 0)

-- an answer: its block, and the trials, as many as word 12 says
pub record Answer : Type 0 where
  pub block : AnswerBlock
  pub trials : List LiquidStabilityTrial

unfoldable pub trial_bytes : Rule → List LiquidStabilityTrial → ℕ → List ℕ
trial_bytes rule l k = block_bytes rule (word_at (trial_words (get_or l k no_trial)))

-- the answer block, then the blocks of the trials, each with its check
unfoldable pub answer_bytes : Rule → ℕ → Answer → List ℕ
answer_bytes rule task a = block_bytes rule (word_at (answer_words task a.block)) ++ row_to (trial_bytes rule a.trials) a.block.state.trials

-- the bytes that an answer is lent: its block and eight trials
abbrev pub answer_room : ℕ
answer_room = 4608

-- the bytes of the answer at the front of a slice: its block and as many trials as word 12 says, at most eight
unfoldable pub answer_length : List ℕ → ℕ
answer_length s = cond (leb (word s 12) 8) (512 * (1 + word s 12)) 512

-- ---- a refusal's block

-- the numbers that are put before the task is known: their block has task 0
abbrev pub taskless : ℕ → Bool
taskless r = leb r 12 || eqb r 35 || eqb r 37 || eqb r 38

-- the task of the question that was refused with r
unfoldable pub refused_task : List ℕ → ℕ → ℕ
refused_task question r = cond (taskless r) 0 (word question 1)

-- 9, that task, the number
unfoldable pub refusal_words : List ℕ → ℕ → List ℕ
refusal_words question r = 9 ∷ refused_task question r ∷ r ∷ replicate 61 0

unfoldable pub refusal_bytes : Rule → List ℕ → ℕ → List ℕ
refusal_bytes rule question r = block_bytes rule (word_at (refusal_words question r))

-- ---- the block of a question that a queue puts off: 9, task 7, 0, outcome 4
abbrev pub put_off : ℕ
put_off = 4

unfoldable pub put_off_words : List ℕ
put_off_words = 9 ∷ 7 ∷ 0 ∷ put_off ∷ replicate 60 0

unfoldable pub put_off_bytes : Rule → List ℕ
put_off_bytes rule = block_bytes rule (word_at put_off_words)
