-- The questions ahead of a model come first; an outcome as the code has it. Assumes nothing.
use Prim.Native.Nat.{ℕ}
use mathlib.Core.Path.{◌≡◌, ◌∙◌}
use mathlib.Core.List.{List}
use lib.Ieee.{Float, lt}
use Rattle.std.specs.Prelude.{Result, Ok, Err}
use Rattle.floats.specs.Arithmetic.{0f}
use Rattle.floats.specs.Small.{is_finite, positive}
use Rattle.floats.specs.Vector.{zeros8}
use Rattle.floats.specs.Outcome.{Out, ok, no, bind, need}
use Rattle.floats.proofs.Outcomes.{need_then, need_both}
use Rattle.outcome.specs.declared.Refusal.{Refusal}
use Rattle.outcome.specs.Refused.{number, outcome_by}
use Rattle.thermo_types.specs.Composition.{with_fractions}
use Rattle.thermo_types.proofs.Passing.{fractions_first}
use Rattle.excess.specs.declared.Energies.{Energies}
use Rattle.excess.specs.State.{Excess, with_state}
use Rattle.excess.specs.Answers.{energies_of, excess_ln_gammas, excess_slopes, GivesBy, Gives}

module _ {E : Type 0} {said : E → ℕ} {r : Result Energies E} {lg sl : List Float} where
  -- another outcome, as the code has it
  pub gives : {o o' : Out Excess} → o' ≡ o → GivesBy said o r lg sl → GivesBy said o' r lg sl
  gives e g = rw e g

  -- a refusal, with both arrays cleared
  pub gives-no : (n : ℕ) → outcome_by said r ≡ no n → lg ≡ zeros8 → sl ≡ zeros8 → GivesBy said (no n) r lg sl
  unfolding energies_of excess_ln_gammas excess_slopes
  gives-no n e p q = record { energies = e; values = p; slopes = q }

-- the same outcome as a reason says it
module _ {E : Type 0} (said : E → ℕ) {o : Out Excess} {lg sl : List Float} where
  pub gives-ok : {e : Energies} → Gives o (Ok e) lg sl → GivesBy said o (Ok e) lg sl
  gives-ok g = record { energies = g.energies; values = g.values; slopes = g.slopes }

  pub gives-refusal : {e : Refusal} {r : Result Energies E} → outcome_by said r ≡ no (number e) → Gives o (Err e) lg sl → GivesBy said o r lg sl
  gives-refusal p g = record { energies = p ∙ g.energies; values = g.values; slopes = g.slopes }

-- two questions with one number
pub positive_first : {A : Type 0} (t : Float) (x : ℕ → Float) (n : ℕ) (o : Out A) → with_state t x n o ≡ need (positive t) 13 (with_fractions x n o)
unfolding with_state positive
positive_first t x n o = need_both (is_finite t) (lt 0f t) 13 (with_fractions x n o)

pub state_first : {A : Type 0} (t : Float) (x : ℕ → Float) (n : ℕ) (o : Out A) → with_state t x n o ≡ bind (with_state t x n (ok (tt {0}))) (λ u. o)
state_first t x n o = rw (positive_first t x n o, positive_first t x n (ok (tt {0})), need_then, fractions_first x n o)

-- a model o behind the questions: one of them was answered no, or none
module _ (t : Float) (x : ℕ → Float) (n : ℕ) (o : Out Excess) {r : Result Energies Refusal} {lg sl : List Float} where
  pub asked-no : {k : ℕ} → no k ≡ with_state t x n (ok (tt {0})) → Gives (no k) r lg sl → Gives (with_state t x n o) r lg sl
  unfolding bind
  asked-no e g = gives (state_first t x n o ∙ rw (← e)) g

  pub asked-ok : {u : Unit {0}} → ok u ≡ with_state t x n (ok (tt {0})) → Gives o r lg sl → Gives (with_state t x n o) r lg sl
  unfolding bind
  asked-ok e g = gives (state_first t x n o ∙ rw (← e)) g
