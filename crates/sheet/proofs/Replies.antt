-- Each task's answer from what its solver gave, by a table that stands for the mixture. Assumes nothing.
use mathlib.Core.Path.{◌≡◌, refl, sym, ap, ◌∙◌}
use mathlib.Core.Bool.{true, false}
use mathlib.Core.List.{List}
use Prim.Native.Nat.{ℕ, ◌+◌, ◌^◌, ◌≤◌, ◌<◌}
use native.Mathlib.Nat.{min-le_right}
use native.Mathlib.Omega.{arith}
use lib.Ieee.{Float}
use Rattle.floats.specs.Small.{is_finite}
use Rattle.floats.specs.Vector.{places}
use Rattle.floats.specs.Outcome.{Out, ok, no, bind}
use Rattle.floats.proofs.Outcomes.{refused, bind_yes, bind-no, need_yes, need-no}
use Rattle.counted.specs.Counted.{Counted, told, count_word, Counts}
use Rattle.counted.proofs.Laws.{word_small}
use Rattle.thermo_types.specs.declared.ActivityOptions.{ActivityOptions}
use Rattle.excess.specs.declared.Energies.{Energies}
use Rattle.excess.specs.State.{Excess}
use Rattle.excess.specs.Answers.{energies_of, excess_ln_gammas, excess_slopes}
use Rattle.thermo_models.specs.declared.Tabled.{Tabled}
use Rattle.thermo_models.specs.Model.{Activity}
use Rattle.thermo_models.specs.Activity.{excess_by_reason, activity_by_reason}
use Rattle.thermo_models.specs.Mixture.{Mixture}
use Rattle.rachford_rice.specs.declared.RachfordRiceOutcome.{RachfordRiceOutcome}
use Rattle.rachford_rice.specs.declared.RachfordRiceOutcome.TheVariants.{LiquidOnly, VaporOnly, TwoPhase}
use Rattle.rachford_rice.specs.Rachford.{Solution, two_phase}
use Rattle.saturation.specs.Saturation.{bubble_task, dew_task}
use Rattle.liquid_stability.specs.Stability.{Trials, stability_of}
use Rattle.liquid_stability.specs.Counted.{stability_counted}
use Rattle.liquid_stability.proofs.Counts.{stability_few}
use Rattle.liquid_stability.proofs.Forgets.{stability_outcome}
use Rattle.tp_flash.specs.Tp.{Flash, trials_of}
use Rattle.tp_flash.specs.Counted.{phases_counted}
use Rattle.tp_flash.proofs.Counts.{phases-few}
use Rattle.tp_flash.proofs.Forgets.{phases-outcome}
use Rattle.question.specs.declared.Question.{Question}
use Rattle.replies.specs.Blocks.{Answer}
use Rattle.replies.specs.Answers.{excess_block, stability_block, flash_block, rice_block}
use Rattle.sheet.specs.Asked.{split}
use Rattle.sheet.specs.Tasks.{alone, excess_found, saturated, task1, task2, task3, task6, task7_counted, task7}
use Rattle.sheet.specs.Ready.{pressures_in, flash_pressures, TableBy}
use Rattle.sheet.proofs.Flashes.{flashed, told_found}
use Rattle.sheet.proofs.Shared.{table-activity, bubble_from_lem, dew_from, flash_from}

-- ---- 1: what the two arrays and the energies found are
abbrev found_excess : Energies → List Float → List Float → Excess
found_excess e lg sl = record { ln_gamma = lg; slopes = sl; reduced = e.reduced; gibbs = e.gibbs; enthalpy = e.enthalpy; entropy = e.entropy; heat_capacity = e.heat_capacity }

excess-no : (o : Out Excess) {r : ℕ} → no r ≡ energies_of o → o ≡ no r
unfolding energies_of
excess-no (ok a) e = absurd (refused e)
excess-no (no m) e = cc

excess-ok : (o : Out Excess) {e : Energies} {lg sl : List Float} → ok e ≡ energies_of o → lg ≡ excess_ln_gammas o → sl ≡ excess_slopes o → o ≡ ok (found_excess e lg sl)
unfolding energies_of excess_ln_gammas excess_slopes
excess-ok (ok a) e g s = let z = same e in rw (z, g, s)
  where
    same : {u v : Energies} → ok u ≡ ok v → u ≡ v
    same e = cc
excess-ok (no m) e g s = absurd (refused (sym e))

module _ {E : Type 0} {said : E → ℕ} (q : Question) {m : Mixture} {s : Tabled E} {table : List Float} (h : TableBy said m s table) where
  pub excess_refused : {r : ℕ} → no r ≡ energies_of (excess_by_reason said table s q.fractions) → task1 m q s.t.0 ≡ no r
  unfolding task1
  excess_refused e = bind-no _ (sym (h.excess q.fractions) ∙ excess-no _ e)

  module _ {e : Energies} {lg sl : List Float} (a : ok e ≡ energies_of (excess_by_reason said table s q.fractions)) (b : lg ≡ excess_ln_gammas (excess_by_reason said table s q.fractions))
      (c : sl ≡ excess_slopes (excess_by_reason said table s q.fractions)) where
    found_lem : m.excess s.t.0 q.fractions ≡ ok (found_excess e lg sl)
    found_lem = sym (h.excess q.fractions) ∙ excess-ok _ a b c

    pub excess_wild : false ≡ is_finite e.reduced → task1 m q s.t.0 ≡ no 25
    unfolding task1 excess_found
    excess_wild f = bind_yes _ found_lem ∙ need-no 25 _ (sym f)

    pub excess_answered : true ≡ is_finite e.reduced → task1 m q s.t.0 ≡ ok (alone (excess_block s.t.0 (found_excess e lg sl) (m.validity s.t.0 q.fractions)))
    unfolding task1 excess_found
    excess_answered f = bind_yes _ found_lem ∙ need_yes 25 _ (sym f)

  -- ---- 2 and 3
  module _ {ps : List Float} (w : pressures_in (m.liquids s.t.0) ≡ ok ps) where
    pub bubble-at : task2 m q s.t.0 ≡ saturated (bubble_task (activity_by_reason said table s) ps (places s.n) s.t.0 q.fractions)
    unfolding task2
    bubble-at = rw (bubble_from_lem m s.t.0 q.fractions w, table-activity h, h.count)

    pub dew-at : task3 m q s.t.0 ≡ saturated (dew_task (activity_by_reason said table s) ps (places s.n) q.options s.t.0 q.fractions)
    unfolding task3
    dew-at = rw (dew_from m q.options s.t.0 q.fractions w, table-activity h, h.count)

  -- ---- 6 and 7
  pub stability-at : task6 m q s.t.0 ≡ bind (stability_of (activity_by_reason said table s) (places s.n) q.options q.fractions) (λ f. ok (record { block = stability_block f.stable f.count; trials = f.trials }))
  unfolding task6
  stability-at = rw (table-activity h, h.count)

  module _ (p : Float) {ps : List Float} (w : flash_pressures m s.t.0 p ≡ ok ps) where
    abbrev phases : Counted Flash
    phases = phases_counted (activity_by_reason said table s) (places s.n) q.options q.fractions p ps

    pub flash-at : task7_counted m q s.t.0 p ≡ flashed s.t.0 p phases
    unfolding task7_counted
    flash-at = rw (flash_from m q.options s.t.0 q.fractions p w, table-activity h, h.count)

    -- from the phases that the code found, counted from 0
    module _ {new : ℕ} {f : Out Flash} (g : Counts 0 f new phases) where
      from_none : count_word (0 + phases.begun) ≡ count_word phases.begun
      from_none =
          let e : 0 + phases.begun ≡ phases.begun = omega arith in
          ap count_word e

      pub flash-begun : count_word new ≡ count_word (task7_counted m q s.t.0 p).begun
      unfolding told
      flash-begun = rw flash-at (g.begun ∙ from_none)

      flash_found : new < 2 ^ 64 → task7 m q s.t.0 p ≡ bind f (λ a. ok (record { block = flash_block s.t.0 p a new; trials = (trials_of a).trials }))
      unfolding task7
      flash_found l = ap (λ (c : Counted Answer). c.outcome) flash-at ∙ told_found s.t.0 p phases g.outcome (sym from_none ∙ sym g.begun ∙ word_small new l)

    pub flash_refused : {new r : ℕ} → Counts 0 (no r) new phases → task7 m q s.t.0 p ≡ no r
    unfolding task7 told
    flash_refused g = ap (λ (c : Counted Answer). c.outcome) flash-at ∙ bind-no _ (sym g.outcome)

    pub flash_answered : {new : ℕ} {a : Flash} → new < 2 ^ 64 → Counts 0 (ok a) new phases
        → task7 m q s.t.0 p ≡ ok (record { block = flash_block s.t.0 p a new; trials = (trials_of a).trials })
    flash_answered l g = flash_found g l ∙ bind_yes _ refl

-- ---- 9
pub split-same : (o : Out Solution) → bind o (λ s. ok (alone (rice_block (TwoPhase s.vapor_fraction s.residual s.iterations) s.liquid s.vapor))) ≡ split (bind o (λ s. ok (two_phase s)))
unfolding split bind two_phase
split-same (ok s) = refl
split-same (no r) = refl

-- ---- 8 and 9 have no trials, 6 and 7 at most eight; the count of 6 is forgotten
pub rice-alone : (o : RachfordRiceOutcome) (x y : List Float) → (rice_block o x y).state.trials ≡ 0
unfolding rice_block
rice-alone LiquidOnly x y = refl
rice-alone VaporOnly x y = refl
rice-alone (TwoPhase β g m) x y = refl

pub trials_found : (E : List Float → Out Activity) (n : ℕ) (o : ActivityOptions) (x : List Float) {old new : ℕ} {f : Out Trials} → Counts old f new (stability_counted E n o x) → f ≡ stability_of E n o x
trials_found E n o x g = g.outcome ∙ stability_outcome E n o x

pub stability_fits : (n : ℕ) (E : List Float → Out Activity) (o : ActivityOptions) (x : List Float) {old new : ℕ} {s : Trials} → Counts old (ok s) new (stability_counted E (places n) o x) → s.count ≤ 8
stability_fits n E o x {s = s} g = omega (arith, ((stability_few E (places n) o x).each s (sym (trials_found E (places n) o x g))).count, min-le_right n 8)

pub flash_fits : (E : List Float → Out Activity) (n : ℕ) (o : ActivityOptions) (z : List Float) (p : Float) (ps : List Float) {old new : ℕ} {f : Flash}
    → Counts old (ok f) new (phases_counted E (places n) o z p ps) → (trials_of f).count ≤ 8
flash_fits E n o z p ps {f = f} g = omega (arith, (phases-few E (places n) o z p ps f (sym (g.outcome ∙ phases-outcome E (places n) o z p ps))).count, min-le_right n 8)
