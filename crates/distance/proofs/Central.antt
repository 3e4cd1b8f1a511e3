-- A flash's question at any pressure: the same bubble and dew pressure, and its phases by them; and from what was made ready to the search. Assumes nothing.
use Prim.Native.Nat.{ℕ}
use mathlib.Core.Path.{◌≡◌, refl, sym, ◌∙◌, ap, fun_ext}
use mathlib.Core.Bool.{Bool, true, false}
use mathlib.Core.List.{List}
use lib.Dec.{T}
use lib.Ieee.{Float}
use Rattle.std.specs.Prelude.{Result, Ok, Err}
use Rattle.floats.specs.Vector.{places}
use Rattle.floats.specs.Outcome.{Out, ok, no, bind, need, choose}
use Rattle.floats.proofs.Outcomes.{refused, bind_yes, bind-no, bind_inv, need_inv, need_then}
use Rattle.outcome.specs.declared.Refusal.{Refusal}
use Rattle.outcome.specs.Refused.{number}
use Rattle.thermo_types.specs.Quantities.{positive_of}
use Rattle.thermo_types.specs.declared.ActivityOptions.{ActivityOptions}
use Rattle.thermo_models.specs.declared.Tabled.{Tabled}
use Rattle.thermo_models.specs.Model.{Activity, Pures, pressure_in_domain}
use Rattle.thermo_models.specs.Activity.{activity_on}
use Rattle.thermo_models.specs.Mixture.{Mixture, activity, mixture_of}
use Rattle.tp_flash.specs.Tp.{Flash, phases_of, saturated_of, tp_flash}
use Rattle.tp_flash.specs.declared.Saturated.{Saturated}
use Rattle.tp_flash.proofs.Laws.{phases-by}
use Rattle.question.specs.declared.Question.{Question}
use Rattle.replies.specs.Blocks.{Answer}
use Rattle.sheet.specs.Tasks.{task7, task_at, task_of}
use Rattle.sheet.specs.Ready.{pressures_in, flash_pressures, pressures_for, Readied}
use Rattle.sheet.proofs.Flashes.{flash_answer, task7-is}
use Rattle.sheet.proofs.Shared.{table-activity, task-refused}
use Rattle.distance.specs.Distance.{step_count, at_pressure, outcome_at, search_from, searched}
use Rattle.distance.specs.Steps.{phases_in, outcome_by}
use Rattle.distance.specs.declared.Distance.{Distance}

-- ---- laws of outcomes
pub bind-bind : {A B C : Type 0} (x : Out A) (k : A → Out B) (l : B → Out C) → bind (bind x k) l ≡ bind x (λ a. bind (k a) l)
unfolding bind
bind-bind (ok a) k l = refl
bind-bind (no r) k l = refl

bind-same : {A B : Type 0} (x : Out A) (k l : A → Out B) → ((a : A) → k a ≡ l a) → bind x k ≡ bind x l
unfolding bind
bind-same (ok a) k l h = h a
bind-same (no r) k l h = refl

pub need_held : {A : Type 0} (b : Bool) (r : ℕ) (x : Out A) → T b → need b r x ≡ x
unfolding need
need_held true r x h = refl
need_held false r x h = absurd h

pure_from : {B : Type 0} (o : Out Pures) (k : List Float → Out B) {ps : List Float} → pressures_in o ≡ ok ps → bind o (λ pure. k pure.pressure) ≡ k ps
unfolding pressures_in bind
pure_from (ok v) k {ps} e = let q : v.pressure ≡ ps = cc in ap k q
pure_from (no r) k e = absurd (refused e)

-- ---- a flash's question, at any pressure: its outcome
unfoldable pub outcome : Mixture → Question → Float → Out ℕ
outcome m q p = bind (task_of m (at_pressure q p)) (λ (a : Answer). ok a.block.outcome)

-- of what the flash found
block-outcome : (x : Out Flash) (t p : Float) (k : Flash → ℕ) → bind (bind x (λ f. ok (flash_answer t p f (k f)))) (λ (a : Answer). ok a.block.outcome) ≡ phases_in x
unfolding bind
block-outcome (ok f) t p k = refl
block-outcome (no r) t p k = refl

module _ (m : Mixture) (q : Question) (seven : q.task ≡ 7) {t : Float} (warm : positive_of q.temperature 13 ≡ ok t) where
  pub at-seven : (p : Float) → task_of m (at_pressure q p) ≡ bind (positive_of p 14) (task7 m (at_pressure q p) t)
  unfolding task_of task_at choose
  at-seven p = rw (seven, bind_yes _ warm)

  module _ {ps : List Float} (inside : T (m.domain t)) (pure : pressures_in (m.liquids t) ≡ ok ps) where
    -- 22 and 25 are behind: 23, then the phases
    flash-at : (p : Float) → tp_flash (activity m) m.liquids m.domain m.n q.options t q.fractions p
        ≡ need (pressure_in_domain p) 23 (phases_of (activity m t) m.n q.options q.fractions p ps)
    unfolding tp_flash
    flash-at p =
        need_held (m.domain t) 22 _ inside
        ∙ ap (need (pressure_in_domain p) 23) (pure_from (m.liquids t) (λ l. phases_of (activity m t) m.n q.options q.fractions p l) pure)

    seven_at : (p v : Float) → bind (task7 m (at_pressure q p) t v) (λ (a : Answer). ok a.block.outcome)
        ≡ need (pressure_in_domain v) 23 (phases_in (phases_of (activity m t) m.n q.options q.fractions v ps))
    seven_at p v =
        ap (λ (x : Out Answer). bind x (λ (a : Answer). ok a.block.outcome)) (task7-is m (at_pressure q p) t v) ∙ block-outcome _ t v _ ∙ ap phases_in (flash-at v)
        ∙ need_then (pressure_in_domain v) 23 _ _

    pub outcome-at : (p : Float) → outcome m q p
        ≡ bind (positive_of p 14) (λ v. need (pressure_in_domain v) 23 (phases_in (phases_of (activity m t) m.n q.options q.fractions v ps)))
    unfolding outcome
    outcome-at p =
        ap (λ (x : Out Answer). bind x (λ (a : Answer). ok a.block.outcome)) (at-seven p)
        ∙ bind-bind (positive_of p 14) _ _ ∙ bind-same (positive_of p 14) _ _ (seven_at p)

    -- bubble and dew are the feed's
    outcome-by : {s : Saturated} → saturated_of (activity m t) m.n q.options q.fractions ps ≡ ok s → (p : Float)
        → outcome m q p ≡ outcome_by (activity m t) m.n q.options q.fractions ps s p
    unfolding outcome_by
    outcome-by e p =
        outcome-at p
        ∙ bind-same (positive_of p 14) _ _ (λ v. ap (λ (x : Out Flash). need (pressure_in_domain v) 23 (phases_in x)) (phases-by _ _ _ _ v ps ∙ bind_yes _ e))

    -- or refused at P
    outcome-no : {r : ℕ} → saturated_of (activity m t) m.n q.options q.fractions ps ≡ no r → (p : Float) {v : Float} → positive_of p 14 ≡ ok v
        → T (pressure_in_domain v) → outcome m q p ≡ no r
    unfolding bind
    outcome-no e p {v} a b =
        outcome-at p ∙ bind_yes _ a ∙ need_held (pressure_in_domain v) 23 _ b ∙ ap phases_in (phases-by _ _ _ _ v ps ∙ bind-no _ e)

-- ---- from what was made ready

-- from bubble and dew on: the flash at P, then the search
abbrev pub from : Question → (Float → Out ℕ) → Out Distance
from q f = bind (f q.pressure) (λ o. ok (search_from f q.pressure o step_count 0 0))

-- from the model on
abbrev runs : (List Float → Out Activity) → ℕ → Question → List Float → Out Distance
runs E n q ps = bind (saturated_of E n q.options q.fractions ps) (λ y. from q (outcome_by E n q.options q.fractions ps y))

module _ (book : List ℕ) (n : ℕ) (q : Question) (seven : q.task ≡ 7) where
  pub ready_no : {table ps : List Float} {e : Refusal} → Readied (mixture_of book n) 7 q.temperature q.pressure (Err e) table ps → searched book n q ≡ no (number e)
  unfolding searched outcome_at task_of choose
  ready_no {e = e} h = bind-no _ (bind-no _ (rw seven (rw seven at (task-refused (mixture_of book n) (at_pressure q q.pressure) {r = number e} (rw seven (h.refused _ refl))))))

  -- with the mixture's own model
  searched-by : {t v : Float} {ps : List Float} (x : Out Saturated) → saturated_of (activity (mixture_of book n) t) n q.options q.fractions ps ≡ x
      → positive_of q.temperature 13 ≡ ok t → positive_of q.pressure 14 ≡ ok v → T ((mixture_of book n).domain t) → T (pressure_in_domain v)
      → pressures_in ((mixture_of book n).liquids t) ≡ ok ps
      → searched book n q ≡ bind x (λ y. from q (outcome_by (activity (mixture_of book n) t) n q.options q.fractions ps y))
  unfolding searched outcome_at outcome bind
  searched-by {t} {v} {ps} (ok y) e warm a d b pure =
      let f : outcome_at book n q ≡ outcome_by (activity (mixture_of book n) t) n q.options q.fractions ps y
      = fun_ext (outcome-by (mixture_of book n) q seven warm d pure e) in
      ap (from q) f
  searched-by (no r) e warm a d b pure = bind-no _ (outcome-no (mixture_of book n) q seven warm d pure e q.pressure a b)

  module _ {table ps : List Float} {s : Tabled Refusal} (h : Readied (mixture_of book n) 7 q.temperature q.pressure (Ok s) table ps) where
    pub ready_at : searched book n q ≡ bind (saturated_of (activity_on table s) (places s.n) q.options q.fractions ps) (λ y. from q (outcome_by (activity_on table s) (places s.n) q.options q.fractions ps y))
    unfolding pressures_for flash_pressures choose
    ready_at =
        let tables = h.tables s refl in
        let pressed : bind (positive_of q.pressure 14) (flash_pressures (mixture_of book n) s.t.0) ≡ ok ps = h.pressures s refl in
        let v = bind_inv (positive_of q.pressure 14) (flash_pressures (mixture_of book n) s.t.0) pressed in
        let d = need_inv ((mixture_of book n).domain s.t.0) 22 _ v.2 in
        let b = need_inv (pressure_in_domain v.0) 23 _ d.1 in
        searched-by _ refl (h.temperature s refl) v.1 d.0 b.0 b.1
        ∙ sym (ap (λ (k : ℕ). runs (activity_on table s) k q ps) tables.count ∙ ap (λ (E : List Float → Out Activity). runs E n q ps) (table-activity tables))
