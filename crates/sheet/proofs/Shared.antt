-- What the tasks at a temperature share: a table that stands for a mixture, the vapor pressures that a task reads, and both made ready. Assumes nothing.
use Prim.Native.Nat.{ℕ}
use mathlib.Core.Path.{◌≡◌, refl, sym, ap, ◌∙◌, fun_ext}
use mathlib.Core.Bool.{Bool, true, false, ◌||◌}
use mathlib.Core.List.{List}
use lib.Dec.{eqb}
use lib.ListN.{length}
use lib.Ieee.{Float}
use Rattle.std.specs.Prelude.{Result, Ok, Err}
use Rattle.std.specs.Result.{IsErrAnd}
use Rattle.floats.specs.Vector.{places, zeros8}
use Rattle.floats.specs.Outcome.{Out, ok, no, bind, need, choose}
use Rattle.floats.proofs.Outcomes.{refused, bind_yes, bind-no, bind_inv}
use Rattle.outcome.specs.Refused.{number}
use Rattle.outcome.specs.declared.Refusal.{Refusal}
use Rattle.counted.specs.Counted.{Counted, uncounted, bind_counted, need_counted, told}
use Rattle.thermo_types.specs.declared.ActivityOptions.{ActivityOptions}
use Rattle.thermo_types.specs.declared.Temperature.{Temperature}
use Rattle.thermo_types.specs.declared.Pressure.{Pressure}
use Rattle.thermo_types.specs.Quantities.{kelvin, pascal, positive_of}
use Rattle.records.specs.Offered.{with_pair}
use Rattle.records.specs.Parameters.{parameters_of}
use Rattle.thermo_models.specs.declared.Tabled.{Tabled}
use Rattle.thermo_models.specs.Model.{Pures, pressure_in_domain}
use Rattle.thermo_models.specs.Activity.{activity_in, activity_by_reason, excess_of, Stands}
use Rattle.thermo_models.specs.Mixture.{Mixture, activity, mixture_with, mixture_of}
use Rattle.thermo_models.proofs.Offered.{copy_mixture}
use Rattle.saturation.proofs.Answers.{stands-places, stands-kelvin}
use Rattle.saturation.specs.Saturation.{bubble_task, dew_task, bubble_pressure, dew_pressure_point}
use Rattle.tp_flash.specs.Tp.{Flash, tp_flash}
use Rattle.tp_flash.specs.Counted.{phases_counted, flash_counted}
use Rattle.question.specs.declared.Question.{Question}
use Rattle.replies.specs.Blocks.{Answer}
use Rattle.sheet.specs.Tasks.{saturated, task1, task2, task3, task6, task7_counted, task7, flash_task, task_at}
use Rattle.sheet.specs.Ready.{pressures_in, flash_pressures, pressures_for, TableBy, TableOf, Readied}
use Rattle.sheet.proofs.Flashes.{given, stopped, told_none, task7-is, flash_task_at}

-- ---- temperatures and pressures
module _ (o : Out Float) where
  pub kelvin-no : {r : ℕ} → no r ≡ bind o (λ x. ok (kelvin x)) → o ≡ no r
  unfolding bind
  kelvin-no = pick o
    where
      pick : (p : Out Float) {r : ℕ} → no r ≡ bind p (λ x. ok (kelvin x)) → p ≡ no r
      pick (ok v) e = absurd (refused e)
      pick (no m) e = cc

  pub kelvin-ok : {t : Temperature} → ok t ≡ bind o (λ x. ok (kelvin x)) → o ≡ ok t.0
  unfolding bind
  kelvin-ok = pick o
    where
      pick : (p : Out Float) {t : Temperature} → ok t ≡ bind p (λ x. ok (kelvin x)) → p ≡ ok t.0
      pick (ok v) {t} e = let h : t ≡ kelvin v = cc in rw h
      pick (no m) e = absurd (refused (sym e))

  pub pascal-no : {r : ℕ} → no r ≡ bind o (λ x. ok (pascal x)) → o ≡ no r
  unfolding bind
  pascal-no = pick o
    where
      pick : (p : Out Float) {r : ℕ} → no r ≡ bind p (λ x. ok (pascal x)) → p ≡ no r
      pick (ok v) e = absurd (refused e)
      pick (no m) e = cc

  pub pascal-ok : {p : Pressure} → ok p ≡ bind o (λ x. ok (pascal x)) → o ≡ ok p.0
  unfolding bind
  pascal-ok = pick o
    where
      pick : (p : Out Float) {q : Pressure} → ok q ≡ bind p (λ x. ok (pascal x)) → p ≡ ok q.0
      pick (ok v) {q} e = let h : q ≡ pascal v = cc in rw h
      pick (no m) e = absurd (refused (sym e))

-- ---- a table that stands for a mixture
pub table-activity : {E : Type 0} {said : E → ℕ} {m : Mixture} {s : Tabled E} {table : List Float} → TableBy said m s table → activity_by_reason said table s ≡ activity m s.t.0
unfolding activity_by_reason
table-activity h = fun_ext (λ x. ap activity_in (h.excess x))

-- one that `tables` made of the book's parameters with a pair offered
pub tabled : (book offered : List ℕ) (n : ℕ) {P old table : List Float} {t : Temperature} {s : Tabled Refusal} → P ≡ parameters_of (with_pair (places n) book offered) (places n)
    → Stands book P (places n) t s old table → length old ≡ 512 → (s.t ≡ t) × TableOf (mixture_of (with_pair (places n) book offered) (places n)) s table
tabled book offered n {P} {t = t} {s = s} e h l =
    (stands-kelvin h, rw (copy_mixture (places n) book offered, ← e) (record { count = stands-places n h; excess = λ x. h.agrees l x ∙ later x }))
  where
    later : (x : List Float) → excess_of book P (places n) t.0 x ≡ excess_of book P (places n) s.t.0 x
    later x = ap (λ (u : Temperature). excess_of book P (places n) u.0 x) (sym (stands-kelvin h))

-- ---- tasks from the vapor pressures that they read
same-value : {A : Type 0} {a b : A} → ok a ≡ ok b → a ≡ b
same-value e = cc

pure_from : {B : Type 0} (o : Out Pures) (k : List Float → Out B) {ps : List Float} → pressures_in o ≡ ok ps → bind o (λ pure. k pure.pressure) ≡ k ps
unfolding pressures_in bind
pure_from (ok v) k e = ap k (same-value e)
pure_from (no r) k e = absurd (refused e)

pures_given : {B : Type 0} (o : Out Pures) (k : List Float → Counted B) {ps : List Float} → pressures_in o ≡ ok ps → bind_counted (uncounted o) (λ pure. k pure.pressure) ≡ k ps
unfolding pressures_in bind
pures_given (ok v) k e = given (λ (pure : Pures). k pure.pressure) refl ∙ ap k (same-value e)
pures_given (no r) k e = absurd (refused e)

need_from : {A B : Type 0} (b : Bool) (r : ℕ) {o : Out A} {a : A} {p q : Counted B} → need b r o ≡ ok a → (o ≡ ok a → p ≡ q) → need_counted b r p ≡ q
unfolding need need_counted
need_from true r e f = f e
need_from false r e f = absurd (refused e)

module _ (m : Mixture) {ps : List Float} where
  pub bubble_from_lem : (t : Float) (x : List Float) → pressures_in (m.liquids t) ≡ ok ps → bubble_pressure (activity m) m.liquids m.n t x ≡ bubble_task (activity m t) ps m.n t x
  unfolding bubble_pressure
  bubble_from_lem t x e = pure_from (m.liquids t) (λ l. bubble_task (activity m t) l m.n t x) e

  pub dew_from : (o : ActivityOptions) (t : Float) (y : List Float) → pressures_in (m.liquids t) ≡ ok ps
      → dew_pressure_point (activity m) m.liquids m.n o t y ≡ dew_task (activity m t) ps m.n o t y
  unfolding dew_pressure_point
  dew_from o t y e = pure_from (m.liquids t) (λ l. dew_task (activity m t) l m.n o t y) e

  pub flash_from : (o : ActivityOptions) (t : Float) (z : List Float) (p : Float) → flash_pressures m t p ≡ ok ps
      → flash_counted (activity m) m.liquids m.domain m.n o t z p ≡ phases_counted (activity m t) m.n o z p ps
  unfolding flash_pressures flash_counted
  flash_from o t z p e =
      need_from (m.domain t) 22 e (λ d.
      need_from (pressure_in_domain p) 23 d (λ b.
      pures_given (m.liquids t) (λ l. phases_counted (activity m t) m.n o z p l) b))

-- ---- a refusal of theirs is the task's
pure-no : {B : Type 0} (o : Out Pures) (k : Pures → Out B) {r : ℕ} → pressures_in o ≡ no r → bind o k ≡ no r
unfolding pressures_in bind
pure-no (ok v) k e = absurd (refused (sym e))
pure-no (no s) k e = cc

need-gone : {A B : Type 0} (b : Bool) (s : ℕ) {o : Out A} {p : Out B} {r : ℕ} → need b s o ≡ no r → (o ≡ no r → p ≡ no r) → need b s p ≡ no r
unfolding need
need-gone true s e f = f e
need-gone false s e f = cc

bind-gone : {A B C : Type 0} (o : Out A) (k : A → Out B) (l : A → Out C) {r : ℕ} → bind o k ≡ no r → ((a : A) → k a ≡ no r → l a ≡ no r) → bind o l ≡ no r
unfolding bind
bind-gone (ok a) k l e f = f a e
bind-gone (no s) k l e f = cc

-- by the tests for 1, 2, 3 and 6
by-task : {A B : Type 0} (a b c d : Bool) (x : B) (f i : Out A) {p q : Out B} {g h j : Out A} {r : ℕ} → choose (a || d) (ok x) (choose (b || c) p q) ≡ no r
    → (p ≡ no r → g ≡ no r) → (p ≡ no r → h ≡ no r) → (q ≡ no r → j ≡ no r) → choose a f (choose b g (choose c h (choose d i j))) ≡ no r
unfolding choose
by-task true b c d x f i e u v w = absurd (refused (sym e))
by-task false b c true x f i e u v w = absurd (refused (sym e))
by-task false true c false x f i e u v w = u e
by-task false false true false x f i e u v w = v e
by-task false false false false x f i e u v w = w e

module _ (m : Mixture) (q : Question) {r : ℕ} where
  at-refused : (t : Float) → pressures_for m q.task q.pressure t ≡ no r → task_at m q t ≡ no r
  unfolding pressures_for flash_pressures task_at task2 task3 saturated bubble_pressure dew_pressure_point tp_flash
  at-refused t e =
      by-task (eqb q.task 1) (eqb q.task 2) (eqb q.task 3) (eqb q.task 6) zeros8 (task1 m q t) (task6 m q t) e
      (λ d. bind-no _ (pure-no (m.liquids t) _ d))
      (λ d. bind-no _ (pure-no (m.liquids t) _ d))
      (λ d. bind-gone (positive_of q.pressure 14) (flash_pressures m t) (task7 m q t) d (λ p b. task7-is m q t p ∙ bind-no _ (need-gone (m.domain t) 22 b (λ f. need-gone (pressure_in_domain p) 23 f (pure-no (m.liquids t) _)))))

  pub task-refused : bind (positive_of q.temperature 13) (pressures_for m q.task q.pressure) ≡ no r → bind (positive_of q.temperature 13) (task_at m q) ≡ no r
  task-refused e = bind-gone (positive_of q.temperature 13) (pressures_for m q.task q.pressure) (task_at m q) e at-refused

-- ---- a flash that is refused before any evaluation, and one that begins its phases
gone : {A B C : Type 0} (o : Out A) (k : A → Out B) (l : A → Counted C) {r : ℕ} → bind o k ≡ no r → ((a : A) → k a ≡ no r → l a ≡ uncounted (no r)) → bind_counted (uncounted o) l ≡ uncounted (no r)
unfolding bind
gone (ok a) k l e f = given l refl ∙ f a e
gone (no s) k l e f = stopped l s ∙ cc

need_gone_counted : {A B : Type 0} (b : Bool) (s : ℕ) {o : Out A} {p : Counted B} {r : ℕ} → need b s o ≡ no r → (o ≡ no r → p ≡ uncounted (no r)) → need_counted b s p ≡ uncounted (no r)
unfolding need need_counted
need_gone_counted true s e f = f e
need_gone_counted false s e f = cc

module _ (m : Mixture) (q : Question) where
  flash-gone : (t p : Float) {r : ℕ} → flash_pressures m t p ≡ no r → task7_counted m q t p ≡ uncounted (no r)
  unfolding flash_pressures pressures_in task7_counted flash_counted
  flash-gone t p e =
      told_none _ _
      (need_gone_counted (m.domain t) 22 e (λ d.
      need_gone_counted (pressure_in_domain p) 23 d (λ b.
      gone (m.liquids t) (λ pure. ok pure.pressure) _ b (λ pure h. absurd (refused (sym h))))))

  pub flash_unready : {e : Refusal} {table ps : List Float} → Readied m 7 q.temperature q.pressure (Err e) table ps → flash_task m q ≡ uncounted (no (number e))
  unfolding flash_task pressures_for choose
  flash_unready h =
      gone (positive_of q.temperature 13) (pressures_for m 7 q.pressure) _ (h.refused _ refl) (λ t d.
      gone (positive_of q.pressure 14) (flash_pressures m t) _ d (λ p b. flash-gone t p b))

  module _ {s : Tabled Refusal} {table ps : List Float} (h : Readied m 7 q.temperature q.pressure (Ok s) table ps) where
    -- the pressure that its vapor pressures passed
    pub flash_pressure : (p : Float) × (positive_of q.pressure 14 ≡ ok p) × (flash_pressures m s.t.0 p ≡ ok ps)
    unfolding pressures_for choose
    flash_pressure = bind_inv (positive_of q.pressure 14) (flash_pressures m s.t.0) (h.pressures _ refl)

    pub pressures_at : {p : Float} → positive_of q.pressure 14 ≡ ok p → flash_pressures m s.t.0 p ≡ ok ps
    unfolding pressures_for choose
    pressures_at e = sym (bind_yes _ e) ∙ h.pressures _ refl

    pub flash_begins : (flash_task m q).begun ≡ (phases_counted (activity m s.t.0) m.n q.options q.fractions flash_pressure.0 ps).begun
    unfolding task7_counted told
    flash_begins =
        ap (λ (c : Counted Answer). c.begun) (flash_task_at m q (h.temperature _ refl) flash_pressure.1)
        ∙ ap (λ (c : Counted Flash). c.begun) (flash_from m q.options s.t.0 q.fractions flash_pressure.0 flash_pressure.2)

-- they are the book's, whatever its pairs
pub pressures-copied : (n : ℕ) (book offered : List ℕ) (task : ℕ) (p t : Float) {o : Out (List Float)}
    → ((P : List Float) (copy : List ℕ) → o ≡ pressures_for (mixture_with book P copy n) task p t) → pressures_for (mixture_of (with_pair n book offered) n) task p t ≡ o
pressures-copied n book offered task p t h = rw (copy_mixture n book offered) (sym (h _ _))

-- ---- made ready
module _ (m : Mixture) (task : ℕ) (T p : Float) {table ps : List Float} where
  pub made-no : (e : Refusal) (r : Result (Tabled Refusal) Refusal) → IsErrAnd r (λ y. y ≡ e) → bind (positive_of T 13) (pressures_for m task p) ≡ no (number e) → Readied m task T p r table ps
  made-no e (Err y) h q = record {
    refused = λ d k. let z : d ≡ e = cc in q ∙ ap (λ (x : Refusal). no (number x)) (sym z);
    temperature = λ s k. cc;
    pressures = λ s k. cc;
    tables = λ s k. cc;
  }
  made-no e (Ok s) h q = absurd h

  pub made-ok : {s : Tabled Refusal} → positive_of T 13 ≡ ok s.t.0 → pressures_for m task p s.t.0 ≡ ok ps → TableOf m s table → Readied m task T p (Ok s) table ps
  made-ok {s} a b c = record {
    refused = λ d k. cc;
    temperature = λ u k. let z : u ≡ s = cc in rw z a;
    pressures = λ u k. let z : u ≡ s = cc in rw z b;
    tables = λ u k. let z : u ≡ s = cc in rw z c;
  }
