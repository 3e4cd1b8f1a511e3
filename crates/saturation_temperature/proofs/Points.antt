-- f at a temperature, and the answer at the temperature found, put together. Assumes nothing.
use Rattle.std.proofs.Common.{◌≡◌, ◌≤◌, ℕ, List, replicate, sym, refl, ap, ◌∙◌}
use lib.Ieee.{Float}
use Rattle.floats.specs.Arithmetic.{0f}
use Rattle.floats.specs.Vector.{places}
use Rattle.floats.specs.Outcome.{Out, ok, no, bind}
use Rattle.floats.proofs.Outcomes.{refused, bind_inv, need_inv}
use Rattle.counted.specs.Counted.{Counts}
use Rattle.thermo_types.specs.declared.ActivityOptions.{ActivityOptions}
use Rattle.thermo_types.specs.declared.Temperature.{Temperature}
use Rattle.thermo_types.specs.Quantities.{positive_of, kelvin}
use Rattle.outcome.specs.declared.Refusal.{Refusal}
use Rattle.thermo_models.specs.declared.Tabled.{Tabled}
use Rattle.thermo_models.specs.Model.{Activity, Pures, Activities, Liquids}
use Rattle.thermo_models.specs.Activity.{activity_on, activity_of, Stands}
use Rattle.thermo_models.proofs.Answers.{stands_fresh}
use Rattle.thermo_models.specs.Domain.{pure_liquids_of}
use Rattle.saturation.specs.Saturation.{Dew, Saturation, dew_at}
use Rattle.saturation.specs.Counted.{dew_counted}
use Rattle.saturation.proofs.Answers.{places_is, stands-places}
use Rattle.saturation.proofs.Forgets.{dew-outcome}
use Rattle.saturation_temperature.specs.Search.{Point, Root, solve_temperature}
use Rattle.saturation_temperature.specs.Boiling.{bubble_point_from, dew_point_from, bubble_saturation, dew_saturation, bubble_point_at, bubble_point, bubble_found, dew_point_at, dew_point, dew_found}
use Rattle.saturation_temperature.specs.Answers.{activity_from, pures_from, first_of, bubble_tried, dew_tried}

-- ---- `Temperature::new`
pub kelvin_ok : (o : Out Float) {T : Temperature} → ok T ≡ bind o (λ x. ok (kelvin x)) → o ≡ ok T.0
unfolding bind
kelvin_ok (ok x) {T = T} e = let q : T ≡ kelvin x = cc in rw q
kelvin_ok (no r) e = absurd (refused (sym e))

got : {A : Type 0} {a b : A} → ok a ≡ ok b → a ≡ b
got e = cc

-- it gives the number itself
positive_is : {t T : Float} (r : ℕ) → positive_of t r ≡ ok T → T ≡ t
unfolding positive_of
positive_is {t} {T} r e =
    sym (got (need_inv _ r _ (need_inv _ r _ e).1).1)

-- ---- the activity and the dew point on the table w of the parameters P are those of the book; s is what the table stands for
module _ (book : List ℕ) (P : List Float) (n : ℕ) (few : n ≤ 8) (z : List Float) (T : Temperature) {s : Tabled Refusal} {w : List Float}
    (h : Stands book P (places n) T s (replicate 512 0f) w) where
  pub feed-is : {a : Out Activity} → a ≡ activity_on w s z → activity_of book P n T.0 z ≡ a
  feed-is e = sym (rw (stands_fresh h, places_is n few) at e)

  pub dew-is : (o : ActivityOptions) (ps : List Float) {old new : ℕ} {d : Out Dew} → Counts old d new (dew_counted (activity_on w s) ps (places s.n) o z)
      → dew_at (activity_of book P n T.0) ps n o z ≡ d
  dew-is o ps c =
      let e = c.outcome ∙ dew-outcome (activity_on w s) ps (places s.n) o z in
      sym (rw (stands_fresh h, stands-places n h, places_is n few) at e)

-- ---- the pure liquids of the book
pub pures-is : (book : List ℕ) (T : Temperature) (n : ℕ) (few : n ≤ 8) {p : Out Pures} → p ≡ pure_liquids_of book (places n) T.0 → pure_liquids_of book n T.0 ≡ p
pures-is book T n few e = sym (rw (places_is n few) at e)

-- ---- steps whose answer is a pair: the first part alone, and what was met on the way
first-bind : {A B C : Type 0} (o : Out A) (k : A → Out (B × C)) → first_of (bind o k) ≡ bind o (λ x. first_of (k x))
unfolding bind
first-bind (ok x) k = refl
first-bind (no r) k = refl

steps : {A B C V S : Type 0} (o : Out A) (g : A → Out B) (h : A → B → Out C) (v : A → B → C → V) (s : A → B → C → S) {x : V} {y : S}
    → ◌≡◌ {A = Out (V × S)} (ok (x, y)) (bind o (λ a. bind (g a) (λ b. bind (h a b) (λ c. ok (v a b c, s a b c)))))
    → (a : A) × (b : B) × (c : C) × (o ≡ ok a) × (g a ≡ ok b) × (h a b ≡ ok c) × (s a b c ≡ y)
steps {V = V} {S = S} o g h v s e =
    let a = bind_inv o _ (sym e) in
    let b = bind_inv (g a.0) _ a.2 in
    let c = bind_inv (h a.0 b.0) _ b.2 in
    (a.0, b.0, c.0, a.1, b.1, c.1, ap (λ (w : V × S). w.1) (got c.2))

-- ---- f alone, and the answer at its root
module _ (E : Activities) (L : Liquids) (n : ℕ) (p : Float) (z : List Float) where
  pub bubble-first : (t : Float) {o : Out (Point × (List Float × List Float))} → o ≡ bubble_tried E L n p z t → first_of o ≡ bubble_point E L n p z t
  unfolding bubble_tried bubble_point bubble_point_at bubble_point_from
  bubble-first t e = rw e (simp first-bind)

  pub dew-first : (o : ActivityOptions) (t : Float) {d : Out (Point × (Dew × List Float))} → d ≡ dew_tried E L n o p z t → first_of d ≡ dew_point E L n o p z t
  unfolding dew_tried dew_point dew_point_at dew_point_from
  dew-first o t e = rw e (simp first-bind)

  -- what was met on the way to f at t
  bubble-met : {v : Point} {lg ps : List Float} (t : Float) → ok (v, (lg, ps)) ≡ bubble_tried E L n p z t
      → (sl dps : List Float) × (positive_of t 13 ≡ ok t) × (E t z ≡ ok (activity_from lg sl)) × (L t ≡ ok (pures_from ps dps))
  unfolding bubble_tried
  bubble-met t e =
      let m = steps (positive_of t 13) (λ T. E T z) (λ T a. L T) _ _ e in
      let T : m.0 ≡ t = positive_is 13 m.3 in (
        m.1.slopes,
        m.2.slope,
        m.3 ∙ ap ok T,
        ap (λ (x : Float). E x z) (sym T) ∙ m.4 ∙ ap (λ (x : List Float × List Float). ok (activity_from x.0 m.1.slopes)) m.6,
        ap L (sym T) ∙ m.5 ∙ ap (λ (x : List Float × List Float). ok (pures_from x.1 m.2.slope)) m.6,
      )

  dew-met : (o : ActivityOptions) {v : Point} {d : Dew} {ps : List Float} (t : Float) → ok (v, (d, ps)) ≡ dew_tried E L n o p z t
      → (dps : List Float) × (positive_of t 13 ≡ ok t) × (L t ≡ ok (pures_from ps dps)) × (dew_at (E t) ps n o z ≡ ok d)
  unfolding dew_tried
  dew-met o {ps = ps} t e =
      let m = steps (positive_of t 13) L (λ T pure. dew_at (E T) pure.pressure n o z) _ _ e in
      let T : m.0 ≡ t = positive_is 13 m.3 in
      let q : m.1.pressure ≡ ps = ap (λ (x : Dew × List Float). x.1) m.6 in (
        m.1.slope,
        m.3 ∙ ap ok T,
        ap L (sym T) ∙ m.4 ∙ ap (λ (x : List Float). ok (pures_from x m.1.slope)) q,
        ap (λ (x : Float). dew_at (E x) ps n o z) (sym T) ∙ ap (λ (x : List Float). dew_at (E m.0) x n o z) (sym q) ∙ m.5 ∙ ap (λ (x : Dew × List Float). ok x.0) m.6,
      )

  -- the answer at the root
  pub bubble-answer : (o : ActivityOptions) {root : Root} {v : Point} {lg ps : List Float} {r : Out Saturation}
      → ok root ≡ solve_temperature (bubble_point E L n p z) o
      → ok (v, (lg, ps)) ≡ bubble_tried E L n p z root.temperature
      → ((sl : List Float) → E root.temperature z ≡ ok (activity_from lg sl) → r ≡ bubble_saturation (E root.temperature) ps n p z root.iterations root.temperature)
      → r ≡ bind (solve_temperature (bubble_point E L n p z) o) (λ x. bind (positive_of x.temperature 13) (bubble_found E L n p z x.iterations))
  unfolding bubble_found bind
  bubble-answer o {root} e k h =
      let m = bubble-met root.temperature k in
      rw (← e, m.2, m.4) (h m.0 m.3)

  pub dew-answer : (o : ActivityOptions) {root : Root} {v : Point} {d : Dew} {ps : List Float} {r : Out Saturation}
      → ok root ≡ solve_temperature (dew_point E L n o p z) o
      → ok (v, (d, ps)) ≡ dew_tried E L n o p z root.temperature
      → (dew_at (E root.temperature) ps n o z ≡ ok d → r ≡ dew_saturation (E root.temperature) ps n o p z root.iterations root.temperature)
      → r ≡ bind (solve_temperature (dew_point E L n o p z) o) (λ x. bind (positive_of x.temperature 13) (dew_found E L n o p z x.iterations))
  unfolding dew_found bind
  dew-answer o {root} e k h =
      let m = dew-met o root.temperature k in
      rw (← e, m.1, m.2) (h m.3)
