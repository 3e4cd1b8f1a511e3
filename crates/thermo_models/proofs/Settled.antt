-- Tables whose α are settled have the activities of those that they were; and what was refused is what the activity is refused with. Assumes nothing.
use Prim.Native.Nat.{ℕ}
use mathlib.Core.Path.{◌≡◌, refl, ap, fun_ext, sym, ◌∙◌}
use mathlib.Core.List.{List}
use lib.Ieee.{Float}
use Rattle.std.specs.Prelude.{Result, Ok, Err}
use Rattle.floats.specs.Vector.{at, places}
use Rattle.floats.specs.Outcome.{Out, ok, no, bind}
use Rattle.floats.proofs.Outcomes.{refused}
use Rattle.thermo_types.specs.declared.Temperature.{Temperature}
use Rattle.outcome.specs.declared.Refusal.{Refusal}
use Rattle.outcome.specs.Refused.{outcome_by}
use Rattle.book.specs.declared.Model.{Model}
use Rattle.book.specs.declared.Model.TheVariants.{Nrtl, Wilson}
use Rattle.excess.proofs.Passing.{state_first}
use Rattle.nrtl.specs.On.{passing, nrtl_on}
use Rattle.thermo_models.specs.declared.Tabled.{Tabled}
use Rattle.thermo_models.specs.Activity.{activity_in, model_on, excess_by_reason, activity_by_reason, activity_on, settled_by, settled_of, passed}

-- a refusal behind questions is refused: with their number, or with its own
never : {A : Type 0} (k : ℕ) (w : Out (Unit {0})) {a : A} → ok a ≡ bind w (λ _. no k) → no k ≡ ok a
unfolding bind
never k (ok u) e = sym e
never k (no r) e = absurd (refused (sym e))

alike : {A B : Type 0} (k : ℕ) (w : Out (Unit {0})) {r : ℕ} → no r ≡ bind {B = A} w (λ _. no k) → bind {B = B} w (λ _. no k) ≡ no r
unfolding bind
alike k (ok u) {r = r} e = let q : k ≡ r = cc in rw q
alike k (no m) {r = r} e = let q : m ≡ r = cc in rw q

module _ {E : Type 0} (said : E → ℕ) (z : List Float) (n : ℕ) (t : Temperature) where
  abbrev asked : Model → Result (Unit {0}) E → Out (Tabled Refusal)
  asked k a = settled_by k (outcome_by said a) (record { model = k; alphas = Ok tt; n = n; t = t }) (places n) t.0 (at z)

  same-tables : (k : Model) (a : Result (Unit {0}) E) {r : Tabled Refusal} → ok r ≡ asked k a → r ≡ record { model = k; alphas = Ok tt; n = n; t = t }
  unfolding settled_by
  same-tables Wilson a e = cc
  same-tables Nrtl (Ok u) e = cc
  same-tables Nrtl (Err y) e = absurd (refused (never (said y) _ (rw (state_first t.0 (at z) (places n) (no (said y))) at e)))

  same-state : (k : Model) (a : Result (Unit {0}) E) {r : Tabled Refusal} → ok r ≡ asked k a → (table : List Float) (x : ℕ → Float)
      → model_on k table (outcome_by said a) (places n) t.0 x ≡ model_on k table (ok tt) (places n) t.0 x
  unfolding settled_by model_on
  same-state Wilson a e table x = refl
  same-state Nrtl (Ok u) e table x = refl
  same-state Nrtl (Err y) e table x = absurd (refused (never (said y) _ (rw (state_first t.0 (at z) (places n) (no (said y))) at e)))

  same-number : (k : Model) (a : Result (Unit {0}) E) {r : ℕ} → no r ≡ asked k a → (table : List Float) → model_on k table (outcome_by said a) (places n) t.0 (at z) ≡ no r
  unfolding settled_by model_on nrtl_on passing bind
  same-number Wilson a e table = absurd (refused e)
  same-number Nrtl (Ok u) e table = absurd (refused e)
  same-number Nrtl (Err y) e table = state_first t.0 (at z) (places n) _ ∙ alike (said y) _ (rw (state_first t.0 (at z) (places n) (no (said y))) at e)

-- the tables s, settled by the composition z
module _ {E : Type 0} (said : E → ℕ) (s : Tabled E) (z : List Float) where
  pub settled-tables : {r : Tabled Refusal} → ok r ≡ settled_of said s z → r ≡ passed s
  unfolding settled_of
  settled-tables e = same-tables said z s.n s.t s.model s.alphas e

  pub settled-activity : {r : Tabled Refusal} → ok r ≡ settled_of said s z → (table : List Float) → activity_by_reason said table s ≡ activity_on table r
  unfolding settled_of activity_by_reason excess_by_reason
  settled-activity {r} e table =
      let q : r ≡ passed s = settled-tables e in
      rw q (fun_ext (λ x. ap activity_in (same-state said z s.n s.t s.model s.alphas e table (at x))))

  pub settled-refused : {k : ℕ} → no k ≡ settled_of said s z → (table : List Float) → activity_by_reason said table s z ≡ no k
  unfolding settled_of activity_by_reason excess_by_reason activity_in bind
  settled-refused e table = rw (same-number said z s.n s.t s.model s.alphas e table)
