-- No refusal of either split has a number above 28. Assumes nothing.
use Prim.Native.Nat.{ℕ, zero, suc, ◌≤◌}
use mathlib.Core.Path.{◌≡◌, refl, sym, ◌∙◌, ap}
use mathlib.Core.Bool.{Bool, true, false}
use native.Mathlib.Omega.{arith}
use lib.Ieee.{Float}
use Rattle.std.specs.Prelude.{Result, Err}
use Rattle.floats.specs.Outcome.{Out, ok, no, bind, need, choose}
use Rattle.floats.proofs.Outcomes.{refused}
use Rattle.outcome.specs.declared.Refusal.{Refusal}
use Rattle.outcome.specs.Refused.{number, outcome_of}
use Rattle.rachford_rice.specs.declared.RachfordRice.{RachfordRice}
use Rattle.rachford_rice.specs.Rachford.{validate, iterate, between, negative, two_phase, constrained}

pub record Low {A : Type 0} (o : Out A) : Type 0 where
  pub low : {r : ℕ} → o ≡ no r → r ≤ 28

low_ok : {A : Type 0} (a : A) → Low (ok a)
low_ok a = record { low = λ e. absurd (refused (sym e)) }

bounded : {A : Type 0} (r : ℕ) {s : ℕ} → r ≤ 28 → ◌≡◌ {A = Out A} (no r) (no s) → s ≤ 28
bounded r {s} h e = let q : r ≡ s = cc in omega arith

low-no : {A : Type 0} (r : ℕ) → r ≤ 28 → Low {A = A} (no r)
low-no r h = record { low = λ e. bounded r h e }

low-need : {A : Type 0} (b : Bool) (r : ℕ) {o : Out A} → r ≤ 28 → Low o → Low (need b r o)
unfolding need
low-need true r h l = l
low-need false r h l = low-no r h

low-choose : {A : Type 0} (b : Bool) {o p : Out A} → Low o → Low p → Low (choose b o p)
unfolding choose
low-choose true l m = l
low-choose false l m = m

low-bind : {A B : Type 0} (o : Out A) (k : A → Out B) → Low o → ((a : A) → Low (k a)) → Low (bind o k)
unfolding bind
low-bind (ok a) k l m = m a
low-bind (no r) k l m = low-no r (l.low refl)

module _ (z k : ℕ → Float) (n : ℕ) where
  low-validate : {A : Type 0} {o : Out A} → Low o → Low (validate z k n o)
  unfolding validate
  low-validate l = low-need _ 15 (omega arith) (low-need _ 16 (omega arith) (low-need _ 17 (omega arith) (low-need _ 18 (omega arith) l)))

  low-iterate : (left done : ℕ) (lo hi β : Float) → Low (iterate z k n left done lo hi β)
  unfolding iterate
  low-iterate zero done lo hi β = low-no 27 (omega arith)
  low-iterate (suc left) done lo hi β = low-need _ 25 (omega arith) (low-choose _ (low_ok _) (low-iterate left (suc done) _ _ _))

  pub low-negative : (limit : ℕ) → Low (negative z k n limit)
  unfolding negative between
  low-negative limit = low-validate (low-need _ 28 (omega arith) (low-need _ 28 (omega arith) (low-iterate limit 0 _ _ _)))

  pub low-constrained : (limit : ℕ) → Low (constrained z k n limit)
  unfolding constrained
  low-constrained limit = low-validate (low-choose _ (low_ok _) (low-choose _ (low_ok _) (low-bind _ _ (low-negative limit) (λ s. low_ok (two_phase s)))))

  -- of the code's answers
  pub constrained-low : (limit : ℕ) {a : Result RachfordRice Refusal} {r : Refusal} → outcome_of a ≡ constrained z k n limit → a ≡ Err r → number r ≤ 28
  constrained-low limit {a} {r} e q = (low-constrained limit).low (sym e ∙ ap outcome_of q)

  pub negative-low : (limit : ℕ) {a : Result RachfordRice Refusal} {r : Refusal} → outcome_of a ≡ bind (negative z k n limit) (λ s. ok (two_phase s)) → a ≡ Err r → number r ≤ 28
  negative-low limit {a} {r} e q = (low-bind _ _ (low-negative limit) (λ s. low_ok (two_phase s))).low (sym e ∙ ap outcome_of q)
