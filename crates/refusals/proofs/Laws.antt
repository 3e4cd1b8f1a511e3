-- Outcomes whose refusals are numbered: answers, refusals, tests, calls and choices in a row. Assumes nothing.
use mathlib.Core.Path.{◌≡◌, refl, sym}
use mathlib.Core.Bool.{Bool, true, false}
use Prim.Native.Nat.{ℕ}
use lib.Dec.{T}
use native.Mathlib.Omega.{arith}
use Rattle.outcome.specs.declared.Refusal.{Refusal}
use Rattle.outcome.specs.Refused.{number}
use Rattle.floats.specs.Outcome.{Out, ok, no, bind, need, choose}
use Rattle.floats.proofs.Outcomes.{refused}
use Rattle.refusals.specs.Numbered.{is_among, Among}
use Rattle.book.specs.declared.Model.{Model}

-- 0 stands for an answer
pub never : (e : Refusal) → number e ≡ 0 → ⊥
never e q = grind arith

-- for a book of model M, with its own numbers or not
module _ {own : Bool} {M : Model} where
  pub num_ok : {A : Type 0} {a : A} → Among own M (ok a)
  num_ok = record { number = λ r e. absurd (refused (sym e)) }

  -- the test of a number computes at a numeral
  pub num_no : {A : Type 0} (r : ℕ) → T (is_among own M r) → Among {A = A} own M (no r)
  num_no {A} r k = record { number = same }
    where
      same : (s : ℕ) → ◌≡◌ {A = Out A} (no r) (no s) → T (is_among own M s)
      same s e = let q : r ≡ s = cc in rw q at k

  pub num_need : {A : Type 0} (b : Bool) (r : ℕ) {o : Out A} → T (is_among own M r) → Among own M o → Among own M (need b r o)
  unfolding need
  num_need true r k h = h
  num_need false r k h = num_no r k

  pub num_choose : {A : Type 0} (b : Bool) {o p : Out A} → Among own M o → Among own M p → Among own M (choose b o p)
  unfolding choose
  num_choose true h g = h
  num_choose false h g = g

  pub num_bind : {A B : Type 0} (o : Out A) {k : A → Out B} → Among own M o → ((a : A) → Among own M (k a)) → Among own M (bind o k)
  unfolding bind
  num_bind (ok a) h f = f a
  num_bind (no r) h f = num_no r (h.number r refl)

-- every definition that refuses is a chain of these five
pub ruleset numbers = (num_ok, num_no, num_need, num_choose, num_bind)
