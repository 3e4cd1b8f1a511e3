-- Laws of outcomes: what a test found, taken apart and put together. Assumes nothing.
use mathlib.Core.Path.{◌≡◌, refl, sym, ap}
use mathlib.Core.Bool.{Bool, true, false, true≢false, ◌&&◌}
use Prim.Native.Nat.{ℕ}
use lib.Dec.{T}
use Rattle.floats.specs.Outcome.{Out, ok, no, bind, need, choose}

pub need_yes : {A : Type 0} (r : ℕ) (o : Out A) {b : Bool} → b ≡ true → need b r o ≡ o
unfolding need
need_yes r o e = rw e

pub need-no : {A : Type 0} (r : ℕ) (o : Out A) {b : Bool} → b ≡ false → need b r o ≡ no r
unfolding need
need-no r o e = rw e

pub bind_yes : {A B : Type 0} {o : Out A} (k : A → Out B) {a : A} → o ≡ ok a → bind o k ≡ k a
unfolding bind
bind_yes k e = rw e

pub bind-no : {A B : Type 0} {o : Out A} (k : A → Out B) {r : ℕ} → o ≡ no r → bind o k ≡ no r
unfolding bind
bind-no k e = rw e

pub choose_yes : {A : Type 0} (a b : Out A) {t : Bool} → t ≡ true → choose t a b ≡ a
unfolding choose
choose_yes a b e = rw e

pub choose_no : {A : Type 0} (a b : Out A) {t : Bool} → t ≡ false → choose t a b ≡ b
unfolding choose
choose_no a b e = rw e

-- a test, and then what follows
pub need_then : {A B : Type 0} (b : Bool) (r : ℕ) (o : Out A) (k : A → Out B) → bind (need b r o) k ≡ need b r (bind o k)
unfolding need bind
need_then true r o k = refl
need_then false r o k = refl

-- two tests with one refusal
pub need_both : {A : Type 0} (a b : Bool) (r : ℕ) (o : Out A) → need a r (need b r o) ≡ need (a && b) r o
unfolding need
need_both true b r o = refl
need_both false b r o = refl

-- an accepted outcome is no refusal
is_ok : {A : Type 0} → Out A → Bool
is_ok (ok a) = true
is_ok (no r) = false

pub refused : {A : Type 0} {r : ℕ} {a : A} → no r ≡ ok a → ⊥
unfolding is_ok
refused {A} e = true≢false (sym (ap (is_ok {A = A}) e))

-- what an accepted call passed
pub need_inv : {A : Type 0} (b : Bool) (r : ℕ) (o : Out A) {a : A} → need b r o ≡ ok a → T b × (o ≡ ok a)
unfolding need
need_inv true r o e = (tt, e)
need_inv false r o e = absurd (refused e)

pub bind_inv : {A B : Type 0} (o : Out A) (k : A → Out B) {b : B} → bind o k ≡ ok b → (a : A) × (o ≡ ok a) × (k a ≡ ok b)
unfolding bind
bind_inv (ok a) k e = (a, refl, e)
bind_inv (no r) k e = absurd (refused e)

-- what an outcome's value is like, if it has one
pub record Each {A : Type 0} (P : A → Type 0) (o : Out A) : Type 0 where
  pub each : (a : A) → o ≡ ok a → P a

module _ {A : Type 0} (P : A → Type 0) where
  pub each-ok : {a : A} → P a → Each P (ok a)
  each-ok {a} p = record { each = λ b e. take_out b e }
    where
      take_out : (b : A) → ok a ≡ ok b → P b
      take_out b e = let q : a ≡ b = cc in rw q at p

  pub each-no : (r : ℕ) → Each P (no r)
  each-no r = record { each = λ b e. absurd (refused e) }

  pub each-need : (b : Bool) (r : ℕ) {o : Out A} → Each P o → Each P (need b r o)
  unfolding need
  each-need true r h = h
  each-need false r h = each-no r

  pub each-choose : (b : Bool) {o p : Out A} → Each P o → Each P p → Each P (choose b o p)
  unfolding choose
  each-choose true h g = h
  each-choose false h g = g

  pub each-bind : {B : Type 0} (o : Out B) (k : B → Out A) → ((b : B) → o ≡ ok b → Each P (k b)) → Each P (bind o k)
  unfolding bind
  each-bind (ok b) k h = h b refl
  each-bind (no r) k h = each-no r
