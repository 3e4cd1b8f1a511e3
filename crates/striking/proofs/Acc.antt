-- Laws of the relation of a longer and a shorter call: tests in a row, calls in a row, choices, loops that may refuse. Assumes nothing.
use mathlib.Core.Path.{◌≡◌, refl, sym, subst}
use Prim.Native.Nat.{ℕ, zero, suc, ◌<◌}
use native.Mathlib.Omega.{arith}
use mathlib.Core.Bool.{Bool, true, false, not}
use lib.Dec.{T}
use lib.Ieee.Fits.{and_i, and_l, and_r}
use Rattle.floats.specs.Fold.{all_to}
use Rattle.floats.specs.Outcome.{Out, ok, no, bind, need, choose}
use Rattle.striking.specs.Places.{tick, cnt}
use Rattle.striking.specs.Accepted.{Says, Acc}
use Rattle.striking.proofs.Strike.{place}

pub acc_ok : {A B : Type 0} {R : A → B → Type 0} {a : A} {b : B} → R a b → Acc R (ok a) (ok b)
acc_ok h = record { says = h }

pub acc_no : {A B : Type 0} {R : A → B → Type 0} {r : ℕ} (o' : Out B) → Acc {A = A} R (no r) o'
acc_no o' = record { says = tt }

pub acc_same : {A : Type 0} (o : Out A) → Acc (λ (a b : A). a ≡ b) o o
acc_same (ok a) = acc_ok refl
acc_same (no r) = acc_no (no r)

pub acc_weaken : {A B : Type 0} (R : A → B → Type 0) {Q : A → B → Type 0} (o : Out A) (o' : Out B) → Acc R o o' → ((a : A) (b : B) → R a b → Q a b) → Acc Q o o'
acc_weaken R (no r) o' h f = acc_no o'
acc_weaken R (ok a) (no r) h f = absurd h.says
acc_weaken R (ok a) (ok b) h f = acc_ok (f a b h.says)

-- with the longer call's own equation beside the relation
pub acc_known : {A B : Type 0} (R : A → B → Type 0) (o : Out A) (o' : Out B) → Acc R o o' → Acc (λ (a : A) (b : B). R a b × (o ≡ ok a)) o o'
acc_known R (no r) o' h = acc_no o'
acc_known R (ok a) (no r) h = absurd h.says
acc_known R (ok a) (ok b) h = acc_ok (h.says, refl)

-- where the longer call is accepted
pub accepted : {A B : Type 0} {R : A → B → Type 0} {a : A} {o' : Out B} → Acc R (ok a) o' → (b : B) × (o' ≡ ok b) × R a b
accepted {A} {B} {R} {a} {o'} h = go o' h.says
  where
    go : (o' : Out B) → Says R (ok a) o' → (b : B) × (o' ≡ ok b) × R a b
    go (ok b) h = (b, refl, h)
    go (no r) h = absurd h

pub acc_bind : {A A' B B' : Type 0} (R : A → A' → Type 0) {Q : B → B' → Type 0} (o : Out A) (o' : Out A') (k : A → Out B) (k' : A' → Out B')
    → Acc R o o' → ((a : A) (b : A') → R a b → Acc Q (k a) (k' b)) → Acc Q (bind o k) (bind o' k')
unfolding bind
acc_bind R (no r) o' k k' h f = acc_no (bind o' k')
acc_bind R (ok a) (no r) k k' h f = absurd h.says
acc_bind R (ok a) (ok b) k k' h f = f a b h.says

-- a call whose answers are equal
pub acc_then : {A B B' : Type 0} {Q : B → B' → Type 0} (o o' : Out A) (k : A → Out B) (k' : A → Out B') → Acc (λ (a b : A). a ≡ b) o o' → ((a : A) → Acc Q (k a) (k' a)) → Acc Q (bind o k) (bind o' k')
acc_then {A} {B} {B'} {Q} o o' k k' h f = acc_bind (λ (a b : A). a ≡ b) o o' k k' h (λ a b e. subst (λ (c : A). Acc Q (k a) (k' c)) e (f a))

-- a call that the longer one makes alone
pub acc_drop : {A B B' : Type 0} {Q : B → B' → Type 0} (o : Out A) (k : A → Out B) (o' : Out B') → ((a : A) → Acc Q (k a) o') → Acc Q (bind o k) o'
unfolding bind
acc_drop (ok a) k o' f = f a
acc_drop (no r) k o' f = acc_no o'

pub acc_need : {A A' : Type 0} {R : A → A' → Type 0} (b b' : Bool) (r : ℕ) (o : Out A) (o' : Out A') → (T b → T b') → (T b → Acc R o o') → Acc R (need b r o) (need b' r o')
unfolding need
acc_need false b' r o o' f g = acc_no (need b' r o')
acc_need true false r o o' f g = absurd (f tt)
acc_need true true r o o' f g = g tt

-- a test that the longer call makes alone
pub acc_passed : {A A' : Type 0} {R : A → A' → Type 0} (b : Bool) (r : ℕ) (o : Out A) (o' : Out A') → Acc R o o' → Acc R (need b r o) o'
unfolding need
acc_passed true r o o' h = h
acc_passed false r o o' h = acc_no o'

-- a choice that both calls make alike
pub acc_if : {A A' : Type 0} {R : A → A' → Type 0} (b b' : Bool) (o p : Out A) (o' p' : Out A') → b ≡ b' → (T b → Acc R o o') → (T (not b) → Acc R p p')
    → Acc R (choose b o p) (choose b' o' p')
unfolding choose
acc_if {A} {A'} {R} b b' o p o' p' e f g = subst (λ (c : Bool). Acc R (choose b o p) (choose c o' p')) e (go b f g)
  where
    go : (b : Bool) → (T b → Acc R o o') → (T (not b) → Acc R p p') → Acc R (choose b o p) (choose b o' p')
    go true f g = f tt
    go false f g = g tt

-- ---- a test of every index below n
pub all_at : (p : ℕ → Bool) (n k : ℕ) → T (all_to p n) → k < n → T (p k)
unfolding all_to
all_at p zero k h l = absurd (native.Mathlib.Nat.not-suc-le-zero l)
all_at p (suc n) k h l = elim (native.Mathlib.Nat.eq-or-lt_of_le (native.Mathlib.Nat.le_of_suc-le-suc l)) [
  | mathlib.Core.Logic.inl e ↦ subst (λ (x : ℕ). T (p x)) (sym e) (and_r (all_to p n) (p n) h)
  | mathlib.Core.Logic.inr m ↦ all_at p n k (and_l (all_to p n) (p n) h) m
]

pub all_of : (p : ℕ → Bool) (n : ℕ) → ((k : ℕ) → k < n → T (p k)) → T (all_to p n)
unfolding all_to
all_of p zero f = tt
all_of p (suc n) f = and_i (all_to p n) (p n) (all_of p n (λ k h. f k (omega arith))) (f n (omega arith))

-- what every index passes, every kept one passes at its new place
pub strike_all : (keep : ℕ → Bool) (p p' : ℕ → Bool) (n : ℕ) → ((k : ℕ) → k < n → T (keep k) → T (p k) → T (p' (cnt keep k))) → T (all_to p n) → T (all_to p' (cnt keep n))
strike_all keep p p' n f h = all_of p' (cnt keep n) (λ i l. let w = place keep n i l in subst (λ (x : ℕ). T (p' x)) w.new (f w.old w.below w.kept (all_at p n w.old h w.below)))

-- ---- a loop that may refuse
pub bind_ok : {A : Type 0} (o : Out A) → bind o ok ≡ o
unfolding bind
bind_ok (ok a) = refl
bind_ok (no r) = refl

unfoldable pub fold_out : {S : Type 0} → (ℕ → S → Out S) → S → ℕ → Out S
fold_out f s zero = ok s
fold_out f s (suc n) = bind (fold_out f s n) (f n)

pub strike_fold_out : {S S' : Type 0} (keep : ℕ → Bool) (R : S → S' → Type 0) (f : ℕ → S → Out S) (f' : ℕ → S' → Out S') (s : S) (s' : S') (n : ℕ) → R s s'
    → ((k : ℕ) → k < n → T (keep k) → (a : S) (b : S') → R a b → Acc R (f k a) (f' (cnt keep k) b))
    → ((k : ℕ) → k < n → T (not (keep k)) → (a : S) (b : S') → R a b → Acc R (f k a) (ok b))
    → Acc R (fold_out f s n) (fold_out f' s' (cnt keep n))
unfolding cnt fold_out
strike_fold_out keep R f f' s s' zero r kept struck = acc_ok r
strike_fold_out {S} {S'} keep R f f' s s' (suc n) r kept struck =
    go (keep n) (kept n (omega arith)) (struck n (omega arith)) (strike_fold_out keep R f f' s s' n r (λ k h. kept k (omega arith)) (λ k h. struck k (omega arith)))
  where
    right : (o : Out S') → bind o ok ≡ o
    right o = bind_ok o

    go : (b : Bool) → (T b → (a : S) (c : S') → R a c → Acc R (f n a) (f' (cnt keep n) c)) → (T (not b) → (a : S) (c : S') → R a c → Acc R (f n a) (ok c))
        → Acc R (fold_out f s n) (fold_out f' s' (cnt keep n)) → Acc R (bind (fold_out f s n) (f n)) (fold_out f' s' (tick b (cnt keep n)))
    go true k t ih = acc_bind R (fold_out f s n) (fold_out f' s' (cnt keep n)) (f n) (f' (cnt keep n)) ih (k tt)
    go false k t ih = subst (λ (o : Out S'). Acc R (bind (fold_out f s n) (f n)) o) (right (fold_out f' s' (cnt keep n))) (acc_bind R (fold_out f s n) (fold_out f' s' (cnt keep n)) (f n) ok ih (t tt))
