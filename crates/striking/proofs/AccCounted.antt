-- Laws of the relation of a longer and a shorter counted call: steps that begin none, one evaluation, tests and calls in a row, choices. Assumes nothing.
use mathlib.Core.Path.{◌≡◌, refl, ap, ◌∙◌, subst, subst₂}
use Prim.Native.Nat.{ℕ, ◌+◌}
use native.Mathlib.Omega.{arith}
use mathlib.Core.Bool.{Bool, true, false, not}
use lib.Dec.{T}
use Rattle.floats.specs.Outcome.{Out, ok, no, bind}
use Rattle.counted.specs.Counted.{Counted, uncounted, evaluated, one_passed, evaluated_after, begun_before, go_on, bind_counted, need_counted, choose_counted}
use Rattle.striking.specs.Accepted.{Acc, AccCounted}
use Rattle.striking.proofs.Acc.{acc_ok, acc_no, acc_weaken, bind_ok}

-- steps behind it that begin none
none-on : {A B : Type 0} (o : Out A) (k : ℕ) (g : A → Out B) → go_on o k (λ a. uncounted (g a)) ≡ record { outcome = bind o g; begun = k }
unfolding go_on begun_before uncounted bind
none-on (ok a) k g =
    let e : k + 0 ≡ k = omega arith in
    rw e
none-on (no r) k g = refl

none-behind : {A B : Type 0} (c : Counted A) (g : A → Out B) → bind_counted c (λ a. uncounted (g a)) ≡ record { outcome = bind c.outcome g; begun = c.begun }
unfolding bind_counted
none-behind c g = none-on c.outcome c.begun g

pub counted-no : {A : Type 0} (c d : Counted A) {b : Bool} → b ≡ false → choose_counted b c d ≡ d
unfolding choose_counted
counted-no c d e = rw e

pub accc_weaken : {A B : Type 0} (R : A → B → Type 0) {Q : A → B → Type 0} (c : Counted A) (c' : Counted B)
    → AccCounted R c c' → ((a : A) (b : B) → R a b → Q a b) → AccCounted Q c c'
accc_weaken R c c' h f = record { counted = acc_weaken _ _ _ h.counted (λ a b w. (f a b w.0, w.1)) }

module _ {A B : Type 0} {R : A → B → Type 0} where
  -- the count forgotten
  pub forget_acc : {c : Counted A} {c' : Counted B} {o : Out A} {o' : Out B} → c.outcome ≡ o → c'.outcome ≡ o' → AccCounted R c c' → Acc R o o'
  forget_acc e e' h = subst₂ (Acc R) e e' (acc_weaken _ _ _ h.counted (λ a b w. w.0))

  -- outcomes with equal counts
  with-counts : (k : ℕ) (o : Out A) (o' : Out B) → Acc R o o' → AccCounted R (record { outcome = o; begun = k }) (record { outcome = o'; begun = k })
  with-counts k o o' h = record { counted = acc_weaken R o o' h (λ a b r. (r, refl)) }

  pub accc_uncounted : (o : Out A) (o' : Out B) → Acc R o o' → AccCounted R (uncounted o) (uncounted o')
  unfolding uncounted
  accc_uncounted = with-counts 0

  pub accc_evaluated : (o : Out A) (o' : Out B) → Acc R o o' → AccCounted R (evaluated o) (evaluated o')
  unfolding evaluated
  accc_evaluated = with-counts 1

  pub accc_ok : (a : A) (b : B) → R a b → AccCounted R (uncounted (ok a)) (uncounted (ok b))
  accc_ok a b h = accc_uncounted (ok a) (ok b) (acc_ok h)

  pub accc_no : (r : ℕ) (c' : Counted B) → AccCounted R (uncounted (no r)) c'
  unfolding uncounted
  accc_no r c' = record { counted = acc_no c'.outcome }

  pub accc_need : (b b' : Bool) (r : ℕ) (c : Counted A) (c' : Counted B) → (T b → T b') → (T b → AccCounted R c c')
      → AccCounted R (need_counted b r c) (need_counted b' r c')
  unfolding need_counted
  accc_need false b' r c c' f g = accc_no r _
  accc_need true false r c c' f g = absurd (f tt)
  accc_need true true r c c' f g = g tt

  -- a choice that both calls make alike
  pub accc_if : (b b' : Bool) (c d : Counted A) (c' d' : Counted B) → b ≡ b' → (T b → AccCounted R c c') → (T (not b) → AccCounted R d d')
      → AccCounted R (choose_counted b c d) (choose_counted b' c' d')
  unfolding choose_counted
  accc_if b b' c d c' d' e f g = subst (λ (x : Bool). AccCounted R (choose_counted b c d) (choose_counted x c' d')) e (go b f g)
    where
      go : (b : Bool) → (T b → AccCounted R c c') → (T (not b) → AccCounted R d d') → AccCounted R (choose_counted b c d) (choose_counted b c' d')
      go true f g = f tt
      go false f g = g tt

  -- as many begun before
  before : {k k' : ℕ} {c : Counted A} {c' : Counted B} → k ≡ k' → AccCounted R c c' → AccCounted R (begun_before k c) (begun_before k' c')
  unfolding begun_before
  before {k} {k'} {c} {c'} e h = record { counted = acc_weaken _ _ _ h.counted (λ a b w. (w.0, sum e w.1)) }
    where
      sum : {i j : ℕ} → k ≡ k' → i ≡ j → k + i ≡ k' + j
      sum p q = rw (p, q)

module _ {A A' B B' : Type 0} (R : A → A' → Type 0) {Q : B → B' → Type 0} where
  on : (o : Out A) (o' : Out A') (i j : ℕ) (k : A → Counted B) (k' : A' → Counted B')
      → Acc (λ (a : A) (b : A'). R a b × (i ≡ j)) o o' → ((a : A) (b : A') → R a b → AccCounted Q (k a) (k' b))
      → AccCounted Q (go_on o i k) (go_on o' j k')
  unfolding go_on
  on (no r) o' i j k k' h f = record { counted = acc_no _ }
  on (ok a) (no r) i j k k' h f = absurd h.says
  on (ok a) (ok b) i j k k' h f = before h.says.1 (f a b h.says.0)

  pub accc_bind : (c : Counted A) (c' : Counted A') (k : A → Counted B) (k' : A' → Counted B')
      → AccCounted R c c' → ((a : A) (b : A') → R a b → AccCounted Q (k a) (k' b))
      → AccCounted Q (bind_counted c k) (bind_counted c' k')
  unfolding bind_counted
  accc_bind c c' k k' h f = on c.outcome c'.outcome c.begun c'.begun k k' h.counted f

  -- one evaluation behind steps that begin none: what was accepted has begun it
  pub accc_after : (o : Out A) (o' : Out A') (k : A → Out B) (k' : A' → Out B') → Acc R o o' → Acc Q (bind o k) (bind o' k')
      → AccCounted Q (evaluated_after o (bind o k)) (evaluated_after o' (bind o' k'))
  unfolding evaluated_after one_passed bind
  accc_after (no r) o' k k' h g = record { counted = acc_no _ }
  accc_after (ok a) (no r) k k' h g = absurd h.says
  accc_after (ok a) (ok b) k k' h g = with-counts 1 _ _ g

-- a call whose answers are equal
pub accc_then : {A B B' : Type 0} {Q : B → B' → Type 0} (c c' : Counted A) (k : A → Counted B) (k' : A → Counted B')
    → AccCounted (λ (a b : A). a ≡ b) c c' → ((a : A) → AccCounted Q (k a) (k' a))
    → AccCounted Q (bind_counted c k) (bind_counted c' k')
accc_then {A} {B} {B'} {Q} c c' k k' h f = accc_bind (λ (a b : A). a ≡ b) c c' k k' h (λ a b e. subst (λ (x : A). AccCounted Q (k a) (k' x)) e (f a))

-- steps that the longer call makes alone, which begin none
pub accc_alone : {A A' B : Type 0} (R : A → A' → Type 0) {Q : B → A' → Type 0} (c : Counted A) (c' : Counted A') (k : A → Counted B)
    → AccCounted R c c' → ((a : A) (b : A') → R a b → AccCounted Q (k a) (uncounted (ok b)))
    → AccCounted Q (bind_counted c k) c'
accc_alone {A} {A'} {B} R {Q} c c' k h f = subst (AccCounted Q (bind_counted c k)) (nothing c') (accc_bind R c c' k (λ b. uncounted (ok b)) h f)
  where
    nothing : (d : Counted A') → bind_counted d (λ b. uncounted (ok b)) ≡ d
    nothing d = none-behind d ok ∙ ap (λ (o : Out A'). record { outcome = o; begun = d.begun }) (bind_ok d.outcome)
