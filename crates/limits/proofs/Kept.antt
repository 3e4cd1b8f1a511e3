-- Steps in a row keep what each of them keeps, and a loop keeps at any greater limit what it has within its own. Assumes nothing.
use mathlib.Core.Path.{◌≡◌, refl, ap}
use mathlib.Core.Logic.{inl, inr}
use mathlib.Core.Bool.{Bool, true, false}
use Prim.Native.Nat.{ℕ, zero, suc, ◌≤◌}
use native.Mathlib.Omega.{arith}
use Rattle.floats.specs.Outcome.{Out, ok, no, bind, need, choose}
use Rattle.counted.specs.Counted.{Counted, uncounted, begun_before, go_on, bind_counted, need_counted, choose_counted, told}
use Rattle.limits.specs.Kept.{Kept, KeptCounted}

-- ---- two loops with a limit, of which the second may call what has its own limit raised: X is what they give, S the state that they go on from. With no turn
-- left anything is kept; a turn keeps what the rest keeps
module _ {S X : Type 0} (R : X → X → Type 0) (loop loop' : ℕ → S → X) (ends : (s : S) (x : X) → R (loop zero s) x)
    (turn : (l m : ℕ) → ((s : S) → R (loop l s) (loop' m s)) → (s : S) → R (loop (suc l) s) (loop' (suc m) s)) where
  pub raised_both : (l m : ℕ) → l ≤ m → (s : S) → R (loop l s) (loop' m s)
  raised_both zero m h s = ends s (loop' m s)
  raised_both (suc l) zero h s = absurd (omega arith)
  raised_both (suc l) (suc m) h s = turn l m (raised_both l m (omega arith)) s

-- one loop at two limits
pub raised : {S X : Type 0} (R : X → X → Type 0) (loop : ℕ → S → X) → ((s : S) (x : X) → R (loop zero s) x)
    → ((l m : ℕ) → ((s : S) → R (loop l s) (loop m s)) → (s : S) → R (loop (suc l) s) (loop (suc m) s))
    → (l m : ℕ) → l ≤ m → (s : S) → R (loop l s) (loop m s)
raised R loop = raised_both R loop loop

-- ---- outcomes
module _ {P : ℕ → Type 0} {A : Type 0} where
  pub kept_refl : {o : Out A} → Kept P o o
  kept_refl = record { same = inr refl }

  pub kept-no : (e : ℕ) → P e → (o : Out A) → Kept P (no e) o
  kept-no e p o = record { same = inl (e, refl, p) }

  pub kept-need : (b : Bool) (e : ℕ) {o o' : Out A} → Kept P o o' → Kept P (need b e o) (need b e o')
  unfolding need
  kept-need true e h = h
  kept-need false e h = kept_refl

  -- a test that the second passes
  pub kept-passed : (b : Bool) (e : ℕ) {o o' : Out A} → P e → Kept P o o' → Kept P (need b e o) (need true e o')
  unfolding need
  kept-passed true e p h = h
  kept-passed false e {o} {o'} p h = kept-no e p o'

  pub kept-choose : (b : Bool) {o o' p p' : Out A} → Kept P o o' → Kept P p p' → Kept P (choose b o p) (choose b o' p')
  unfolding choose
  kept-choose true h g = h
  kept-choose false h g = g

  pub kept-bind : {B : Type 0} {o o' : Out B} {k k' : B → Out A} → Kept P o o' → ((b : B) → Kept P (k b) (k' b)) → Kept P (bind o k) (bind o' k')
  unfolding bind
  kept-bind {B} {o} {o'} {k} {k'} h g = elim h.same [
    | inl r ↦ rw r.1 (kept-no r.0 r.2 (bind o' k'))
    | inr e ↦ rw (← e) (go o)
  ]
    where
      go : (o : Out B) → Kept P (bind o k) (bind o k')
      go (ok a) = g a
      go (no r) = kept_refl

  -- after the same step, by what it found
  pub kept_on : {B : Type 0} (o : Out B) {k k' : B → Out A} → ((b : B) → o ≡ ok b → Kept P (k b) (k' b)) → Kept P (bind o k) (bind o k')
  unfolding bind
  kept_on (ok b) g = g b refl
  kept_on (no e) g = kept_refl

  -- more numbers
  pub kept_more : {Q : ℕ → Type 0} {o o' : Out A} → ((e : ℕ) → P e → Q e) → Kept P o o' → Kept Q o o'
  kept_more more h = elim h.same [
    | inl r ↦ record { same = inl (r.0, r.1, more r.0 r.2) }
    | inr e ↦ record { same = inr e }
  ]

pub ruleset keeping = (kept_refl, kept-need, kept-choose, kept-bind)

-- ---- counted outcomes
module _ {P : ℕ → Type 0} {A : Type 0} where
  pub counted_refl : {c : Counted A} → KeptCounted P c c
  counted_refl = record { same = inr refl }

  pub counted-no : (e : ℕ) → P e → (c : Counted A) → KeptCounted P (uncounted (no e)) c
  unfolding uncounted
  counted-no e p c = record { same = inl (e, refl, p) }

  pub counted-need : (b : Bool) (e : ℕ) {c c' : Counted A} → KeptCounted P c c' → KeptCounted P (need_counted b e c) (need_counted b e c')
  unfolding need_counted
  counted-need true e h = h
  counted-need false e h = counted_refl

  pub counted-choose : (b : Bool) {c c' d d' : Counted A} → KeptCounted P c c' → KeptCounted P d d'
      → KeptCounted P (choose_counted b c d) (choose_counted b c' d')
  unfolding choose_counted
  counted-choose true h g = h
  counted-choose false h g = g

  pub begun-before : (k : ℕ) {c c' : Counted A} → KeptCounted P c c' → KeptCounted P (begun_before k c) (begun_before k c')
  unfolding begun_before
  begun-before k {c} {c'} h = elim h.same [
    | inl r ↦ record { same = inl r }
    | inr e ↦ record { same = inr (ap (begun_before k) e) }
  ]

  pub counted-bind : {B : Type 0} {c c' : Counted B} {k k' : B → Counted A} → KeptCounted P c c' → ((b : B) → KeptCounted P (k b) (k' b))
      → KeptCounted P (bind_counted c k) (bind_counted c' k')
  unfolding bind_counted go_on
  counted-bind {B} {c} {c'} {k} {k'} h g = elim h.same [
    | inl r ↦ let e = r.1 in record { same = inl (r.0, rw e, r.2) }
    | inr e ↦ rw (← e) (go c.outcome c.begun)
  ]
    where
      go : (o : Out B) (n : ℕ) → KeptCounted P (go_on o n k) (go_on o n k')
      go (ok a) n = begun-before n (g a)
      go (no r) n = counted_refl

  -- what was found, told with the count
  pub counted-told : {B : Type 0} (f : B → ℕ → A) {c c' : Counted B} → KeptCounted P c c' → KeptCounted P (told c f) (told c' f)
  unfolding told bind
  counted-told f {c} {c'} h = elim h.same [
    | inl r ↦ let e = r.1 in record { same = inl (r.0, rw e, r.2) }
    | inr e ↦ record { same = inr (ap (λ x. told x f) e) }
  ]

  -- more numbers
  pub counted-more : {Q : ℕ → Type 0} {c c' : Counted A} → ((e : ℕ) → P e → Q e) → KeptCounted P c c' → KeptCounted Q c c'
  counted-more more h = elim h.same [
    | inl r ↦ record { same = inl (r.0, r.1, more r.0 r.2) }
    | inr e ↦ record { same = inr e }
  ]

  -- the count forgotten
  pub counted-outcome : {c c' : Counted A} → KeptCounted P c c' → Kept P c.outcome c'.outcome
  counted-outcome h = elim h.same [
    | inl r ↦ record { same = inl r }
    | inr e ↦ record { same = inr (ap (λ (x : Counted A). x.outcome) e) }
  ]

pub ruleset counting = (counted_refl, counted-need, counted-choose, counted-bind, counted-told)
