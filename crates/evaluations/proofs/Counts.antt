-- Counted outcomes: at most so many, one at least, none. Assumes nothing.
use Prim.Native.Nat.{ℕ, suc, ◌*◌, ◌≤◌}
use mathlib.Core.Path.{◌≡◌, refl}
use mathlib.Core.Bool.{Bool, true, false, cond}
use native.Mathlib.Nat.{suc-mul}
use native.Mathlib.Omega.{arith}
use Rattle.floats.specs.Outcome.{Out, ok, no}
use Rattle.counted.specs.Counted.{Counted, uncounted, evaluated, evaluated_after, begun_before, go_on, bind_counted, need_counted, choose_counted}
use Rattle.counted.proofs.Laws.{most-bind, most-after}

-- ---- at most so many
pub none-most : {A : Type 0} (o : Out A) (m : ℕ) → (uncounted o).begun ≤ m
unfolding uncounted
none-most o m = omega arith

pub one-most : {A : Type 0} (o : Out A) → (evaluated o).begun ≤ 1
unfolding evaluated
one-most o = omega arith

pub after-most : {A B : Type 0} (o : Out A) (p : Out B) (m : ℕ) → (evaluated_after o p).begun ≤ suc m
after-most o p m = let l = most-after o p in omega (arith, l)

module _ {A B : Type 0} (c : Counted A) (f : A → Counted B) {m : ℕ} where
  -- one, then the rest
  pub most-turn : c.begun ≤ 1 → ((a : A) → (f a).begun ≤ m) → (bind_counted c f).begun ≤ suc m
  most-turn l h = let w = most-bind c f {m = m} l (λ a e. h a) in omega (arith, w)

  -- none, then the rest
  pub most-rest : c.begun ≤ 0 → ((a : A) → (f a).begun ≤ m) → (bind_counted c f).begun ≤ m
  most-rest l h = let w = most-bind c f {m = m} l (λ a e. h a) in omega (arith, w)

  -- some, then none
  pub most_then : c.begun ≤ m → ((a : A) → (f a).begun ≤ 0) → (bind_counted c f).begun ≤ m
  most_then l h = let w = most-bind c f {m = 0} l (λ a e. h a) in omega (arith, w)

  -- of k times m, once more where the test holds
  pub most-more : (b : Bool) (g : A → Counted B) (k : ℕ) → c.begun ≤ k * m → ((a : A) → (f a).begun ≤ m) → ((a : A) → (g a).begun ≤ 0)
      → (bind_counted c (λ a. choose_counted b (f a) (g a))).begun ≤ cond b (suc k) k * m
  unfolding choose_counted
  most-more true g k l h i = let w = most-bind c f {m = m} l (λ a e. h a) in rw (suc-mul k m) w
  most-more false g k l h i = let w = most-bind c g {m = 0} l (λ a e. i a) in omega (arith, w)

-- ---- one at least
pub least_on : {A B : Type 0} (c : Out A) (k : ℕ) (f : A → Counted B) → k ≤ (go_on c k f).begun
unfolding go_on begun_before
least_on (ok a) k f = omega arith
least_on (no r) k f = omega arith

-- ---- where none is begun
abbrev pub Refusal : {A : Type 0} → Counted A → Type 0
Refusal c = (r : ℕ) × (c.outcome ≡ no r)

pub none-need : {A : Type 0} (b : Bool) (r : ℕ) (c : Counted A) → (c.begun ≡ 0 → Refusal c) → (need_counted b r c).begun ≡ 0 → Refusal (need_counted b r c)
unfolding need_counted uncounted
none-need true r c h e = h e
none-need false r c h e = (r, refl)

pub none_after : {A B : Type 0} (c : Out A) (f : A → Counted B) → ((a : A) → 1 ≤ (f a).begun)
    → (bind_counted (uncounted c) f).begun ≡ 0 → Refusal (bind_counted (uncounted c) f)
unfolding bind_counted uncounted go_on begun_before
none_after (ok a) f h e = let l = h a in absurd (omega (arith, l, e))
none_after (no r) f h e = (r, refl)
