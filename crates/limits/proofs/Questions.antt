-- A question with limits raised is read as the question with greater limits. Assumes nothing.
use Prim.Native.Nat.{ℕ, ◌+◌, ◌≤◌, ◌<◌}
use mathlib.Core.Path.{◌≡◌, refl, sym, ap}
use mathlib.Core.Logic.{◌⊎◌, ◌≢◌, inl, inr}
use mathlib.Core.Bool.{Bool, true, false, not, true≢false, ◌&&◌}
use mathlib.Core.List.{List}
use native.Mathlib.Nat.{le_of_eq}
use native.Mathlib.Omega.{arith}
use borrow.Author.Tests.{le-leb, ne_eqb, eqb-false, not-true}
use lib.Dec.{eqb}
use lib.Ieee.{Float}
use Rattle.floats.specs.Small.{float_of}
use Rattle.floats.specs.Vector.{zeros8}
use Rattle.floats.specs.Outcome.{Out, ok, no, bind, need}
use Rattle.floats.proofs.Fills.{fill_cong}
use Rattle.counted.specs.Counted.{Counted, uncounted, go_on, bind_counted}
use Rattle.blocks.specs.declared.Rule.{Rule}
use Rattle.blocks.specs.Words.{word}
use Rattle.question.specs.Inputs.{needs_options, if_needed}
use Rattle.question.specs.Asked.{task_in, kind_right, fraction, feed_of, ratio, ratios_of, inputs_right, options_right, limited, limits_right}
use Rattle.question.specs.Asked.{moles_of, options_in, question_from, rest_of, question_of}
use Rattle.question.specs.declared.Question.{Question}
use Rattle.limits.specs.Kept.{Kept, KeptCounted, OfLimits, question_with}
use Rattle.limits.specs.Raised.{AsOrRaised, Raised}
use Rattle.limits.proofs.Kept.{kept_refl, kept-no, kept-need, kept-passed, counted_refl, begun-before}

-- ---- one limit
pub no_less : {a b : ℕ} → AsOrRaised a b → a ≤ b
no_less (inl e) = le_of_eq e
no_less (inr l) = l.0

limited-same : (a b : ℕ) → AsOrRaised a b → limited a ≡ limited b
limited-same a b (inl e) = rw e
limited-same a b (inr l) = rw (le-leb a 1000000 (omega (arith, l.0, l.1)), le-leb b 1000000 l.1)

-- not 0
some-still : (a b : ℕ) → AsOrRaised a b → not (eqb a 0) ≡ true → not (eqb b 0) ≡ true
some-still a b h e =
    let positive : b ≡ 0 → ⊥ = λ z. eqb-false a 0 (not-true (eqb a 0) e) (omega (arith, no_less h, z)) in
    rw (ne_eqb b 0 positive)

-- both, where they are needed
both-still : (needed a b c d : Bool) → (a ≡ true → c ≡ true) → (b ≡ true → d ≡ true) → if_needed needed (a && b) ≡ true → if_needed needed (c && d) ≡ true
both-still false a b c d f g e = refl
both-still true true true c d f g e = rw (f refl, g refl)
both-still true true false c d f g e = absurd (true≢false (sym e))
both-still true false b c d f g e = absurd (true≢false (sym e))

-- ---- tests in a row: the second gives a value related to the first's, or the same number; or the first is refused with one of P
unfoldable pub Says : (ℕ → Type 0) → {A B : Type 0} → (A → B → Type 0) → Out A → Out B → Type 0
Says P R (ok a) (ok b) = R a b
Says P R (ok a) (no e) = ⊥
Says P R (no e) o' = P e ⊎ (no e ≡ o')

pub record Follows (P : ℕ → Type 0) {A B : Type 0} (R : A → B → Type 0) (o : Out A) (o' : Out B) : Type 0 where
  pub says : Says P R o o'

module _ {P : ℕ → Type 0} {A B : Type 0} {R : A → B → Type 0} where
  follow_no : (e : ℕ) → Follows P R (no e) (no e)
  unfolding Says
  follow_no e = record { says = inr refl }

  follow_ok : {a : A} {b : B} → R a b → Follows P R (ok a) (ok b)
  unfolding Says
  follow_ok r = record { says = r }

  follow_need : (b : Bool) (e : ℕ) {o : Out A} {o' : Out B} → Follows P R o o' → Follows P R (need b e o) (need b e o')
  unfolding need
  follow_need true e h = h
  follow_need false e h = follow_no e

  follow_still : (b b' : Bool) (e : ℕ) {o : Out A} {o' : Out B} → P e → (b ≡ true → b' ≡ true) → Follows P R o o' → Follows P R (need b e o) (need b' e o')
  unfolding need Says
  follow_still true b' e p f h = rw (f refl) h
  follow_still false b' e p f h = record { says = inl p }

  follow_bind : {C : Type 0} {o o' : Out C} {k : C → Out A} {k' : C → Out B} → Kept P o o' → ((c : C) → Follows P R (k c) (k' c))
      → Follows P R (bind o k) (bind o' k')
  unfolding bind Says
  follow_bind {C} {o} {o'} {k} {k'} h g = elim h.same [
    | inl e ↦ rw e.1 (record { says = inl e.2 })
    | inr e ↦ rw (← e) (go o)
  ]
    where
      go : (o : Out C) → Follows P R (bind o k) (bind o k')
      go (ok c) = g c
      go (no e) = follow_no e

  -- then a calculation
  pub kept-after : {C : Type 0} {o : Out A} {o' : Out B} {k : A → Out C} {k' : B → Out C} → Follows P R o o' → ((a : A) (b : B) → R a b → Kept P (k a) (k' b))
      → Kept P (bind o k) (bind o' k')
  unfolding bind Says
  kept-after {C} {o} {o'} {k} {k'} h g = go o o' h.says
    where
      go : (o : Out A) (o' : Out B) → Says P R o o' → Kept P (bind o k) (bind o' k')
      go (ok a) (ok b) r = g a b r
      go (ok a) (no e) r = absurd r
      go (no e) o' (inl p) = kept-no e p (bind o' k')
      go (no e) o' (inr q) = rw (← q) kept_refl

  -- one that counts
  pub counted-after : {C : Type 0} {o : Out A} {o' : Out B} {k : A → Counted C} {k' : B → Counted C} → Follows P R o o'
      → ((a : A) (b : B) → R a b → KeptCounted P (k a) (k' b)) → KeptCounted P (bind_counted (uncounted o) k) (bind_counted (uncounted o') k')
  unfolding bind_counted uncounted go_on Says
  counted-after {C} {o} {o'} {k} {k'} h g = go o o' h.says
    where
      go : (o : Out A) (o' : Out B) → Says P R o o' → KeptCounted P (bind_counted (uncounted o) k) (bind_counted (uncounted o') k')
      go (ok a) (ok b) r = begun-before 0 (g a b r)
      go (ok a) (no e) r = absurd r
      go (no e) o' (inl p) = record { same = inl (e, refl, p) }
      go (no e) o' (inr q) = rw (← q) counted_refl

-- ---- what is asked: all but the limits, and those no less
pub record Asks (c d : Question) : Type 0 where
  pub iterations : c.options.max_iterations ≤ d.options.max_iterations
  pub temperature_iterations : c.options.max_temperature_iterations ≤ d.options.max_temperature_iterations
  pub rest : question_with c d.options.max_iterations d.options.max_temperature_iterations ≡ d

module _ (rule : Rule) (q r : List ℕ) (a : Raised rule q r) where
  pub other : (k : ℕ) → (k < 63) × (k ≢ 12) × (k ≢ 14) → word q k ≡ word r k
  other k h = a.others k h.0 h.1 h.2

  -- block and task
  pub kept-task_in : Kept OfLimits (task_in rule q) (task_in rule r)
  unfolding task_in
  kept-task_in = rw (← a.size, ← other 0 (omega arith), ← other 1 (omega arith), a.check) (kept-need _ 11 (kept-passed _ 11 (inl refl) kept_refl))

  pub kind-same : (version : ℕ) → kind_right version (word q) ≡ kind_right version (word r)
  unfolding kind_right
  kind-same version = rw (other 27 (omega arith))

  module _ (n : ℕ) (few : n ≤ 8) where
    pub feed-same : feed_of q n ≡ feed_of r n
    feed-same = fill_cong (fraction (word q)) (fraction (word r)) n zeros8 (λ k l. ap float_of (other (4 + k) (omega arith)))

    ratios-same : ratios_of q n ≡ ratios_of r n
    ratios-same = fill_cong (ratio (word q)) (ratio (word r)) n zeros8 (λ k l. ap float_of (other (19 + k) (omega arith)))

    pub rest_follows : (m : ℕ → Float) (x : List Float) → Follows OfLimits Asks (rest_of q m n x) (rest_of r m n x)
    unfolding rest_of inputs_right moles_of limits_right options_right question_from options_in
    rest_follows m x =
        let some-12 = some-still (word q 12) (word r 12) a.iterations in
        let some-14 = some-still (word q 14) (word r 14) a.temperature_iterations in
        rw (
          ← ratios-same,
          ← other 1 (omega arith),
          ← other 2 (omega arith),
          ← other 3 (omega arith),
          ← other 13 (omega arith),
          ← other 15 (omega arith),
          ← other 16 (omega arith),
          ← other 17 (omega arith),
          ← other 18 (omega arith),
          ← other 27 (omega arith),
          ← limited-same _ _ a.iterations,
          ← limited-same _ _ a.temperature_iterations,
        )
        (follow_need _ 13 (follow_need _ 14 (follow_need _ 15 (follow_need _ 16 (follow_need _ 17 (follow_need _ 18
        (follow_bind kept_refl (λ z.
        follow_need _ 19 (follow_still _ _ 20 (inr (inl refl)) (both-still (needs_options (word q 1)) _ _ _ _ some-12 some-14) (follow_need _ 21
        (follow_ok (record { iterations = no_less a.iterations; temperature_iterations = no_less a.temperature_iterations; rest = refl }))))))))))))

    pub question_follows : (version : ℕ) (m : ℕ → Float) → Follows OfLimits Asks (question_of rule q version m n) (question_of rule r version m n)
    unfolding question_of
    question_follows version m = rw (← kind-same version, ← feed-same) (follow_bind kept-task_in (λ task. follow_need _ 36 (rest_follows m (feed_of q n))))
