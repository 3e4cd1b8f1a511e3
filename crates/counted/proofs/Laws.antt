-- Forgetting the count gives the steps without it; counts add up, also as words of 64 bits. Assumes nothing.
use Prim.Native.Nat.{ℕ, suc, ◌+◌, ◌*◌, ◌%◌, ◌^◌, ◌≤◌, ◌<◌}
use mathlib.Core.Path.{◌≡◌, refl, ◌∙◌, ap, sym}
use mathlib.Core.Bool.{Bool, true, false, cond}
use native.Mathlib.Nat.{suc-mul}
use native.Mathlib.Omega.{arith}
use Rattle.floats.specs.Outcome.{Out, ok, no, bind, need, choose}
use Rattle.floats.proofs.Outcomes.{refused}
use Rattle.counted.specs.Counted.{Counted, uncounted, evaluated, one_passed, evaluated_after, begun_before, go_on, bind_counted, need_counted, choose_counted, told, count_word, Counts}

-- ---- the count forgotten
forget_on : {A B : Type 0} (o : Out A) (k : ℕ) (f : A → Counted B) (g : A → Out B) → ((a : A) → (f a).outcome ≡ g a) → (go_on o k f).outcome ≡ bind o g
unfolding go_on begun_before bind
forget_on (ok a) k f g h = h a
forget_on (no r) k f g h = refl

-- in a row
pub forget_bind : {A B : Type 0} (c : Counted A) (f : A → Counted B) {o : Out A} (g : A → Out B) → c.outcome ≡ o → ((a : A) → (f a).outcome ≡ g a) → (bind_counted c f).outcome ≡ bind o g
unfolding bind_counted
forget_bind c f g e h = forget_on c.outcome c.begun f g h ∙ ap (λ u. bind u g) e

pub forget_need : {A : Type 0} (b : Bool) (r : ℕ) (c : Counted A) {o : Out A} → c.outcome ≡ o → (need_counted b r c).outcome ≡ need b r o
unfolding need_counted need uncounted
forget_need true r c e = e
forget_need false r c e = refl

pub forget_choose : {A : Type 0} (b : Bool) (c d : Counted A) {o p : Out A} → c.outcome ≡ o → d.outcome ≡ p → (choose_counted b c d).outcome ≡ choose b o p
unfolding choose_counted choose
forget_choose true c d e f = e
forget_choose false c d e f = f

-- ---- what a step found, and how the rest goes on
pub on_yes : {A B : Type 0} (c : Counted A) (f : A → Counted B) {a : A} → c.outcome ≡ ok a → bind_counted c f ≡ begun_before c.begun (f a)
unfolding bind_counted go_on
on_yes c f e = rw e

pub on-no : {A B : Type 0} (c : Counted A) (f : A → Counted B) {r : ℕ} → c.outcome ≡ no r → bind_counted c f ≡ record { outcome = no r; begun = c.begun }
unfolding bind_counted go_on
on-no c f e = rw e

-- ---- the code's steps, one after the other: `old` is the count before, `new` the count behind
module _ {A : Type 0} where
  pub as_counted : {old new : ℕ} {o : Out A} (c : Counted A) → Counts old o new c → o ≡ c.outcome
  as_counted c h = h.outcome

  pub counts_none : {old : ℕ} {o p : Out A} → o ≡ p → Counts old o old (uncounted p)
  unfolding uncounted count_word
  counts_none {old} e = record { outcome = e; begun = omega arith }

  pub counts_one : {old new : ℕ} {o p : Out A} → new ≡ count_word (old + 1) → o ≡ p → Counts old o new (evaluated p)
  unfolding evaluated count_word
  counts_one {old} {new} e q = record { outcome = q; begun = omega (arith, e) }

  pub counts_need : {old new : ℕ} (r : ℕ) {o : Out A} {c : Counted A} {b : Bool} → b ≡ true → Counts old o new c → Counts old o new (need_counted b r c)
  unfolding need_counted
  counts_need r e h = rw e h

  pub counts-needed : {old r : ℕ} (c : Counted A) {b : Bool} → b ≡ false → Counts old (no r) old (need_counted b r c)
  unfolding need_counted
  counts-needed c e = rw e (counts_none refl)

  pub counts_first : {old new : ℕ} {o : Out A} {c : Counted A} (d : Counted A) {b : Bool} → b ≡ true → Counts old o new c → Counts old o new (choose_counted b c d)
  unfolding choose_counted
  counts_first d e h = rw e h

  pub counts_second : {old new : ℕ} {o : Out A} (c : Counted A) {d : Counted A} {b : Bool} → b ≡ false → Counts old o new d → Counts old o new (choose_counted b c d)
  unfolding choose_counted
  counts_second c e h = rw e h

module _ {A B : Type 0} where
  pub counts_next : {old mid new : ℕ} {a : A} {o : Out B} {c : Counted A} (f : A → Counted B) → Counts old (ok a) mid c → Counts mid o new (f a) → Counts old o new (bind_counted c f)
  unfolding count_word begun_before
  counts_next {old} {mid} {new} {a} {o} {c} f h g =
      rw (on_yes c f (sym h.outcome)) (record { outcome = g.outcome; begun = omega (arith, h.begun, g.begun) })

  pub counts_stop : {old new r : ℕ} {c : Counted A} (f : A → Counted B) → Counts old (no r) new c → Counts old (no r) new (bind_counted c f)
  counts_stop {c = c} f h = rw (on-no c f (sym h.outcome)) (record { outcome = refl; begun = h.begun })

  -- a step that begins none
  pub counts_pure : {old new : ℕ} {a : A} {o : Out B} {p : Out A} (f : A → Counted B) → ok a ≡ p → Counts old o new (f a) → Counts old o new (bind_counted (uncounted p) f)
  counts_pure f e = counts_next f (counts_none e)

  pub counts-pure-stop : {old r : ℕ} {p : Out A} (f : A → Counted B) → no r ≡ p → Counts old (no r) old (bind_counted (uncounted p) f)
  counts-pure-stop f e = counts_stop f (counts_none e)

-- one evaluation, once what stands before it has passed
module _ {A B : Type 0} where
  pub after_none : {old r : ℕ} {before : Out A} {p : Out B} → before ≡ no r → no r ≡ p → Counts old (no r) old (evaluated_after before p)
  unfolding evaluated_after one_passed count_word
  after_none {old} e q = rw e (record { outcome = q; begun = omega arith })

  pub after_one : {old new : ℕ} {before : Out A} {a : A} {o p : Out B} → before ≡ ok a → new ≡ count_word (old + 1) → o ≡ p → Counts old o new (evaluated_after before p)
  unfolding evaluated_after one_passed count_word
  after_one {old} {new} e k q = rw e (record { outcome = q; begun = omega (arith, k) })

-- what was found, made into something else
module _ {A B : Type 0} (f : A → B) where
  abbrev made : Counted A → Counted B
  made c = bind_counted c (λ a. uncounted (ok (f a)))

  made_on : (o : Out A) (b : ℕ) → go_on o b (λ a. uncounted (ok (f a))) ≡ record { outcome = bind o (λ a. ok (f a)); begun = b }
  unfolding go_on begun_before uncounted bind
  made_on (ok a) b =
      let e : b + 0 ≡ b = omega arith in
      rw e
  made_on (no r) b = refl

  made-is : (c : Counted A) → bind_counted c (λ a. uncounted (ok (f a))) ≡ record { outcome = bind c.outcome (λ a. ok (f a)); begun = c.begun }
  unfolding bind_counted
  made-is c = made_on c.outcome c.begun

  pub counts_made : {old new : ℕ} {o : Out B} (c : Counted A) → o ≡ bind c.outcome (λ a. ok (f a)) → count_word new ≡ count_word (old + c.begun) → Counts old o new (bind_counted c (λ a. uncounted (ok (f a))))
  counts_made c e k = rw (made-is c) (record { outcome = e; begun = k })

  -- what it was made of
  pub of_ok : (o : Out A) {t : B} → ok t ≡ bind o (λ a. ok (f a)) → (a : A) × (ok a ≡ o) × (t ≡ f a)
  unfolding bind
  of_ok (ok a) {t = t} e = let q : t ≡ f a = cc in (a, refl, q)
  of_ok (no r) e = absurd (refused (sym e))

  pub of-no : (o : Out A) {m : ℕ} → no m ≡ bind o (λ a. ok (f a)) → no m ≡ o
  unfolding bind
  of-no (ok a) e = absurd (refused e)
  of-no (no r) {m = m} e = let q : m ≡ r = cc in rw q

  pub counts_of : {old new : ℕ} {t : B} (c : Counted A) → Counts old (ok t) new (bind_counted c (λ a. uncounted (ok (f a)))) → (a : A) × Counts old (ok a) new c × (t ≡ f a)
  counts_of c h =
      let g = rw (made-is c) at h in
      let (a, e, q) = of_ok c.outcome g.outcome in
      (a, record { outcome = e; begun = g.begun }, q)

  pub counts-of-no : {old new m : ℕ} (c : Counted A) → Counts old (no m) new (bind_counted c (λ a. uncounted (ok (f a)))) → Counts old (no m) new c
  counts-of-no c h =
      let g = rw (made-is c) at h in
      record { outcome = of-no c.outcome g.outcome; begun = g.begun }

-- what was accepted has begun its evaluation
pub passed-one : {A B : Type 0} (o : Out A) (k : A → Out B) {b : B} → bind o k ≡ ok b → one_passed o ≡ 1
unfolding bind one_passed
passed-one (ok a) k e = refl
passed-one (no r) k e = absurd (refused e)

-- ---- at most so many
module _ {A B : Type 0} where
  most-on : (o : Out A) (k : ℕ) (f : A → Counted B) {m : ℕ} → ((a : A) → o ≡ ok a → (f a).begun ≤ m) → (go_on o k f).begun ≤ k + m
  unfolding go_on begun_before
  most-on (ok a) k f h = let l = h a refl in omega (arith, l)
  most-on (no r) k f h = omega arith

  pub most-bind : (c : Counted A) (f : A → Counted B) {k m : ℕ} → c.begun ≤ k → ((a : A) → c.outcome ≡ ok a → (f a).begun ≤ m) → (bind_counted c f).begun ≤ k + m
  unfolding bind_counted
  most-bind c f {k} {m} l h = let w = most-on c.outcome c.begun f {m = m} h in omega (arith, l, w)

pub most-need : {A : Type 0} (b : Bool) (r : ℕ) (c : Counted A) {m : ℕ} → c.begun ≤ m → (need_counted b r c).begun ≤ m
unfolding need_counted uncounted
most-need true r c l = l
most-need false r c l = omega arith

pub most-choose : {A : Type 0} (b : Bool) (c d : Counted A) {m : ℕ} → c.begun ≤ m → d.begun ≤ m → (choose_counted b c d).begun ≤ m
unfolding choose_counted
most-choose true c d l h = l
most-choose false c d l h = h

pub most-after : {A B : Type 0} (o : Out A) (p : Out B) → (evaluated_after o p).begun ≤ 1
unfolding evaluated_after one_passed
most-after (ok a) p = omega arith
most-after (no r) p = omega arith

-- ---- as words
pub word_small : (k : ℕ) → k < 2 ^ 64 → count_word k ≡ k
unfolding count_word
word_small k h = omega arith
