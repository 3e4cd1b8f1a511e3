-- The numbers that end a call with many feeds, and those that all its feeds have alike. Assumes nothing.
use Prim.Native.Nat.{ℕ}
use mathlib.Core.Path.{◌≡◌, refl, sym}
use mathlib.Core.Logic.{◌⊎◌, inl, inr}
use mathlib.Core.Bool.{Bool, true, false}
use mathlib.Core.List.{List}
use native.Mathlib.Omega.{arith}
use Rattle.floats.specs.Outcome.{Out, ok, no, bind, need}
use Rattle.floats.proofs.Outcomes as outcomes
use Rattle.blocks.specs.declared.Rule.{Rule}
use Rattle.book.specs.Book.{book_of}
use Rattle.question.specs.Asked.{task_in}
use Rattle.sheet.specs.Sheet.{number_of}
use Rattle.refusals.proofs.Theorem.{num_book}
use Rattle.batch.specs.Feeds.{feeds_of}
use Rattle.batches.specs.Alone.{task_for}
use Rattle.batches.specs.Numbered.{FeedsRefusals, ZeroIsParts}

-- ---- an outcome whose number, if it is a refusal, is one of P
pub record Among {A : Type 0} (P : ℕ → Type 0) (o : Out A) : Type 0 where
  pub number : (r : ℕ) → o ≡ no r → P r

module _ {P : ℕ → Type 0} where
  pub among-ok : {A : Type 0} (a : A) → Among P (ok a)
  among-ok a = record { number = λ r e. absurd (outcomes.refused (sym e)) }

  among-no : {A : Type 0} (r : ℕ) → P r → Among {A = A} P (no r)
  among-no {A} r p = record { number = same }
    where
      same : (s : ℕ) → ◌≡◌ {A = Out A} (no r) (no s) → P s
      same s e = let q : r ≡ s = cc in rw q at p

  pub among-need : {A : Type 0} (b : Bool) (r : ℕ) {o : Out A} → P r → Among P o → Among P (need b r o)
  unfolding need
  among-need true r p h = h
  among-need false r p h = among-no r p

  pub among-bind : {A B : Type 0} (o : Out A) {k : A → Out B} → ((r : ℕ) → o ≡ no r → P r) → ((a : A) → Among P (k a)) → Among P (bind o k)
  unfolding bind
  among-bind (ok a) h f = f a
  among-bind (no r) h f = among-no r (h r refl)

-- ---- block and task: 11 or 12
pub task-number : (rule : Rule) (q : List ℕ) (e : ℕ) → task_for rule q ≡ no e → (e ≡ 11) ⊎ (e ≡ 12)
unfolding task_for task_in
task-number rule q =
    let eleven = inl refl in
    let twelve = inr refl in
    (among-bind {P = λ e. (e ≡ 11) ⊎ (e ≡ 12)} (task_in rule q)
    (among-need _ 11 eleven (among-need _ 11 eleven (among-need _ 11 eleven (among-need _ 12 twelve (among-ok _))))).number
    (λ t. among-need _ 12 twelve (among-ok t))).number

pub feeds_refusals : FeedsRefusals
unfolding feeds_of
feeds_refusals book question feeds old =
    (among-bind {P = λ r. (book_of book ≡ no r) ⊎ ((r ≡ 33) ⊎ (r ≡ 10))} (book_of book) (λ r e. inl e)
    (λ h. among-need _ 33 (inr (inl refl)) (among-need _ 10 (inr (inr refl)) (among-ok _)))).number

-- no number is 0
pub zero_is-parts : ZeroIsParts
unfolding number_of
zero_is-parts book question feeds old = go (feeds_of book question feeds old) (feeds_refusals book question feeds old)
  where
    none : (r : ℕ) → r ≡ 0 → (book_of book ≡ no r) ⊎ ((r ≡ 33) ⊎ (r ≡ 10)) → ⊥
    none r z (inl e) = (num_book book).number 0 (rw z at e)
    none r z (inr (inl e)) = omega arith
    none r z (inr (inr e)) = omega arith

    go : (o : Out (List ℕ)) → ((r : ℕ) → o ≡ no r → (book_of book ≡ no r) ⊎ ((r ≡ 33) ⊎ (r ≡ 10))) → number_of o ≡ 0 → (new : List ℕ) × (o ≡ ok new)
    go (ok new) h e = (new, refl)
    go (no r) h e = absurd (none r e (h r refl))
