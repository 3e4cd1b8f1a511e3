-- Every refusal of a pooled call is one of the numbers that there are, so the result 0 means an answer. Assumes nothing.
use mathlib.Core.Path.{◌≡◌, refl}
use mathlib.Core.Bool.{Bool, true, false, ◌||◌}
use mathlib.Core.List.{List}
use Prim.Native.Nat.{ℕ}
use lib.Dec.{T}
use Rattle.floats.specs.Outcome.{Out, ok, no, bind, need}
use Rattle.book.specs.declared.Model.{Model}
use Rattle.question.specs.Inputs.{within}
use Rattle.sheet.specs.Sheet.{roomy, number_of}
use Rattle.refusals.specs.Numbered.{is_number, Numbered}
use Rattle.refusals.proofs.Models.{num_normalize}
use Rattle.refusals.proofs.Theorem.{num_book, num_task_in, num_rest, num_answer}
use Rattle.pool.specs.Pool.{pool_feed, fed_to, drums_to, pooled_from, pooled_of}
use Rattle.pools.specs.Numbered.{is_pool_number, PoolNumbered, PoolRefusals, ZeroIsPoolAnswer}

among : (a b : Bool) → T a → T (a || b)
among true b h = tt
among false b h = absurd h

module _ {M : Model} where
  -- the numbers of a call
  of_call : {A : Type 0} {o : Out A} → Numbered M o → PoolNumbered M o
  of_call h = record { number = λ r e. among (is_number M r) (within 31 32 r) (h.number r e) }

  refused : {A : Type 0} (r : ℕ) → T (is_pool_number M r) → PoolNumbered {A = A} M (no r)
  refused {A} r k = record { number = same }
    where
      same : (s : ℕ) → ◌≡◌ {A = Out A} (no r) (no s) → T (is_pool_number M s)
      same s e = let q : r ≡ s = cc in rw q at k

  tested : {A : Type 0} (b : Bool) (r : ℕ) {o : Out A} → T (is_pool_number M r) → PoolNumbered M o → PoolNumbered M (need b r o)
  unfolding need
  tested true r k h = h
  tested false r k h = refused r k

  bound : {A B : Type 0} (o : Out A) {k : A → Out B} → PoolNumbered M o → ((a : A) → PoolNumbered M (k a)) → PoolNumbered M (bind o k)
  unfolding bind
  bound (ok a) h f = f a
  bound (no r) h f = refused r (h.number r refl)

pub pool_refusals : PoolRefusals
unfolding pooled_of pooled_from roomy drums_to pool_feed fed_to
pool_refusals book question drums room =
    bound _ (of_call (num_book book)) (λ h. tested _ 10 tt (bound _ (of_call (num_task_in _ question)) (λ t.
    tested _ 31 tt (tested _ 32 tt (tested _ 36 tt (bound _ (of_call (num_normalize _ _)) (λ x.
    bound _ (of_call (num_rest question _ _ x)) (λ q. of_call (num_answer book _ q)))))))))

answered : {M : Model} (o : Out (List ℕ)) → PoolNumbered M o → number_of o ≡ 0 → (bs : List ℕ) × (o ≡ ok bs)
unfolding number_of
answered (ok bs) h e = (bs, refl)
answered (no r) h e = absurd (rw e at (h.number r refl))

pub zero_is_pool_answer : ZeroIsPoolAnswer
zero_is_pool_answer book question drums room = answered (pooled_of book question drums room) (pool_refusals book question drums room)
