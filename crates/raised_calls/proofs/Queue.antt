-- Raising a limit in the queue. Assumes nothing.
use Prim.Native.Nat.{ℕ, zero, suc, ◌+◌, ◌≤◌, ◌<◌}
use native.Mathlib.Nat.{le_refl, le_of_eq, le_trans, mul-le-mul_left}
use native.Mathlib.Omega.{arith}
use borrow.Author.Tests.{leb-true, le-leb}
use mathlib.Core.Path.{◌≡◌, refl, sym, ap, ◌∙◌}
use mathlib.Core.Logic.{◌⊎◌, inl, inr}
use mathlib.Core.Bool.{Bool, true, false, ◌||◌}
use mathlib.Core.List.{List}
use lib.Dec.{eqb, leb}
use Rattle.floats.specs.Outcome.{Out, ok, no, bind}
use Rattle.floats.proofs.Outcomes.{refused, need_inv, bind_inv, bind_yes}
use Rattle.counted.specs.Counted.{Counted}
use Rattle.blocks.specs.Words.{block}
use Rattle.blocks.specs.Bytes.{put}
use Rattle.book.specs.declared.Head.{Head}
use Rattle.book.specs.Book.{book_of, rule_of}
use Rattle.book.proofs.Accepted.{accepted}
use Rattle.thermo_models.specs.Mixture.{mixture_of}
use Rattle.liquid_stability.specs.Stability.{present_count}
use Rattle.tp_flash.specs.Counted.{most_evaluations}
use Rattle.question.specs.declared.Question.{Question}
use Rattle.question.specs.Asked.{task_in}
use Rattle.question.proofs.Asks.{asked-task, asked-known}
use Rattle.replies.specs.Blocks.{Answer, answer_room}
use Rattle.sheet.specs.Tasks.{task_of}
use Rattle.sheet.specs.Sheet.{question_to, answer_to, roomy, sheet_from, sheet_of, reply_of}
use Rattle.sheet.proofs.Flashes.{flash_task_outcome}
use Rattle.queue.specs.Queue.{question_count, is_flash, run_of, most_of, is_put, takes, queue_reply}
use Rattle.queue.proofs.Calls.{read-run, flash-seven}
use Rattle.batches.specs.Alone.{part}
use Rattle.queues.specs.Account.{most_to}
use Rattle.queues.proofs.Account.{all_fit}
use Rattle.limits.specs.Kept.{OfLimits}
use Rattle.limits.specs.Raised.{Raised}
use Rattle.limits.proofs.Questions.{Says, Asks, question_follows}
use Rattle.limits.proofs.Theorem.{kept_own, kept_run, kept-ok, raising}
use Rattle.raised_calls.proofs.Calls.{reply-is}
use Rattle.raised_calls.specs.Queue.{QueueRaising, QueuesRaising}

-- (m + 2) M + 4 at a greater M
most-asked : (n : ℕ) (c d : Question) → Asks c d → most_evaluations n c.options c.fractions ≤ most_evaluations n d.options d.fractions
unfolding most_evaluations
most-asked n c d a =
    let z : c.fractions ≡ d.fractions = ap (λ (x : Question). x.fractions) a.rest in
    rw (← z) (omega (arith, mul-le-mul_left (present_count c.fractions n + 2) a.iterations))

-- a test that holds of less too
less_or : (z : Bool) (left : ℕ) {a b : ℕ} → a ≤ b → (z || leb b left) ≡ true → (z || leb a left) ≡ true
less_or true left h e = refl
less_or false left {a} {b} h e = le-leb a left (omega (arith, leb-true b left e, h))

-- of a question that isn't read it is 0
pub more : (book : List ℕ) (version n : ℕ) → n ≤ 8 → (q r : List ℕ) → Raised (rule_of book) q r
    → most_of book version n q (question_to book version n q) ≤ most_of book version n r (question_to book version n r)
unfolding most_of Says
more book version n few q r a = go (question_to book version n q) (question_to book version n r) (question_follows (rule_of book) q r a n few version _).says
  where
    go : (o o' : Out Question) → Says OfLimits Asks o o' → most_of book version n q o ≤ most_of book version n r o'
    go (ok c) (ok d) s = most-asked n c d s
    go (ok c) (no x) s = absurd s
    go (no x) o' s = omega arith

module _ (book : List ℕ) (h : Head) (q r bs : List ℕ) (opened : book_of book ≡ ok h) (a : Raised (rule_of book) q r)
    (flash : is_flash (task_in (rule_of book) q) ≡ true) (answered : sheet_of book q answer_room ≡ ok bs) where
  few : h.n ≤ 8
  few = (accepted book opened).few

  -- the call on its own, once the room is there
  own : bind (question_to book h.version h.n q) (answer_to book h.n) ≡ ok bs
  unfolding sheet_of sheet_from roomy
  own = (need_inv (leb answer_room answer_room) 10 _ (sym (bind_yes _ opened) ∙ answered)).1

  raised-own : bind (question_to book h.version h.n r) (answer_to book h.n) ≡ ok bs
  raised-own = kept-ok (kept_own book q r a h.n few h.version) own

  -- what is asked, a flash
  read : (c : Question) × (question_to book h.version h.n q ≡ ok c) × (answer_to book h.n c ≡ ok bs)
  read = bind_inv (question_to book h.version h.n q) (answer_to book h.n) own

  seven : read.0.task ≡ 7
  seven =
      let k = asked-known (rule_of book) q h.version _ h.n read.1 in
      asked-task (rule_of book) q h.version _ h.n read.1 k.1 ∙ flash-seven (task_in (rule_of book) q) flash k.1

  took : (w : Answer) × ((run_of book h.version h.n q).outcome ≡ ok w)
  unfolding answer_to
  took =
      let t = bind_inv (task_of (mixture_of book h.n) read.0) _ read.2 in (
        t.0,
        ap (λ (c : Counted Answer). c.outcome) (read-run book h.version h.n q read.1)
            ∙ flash_task_outcome (mixture_of book h.n) read.0 seven ∙ t.1,
      )

  same-run : run_of book h.version h.n q ≡ run_of book h.version h.n r
  unfolding run_of
  same-run = elim (kept_run book q r a h.n few h.version).same [
    | inl e ↦ absurd (refused (sym e.1 ∙ took.1))
    | inr e ↦ e
  ]

  module _ (left : ℕ) (put : is_put book h.version h.n r left ≡ true) where
    still : is_put book h.version h.n q left ≡ true
    unfolding is_put
    still = rw same-run (less_or (eqb (run_of book h.version h.n r).begun 0) left (more book h.version h.n few q r a) put)

    same-reply : queue_reply book h.version h.n q left ≡ queue_reply book h.version h.n r left
    unfolding queue_reply reply_of
    same-reply = rw (still, put, own, raised-own)

    same_take : takes book h.version h.n q left ≡ takes book h.version h.n r left
    unfolding takes
    same_take = rw (still, put, ← same-run)

pub queue_raising : QueueRaising
queue_raising book h q r bs left opened a flash answered = record {
  most = more book h.version h.n (accepted book opened).few q r a;
  run = same-run book h q r bs opened a flash answered;
  put = still book h q r bs opened a flash answered left;
  reply = same-reply book h q r bs opened a flash answered left;
  takes = same_take book h q r bs opened a flash answered left;
}

-- ---- the whole call
module _ (book : List ℕ) (version n : ℕ) (few : n ≤ 8) (qs rs : List ℕ) (count : ℕ)
    (a : (k : ℕ) → k < count → (block qs k ≡ block rs k) ⊎ Raised (rule_of book) (block qs k) (block rs k)) where
  more-at : (k : ℕ) → k < count
      → most_of book version n (block qs k) (question_to book version n (block qs k)) ≤ most_of book version n (block rs k) (question_to book version n (block rs k))
  more-at k l = elim (a k l) [
    | inl e ↦ le_of_eq (ap (λ (s : List ℕ). most_of book version n s (question_to book version n s)) e)
    | inr r ↦ more book version n few (block qs k) (block rs k) r
  ]

  more-to : (k : ℕ) → k ≤ count → most_to book version n qs k ≤ most_to book version n rs k
  unfolding most_to
  more-to zero l = omega arith
  more-to (suc k) l = omega (arith, more-to k (omega arith), more-at k (omega arith))

  accepted-at : (k : ℕ) → k < count → (bs : List ℕ) → sheet_of book (block qs k) answer_room ≡ ok bs → sheet_of book (block rs k) answer_room ≡ ok bs
  accepted-at k l bs h = elim (a k l) [
    | inl e ↦ rw e at h
    | inr r ↦ raising book (block qs k) (block rs k) answer_room bs r h
  ]

pub queues_raising : QueuesRaising
queues_raising book qs rs allowance h old new new' opened call call' size a fits k l bs e =
    let few = (accepted book opened).few in
    let count = question_count qs in
    let less = le_trans (more-to book h.version h.n few qs rs count a count (le_refl count)) (rw (← size) at fits) in
    let p = all_fit book qs allowance h old new opened call less k l in
    let p' = all_fit book rs allowance h old new' opened call' fits k (rw size at l) in
    let e' = accepted-at book h.version h.n few qs rs count a k l bs e in
    p.1 ∙ ap (put (part old k) 0) (reply-is book (block qs k) e ∙ sym (reply-is book (block rs k) e')) ∙ sym p'.1
