-- Demand 3 of each question that is put: its part is the answer slice after a call on it alone. Assumes nothing.
use Prim.Native.Nat.{ℕ, ◌+◌, ◌*◌, ◌<◌, ◌≤◌}
use mathlib.Core.Path.{◌≡◌, sym, ap, ◌∙◌}
use mathlib.Core.Logic.{◌⊎◌, inl, inr}
use mathlib.Core.Bool.{true}
use mathlib.Core.List.{List}
use native.Mathlib.Omega.{arith}
use lib.ListN.{length, take, drop, length-take, length-drop}
use lib.Seq.{get_or-take, get_or-drop}
use Rattle.floats.specs.Outcome.{ok}
use Rattle.floats.proofs.Outcomes.{refused, bind-no, bind_inv}
use Rattle.blocks.specs.Words.{byte, word, block}
use Rattle.book.specs.declared.Head.{Head}
use Rattle.book.specs.Book.{book_of}
use Rattle.book.proofs.Accepted.{accepted}
use Rattle.exchanges.proofs.Places.{word-by}
use Rattle.replies.specs.Blocks.{answer_room}
use Rattle.sheet.specs.Sheet.{question_to, sheet_of}
use Rattle.striking.specs.Theorem.{after}
use Rattle.striking.specs.Words.{ZeroWord}
use Rattle.striking.proofs.Theorem.{striking}
use Rattle.queue.specs.Queue.{question_count, takes, left_at, queue_of}
use Rattle.queue.proofs.Calls.{read-run, asked-few}
use Rattle.batches.specs.Alone.{part}
use Rattle.batches.proofs.Strike.{accepted-is, after-reply}
use Rattle.queues.specs.Alone.{put_at}
use Rattle.queues.specs.Striking.{QueueDemand3, StrikingTakes}
use Rattle.queues.proofs.Alone.{sheet_to, seven, run_alone, taken, queue_parts}
use Rattle.queues.proofs.Account.{takes_count}
use Rattle.queues.proofs.Counts.{flash_few, takes-nothing, takes-word}

pub queue_demand3 : QueueDemand3
queue_demand3 book questions allowance h old new book' question' old' k opened e below put shorter took room' =
    let long : length (part old k) ≡ answer_room = simp (length-take, length-drop) (omega (arith, (taken book questions allowance h old new opened e).room, below)) in
    let s = striking book (block questions k) book' question' shorter (part old k) old' room' (rw long took) in
    let a = after-reply book (block questions k) (part old k) long took ∙ sym ((queue_parts book questions allowance h old new opened e).alone k below put) in
    (s.0, rw a at s.1)

-- ---- word 38
-- of the first block
front-word : (s : List ℕ) (k : ℕ) → k < 64 → word (block s 0) k ≡ word s k
unfolding word block
front-word s k l =
    word-by s (take 512 (drop (512 * 0) s)) (8 * k) (8 * k) (λ i m.
    let z : 512 * 0 + (8 * k + i) ≡ 8 * k + i = omega arith in
    get_or-take 512 (drop (512 * 0) s) (8 * k + i) 0 (omega arith) ∙ get_or-drop (512 * 0) s (8 * k + i) 0 ∙ ap (λ (x : ℕ). byte s x) z)

-- an answered question takes some, and at most 10,000,004: its word is no zero
module _ (book questions : List ℕ) (allowance : ℕ) (h : Head) (old new : List ℕ) (opened : book_of book ≡ ok h) (e : queue_of book questions allowance old ≡ ok new) (k : ℕ)
    (l : k < question_count questions) (p : put_at book h questions allowance k ≡ true) (bs : List ℕ) (o : sheet_of book (block questions k) answer_room ≡ ok bs) where
  abbrev count : ℕ
  count = takes book h.version h.n (block questions k) (left_at book h.version h.n questions allowance k)

  some-taken : count ≡ 0 → ⊥
  some-taken z =
      let c = (takes_count book h.version h.n (block questions k) (left_at book h.version h.n questions allowance k)).0 p in
      let n = (takes-nothing book h.version h.n (block questions k) 0 (sym c ∙ z)).0 in
      refused (sym (bind-no _ n.1) ∙ run_alone book (block questions k) h opened ((taken book questions allowance h old new opened e).flash k l) ∙ o)

  few-taken : count ≤ 10000004
  few-taken =
      let c = (takes_count book h.version h.n (block questions k) (left_at book h.version h.n questions allowance k)).0 p in
      let b = bind_inv (question_to book h.version h.n (block questions k)) _ (sym (sheet_to book (block questions k) h opened) ∙ o) in
      let s = seven book (block questions k) h opened ((taken book questions allowance h old new opened e).flash k l) b.1 in
      rw (c, read-run book h.version h.n (block questions k) b.1)
      (flash_few book h.version h.n (block questions k) (accepted book opened).few b.1 (asked-few book h.version h.n (block questions k) b.1 s))

  no_zero : ZeroWord count → ⊥
  no_zero (inl z) = some-taken z
  no_zero (inr z) = omega (arith, few-taken, z)

pub striking-takes : StrikingTakes
striking-takes book questions allowance h old new book' question' old' k opened e below put shorter took room' =
    let a = accepted-is (sheet_of book (block questions k) answer_room) took in
    let s = ((queue_demand3 book questions allowance h old new book' question' old' k opened e below put shorter took room').1.answer.back 38 (omega arith) (omega arith)).either in
    let w = takes-word book questions allowance h old new opened e k below put a.0 a.1 in
    go (rw (front-word (part new k) 38 (omega arith), front-word (after book' question' old') 38 (omega arith), w) at s)
  where
    t : ℕ
    t = takes book h.version h.n (block questions k) (left_at book h.version h.n questions allowance k)

    go : {v : ℕ} → (t ≡ v) ⊎ (ZeroWord t × ZeroWord v) → v ≡ t
    go (inl q) = sym q
    go (inr z) =
        let a = accepted-is (sheet_of book (block questions k) answer_room) took in
        absurd (no_zero book questions allowance h old new opened e k below put a.0 a.1 z.0)
