-- Each part of the slice has what a call on its question alone leaves there, or the block of one put off. Assumes nothing.
use Prim.Native.Nat.{ℕ, ◌*◌, ◌≤◌, ◌<◌}
use mathlib.Core.Path.{◌≡◌, refl, sym, ap, ◌∙◌}
use mathlib.Core.Bool.{Bool, true, false}
use mathlib.Core.List.{List}
use native.Mathlib.Nat.{le_refl}
use native.Mathlib.Omega.{arith}
use lib.Dec.{leb, leb→le}
use lib.ListN.{length, drop}
use lib.Ieee.Bits.{is_true}
use Rattle.floats.specs.Outcome.{Out, ok, no, bind}
use Rattle.floats.proofs.Folds.{all_at}
use Rattle.floats.proofs.Outcomes.{need_yes, need_inv, bind_yes}
use Rattle.counted.specs.Counted.{Counted, uncounted, bind_counted}
use Rattle.blocks.specs.Words.{block}
use Rattle.blocks.specs.Bytes.{put}
use Rattle.blocks.proofs.Laws.{length_block-bytes}
use Rattle.book.specs.declared.Head.{Head}
use Rattle.book.specs.Book.{book_of, rule_of}
use Rattle.thermo_models.specs.Mixture.{mixture_of}
use Rattle.question.specs.declared.Question.{Question}
use Rattle.question.specs.Asked.{task_in}
use Rattle.replies.specs.Blocks.{Answer, answer_room, put_off_bytes}
use Rattle.sheet.specs.Tasks.{flash_task, task_of}
use Rattle.sheet.specs.Sheet.{replied, question_to, answer_to, roomy, sheet_from, sheet_of, reply_to}
use Rattle.sheet.proofs.Flashes.{given, stopped, flash_task_outcome}
use Rattle.queue.specs.Queue.{question_count, is_flash, questions_right, run_of, is_put, queue_reply, left_at, parts_to, queue_of}
use Rattle.queue.proofs.Calls.{put-seven, flashes}
use Rattle.batches.specs.Alone.{part}
use Rattle.batches.proofs.Parts.{slice-long, slice-behind, slice-part}
use Rattle.batches.proofs.Alone.{reply-fits}
use Rattle.queues.specs.Alone.{QueueParts}

-- ---- one question, for a book that was opened
module _ (book question : List ℕ) (h : Head) (opened : book_of book ≡ ok h) where
  -- with room for an answer, the plain call is the question's and the task's own
  pub sheet_to : sheet_of book question answer_room ≡ bind (question_to book h.version h.n question) (answer_to book h.n)
  unfolding sheet_of sheet_from roomy
  sheet_to = bind_yes _ opened ∙ need_yes 10 _ refl

  -- a flash and its count, as bytes
  own_answer : (q : Question) → q.task ≡ 7 → replied (rule_of book) 7 (bind_counted (uncounted (ok q)) (flash_task (mixture_of book h.n))).outcome ≡ answer_to book h.n q
  unfolding answer_to
  own_answer q s =
      ap (λ (c : Counted Answer). replied (rule_of book) 7 c.outcome) (given (flash_task (mixture_of book h.n)) refl)
      ∙ ap (replied (rule_of book) 7) (flash_task_outcome (mixture_of book h.n) q s)
      ∙ ap (λ (t : ℕ). replied (rule_of book) t (task_of (mixture_of book h.n) q)) (sym s)

  module _ (f : is_flash (task_in (rule_of book) question) ≡ true) where
    -- where 39 passes, one that was read asks for a flash
    pub seven : {q : Question} → question_to book h.version h.n question ≡ ok q → q.task ≡ 7
    seven e = put-seven book h.version h.n question f e

    -- its run is the plain call's
    pub run_alone : replied (rule_of book) 7 (run_of book h.version h.n question).outcome ≡ sheet_of book question answer_room
    unfolding run_of uncounted bind
    run_alone = go (question_to book h.version h.n question) refl ∙ sym sheet_to
      where
        go : (o : Out Question) → question_to book h.version h.n question ≡ o → replied (rule_of book) 7 (bind_counted (uncounted o) (flash_task (mixture_of book h.n))).outcome ≡ bind o (answer_to book h.n)
        go (ok q) e = own_answer q (seven e)
        go (no r) e = ap (λ (c : Counted Answer). replied (rule_of book) 7 c.outcome) (stopped (flash_task (mixture_of book h.n)) r)

    module _ (left : ℕ) where
      pub put-reply : is_put book h.version h.n question left ≡ true → queue_reply book h.version h.n question left ≡ reply_to book question
      unfolding queue_reply reply_to
      put-reply p = rw (p, sheet_to)

      pub off-reply : is_put book h.version h.n question left ≡ false → queue_reply book h.version h.n question left ≡ put_off_bytes (rule_of book)
      unfolding queue_reply
      off-reply p = rw p

      queue_fits : length (queue_reply book h.version h.n question left) ≤ answer_room
      unfolding put_off_bytes
      queue_fits = go (is_put book h.version h.n question left) refl
        where
          go : (b : Bool) → is_put book h.version h.n question left ≡ b → length (queue_reply book h.version h.n question left) ≤ answer_room
          go true p = rw (put-reply p) (reply-fits book question)
          go false p = rw (off-reply p, length_block-bytes) (omega arith)

-- ---- what an accepted call has passed
pub record Taken (book questions : List ℕ) (allowance : ℕ) (h : Head) (old new : List ℕ) : Type 0 where
  pub flash : (k : ℕ) → k < question_count questions → is_flash (task_in (rule_of book) (block questions k)) ≡ true
  pub room : answer_room * question_count questions ≤ length old
  pub parts : new ≡ parts_to book h.version h.n questions allowance old (question_count questions)

pub taken : (book questions : List ℕ) (allowance : ℕ) (h : Head) (old new : List ℕ) → book_of book ≡ ok h → queue_of book questions allowance old ≡ ok new
    → Taken book questions allowance h old new
unfolding queue_of
taken book questions allowance h old new opened e =
    let o = sym (bind_yes _ opened) ∙ e in
    let f = need_inv (questions_right (rule_of book) questions) 39 _ o in
    let g = need_inv (leb (answer_room * question_count questions) (length old)) 10 _ f.1 in
    let p : parts_to book h.version h.n questions allowance old (question_count questions) ≡ new = cc g.1 in
    let a = flashes (rule_of book) questions (sym (is_true (questions_right (rule_of book) questions) f.0)) in
    record {
      flash = λ k l. all_at (λ j. is_flash (task_in (rule_of book) (block questions j))) (question_count questions) k l a;
      room = leb→le _ _ g.0;
      parts = sym p;
    }

pub queue_parts : QueueParts
unfolding parts_to
queue_parts book questions allowance h old new opened e = record {
  size = sym (slice-long reply old count u.room fits count (le_refl count)) ∙ ap length (sym u.parts);
  alone = λ k l p. standing k l ∙ ap (put (part old k) 0) (put-reply book (block questions k) h opened (u.flash k l) (left k) p);
  off = λ k l p. standing k l ∙ ap (put (part old k) 0) (off-reply book (block questions k) h opened (u.flash k l) (left k) p);
  behind = sym (slice-behind reply old count u.room fits count (answer_room * count) (le_refl count) (le_refl (answer_room * count)))
      ∙ ap (drop (answer_room * count)) (sym u.parts);
}
  where
    u : Taken book questions allowance h old new
    u = taken book questions allowance h old new opened e

    count : ℕ
    count = question_count questions

    left : ℕ → ℕ
    left k = left_at book h.version h.n questions allowance k

    reply : ℕ → List ℕ
    reply k = queue_reply book h.version h.n (block questions k) (left k)

    fits : (k : ℕ) → k < count → length (reply k) ≤ answer_room
    fits k l = queue_fits book (block questions k) h opened (u.flash k l) (left k)

    standing : (k : ℕ) → k < count → part new k ≡ put (part old k) 0 (reply k)
    standing k l = ap (λ (s : List ℕ). part s k) u.parts ∙ slice-part reply old count u.room fits count k (le_refl count) l
