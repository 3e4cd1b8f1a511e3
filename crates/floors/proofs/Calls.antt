-- What each call wrote is read: all are answered as plain calls are, whose answers say their own length. Assumes nothing.
use Prim.Native.Nat.{ℕ, ◌+◌, ◌*◌, ◌≤◌}
use mathlib.Core.Path.{◌≡◌, refl, sym, ap, ◌∙◌, subst}
use mathlib.Core.Bool.{Bool, true, false, cond, ◌&&◌}
use mathlib.Core.List.{List, [], ◌++◌}
use native.Mathlib.Omega.{arith}
use borrow.Author.Tests.{eqb-true, ltb-true}
use lib.Dec.{T, eqb, ltb, leb, leb→le, eqb→eq}
use lib.Ieee.Bits.{is_true}
use lib.Ieee.Fits.{and_l, and_r}
use lib.ListN.{length, get_or, length-append}
use Rattle.floats.specs.Outcome.{Out, ok, no}
use Rattle.floats.proofs.Outcomes.{need_inv, bind_inv}
use Rattle.blocks.specs.declared.Rule.{Rule}
use Rattle.blocks.specs.Words.{word, block, check_right}
use Rattle.blocks.specs.Bytes.{word_at}
use Rattle.blocks.proofs.Laws.{length_block-bytes, length_row}
use Rattle.book.specs.Book.{pair_right, book_of, rule_of, offered_of}
use Rattle.book.proofs.Accepted as open-book
use Rattle.question.specs.Asked.{task_in}
use Rattle.thermo_models.specs.Mixture.{mixture_of}
use Rattle.liquid_stability.specs.Stability.{no_trial}
use Rattle.replies.specs.Blocks.{answer_words, trial_words, Answer, trial_bytes, answer_bytes, answer_room, answer_length}
use Rattle.sheet.specs.Tasks.{task_of}
use Rattle.sheet.specs.Sheet.{answer_to, roomy, question_to, sheet_from, sheet_of, written, reply_of, reply_to}
use Rattle.sheet.proofs.Lengths.{own_length}
use Rattle.striking.specs.Questions.{solvents}
use Rattle.striking.specs.Theorem.{Accepted}
use Rattle.pool.specs.Pool.{drums_to, pooled_from, pooled_of}
use Rattle.pools.specs.Plain.{pool_fractions}
use Rattle.pools.proofs.Plain.{accepted-is, task-passed, pool_as_plain, as_plain, as_plain_lem}
use Rattle.pools.proofs.Strike.{taken}
use Rattle.preview.specs.Preview.{preview_of}
use Rattle.records.specs.Offered.{with_pair}
use Rattle.previews.proofs.Copy.{as_copy}
use Rattle.previews.proofs.Strike.{tried}
use Rattle.batches.specs.Alone.{part}
use Rattle.batches.proofs.Alone.{feeds_alone}
use Rattle.queue.specs.Queue.{queue_reply, left_at}
use Rattle.queues.specs.Alone.{put_at}
use Rattle.queues.proofs.Alone as queues
use Rattle.floors.specs.Written.{Reads, Readable, ReadAfter, PlainRead, PooledRead, PreviewRead, FeedsRead, QueueRead, ReplyRead}
use Rattle.floors.proofs.Blocks.{answer-reads, refusal-reads, put-off-reads, put_reads}

-- ---- a plain call's answer
answer-long : (rule : Rule) (task : ℕ) (a : Answer) → length (answer_bytes rule task a) ≡ 512 * (1 + a.block.state.trials)
unfolding answer_bytes trial_bytes
answer-long rule task a =
    rw (
      length-append,
      length_block-bytes rule (word_at (answer_words task a.block)),
      length_row (trial_bytes rule a.trials) 512 a.block.state.trials (λ k. length_block-bytes rule (word_at (trial_words (get_or a.trials k no_trial)))),
    )
    (omega arith)

-- bytes that say their own length have at most eight trials
few-trials : (s : List ℕ) (k : ℕ) → answer_length s ≡ 512 * (1 + k) → k ≤ 8
unfolding answer_length
few-trials s k = go (leb (word s 12) 8) (leb→le (word s 12) 8)
  where
    go : (b : Bool) → (T b → word s 12 ≤ 8) → cond b (512 * (1 + word s 12)) 512 ≡ 512 * (1 + k) → k ≤ 8
    go true h e = omega (arith, h tt)
    go false h e = omega arith

pub sheet_reads : (book question : List ℕ) (room : ℕ) {bs : List ℕ} → sheet_of book question room ≡ ok bs → Readable bs
unfolding sheet_of sheet_from roomy answer_to
sheet_reads book question room {bs} e =
    let b = bind_inv (book_of book) _ e in
    let n = b.0.n in
    let y = need_inv _ 10 _ b.2 in
    let z = bind_inv (question_to book b.0.version n question) _ y.1 in
    let q = z.0 in
    let w = bind_inv (task_of (mixture_of book n) q) _ z.2 in
    let a = w.0 in
    let k : answer_bytes (rule_of book) q.task a ≡ bs = cc w.2 in
    let m = own_length book question room e [] ∙ ap length (sym k) ∙ answer-long (rule_of book) q.task a in
    subst Readable k (answer-reads (rule_of book) q.task a (few-trials (bs ++ []) a.block.state.trials m))

-- ---- the other calls, as plain ones
pub pooled-reads : (book question drums : List ℕ) (room : ℕ) {bs : List ℕ} → pooled_of book question drums room ≡ ok bs → Readable bs
pooled-reads book question drums room {bs} e =
    let t = taken book question drums room e in
    let rule = rule_of book in
    let n = solvents book in
    let z = pool_fractions drums n in
    let asked = task-passed rule question (accepted-is _ t.passed.task).1 in
    let plain = as_plain_lem rule n z question t.few (eqb→eq (length question) 512 asked.size) in
    sheet_reads book (as_plain rule n z question) room (sym (pool_as_plain book question drums (as_plain rule n z question) room t.passed plain) ∙ e)

pub preview_reads : (book offered question : List ℕ) (room : ℕ) {bs : List ℕ} → preview_of book offered question room ≡ ok bs → Readable bs
unfolding Accepted
preview_reads book offered question room e =
    let o = tried book offered question room (rw e tt) in
    sheet_reads (with_pair o.head.n book offered) question room (sym (as_copy book offered o question room) ∙ e)

pub reply-read : ReplyRead
unfolding reply_to reply_of
reply-read book question = go (sheet_of book question answer_room) refl
  where
    go : (o : Out (List ℕ)) → sheet_of book question answer_room ≡ o → Readable (reply_of (rule_of book) question o)
    go (ok bs) e = sheet_reads book question answer_room e
    go (no r) e = refusal-reads (rule_of book) question r

-- ---- the slice afterwards
after-reads : (o : Out (List ℕ)) → ((bs : List ℕ) → o ≡ ok bs → Readable bs) → ReadAfter o
unfolding written
after-reads o h bs old e = rw e ((h bs e).reads _)

pub plain-read : PlainRead
plain-read book question room = after-reads _ (λ bs. sheet_reads book question room)

pub pooled-read : PooledRead
pooled-read book question drums room = after-reads _ (λ bs. pooled-reads book question drums room)

pub preview_read : PreviewRead
preview_read book offered question room = after-reads _ (λ bs. preview_reads book offered question room)

-- ---- many feeds
pub feeds_read : FeedsRead
feeds_read book question feeds old new e =
    let p = feeds_alone book question feeds old new e in
    record {
      alone = λ task t k l r a. rw (p.alone task t k l r a) (put_reads _ (part old k) (reply-read book r));
      refused = λ n t k l. rw (p.refused n t k l).1 (put_reads _ (part old k) (refusal-reads (rule_of book) question n));
    }

-- ---- a queue
pub queue_read : QueueRead
queue_read book questions allowance h old new opened e k l = go (put_at book h questions allowance k) refl
  where
    question : List ℕ
    question = block questions k

    left : ℕ
    left = left_at book h.version h.n questions allowance k

    u : queues.Taken book questions allowance h old new
    u = queues.taken book questions allowance h old new opened e

    go : (b : Bool) → put_at book h questions allowance k ≡ b → Reads (part new k) (queue_reply book h.version h.n question left)
    go true p =
        rw ((queues.queue_parts book questions allowance h old new opened e).alone k l p, queues.put-reply book question h opened (u.flash k l) left p)
        (put_reads _ (part old k) (reply-read book question))
    go false p =
        rw ((queues.queue_parts book questions allowance h old new opened e).off k l p, queues.off-reply book question h opened (u.flash k l) left p)
        (put_reads _ (part old k) (put-off-reads (rule_of book)))
