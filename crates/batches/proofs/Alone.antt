-- Each part of the slice has what a call on its feed alone leaves there. Assumes nothing.
use Prim.Native.Nat.{ℕ, ◌+◌, ◌*◌, ◌≤◌, ◌<◌}
use mathlib.Core.Path.{◌≡◌, refl, sym, ap, ◌∙◌}
use mathlib.Core.Logic.{inl, inr}
use mathlib.Core.Bool.{Bool, true, false, cond}
use mathlib.Core.List.{List, ◌++◌, []}
use native.Mathlib.Nat.{le_refl}
use native.Mathlib.Omega.{arith}
use lib.Dec.{T, eqb, leb, eqb→eq, leb→le}
use lib.ListN.{length, drop}
use lib.Ieee.{Float}
use lib.Ieee.Bits.{is_true}
use Rattle.floats.specs.Small.{float_of}
use Rattle.floats.specs.Vector.{zeros8}
use Rattle.floats.specs.Outcome.{Out, ok, no, bind, need}
use Rattle.floats.proofs.Fills.{fill_cong}
use Rattle.floats.proofs.Outcomes.{need_yes, need_inv, bind_yes, bind-no, bind_inv}
use Rattle.blocks.specs.declared.Rule.{Rule}
use Rattle.blocks.specs.Words.{word, check_right}
use Rattle.blocks.specs.Bytes.{put}
use Rattle.blocks.proofs.Laws.{length_block-bytes}
use Rattle.book.specs.declared.Head.{Head}
use Rattle.book.specs.Places.{words}
use Rattle.book.specs.Book.{molar_mass, book_of, rule_of}
use Rattle.book.proofs.Accepted.{accepted}
use Rattle.question.specs.declared.Question.{Question}
use Rattle.question.specs.Inputs.{needs_temperature}
use Rattle.question.specs.Asked.{task_in, kind_right, feed_of, moles_of, rest_of, question_of}
use Rattle.replies.specs.Blocks.{answer_room, answer_length, refused_task, refusal_words, refusal_bytes}
use Rattle.feeds.proofs.Rest.{rest_in, rest-alike}
use Rattle.sheet.specs.Sheet.{answer_to, roomy, sheet_from, sheet_of, reply_of, reply_to}
use Rattle.sheet.proofs.Lengths.{own_length}
use Rattle.batch.specs.Feeds.{feed_count, feeds_right, feed_at, task_among, feed_to, feed_reply, parts_to, feeds_of}
use Rattle.batches.specs.Alone.{WithFeed, with_feed, task_for, part, FeedsAlone}
use Rattle.batches.proofs.Refusals.{task-number}
use Rattle.batches.proofs.Parts.{slice-long, slice-behind, slice-part}
use Rattle.batches.proofs.Questions.{feed-question}

-- ---- a reply fits its part
answer-few : (s : List ℕ) → answer_length s ≤ answer_room
unfolding answer_length
answer-few s = go (leb (word s 12) 8) (leb→le (word s 12) 8)
  where
    go : (b : Bool) → (T b → word s 12 ≤ 8) → cond b (512 * (1 + word s 12)) 512 ≤ answer_room
    go true h = omega (arith, h tt)
    go false h = omega arith

refusal-fits : (rule : Rule) (q : List ℕ) (r : ℕ) → length (refusal_bytes rule q r) ≤ answer_room
unfolding refusal_bytes
refusal-fits rule q r = rw (length_block-bytes rule _) (omega arith)

pub reply-fits : (book q : List ℕ) → length (reply_to book q) ≤ answer_room
unfolding reply_to reply_of
reply-fits book q = go (sheet_of book q answer_room) refl
  where
    go : (o : Out (List ℕ)) → sheet_of book q answer_room ≡ o → length (reply_of (rule_of book) q o) ≤ answer_room
    go (ok bs) e = rw (← own_length book q answer_room e []) (answer-few (bs ++ []))
    go (no r) e = refusal-fits (rule_of book) q r

-- ---- tests in a row
need-bind : {A B : Type 0} (b : Bool) (r : ℕ) (o : Out A) (f : A → Out B) → bind (need b r o) f ≡ need b r (bind o f)
unfolding bind need
need-bind true r o f = refl
need-bind false r o f = refl

-- 36 can be put behind the task's tests
asked_then : {A : Type 0} (o : Out ℕ) (p : ℕ → Bool) (b : Bool) (rest : Out A)
    → bind (bind o (λ t. need (p t) 12 (need b 36 (ok t)))) (λ t. rest) ≡ bind (bind o (λ t. need (p t) 12 (ok t))) (λ t. need b 36 rest)
unfolding bind need
asked_then (no r) p b rest = refl
asked_then {A} (ok t) p b rest = go (p t)
  where
    go : (c : Bool) → bind {B = A} (need c 12 (need b 36 (ok t))) (λ t. rest) ≡ bind (need c 12 (ok t)) (λ t. need b 36 rest)
    go true = need-bind b 36 (ok t) (λ t. rest)
    go false = refl

-- ---- the question with a feed is read as the question, put to that feed
module _ (rule : Rule) (q feeds : List ℕ) (k : ℕ) (r : List ℕ) (a : WithFeed rule q feeds k r) where
  front : (j : ℕ) → j < 4 → word q j ≡ word r j
  front j h = a.others j (omega arith) (inl h)

  behind : (j : ℕ) → 12 ≤ j → j < 63 → word q j ≡ word r j
  behind j h l = a.others j l (inr h)

  task-alike : {t : ℕ} → task_in rule q ≡ ok t → task_in rule r ≡ ok t
  unfolding task_in
  task-alike e =
      let c = is_true (check_right rule (word q)) (need_inv (check_right rule (word q)) 11 _ (need_inv (eqb (length q) 512) 11 _ e).1).0 in
      rw (← a.size, ← front 0 (omega arith), ← front 1 (omega arith), a.check) (rw c at e)

  feed-alike : (n : ℕ) → n ≤ 8 → feed_at feeds n k ≡ feed_of r n
  unfolding feed_at
  feed-alike n few = fill_cong _ _ n zeros8 (λ i l. ap float_of (sym (a.fraction i (omega arith))))

  kind-alike : (version : ℕ) → kind_right version (word q) ≡ kind_right version (word r)
  unfolding kind_right
  kind-alike version = rw (behind 27 (omega arith) (omega arith))

  moles-alike : (m : ℕ → Float) (n : ℕ) (x : List Float) → moles_of (word q) m n x ≡ moles_of (word r) m n x
  unfolding moles_of
  moles-alike m n x = rw (behind 27 (omega arith) (omega arith))

  rests_alike : (m : ℕ → Float) (n : ℕ) (x : List Float) → n ≤ 8 → rest_of q m n x ≡ rest_of r m n x
  unfolding rest_of rest_in
  rests_alike m n x few = rw (moles-alike m n x) (rest-alike q r n few front (λ j h l. behind j h (omega arith)) x (moles_of (word r) m n x))

  refusal-alike : (e : ℕ) → refusal_bytes rule q e ≡ refusal_bytes rule r e
  unfolding refusal_bytes refusal_words refused_task
  refusal-alike e = rw (front 1 (omega arith))

  reply-alike : (o : Out (List ℕ)) → reply_of rule q o ≡ reply_of rule r o
  unfolding reply_of
  reply-alike (ok bs) = refl
  reply-alike (no e) = refusal-alike e

-- ---- the reply to a feed, for a book that was opened
module _ (book q feeds : List ℕ) (h : Head) where
  abbrev rule : Rule
  rule = rule_of book

  -- 36, then the rest and the task's own
  abbrev kind_to : List ℕ → List Float → Out (List ℕ)
  kind_to r x = need (kind_right h.version (word r)) 36 (bind (rest_of r (molar_mass (words book)) h.n x) (answer_to book h.n))

  feed_to_lem : (x : List Float) → feed_to book h.version h.n q x ≡ bind (task_for rule q) (λ task. kind_to q x)
  unfolding feed_to task_among task_for
  feed_to_lem x = asked_then (task_in rule q) needs_temperature _ _

  refused-reply : (e : ℕ) → task_for rule q ≡ no e → (k : ℕ) → feed_reply book h.version h.n q feeds k ≡ refusal_bytes rule q e
  unfolding feed_reply reply_of
  refused-reply e t k = rw (feed_to_lem (feed_at feeds h.n k) ∙ bind-no _ t)

  module _ (opened : book_of book ≡ ok h) (task : ℕ) (t : task_for rule q ≡ ok task) (k : ℕ) (r : List ℕ) (a : WithFeed rule q feeds k r) where
    few : h.n ≤ 8
    few = (accepted book opened).few

    kind_to_alike : kind_to q (feed_at feeds h.n k) ≡ kind_to r (feed_of r h.n)
    kind_to_alike =
        rw (
          feed-alike rule q feeds k r a h.n few,
          kind-alike rule q feeds k r a h.version,
          rests_alike rule q feeds k r a (molar_mass (words book)) h.n (feed_of r h.n) few,
        )

    sheet_to : sheet_of book r answer_room ≡ kind_to r (feed_of r h.n)
    unfolding sheet_of sheet_from roomy question_of task_for
    sheet_to =
        bind_yes _ opened ∙ need_yes 10 _ refl
        ∙ ap (λ (o : Out Question). bind o (answer_to book h.n)) (bind_yes _ (task-alike rule q feeds k r a (bind_inv (task_in rule q) _ t).1))
        ∙ need-bind (kind_right h.version (word r)) 36 (rest_of r (molar_mass (words book)) h.n (feed_of r h.n)) (answer_to book h.n)

    asked-reply : feed_reply book h.version h.n q feeds k ≡ reply_to book r
    unfolding feed_reply reply_to
    asked-reply =
        ap (reply_of rule q) (feed_to_lem (feed_at feeds h.n k) ∙ bind_yes _ t ∙ kind_to_alike ∙ sym sheet_to)
        ∙ reply-alike rule q feeds k r a (sheet_of book r answer_room)

  -- a question that passes 11 is a block
  block-sized : (task : ℕ) → task_for rule q ≡ ok task → length q ≡ 512
  unfolding task_for task_in
  block-sized task t = eqb→eq (length q) 512 (need_inv (eqb (length q) 512) 11 _ (bind_inv (task_in rule q) _ t).1).0

  feed-fits : book_of book ≡ ok h → (k : ℕ) → k < feed_count feeds → length (feed_reply book h.version h.n q feeds k) ≤ answer_room
  feed-fits opened k below = go (task_for rule q) refl
    where
      go : (o : Out ℕ) → task_for rule q ≡ o → length (feed_reply book h.version h.n q feeds k) ≤ answer_room
      go (ok task) t =
          let made = (feed-question rule q feeds k (block-sized task t) below).0 in
          rw (asked-reply opened task t k (with_feed rule q feeds k) made) (reply-fits book (with_feed rule q feeds k))
      go (no e) t = rw (refused-reply e t k) (refusal-fits rule q e)

-- ---- what an accepted call has passed
pub record Taken (book q feeds old new : List ℕ) : Type 0 where
  pub head : Head
  pub opened : book_of book ≡ ok head
  pub room : answer_room * feed_count feeds ≤ length old
  pub parts : new ≡ parts_to book head.version head.n q feeds old (feed_count feeds)

pub taken : (book q feeds old new : List ℕ) → feeds_of book q feeds old ≡ ok new → Taken book q feeds old new
unfolding feeds_of
taken book q feeds old new e =
    let o = bind_inv (book_of book) _ e in
    let f = need_inv (feeds_right feeds) 33 _ o.2 in
    let g = need_inv (leb (answer_room * feed_count feeds) (length old)) 10 _ f.1 in
    let p : parts_to book o.0.version o.0.n q feeds old (feed_count feeds) ≡ new = cc g.1 in
    record { head = o.0; opened = o.1; room = leb→le _ _ g.0; parts = sym p }

pub feeds_alone : FeedsAlone
unfolding parts_to
feeds_alone book q feeds old new e = record {
  size = sym (slice-long reply old count u.room fits count (le_refl count)) ∙ ap length (sym u.parts);
  alone = λ task t k l r a. standing k l ∙ ap (put (part old k) 0) (asked-reply book q feeds u.head u.opened task t k r a);
  refused = λ e t k l. (task-number (rule_of book) q e t, standing k l ∙ ap (put (part old k) 0) (refused-reply book q feeds u.head e t k));
  behind = sym (slice-behind reply old count u.room fits count (answer_room * count) (le_refl count) (le_refl (answer_room * count)))
      ∙ ap (drop (answer_room * count)) (sym u.parts);
}
  where
    u : Taken book q feeds old new
    u = taken book q feeds old new e

    count : ℕ
    count = feed_count feeds

    reply : ℕ → List ℕ
    reply = feed_reply book u.head.version u.head.n q feeds

    fits : (k : ℕ) → k < count → length (reply k) ≤ answer_room
    fits = feed-fits book q feeds u.head u.opened

    standing : (k : ℕ) → k < count → part new k ≡ put (part old k) 0 (reply k)
    standing k l = ap (λ (s : List ℕ). part s k) u.parts ∙ slice-part reply old count u.room fits count k (le_refl count) l
