-- Raising a limit in each call, by the laws of crate `limits`. Assumes nothing.
use Prim.Native.Nat.{ℕ, ◌+◌, ◌-◌, ◌≤◌, ◌<◌}
use mathlib.Core.Path.{◌≡◌, refl, sym, ap, ◌∙◌}
use mathlib.Core.Logic.{◌≢◌, inl, inr}
use mathlib.Core.Bool.{Bool, true, false}
use mathlib.Core.List.{List}
use native.Mathlib.Omega.{arith}
use borrow.Author.Tests.{ltb-true, ltb-false}
use lib.Dec.{ltb, eqb, eqb→eq}
use lib.ListN.{length}
use lib.Ieee.Bits.{is_true}
use Rattle.floats.specs.Outcome.{Out, ok, no}
use Rattle.floats.proofs.Outcomes.{need_inv, bind_inv, need_yes, bind_yes, Each, each-ok, each-need}
use Rattle.blocks.specs.declared.Rule.{Rule}
use Rattle.blocks.specs.Words.{word}
use Rattle.blocks.specs.Bytes.{put}
use Rattle.book.specs.declared.Head.{Head}
use Rattle.book.specs.Book.{book_of, rule_of, offered_of}
use Rattle.book.proofs.Accepted.{accepted}
use Rattle.records.specs.Offered.{with_pair}
use Rattle.records.proofs.Offered.{copy-rule}
use Rattle.question.specs.Asked.{task_in}
use Rattle.replies.specs.Blocks.{answer_room}
use Rattle.sheet.specs.Sheet.{sheet_of, roomy, number_of, written, reply_of, reply_to}
use Rattle.refusals.proofs.Theorem.{zero_is-answer}
use Rattle.striking.specs.Theorem.{Accepted}
use Rattle.pool.specs.Pool.{fed_to, drums_to, pooled_from, pooled_of}
use Rattle.batch.specs.Feeds.{feeds_right, feeds_of}
use Rattle.batches.specs.Alone.{WithFeed, with_feed, task_for, part}
use Rattle.batches.specs.Striking.{AsksAlone}
use Rattle.batches.proofs.Alone.{feeds_alone}
use Rattle.batches.proofs.Questions.{feed-question}
use Rattle.preview.specs.Preview.{preview_from, preview_of}
use Rattle.limits.specs.Kept.{Kept, OfLimits}
use Rattle.limits.specs.Raised.{AsOrRaised, Raised}
use Rattle.limits.proofs.Kept.{kept_refl, kept-need, kept-bind, kept_on}
use Rattle.limits.proofs.Questions.{other, kept-task_in}
use Rattle.limits.proofs.Theorem.{kept-fed, kept_from, kept-ok, raising}
use Rattle.raised_calls.specs.Calls.{RaisingCalls, PooledRaising, FeedsRaising, PreviewRaising}

-- ---- the entry point: 0 means an answer, since every refusal has a number
pub raising_calls : RaisingCalls
unfolding number_of written
raising_calls book q r old new new' e a s t =
    let p = zero_is-answer book q (length old) (sym s.number) in
    let o = raising book q r (length old) p.0 a p.1 in
    (t.number ∙ rw o, s.bytes ∙ rw p.1 (sym (t.bytes ∙ rw o)))

-- ---- pooled drums
kept_drums : (book q r drums : List ℕ) → Raised (rule_of book) q r → (n : ℕ) → n ≤ 8 → Kept OfLimits (drums_to book n q drums) (drums_to book n r drums)
unfolding drums_to fed_to
kept_drums book q r drums a n few =
    rw (other (rule_of book) q r a 27 (omega arith)) (kept-need _ 31 (kept-need _ 32 (kept-need _ 36 (kept-bind kept_refl (kept-fed book q r a n few _)))))

pub pooled-raising : PooledRaising
unfolding pooled_of pooled_from roomy
pooled-raising book q r drums room bs a =
    kept-ok (kept_on (book_of book) (λ h e.
    kept-need _ 10 (kept-bind (kept-task_in (rule_of book) q r a) (λ task. kept_drums book q r drums a h.n (accepted book e).few))))

-- ---- a pair that is tried: block 0 and its rule are the book's
offered_head : (rule : Rule) (h : Head) (offered : List ℕ) → Each (λ (g : Head). h ≡ g) (offered_of rule h offered)
unfolding offered_of
offered_head rule h offered =
    let P : Head → Type 0 = λ g. h ≡ g in
    each-need P _ 1 (each-need P _ 2 (each-need P _ 7 (each-need P _ 8 (each-need P _ 9 (each-ok P refl)))))

pub preview_raising : PreviewRaising
unfolding preview_of preview_from
preview_raising book offered q r room bs a =
    kept-ok (kept_on (book_of book) (λ h e.
    kept_on (offered_of (rule_of book) h offered) (λ g u.
    let few : g.n ≤ 8 = rw ((offered_head (rule_of book) h offered).each g u) at (accepted book e).few in
    kept_from (with_pair g.n book offered) q r (rw (copy-rule g.n book offered) a) g.n few g.version room)))

-- ---- many feeds
module _ (rule : Rule) (q r feeds : List ℕ) (k : ℕ) (s t : List ℕ) (a : Raised rule q r) (u : WithFeed rule q feeds k s) (v : WithFeed rule r feeds k t) where
  -- the feed's words are the same in both
  feed-word : (j : ℕ) → 4 ≤ j → j < 12 → word s j ≡ word t j
  feed-word j l m =
      let e : 4 + (j - 4) ≡ j = omega arith in
      rw e at (u.fraction (j - 4) (omega arith) ∙ sym (v.fraction (j - 4) (omega arith)))

  word-there : (j : ℕ) → j < 63 → j ≢ 12 → j ≢ 14 → (b : Bool) → ltb j 4 ≡ b → (c : Bool) → ltb j 12 ≡ c → word s j ≡ word t j
  word-there j l x y true e c f = sym (u.others j l (inl (ltb-true j 4 e))) ∙ a.others j l x y ∙ v.others j l (inl (ltb-true j 4 e))
  word-there j l x y false e true f = feed-word j (ltb-false j 4 e) (ltb-true j 12 f)
  word-there j l x y false e false f = sym (u.others j l (inr (ltb-false j 12 f))) ∙ a.others j l x y ∙ v.others j l (inr (ltb-false j 12 f))

  -- a limit of the question with the feed
  limit-there : (j : ℕ) → 12 ≤ j → j < 63 → AsOrRaised (word q j) (word r j) → AsOrRaised (word s j) (word t j)
  limit-there j h l x = rw (u.others j l (inr h), v.others j l (inr h)) at x

  fed-raised : Raised rule s t
  fed-raised = record {
    size = sym u.size ∙ a.size ∙ v.size;
    iterations = limit-there 12 (omega arith) (omega arith) a.iterations;
    temperature_iterations = limit-there 14 (omega arith) (omega arith) a.temperature_iterations;
    others = λ j l x y. word-there j l x y (ltb j 4) refl (ltb j 12) refl;
    check = v.check;
  }

-- block and task
task-kept : (rule : Rule) (q r : List ℕ) → Raised rule q r → Kept OfLimits (task_for rule q) (task_for rule r)
unfolding task_for
task-kept rule q r a = kept-bind (kept-task_in rule q r a) (λ task. kept_refl)

task-long : (rule : Rule) (q : List ℕ) {t : ℕ} → task_for rule q ≡ ok t → length q ≡ 512
unfolding task_for task_in
task-long rule q e = eqb→eq (length q) 512 (need_inv (eqb (length q) 512) 11 _ (bind_inv (task_in rule q) _ e).1).0

-- an accepted call's reply is its bytes
pub reply-is : (book s : List ℕ) {bs : List ℕ} → sheet_of book s answer_room ≡ ok bs → reply_to book s ≡ bs
unfolding reply_to reply_of
reply-is book s e = rw e

accepted-is : {A : Type 0} (o : Out A) → Accepted o → (a : A) × (o ≡ ok a)
unfolding Accepted
accepted-is (ok a) h = (a, refl)
accepted-is (no r) h = absurd h

module _ (book q r feeds old new new' : List ℕ) (a : Raised (rule_of book) q r) (call : feeds_of book q feeds old ≡ ok new)
    (call' : feeds_of book r feeds old ≡ ok new') where
  same-part : (k : ℕ) (alone bs : List ℕ) → AsksAlone book q feeds k alone → sheet_of book alone answer_room ≡ ok bs → part new k ≡ part new' k
  same-part k alone bs h e =
      let t = accepted-is (task_for (rule_of book) q) h.task in
      let t' = kept-ok (task-kept (rule_of book) q r a) t.1 in
      let there = (feed-question (rule_of book) r feeds k (task-long (rule_of book) r t') h.below).0 in
      let alone' = with_feed (rule_of book) r feeds k in
      let e' = raising book alone alone' answer_room bs (fed-raised (rule_of book) q r feeds k alone alone' a h.asked there) e in
      (feeds_alone book q feeds old new call).alone t.0 t.1 k h.below alone h.asked
      ∙ ap (put (part old k) 0) (reply-is book alone e ∙ sym (reply-is book alone' e'))
      ∙ sym ((feeds_alone book r feeds old new' call').alone t.0 t' k h.below alone' there)

-- what ends the call is asked of book, feeds and slice alone
called : (book q r feeds old new : List ℕ) → feeds_of book q feeds old ≡ ok new → (new' : List ℕ) × (feeds_of book r feeds old ≡ ok new')
unfolding feeds_of
called book q r feeds old new e =
    let b = bind_inv (book_of book) _ e in
    let c = need_inv (feeds_right feeds) 33 _ b.2 in
    let d = need_inv _ 10 _ c.1 in
    (_, bind_yes _ b.1 ∙ need_yes 33 _ (is_true _ c.0) ∙ need_yes 10 _ (is_true _ d.0))

pub feeds_raising : FeedsRaising
feeds_raising book q r feeds old new a call =
    let again = called book q r feeds old new call in
    (again.0, again.1, same-part book q r feeds old new again.0 a call again.1)
