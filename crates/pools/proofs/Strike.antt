-- Demand 3 of pooled calls: both are plain calls, on questions with the pools' fractions, and the one theorem of striking speaks of those. Assumes nothing.
use Prim.Native.Nat.{ℕ, zero, suc, ◌+◌, ◌/◌, ◌≤◌, ◌<◌}
use mathlib.Core.Path.{◌≡◌, refl, sym, ap, ◌∙◌, subst}
use mathlib.Core.Logic.{inl, inr}
use mathlib.Core.Bool.{Bool, true, false, not, ◌||◌}
use mathlib.Core.List.{List}
use native.Mathlib.Nat.{le_trans}
use native.Mathlib.Omega.{arith}
use borrow.Author.Tests.{eq-eqb, ne_eqb}
use lib.Dec.{T, eqb, eqb→eq}
use lib.ListN.{length}
use lib.Ieee.{Float}
use lib.Ieee.Bits.{is_true}
use Rattle.floats.specs.Arithmetic.{◌⊘◌}
use Rattle.floats.specs.Small.{bits_of}
use Rattle.floats.specs.Fold.{fold_to}
use Rattle.floats.specs.Vector.{at}
use Rattle.floats.specs.Outcome.{ok, need}
use Rattle.floats.proofs.Outcomes.{need_inv, bind_inv}
use Rattle.blocks.specs.declared.Rule.{Rule}
use Rattle.blocks.specs.Words.{word, check_right}
use Rattle.book.specs.Book.{rule_of, book_of}
use Rattle.book.proofs.Accepted as open-book
use Rattle.question.specs.Asked.{task_in}
use Rattle.question.specs.Inputs.{is_task}
use Rattle.replies.specs.Blocks.{answer_room}
use Rattle.sheet.specs.Sheet.{roomy, sheet_of, number_of}
use Rattle.striking.specs.Places.{tick, cnt}
use Rattle.striking.specs.Words.{ZeroWord}
use Rattle.striking.specs.Questions.{kept_in, solvents, ShorterQuestion, Shorter}
use Rattle.striking.specs.Sheets.{SameSheet}
use Rattle.striking.specs.Theorem.{Accepted}
use Rattle.striking.proofs.Strike.{cnt_lt}
use Rattle.striking.proofs.Excess.{cnt_le}
use Rattle.striking.proofs.Theorem.{striking}
use Rattle.pool.specs.Pool.{total_to, drum_count, count_in, pool_count, pool_total, total_right, amount, drums_to, pooled_from, pooled_of}
use Rattle.pool.proofs.Laws.{total_cong}
use Rattle.pools.specs.Plain.{pool_fractions, DrumsPass, WithFractions}
use Rattle.pools.specs.Striking.{kept_pool, ShorterPool, after_pool, PooledDemand3, PooledCalls}
use Rattle.pools.proofs.Drums.{sized-alike}
use Rattle.pools.proofs.Fractions.{fraction-is, zero_fraction, zero_count}
use Rattle.pools.proofs.Plain.{accepted-is, TaskPass, task-passed, pool_as_plain, as_plain, as_plain_lem}
use Rattle.pools.proofs.Keeping.{places-alike, shorter-alike, sheet_alike}
use Rattle.pools.proofs.Refusals.{zero_is_pool_answer}

-- ---- what an accepted pooled call has passed
pub record PoolTaken (book question drums : List ℕ) : Type 0 where
  pub few : solvents book ≤ 8
  pub passed : DrumsPass book question drums

pub taken : (book question drums : List ℕ) (room : ℕ) {bs : List ℕ} → pooled_of book question drums room ≡ ok bs → PoolTaken book question drums
unfolding pooled_of pooled_from roomy drums_to Accepted
taken book question drums room e =
    let o = bind_inv (book_of book) _ e in
    let a = open-book.accepted book o.1 in
    let t = bind_inv (task_in (rule_of book) question) _ (need_inv _ 10 _ o.2).1 in
    let d = need_inv _ 31 _ t.2 in
    let s = need_inv _ 32 _ d.1 in
    let k = need_inv _ 36 _ s.1 in
    record {
      few = omega (arith, a.count, a.few);
      passed = record {
        task = rw t.1 tt;
        drums_right = is_true _ d.0;
        total_right = rw a.count (is_true _ s.0);
        moles = eqb→eq (word question 27) 0 k.0;
      };
    }

-- ---- sums over the solvents kept
strike_total : (keep : ℕ → Bool) (f f' : ℕ → ℕ) (n : ℕ) → ((i : ℕ) → i < n → T (keep i) → f i ≡ f' (cnt keep i))
    → ((i : ℕ) → i < n → T (not (keep i)) → f i ≡ 0) → total_to f n ≡ total_to f' (cnt keep n)
unfolding fold_to cnt
strike_total keep f f' zero k a = refl
strike_total keep f f' (suc n) k a =
    go (keep n) (k n (omega arith)) (a n (omega arith)) (strike_total keep f f' n (λ i l. k i (omega arith)) (λ i l. a i (omega arith)))
  where
    go : (b : Bool) → (T b → f n ≡ f' (cnt keep n)) → (T (not b) → f n ≡ 0) → total_to f n ≡ total_to f' (cnt keep n)
        → total_to f n + f n ≡ total_to f' (tick b (cnt keep n))
    go true p q e = unfold fold_to in omega (arith, p tt)
    go false p q e = omega (arith, q tt)

-- ---- tests that are read off equal numbers
not_not : (b : Bool) → T (not (not b)) → T b
not_not true h = tt
not_not false h = elim h [ ]

kept_word : (c b : ℕ) → (c ≡ 0 → ZeroWord b) → (ZeroWord b → c ≡ 0) → not (eqb c 0) ≡ not (eqb b 0 || eqb b 0x8000000000000000)
kept_word zero b f g = pick (f refl)
  where
    pick : ZeroWord b → false ≡ not (eqb b 0 || eqb b 0x8000000000000000)
    pick (inl e) = rw e refl
    pick (inr e) = rw e refl
kept_word (suc c) b f g = rw (ne_eqb (suc c) 0 none, ne_eqb b 0 (λ e. none (g (inl e))), ne_eqb b 0x8000000000000000 (λ e. none (g (inr e)))) refl
  where
    none : suc c ≡ 0 → ⊥
    none e = omega arith

passes : (rule : Rule) (q : List ℕ) → length q ≡ 512 → T (check_right rule (word q)) → T (eqb (word q 0) 8) → T (is_task (word q 1)) → Accepted (task_in rule q)
unfolding task_in need Accepted
passes rule q e c k t = rw (eq-eqb (length q) 512 e, is_true (check_right rule (word q)) c, is_true (eqb (word q 0) 8) k, is_true (is_task (word q 1)) t) tt

module _ (book question drums book' question' drums' : List ℕ) (h : ShorterPool book question drums book' question' drums')
    (taken : PoolTaken book question drums) where
  abbrev n : ℕ
  n = solvents book

  abbrev keep : ℕ → Bool
  keep = kept_pool drums

  abbrev n' : ℕ
  n' = cnt keep n

  few' : n' ≤ 8
  few' = le_trans (cnt_le keep n) taken.few

  -- ---- counts and total
  kept-count : (i : ℕ) → i < n → T (keep i) → pool_count drums i ≡ pool_count drums' (cnt keep i)
  unfolding pool_count
  kept-count i l t =
      total_cong (λ d. count_in drums d i) (λ d. count_in drums' d (cnt keep i)) (drum_count drums) (λ d k. h.of_drums.count d i k l t)
      ∙ ap (λ (m : ℕ). total_to (λ d. count_in drums' d (cnt keep i)) (m / 64)) h.of_drums.size

  struck-count : (i : ℕ) → i < n → T (not (keep i)) → pool_count drums i ≡ 0
  unfolding kept_pool
  struck-count i l t = eqb→eq (pool_count drums i) 0 (not_not (eqb (pool_count drums i) 0) t)

  one-total : pool_total drums n ≡ pool_total drums' n'
  unfolding pool_total
  one-total = strike_total keep (pool_count drums) (pool_count drums') n kept-count struck-count

  right' : total_right drums' n' ≡ true
  unfolding total_right
  right' = rw (← one-total) taken.passed.total_right

  -- ---- the shorter drums pass too
  asked : TaskPass (rule_of book) question
  asked = task-passed (rule_of book) question (accepted-is _ taken.passed.task).1

  passed' : DrumsPass book' question' drums'
  passed' = record {
    task = passes (rule_of book') question' h.of_question.size h.of_question.check (rw (← h.of_question.head 0 (omega arith)) asked.kind)
        (rw (← h.of_question.head 1 (omega arith)) asked.task);
    drums_right = sym (sized-alike drums drums' h.of_drums.size) ∙ taken.passed.drums_right;
    total_right = rw h.of_book.count right';
    moles = sym (h.of_question.unnamed 27 (omega arith) (omega arith)) ∙ taken.passed.moles;
  }

  -- ---- the two plain questions
  abbrev z : List Float
  z = pool_fractions drums n

  abbrev z' : List Float
  z' = pool_fractions drums' n'

  abbrev r : List ℕ
  r = as_plain (rule_of book) n z question

  abbrev r' : List ℕ
  r' = as_plain (rule_of book') n' z' question'

  plain : WithFractions (rule_of book) n z question r
  plain = as_plain_lem (rule_of book) n z question taken.few (eqb→eq (length question) 512 asked.size)

  plain' : WithFractions (rule_of book') n' z' question' r'
  plain' = as_plain_lem (rule_of book') n' z' question' few' h.of_question.size

  fraction-same : (i : ℕ) → i < n → T (keep i) → at z i ≡ at z' (cnt keep i)
  fraction-same i l t =
      fraction-is drums n taken.few taken.passed.total_right i l
      ∙ ap (λ (c : ℕ). amount c ⊘ amount (pool_total drums n)) (kept-count i l t) ∙ ap (λ (s : ℕ). amount (pool_count drums' (cnt keep i)) ⊘ amount s) one-total
      ∙ sym (fraction-is drums' n' few' right' (cnt keep i) (cnt_lt keep i n t l))

  -- a solvent is kept in the plain question exactly where some drum has it
  kept-alike : (i : ℕ) → i < n → keep i ≡ kept_in r i
  unfolding kept_pool kept_in
  kept-alike i l =
      let t = taken.passed.total_right in
      rw (plain.fraction i l)
      (kept_word (pool_count drums i) (bits_of (at z i)) (zero_fraction drums n i taken.few l t) (zero_count drums n i taken.few l t))

  places : (i : ℕ) → i < n → cnt keep i ≡ cnt (kept_in r) i
  places i l = places-alike keep (kept_in r) n kept-alike i (omega arith)

  back : (i : ℕ) → i < n → T (kept_in r i) → T (keep i)
  back i l t = rw (kept-alike i l) t

  shorter-plain : ShorterQuestion (rule_of book') (kept_in r) n r r'
  shorter-plain = record {
    size = sym plain'.size ∙ h.of_question.size;
    check = rw plain'.check tt;
    head = λ k l. sym (plain.others k (omega arith) (inl l)) ∙ h.of_question.head k l ∙ plain'.others k (omega arith) (inl l);
    fraction = λ i l t.
        let u = back i l t in
        plain.fraction i l ∙ ap bits_of (fraction-same i l u) ∙ sym (plain'.fraction (cnt keep i) (cnt_lt keep i n u l))
        ∙ ap (λ (c : ℕ). word r' (4 + c)) (places i l);
    options = λ k l m. sym (plain.others k (omega arith) (inr l)) ∙ h.of_question.options k l m ∙ plain'.others k (omega arith) (inr l);
    ratio = λ i l t.
        let c = cnt_le keep i in
        let f = taken.few in
        sym (plain.others (19 + i) (omega arith) (inr (omega arith))) ∙ h.of_question.ratio i l (back i l t)
        ∙ plain'.others (19 + cnt keep i) (omega arith) (inr (omega arith)) ∙ ap (λ (c : ℕ). word r' (19 + c)) (places i l);
    unnamed = λ k l m. sym (plain.others k m (inr (omega arith))) ∙ h.of_question.unnamed k l m ∙ plain'.others k m (inr (omega arith));
  }

  shorter : Shorter book r book' r'
  shorter = record { of_book = shorter-alike keep (kept_in r) n kept-alike book book' h.of_book; of_question = shorter-plain }

  -- ---- both calls as plain ones
  as_long : (room : ℕ) → pooled_of book question drums room ≡ sheet_of book r room
  as_long room = pool_as_plain book question drums r room taken.passed plain

  as_short : (room : ℕ) → pooled_of book' question' drums' room ≡ sheet_of book' r' room
  as_short room = pool_as_plain book' question' drums' r' room passed' (rw h.of_book.count plain')

  pub strike_pool : (old old' : List ℕ) → answer_room ≤ length old' → Accepted (pooled_of book question drums (length old))
      → Accepted (pooled_of book' question' drums' (length old')) × SameSheet keep n (after_pool book question drums old) (after_pool book' question' drums' old')
  strike_pool old old' enough took =
      let s = striking book r book' r' shorter old old' enough (subst Accepted (as_long (length old)) took) in (
        subst Accepted (sym (as_short (length old'))) s.0,
        rw (as_long (length old), as_short (length old')) (sheet_alike (kept_in r) keep n (λ i l. sym (kept-alike i l)) s.1),
      )

pub pooled-striking : PooledDemand3
pooled-striking book question drums book' question' drums' h old old' enough took =
    strike_pool book question drums book' question' drums' h (taken book question drums (length old) (accepted-is _ took).1) old old' enough took

-- 0 means an answer, since every refusal has a number
pub pooled_calls : PooledCalls
unfolding Accepted number_of
pooled_calls book question drums book' question' drums' h old new old' new' r' enough a b =
    let p = zero_is_pool_answer book question drums (length old) (sym a.number) in
    let q = pooled-striking book question drums book' question' drums' h old old' enough (rw p.1 tt) in
    let o = accepted-is (pooled_of book' question' drums' (length old')) q.0 in
    (b.number ∙ rw o.1, rw (a.bytes, b.bytes) q.1)
