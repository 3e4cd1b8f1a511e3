-- What a question takes: nothing where it is refused before any evaluation, of an answer its word 38. Assumes nothing.
use Prim.Native.Nat.{ℕ, ◌+◌, ◌^◌, ◌≤◌, ◌<◌}
use mathlib.Core.Path.{◌≡◌, refl, sym, ap, ◌∙◌}
use mathlib.Core.Bool.{true}
use mathlib.Core.List.{List, [], ◌++◌, append_assoc, append-nil}
use native.Mathlib.Omega.{arith}
use lib.ListN.{length, drop}
use lib.Ieee.{Float}
use Rattle.floats.specs.Vector.{fill_from}
use Rattle.floats.specs.Outcome.{Out, ok, no}
use Rattle.floats.proofs.Outcomes.{need_inv, bind_yes, bind-no, bind_inv}
use Rattle.counted.specs.Counted.{Counted, uncounted, go_on, begun_before, bind_counted, told, count_word}
use Rattle.counted.proofs.Laws.{word_small}
use Rattle.thermo_types.specs.Quantities.{positive_of}
use Rattle.blocks.specs.declared.Rule.{Rule}
use Rattle.blocks.specs.Words.{word, block}
use Rattle.blocks.specs.Bytes.{word_at, put}
use Rattle.blocks.proofs.Laws.{block-word}
use Rattle.book.specs.declared.Head.{Head}
use Rattle.book.specs.Book.{book_of, rule_of}
use Rattle.book.proofs.Accepted.{accepted}
use Rattle.thermo_models.specs.Mixture.{Mixture, mixture_of, activity}
use Rattle.tp_flash.specs.Tp.{Flash}
use Rattle.tp_flash.specs.Counted.{most_evaluations}
use Rattle.evaluations.proofs.Theorem.{some-begun, limited-bound}
use Rattle.question.specs.declared.Question.{Question}
use Rattle.replies.specs.declared.AnswerBlock.{AnswerBlock}
use Rattle.replies.specs.Blocks.{Answer, answer_room, model_words, answer_words, answer_bytes}
use Rattle.sheet.specs.Tasks.{task7_counted, task7, flash_task, task_of}
use Rattle.sheet.specs.Sheet.{question_to, answer_to, roomy, sheet_from, sheet_of, reply_of, reply_to}
use Rattle.sheet.proofs.Flashes.{flash_answer, flash_task_at, flash_task_steps, flash_task_outcome}
use Rattle.queue.specs.Queue.{run_of, is_put, left_at}
use Rattle.queue.proofs.Calls.{unread-run, read-run, flash-most, asked-few}
use Rattle.batches.specs.Alone.{part}
use Rattle.queues.specs.Account.{TakesNothing, TakesWord, WordBound}
use Rattle.queues.proofs.Alone.{sheet_to, seven, taken, queue_parts}
use Rattle.queues.proofs.Account.{takes_count}

-- ---- two values found, then a counted step that is refused where it begins none
module _ {A B : Type 0} (o p : Out A) (c : A → A → Counted B) where
  abbrev after_two : Counted B
  after_two = bind_counted (uncounted o) (λ a. bind_counted (uncounted p) (c a))

two_none : {A B : Type 0} (o p : Out A) (c : A → A → Counted B) → ((a b : A) → (c a b).begun ≡ 0 → (r : ℕ) × ((c a b).outcome ≡ no r))
    → (after_two o p c).begun ≡ 0 → (r : ℕ) × ((after_two o p c).outcome ≡ no r)
unfolding bind_counted go_on uncounted begun_before
two_none (ok a) (ok b) c h z = h a b (omega (arith, z))
two_none (ok a) (no r) c h z = (r, refl)
two_none (no r) p c h z = (r, refl)

module _ (m : Mixture) (q : Question) where
  seven-none : (t p : Float) → (task7_counted m q t p).begun ≡ 0 → (r : ℕ) × ((task7_counted m q t p).outcome ≡ no r)
  unfolding task7_counted told
  seven-none t p z =
      let w = some-begun (activity m) m.liquids m.domain m.n q.options t q.fractions p z in
      (w.0, bind-no _ w.1)

  none-flash : (flash_task m q).begun ≡ 0 → (r : ℕ) × ((flash_task m q).outcome ≡ no r)
  unfolding flash_task
  none-flash z = two_none (positive_of q.temperature 13) (positive_of q.pressure 14) (λ t p. task7_counted m q t p) seven-none z

module _ (book : List ℕ) (version n : ℕ) (question : List ℕ) (z : (run_of book version n question).begun ≡ 0) where
  none-put : (left : ℕ) → is_put book version n question left ≡ true
  unfolding is_put
  none-put left = rw z

  none-run : (r : ℕ) × ((run_of book version n question).outcome ≡ no r)
  unfolding uncounted
  none-run = go (question_to book version n question) refl
    where
      go : (o : Out Question) → question_to book version n question ≡ o → (r : ℕ) × ((run_of book version n question).outcome ≡ no r)
      go (ok q) e =
          let f = read-run book version n question e in
          let w = none-flash (mixture_of book n) q (rw f at z) in
          (w.0, rw f w.1)
      go (no r) e = (r, rw (unread-run book version n question e))

pub takes-nothing : TakesNothing
takes-nothing book version n question left z =
    let p = none-put book version n question z left in
    (none-run book version n question z, p, (takes_count book version n question left).0 p ∙ z)

-- ---- word 38
count_word_lem : (task : ℕ) (b : AnswerBlock) → word_at (answer_words task b) 38 ≡ b.model.evaluations
unfolding answer_words model_words fill_from
count_word_lem task b = refl

answer-count : (rule : Rule) (task : ℕ) (a : Answer) (rest : List ℕ) → a.block.model.evaluations < 2 ^ 64 → word (answer_bytes rule task a ++ rest) 38 ≡ a.block.model.evaluations
unfolding answer_bytes
answer-count rule task a rest h =
    let w = word_at (answer_words task a.block) in
    let t : w 38 ≡ a.block.model.evaluations = count_word_lem task a.block in
    rw append_assoc (block-word rule w 38 _ (omega arith) (rw t h) ∙ t)

-- an answer to a flash tells its count
told-count : (t p : Float) (c : Counted Flash) {a : Answer} → (told c (flash_answer t p)).outcome ≡ ok a → a.block.model.evaluations ≡ count_word c.begun
unfolding told
told-count t p c {a} e =
    let f = bind_inv c.outcome _ e in
    let w : flash_answer t p f.0 c.begun ≡ a = same f.2 in
    rw (← w) refl
  where
    same : {x y : Answer} → ok x ≡ ok y → x ≡ y
    same e = cc

module _ (m : Mixture) (q : Question) (s : q.task ≡ 7) {a : Answer} (e : task_of m q ≡ ok a) where
  task-count : a.block.model.evaluations ≡ count_word (flash_task m q).begun
  unfolding task7_counted told task7
  task-count =
      let t = bind_inv (positive_of q.temperature 13) _ (sym (flash_task_steps m q) ∙ flash_task_outcome m q s ∙ e) in
      let p = bind_inv (positive_of q.pressure 14) _ t.2 in
      told-count t.0 p.0 _ p.2 ∙ ap (λ (c : Counted Answer). count_word c.begun) (sym (flash_task_at m q t.1 p.1))

-- ---- an answer of the plain call to a flash
module _ (book : List ℕ) (version n : ℕ) (question : List ℕ) (few : n ≤ 8) {q : Question} (e : question_to book version n question ≡ ok q) (limit : q.options.max_iterations ≤ 1000000) where
  pub flash_few : (flash_task (mixture_of book n) q).begun ≤ 10000004
  flash_few =
      let b = flash-most (mixture_of book n) q in
      let m = limited-bound n q.options q.fractions few limit in
      omega (arith, b, m)

module _ (book question : List ℕ) (room : ℕ) (h : Head) (q : Question) (bs : List ℕ) (opened : book_of book ≡ ok h) (e : question_to book h.version h.n question ≡ ok q)
    (s : q.task ≡ 7) (o : sheet_of book question room ≡ ok bs) where
  answer_of_lem : answer_to book h.n q ≡ ok bs
  unfolding sheet_of sheet_from roomy
  answer_of_lem = sym (bind_yes _ e) ∙ (need_inv _ 10 _ (sym (bind_yes _ opened) ∙ o)).1

  sheet_count : (rest : List ℕ) → word (bs ++ rest) 38 ≡ (flash_task (mixture_of book h.n) q).begun
  unfolding answer_to
  sheet_count rest =
      let w = bind_inv (task_of (mixture_of book h.n) q) _ answer_of_lem in
      let b : answer_bytes (rule_of book) q.task w.0 ≡ bs = cc w.2 in
      let few = flash_few book h.version h.n question (accepted book opened).few e (asked-few book h.version h.n question e s) in
      let k : w.0.block.model.evaluations ≡ (flash_task (mixture_of book h.n) q).begun = task-count (mixture_of book h.n) q s w.1 ∙ word_small _ (omega (arith, few)) in
      rw (← b) (answer-count (rule_of book) q.task w.0 rest (omega (arith, k, few)) ∙ k)

pub word_bound : WordBound
unfolding most_evaluations
word_bound book question room h q bs opened e s o =
    let a : word bs 38 ≡ (flash_task (mixture_of book h.n) q).begun = rw append-nil at (sheet_count book question room h q bs opened e s o []) in
    rw a (flash-most (mixture_of book h.n) q)

replied-to : (book question bs : List ℕ) → sheet_of book question answer_room ≡ ok bs → reply_to book question ≡ bs
unfolding reply_to reply_of
replied-to book question bs o = rw o

pub takes-word : TakesWord
takes-word book questions allowance h old new opened e k l p bs o =
    let question = block questions k in
    let b = bind_inv (question_to book h.version h.n question) _ (sym (sheet_to book question h opened) ∙ o) in
    let s = seven book question h opened ((taken book questions allowance h old new opened e).flash k l) b.1 in
    let r : reply_to book question ≡ bs = replied-to book question bs o in
    let w : part new k ≡ put (part old k) 0 bs = rw r at ((queue_parts book questions allowance h old new opened e).alone k l p) in
    rw (w, (takes_count book h.version h.n question (left_at book h.version h.n questions allowance k)).0 p, read-run book h.version h.n question b.1)
    (sheet_count book question answer_room h b.0 bs opened b.1 s o (drop (0 + length bs) (part old k)))
