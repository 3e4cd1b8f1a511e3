-- The ways of a question through a queue, and of the call, each by the function that takes it. Assumes nothing.
use Prim.Native.Nat.{ℕ, ◌+◌, ◌*◌, ◌-◌, ◌%◌, ◌^◌, ◌≤◌, ◌<◌}
use mathlib.Core.Path.{◌≡◌, refl, sym, ap, ◌∙◌}
use mathlib.Core.Bool.{Bool, true, false, ◌&&◌, ◌||◌, true≢false}
use mathlib.Core.List.{List}
use native.Mathlib.Nat.{min-eq_left, le_trans, mul-le-mul}
use native.Mathlib.Numerals.{add-one}
use native.Mathlib.Omega.{arith}
use borrow.Author.Tests.{le-leb, lt-leb, leb-true, ne_eqb, eqb-true}
use borrow.Rule.Slice.PartMut.{put_mid}
use lib.Dec.{eqb, leb}
use lib.ListN.{length, take, drop}
use lib.Ieee.{Float}
use Rattle.std.specs.Prelude.{Result, Ok, Err}
use Rattle.floats.specs.Fold.{all_to}
use Rattle.floats.specs.Vector.{places}
use Rattle.floats.specs.Outcome.{Out, ok, no, bind, need}
use Rattle.floats.proofs.Outcomes.{bind_yes, bind-no}
use Rattle.outcome.specs.declared.Refusal.{Refusal}
use Rattle.outcome.specs.declared.Refusal.TheVariants.{QuestionBlock}
use Rattle.outcome.specs.Refused.{number, number_in}
use Rattle.counted.specs.Counted.{Counted, uncounted, go_on, begun_before, bind_counted, told, count_word}
use Rattle.counted.proofs.Laws.{word_small}
use Rattle.thermo_types.specs.Quantities.{positive_of}
use Rattle.blocks.specs.declared.Rule.{Rule}
use Rattle.blocks.specs.Words.{block}
use Rattle.blocks.specs.Bytes.{put, stored}
use Rattle.book.specs.declared.Head.{Head}
use Rattle.book.specs.Places.{words}
use Rattle.book.specs.Book.{molar_mass, book_of, rule_of}
use Rattle.book.proofs.Accepted.{accepted}
use Rattle.thermo_models.specs.declared.Tabled.{Tabled}
use Rattle.thermo_models.specs.Mixture.{Mixture, mixture_of, activity}
use Rattle.tp_flash.specs.Counted.{most_evaluations}
use Rattle.evaluations.proofs.Theorem.{flash-bound, phases-begun}
use Rattle.question.specs.declared.Question.{Question}
use Rattle.question.specs.declared.Task.{Task}
use Rattle.question.specs.declared.Task.TheVariants.{Activity, BubblePressure, DewPressure, BubbleTemperature, DewTemperature, Stability, Flash, Split, NegativeSplit}
use Rattle.question.specs.Inputs.{task_number, task_found}
use Rattle.question.specs.Asked.{task_in}
use Rattle.question.proofs.Asks.{asked-task, asked-known, asked-limit}
use Rattle.replies.specs.Blocks.{Answer, answer_room, refusal_bytes, put_off_bytes}
use Rattle.sheet.specs.Tasks.{task7_counted, flash_task}
use Rattle.sheet.specs.Ready.{Readied}
use Rattle.sheet.specs.Sheet.{Answers, question_to, answer_to, roomy, reply_of}
use Rattle.sheet.proofs.Flashes.{given, stopped, flash_task_outcome}
use Rattle.sheet.proofs.Shared.{flash_unready, flash_pressure, flash_begins}
use Rattle.sheet.proofs.Dispatch.{unroomed}
use Rattle.sheet.proofs.Parts.{parts-turn, refusal-put, put-off-put}
use Rattle.refusals.proofs.Theorem.{num_answer}
use Rattle.refusals.proofs.Replied.{answered, refuses}
use Rattle.queue.specs.Queue.{question_count, is_flash, questions_right, run_of, most_of, is_put, takes, queue_reply, left_at, parts_to, queue_of}

-- ---- task 7, or refused with 11
other_task : (t : Task) → (t ≡ Flash → ⊥) → false ≡ eqb (task_number t) 7
other_task Activity f = refl
other_task BubblePressure f = refl
other_task DewPressure f = refl
other_task BubbleTemperature f = refl
other_task DewTemperature f = refl
other_task Stability f = refl
other_task Flash f = absurd (f refl)
other_task Split f = refl
other_task NegativeSplit f = refl

eleven : (r : Refusal) → (r ≡ QuestionBlock → ⊥) → number r ≡ 11 → ⊥
eleven r f e = grind arith

module _ {r : Result Task Refusal} {o : Out ℕ} (e : task_found r ≡ o) where
  pub flash_read : {t : Task} → r ≡ Ok t → t ≡ Flash → true ≡ is_flash o
  unfolding is_flash
  flash_read k h = rw (sym e, k, h)

  pub flash_other : {t : Task} → r ≡ Ok t → (t ≡ Flash → ⊥) → false ≡ is_flash o
  unfolding is_flash
  flash_other {t} k h = rw (sym e, k) (other_task t h)

  pub flash_unread : {d : Refusal} → r ≡ Err d → d ≡ QuestionBlock → true ≡ is_flash o
  unfolding is_flash
  flash_unread k h = rw (sym e, k, h)

  pub flash_refused : {d : Refusal} → r ≡ Err d → (d ≡ QuestionBlock → ⊥) → false ≡ is_flash o
  unfolding is_flash
  flash_refused {d} k h = rw (sym e, k) (sym (ne_eqb (number d) 11 (eleven d h)))

pub flash-seven : (o : Out ℕ) {k : ℕ} → is_flash o ≡ true → o ≡ ok k → k ≡ 7
unfolding is_flash
flash-seven o {k} e h = eqb-true k 7 (rw h at e)

-- ---- at most (m + 2) M + 4
module _ {A B : Type 0} where
  -- two values found, then a step that begins at most m
  two : (o p : Out A) (c : A → A → Counted B) {m : ℕ} → ((a b : A) → (c a b).begun ≤ m) → (bind_counted (uncounted o) (λ a. bind_counted (uncounted p) (c a))).begun ≤ m
  unfolding bind_counted go_on uncounted begun_before
  two (ok a) (ok b) c h = let l = h a b in omega (arith, l)
  two (ok a) (no r) c h = omega arith
  two (no r) p c h = omega arith

pub flash-most : (m : Mixture) (q : Question) → (flash_task m q).begun ≤ most_evaluations m.n q.options q.fractions
unfolding flash_task task7_counted told
flash-most m q =
    two (positive_of q.temperature 13) (positive_of q.pressure 14) (λ t p. task7_counted m q t p) (λ t p. flash-bound (activity m) m.liquids m.domain m.n q.options t q.fractions p)

-- ---- one question with so much left
module _ (book : List ℕ) (version n : ℕ) (question : List ℕ) where
  -- as a call on its own answers it
  abbrev own : Out (List ℕ)
  own = bind (question_to book version n question) (answer_to book n)

  pub unread-run : {r : ℕ} → question_to book version n question ≡ no r → run_of book version n question ≡ uncounted (no r)
  unfolding run_of
  unread-run {r} e = rw e (stopped (flash_task (mixture_of book n)) r)

  pub read-run : {q : Question} → question_to book version n question ≡ ok q → run_of book version n question ≡ flash_task (mixture_of book n) q
  unfolding run_of
  read-run e = given (flash_task (mixture_of book n)) e

  -- refused before any evaluation: the refusal's block, and nothing is taken
  module _ (r : ℕ) (e : run_of book version n question ≡ uncounted (no r)) (left : ℕ) where
    put_free : is_put book version n question left ≡ true
    unfolding is_put uncounted
    put_free = rw e

    pub refused-left : left ≡ left - takes book version n question left
    unfolding takes uncounted
    refused-left =
        let z : left ≡ left - 0 = omega arith in
        rw (put_free, e) z

    pub refused-put : (old : List ℕ) {new : List ℕ} → own ≡ no r → answer_room ≤ length old → new ≡ stored old 0 (refusal_bytes (rule_of book) question r)
        → new ≡ put old 0 (queue_reply book version n question left)
    unfolding queue_reply reply_of
    refused-put old o l h = rw (put_free, o) (h ∙ refusal-put (rule_of book) question r old l)

  module _ {q : Question} (e : question_to book version n question ≡ ok q) (s : q.task ≡ 7) where
    most : most_of book version n question (question_to book version n question) ≡ most_evaluations n q.options q.fractions
    unfolding most_of
    most = rw e

    -- its T and p, the domain or a vapor pressure refuse it
    module _ {f : Refusal} {table ps : List Float} (h : Readied (mixture_of book n) 7 q.temperature q.pressure (Err f) table ps) where
      pub unready_run : run_of book version n question ≡ uncounted (no (number f))
      unready_run = read-run e ∙ flash_unready (mixture_of book n) q h

      pub unready_own : own ≡ no (number f)
      unfolding answer_to uncounted
      unready_own = bind_yes _ e ∙ bind-no _ (sym (flash_task_outcome (mixture_of book n) q s) ∙ ap (λ (c : Counted Answer). c.outcome) (flash_unready (mixture_of book n) q h))

    module _ (left : ℕ) where
      -- it doesn't fit: put off, and nothing is taken
      module _ {t : Tabled Refusal} {table ps : List Float} (h : Readied (mixture_of book n) 7 q.temperature q.pressure (Ok t) table ps) (l : left < most_evaluations n q.options q.fractions) where
        some : (run_of book version n question).begun ≡ 0 → ⊥
        some z =
            let a = phases-begun (activity (mixture_of book n) t.t.0) n q.options q.fractions (flash_pressure (mixture_of book n) q h).0 ps in
            let b : (flash_task (mixture_of book n) q).begun ≡ 0 = rw (read-run e) at z in
            omega (arith, flash_begins (mixture_of book n) q h, a, b)

        put_not : is_put book version n question left ≡ false
        unfolding is_put
        put_not = rw (ne_eqb _ 0 some, most) (lt-leb _ left l)

        pub off-left : left ≡ left - takes book version n question left
        unfolding takes
        off-left =
            let z : left ≡ left - 0 = omega arith in
            rw put_not z

        pub off-put : (old : List ℕ) {new : List ℕ} → answer_room ≤ length old → new ≡ stored old 0 (put_off_bytes (rule_of book)) → new ≡ put old 0 (queue_reply book version n question left)
        unfolding queue_reply
        off-put old k i = rw put_not (i ∙ put-off-put _ old k)

      -- it fits: it is run, and its real count is taken
      module _ (fits : most_evaluations n q.options q.fractions ≤ left) where
        put-fits : is_put book version n question left ≡ true
        unfolding is_put
        put-fits = rw (most, le-leb _ left fits) (either (eqb (run_of book version n question).begun 0))
          where
            either : (b : Bool) → b || true ≡ true
            either true = refl
            either false = refl

        pub run-taken : {begun : ℕ} → left < 2 ^ 64 → begun < 2 ^ 64 → count_word begun ≡ count_word (flash_task (mixture_of book n) q).begun
            → (begun ≤ left) × (left - begun ≡ left - takes book version n question left)
        unfolding takes
        run-taken {begun} small few c =
            let m = flash-most (mixture_of book n) q in
            let b : begun ≡ (flash_task (mixture_of book n) q).begun = sym (word_small begun few) ∙ c ∙ word_small _ (omega (arith, m, fits, small)) in
            (omega (arith, b, m, fits), rw (put-fits, read-run e, b))

        reply-is : queue_reply book version n question left ≡ reply_of (rule_of book) question (answer_to book n q)
        unfolding queue_reply
        reply-is = rw (put-fits, bind_yes (answer_to book n) e)

        module _ {ran : Result Unit Refusal} {old mid : List ℕ} (room : answer_room ≤ length old) (a : Answers (roomy (length old) (answer_to book n q)) (number_in ran) old mid) where
          pub run-answered : ran ≡ Ok tt → mid ≡ put old 0 (queue_reply book version n question left)
          run-answered z = rw reply-is (answered (rule_of book) question (answer_to book n q) (num_answer book n q) (rw z at (unroomed room a)))

          pub run-refused : {f : Refusal} {new : List ℕ} → ran ≡ Err f → new ≡ stored mid 0 (refusal_bytes (rule_of book) question (number f))
              → new ≡ put old 0 (queue_reply book version n question left)
          run-refused {f} z g = rw reply-is (refuses (rule_of book) question (answer_to book n q) f (rw z at (unroomed room a)) room g)

-- ---- a question of task 7 that was read keeps to the limits, and one of the queue is of task 7
pub asked-few : (book : List ℕ) (version n : ℕ) (question : List ℕ) {q : Question} → question_to book version n question ≡ ok q → q.task ≡ 7 → q.options.max_iterations ≤ 1000000
asked-few book version n question e s = asked-limit (rule_of book) question version (molar_mass (words book)) n e s

module _ (book : List ℕ) (version n : ℕ) (question : List ℕ) (f : is_flash (task_in (rule_of book) question) ≡ true) {q : Question} (e : question_to book version n question ≡ ok q) where
  pub put-seven : q.task ≡ 7
  put-seven =
      let k = asked-known (rule_of book) question version (molar_mass (words book)) n e in
      asked-task (rule_of book) question version (molar_mass (words book)) n e k.1 ∙ flash-seven (task_in (rule_of book) question) f k.1

  pub put-limit : q.options.max_iterations ≤ 1000000
  put-limit = asked-few book version n question e put-seven

-- ---- all questions
module _ (book : List ℕ) (version n : ℕ) (questions : List ℕ) (allowance k : ℕ) {left : ℕ} (i : left ≡ left_at book version n questions allowance k) where
  pub left-turn : {q : List ℕ} {r : ℕ} → q ≡ block questions k → r ≡ left - takes book version n q left → r ≡ left_at book version n questions allowance (k + 1)
  unfolding left_at
  left-turn b e = rw (add-one k) (e ∙ rw (i, b))

  pub queue_turn : (old out : List ℕ) {q y : List ℕ} → q ≡ block questions k
      → y ≡ put (take (length out - answer_room * k) (drop (answer_room * k) out)) 0 (queue_reply book version n q left)
      → out ≡ parts_to book version n questions allowance old k
      → put_mid (answer_room * k) (length out - answer_room * k) out y ≡ parts_to book version n questions allowance old (k + 1)
  unfolding parts_to
  queue_turn old out b e h = parts-turn (λ j. queue_reply book version n (block questions j) (left_at book version n questions allowance j)) k old out (rw (b, i) at e) h

-- ---- the call
module _ (book questions : List ℕ) (allowance : ℕ) (old : List ℕ) {h : Head} (o : ok h ≡ book_of book) {rule : Rule} (u : rule ≡ rule_of book) where
  pub questions-no : false ≡ questions_right rule questions → queue_of book questions allowance old ≡ no 39
  unfolding queue_of bind need
  questions-no f = rw (sym o, ← u, sym f)

  pub room-no : true ≡ questions_right rule questions → length old < answer_room * question_count questions → queue_of book questions allowance old ≡ no 10
  unfolding queue_of bind need
  room-no f l = rw (sym o, ← u, sym f, lt-leb (answer_room * question_count questions) (length old) l)

  pub all_put : true ≡ questions_right rule questions → answer_room * question_count questions ≤ length old
      → queue_of book questions allowance old ≡ ok (parts_to book h.version (places h.n) questions allowance old (question_count questions))
  unfolding queue_of bind need
  all_put f l =
      let m : places h.n ≡ h.n = min-eq_left (accepted book (sym o)).few in
      rw (sym o, ← u, sym f, le-leb (answer_room * question_count questions) (length old) l, m)

-- ---- what 39 passed
third_of : (a b c e : Bool) → a && (b && c) && e ≡ true → c ≡ true
third_of true true true e h = refl
third_of true true false e h = absurd (true≢false (sym h))
third_of true false c e h = absurd (true≢false (sym h))
third_of false b c e h = absurd (true≢false (sym h))

fourth_of : (a b c e : Bool) → a && (b && c) && e ≡ true → e ≡ true
fourth_of true true true e h = h
fourth_of true true false e h = absurd (true≢false (sym h))
fourth_of true false c e h = absurd (true≢false (sym h))
fourth_of false b c e h = absurd (true≢false (sym h))

module _ (rule : Rule) (questions : List ℕ) (d : true ≡ questions_right rule questions) where
  pub few-questions : question_count questions ≤ 64
  unfolding questions_right
  few-questions = leb-true (question_count questions) 64 (third_of (eqb (length questions % 512) 0) (leb 1 (question_count questions)) (leb (question_count questions) 64) _ (sym d))

  pub flashes : all_to (λ k. is_flash (task_in rule (block questions k))) (question_count questions) ≡ true
  unfolding questions_right
  flashes = fourth_of (eqb (length questions % 512) 0) (leb 1 (question_count questions)) (leb (question_count questions) 64) _ (sym d)

-- ---- the tests of 39 as the code makes them
module _ (rule : Rule) (questions : List ℕ) where
  abbrev whole : Bool
  whole = eqb (length questions % 512) 0 && (leb 1 (question_count questions) && leb (question_count questions) 64)

  pub count_no : false ≡ whole → false ≡ questions_right rule questions
  unfolding questions_right
  count_no h = rw (sym h)

  pub count_yes : {r : Bool} → true ≡ whole → r ≡ all_to (λ k. is_flash (task_in rule (block questions k))) (question_count questions) → r ≡ questions_right rule questions
  unfolding questions_right
  count_yes h e = rw (sym h) e

-- ---- (m + 2) M, with eight solvents at most and a limit that passes 21
pub most-fits : {p m : ℕ} → p ≤ 8 → m ≤ 1000000 → (p + 2) * m ≤ 10000000
most-fits {p} {m} a b =
    let l : p + 2 ≤ 10 = omega arith in
    le_trans (mul-le-mul l b) (omega arith)
