-- The plain call's outcome, and the distance, by the question that was read: at P, and at each step. Assumes nothing.
use Prim.Native.Nat.{ℕ, ◌≤◌, ◌^◌, ◌<◌}
use mathlib.Core.Path.{◌≡◌, refl, sym, ap, ◌∙◌}
use mathlib.Core.Bool.{Bool, true, false, ◌&&◌, true≢false}
use mathlib.Core.List.{List}
use native.Mathlib.Omega.{arith}
use borrow.Author.Tests.{eq-eqb, eqb-true}
use lib.Dec.{T, eqb}
use lib.ListN.{length}
use lib.Ieee.{Float, binary64, fits, lt}
use lib.Ieee.Bits.{is_true}
use lib.Ieee.Fits.{add-fits}
use Rattle.floats.specs.Arithmetic.{0f}
use Rattle.floats.specs.Small.{is_finite, positive, float}
use Rattle.floats.specs.Vector.{fill_from}
use Rattle.floats.specs.Outcome.{Out, ok, no, bind, need, choose}
use Rattle.floats.proofs.Outcomes.{Each, each-ok, each-bind, need_yes, need_inv, need_then, bind_yes, bind-no, bind_inv}
use Rattle.thermo_types.specs.Quantities.{positive_of}
use Rattle.blocks.specs.declared.Rule.{Rule}
use Rattle.blocks.specs.Words.{word}
use Rattle.blocks.specs.Bytes.{word_at}
use Rattle.blocks.proofs.Laws.{block-word}
use Rattle.book.specs.declared.Head.{Head}
use Rattle.book.specs.Places.{words}
use Rattle.book.specs.Book.{molar_mass, book_of, rule_of}
use Rattle.book.proofs.Accepted.{accepted}
use Rattle.thermo_models.specs.Model.{pressure_in_domain}
use Rattle.thermo_models.specs.Mixture.{Mixture, mixture_of, activity}
use Rattle.tp_flash.specs.Tp.{Flash, tp_flash}
use Rattle.tp_flash.specs.declared.FlashPhases.{FlashPhases}
use Rattle.tp_flash.specs.declared.FlashPhases.TheVariants.{Liquid, Vapor, Both}
use Rattle.question.specs.declared.Question.{Question}
use Rattle.question.specs.Asked.{task_in, kind_right, feed_of, question_of}
use Rattle.question.proofs.Asks.{reads, task-read, asked-task, asked-known}
use Rattle.replies.specs.declared.AnswerBlock.{AnswerBlock}
use Rattle.replies.specs.Blocks.{Answer, answer_words, answer_bytes}
use Rattle.replies.specs.Answers.{phase_number}
use Rattle.sheet.specs.Ready.{pressures_in}
use Rattle.sheet.specs.Tasks.{task7, task_at, task_of}
use Rattle.sheet.specs.Sheet.{question_to, answer_to, roomy, sheet_from, sheet_of}
use Rattle.distance.specs.declared.Distance.{Distance}
use Rattle.sheet.proofs.Flashes.{task7-is}
use Rattle.distance.specs.Distance.{step_count, pressure_at, at_pressure, outcome_at, search_from, flash_question, searched, distance_of}
use Rattle.distance.proofs.Central.{bind-bind, at-seven}
use Rattle.distances.specs.First.{with_pressure, plain_outcome, step_outcome}
use Rattle.distances.proofs.Pressures.{task-word, question-at}

-- ---- word 3 of a flash's answer: 1 to 3
record Small (a : Answer) : Type 0 where
  small : a.block.outcome ≤ 3

phase_small : (p : FlashPhases) → phase_number p ≤ 3
phase_small Liquid = omega arith
phase_small Vapor = omega arith
phase_small Both = omega arith

flash-small : (m : Mixture) (q : Question) (t p : Float) → Each Small (task7 m q t p)
flash-small m q t p =
    rw (task7-is m q t p) (each-bind Small (tp_flash (activity m) m.liquids m.domain m.n q.options t q.fractions p) _ (λ f u. each-ok Small (record { small = phase_small f.phases })))

task-small : (m : Mixture) (q : Question) → q.task ≡ 7 → Each Small (task_of m q)
unfolding task_of task_at choose
task-small m q s =
    rw s (each-bind Small (positive_of q.temperature 13) _ (λ t e. each-bind Small (positive_of q.pressure 14) _ (λ p d. flash-small m _ t p)))

outcome-word : (task : ℕ) (b : AnswerBlock) → word_at (answer_words task b) 3 ≡ b.outcome
unfolding answer_words fill_from
outcome-word task b = refl

answer-outcome : (rule : Rule) (task : ℕ) (a : Answer) → a.block.outcome ≤ 3 → word (answer_bytes rule task a) 3 ≡ a.block.outcome
unfolding answer_bytes
answer-outcome rule task a h =
    let w = word_at (answer_words task a.block) in
    let t : w 3 ≡ a.block.outcome = outcome-word task a.block in
    block-word rule w 3 _ (omega arith) (rw t (omega arith)) ∙ t

bind-each : {A B : Type 0} (P : A → Type 0) (x : Out A) (k l : A → Out B) → Each P x → ((a : A) → P a → k a ≡ l a) → bind x k ≡ bind x l
unfolding bind
bind-each P (ok a) k l h f = f a (h.each a refl)
bind-each P (no r) k l h f = refl

answer_word : (book : List ℕ) (n : ℕ) (q : Question) → q.task ≡ 7 → bind (answer_to book n q) (λ bs. ok (word bs 3)) ≡ outcome_at book n q q.pressure
unfolding answer_to outcome_at bind
answer_word book n q s =
    bind-bind (task_of (mixture_of book n) q) _ _
    ∙ bind-each Small (task_of (mixture_of book n) q) _ _ (task-small (mixture_of book n) q s) (λ a h. ap ok (answer-outcome (rule_of book) q.task a h.small))

-- ---- a pressure that is no positive number
pub positive-no : (v : Float) (r : ℕ) → positive v ≡ false → positive_of v r ≡ no r
unfolding positive positive_of need
positive-no v r e = go (is_finite v) (lt 0f v) e
  where
    go : (a b : Bool) → a && b ≡ false → need a r (need b r (ok v)) ≡ no r
    go true true e = absurd (true≢false e)
    go true false e = refl
    go false b e = refl

pub positive_yes : (v : Float) (r : ℕ) → positive v ≡ true → positive_of v r ≡ ok v
unfolding positive positive_of need
positive_yes v r e = go (is_finite v) (lt 0f v) e
  where
    go : (a b : Bool) → a && b ≡ true → need a r (need b r (ok v)) ≡ ok v
    go true true e = refl
    go true false e = absurd (true≢false (sym e))
    go false b e = absurd (true≢false (sym e))

-- ---- what an accepted flash has passed
pub record Warm (m : Mixture) (q : Question) : Type 0 where
  pub t : Float
  pub ps : List Float
  pub warm : positive_of q.temperature 13 ≡ ok t
  pub inside : T (m.domain t)
  pub pure : pressures_in (m.liquids t) ≡ ok ps

flash-found : (m : Mixture) (q : Question) (t p : Float) {a : Answer} → task7 m q t p ≡ ok a
    → (f : Flash) × (tp_flash (activity m) m.liquids m.domain m.n q.options t q.fractions p ≡ ok f)
flash-found m q t p e =
    let f = bind_inv (tp_flash (activity m) m.liquids m.domain m.n q.options t q.fractions p) _ (sym (task7-is m q t p) ∙ e) in
    (f.0, f.1)

pub flash-warm : (m : Mixture) (q : Question) → q.task ≡ 7 → {a : Answer} → task_of m q ≡ ok a → Warm m q
unfolding task_of task_at choose tp_flash pressures_in
flash-warm m q s e =
    let w = bind_inv (positive_of q.temperature 13) _ (rw s at e) in
    let v = bind_inv (positive_of q.pressure 14) _ w.2 in
    let f = flash-found m _ w.0 v.0 v.2 in
    let d = need_inv (m.domain w.0) 22 _ f.1 in
    let b = need_inv (pressure_in_domain v.0) 23 _ d.1 in
    let l = bind_inv (m.liquids w.0) _ b.1 in
    record { t = w.0; ps = l.0.pressure; warm = w.1; inside = d.0; pure = bind_yes _ l.1 }

pub accepted-warm : (book : List ℕ) (n : ℕ) (q : Question) → q.task ≡ 7 → {p : Float} {o : ℕ} → outcome_at book n q p ≡ ok o → Warm (mixture_of book n) (at_pressure q p)
unfolding outcome_at
accepted-warm book n q s {p} e = flash-warm (mixture_of book n) (at_pressure q p) s (bind_inv (task_of (mixture_of book n) (at_pressure q p)) _ e).1

-- 14 where p is no positive number
pub step_cold : (book : List ℕ) (n : ℕ) (q : Question) → q.task ≡ 7 → {t : Float} → positive_of q.temperature 13 ≡ ok t → (p : Float) → positive p ≡ false → outcome_at book n q p ≡ no 14
unfolding outcome_at
step_cold book n q s w p e = bind-no _ (at-seven (mixture_of book n) q s w p ∙ bind-no _ (positive-no p 14 e))

need_skip : {A : Type 0} (b : Bool) (r : ℕ) (x : Out A) → (b ≡ false → x ≡ no r) → need b r x ≡ x
unfolding need
need_skip true r x h = refl
need_skip false r x h = sym (h refl)

-- ---- for a book that was opened, and a question of task 7
Seven : Question → Type 0
Seven q = q.task ≡ 7

module _ (book question : List ℕ) (h : Head) (opened : book_of book ≡ ok h) (seven : word question 1 ≡ 7) where
  abbrev asks : Out Question
  asks = question_to book h.version h.n question

  each-seven : Each Seven asks
  unfolding Seven
  each-seven = record {
    each = λ q e.
        let k = asked-known (rule_of book) question h.version (molar_mass (words book)) h.n e in
        asked-task (rule_of book) question h.version (molar_mass (words book)) h.n e k.1 ∙ task-read (rule_of book) question k.1 ∙ seven;
  }

  pub read-seven : {q : Question} → asks ≡ ok q → q.task ≡ 7
  unfolding Seven
  read-seven {q} e = each-seven.each q e

  pub outcome-read : plain_outcome book question ≡ bind asks (λ q. outcome_at book h.n q q.pressure)
  unfolding plain_outcome sheet_of sheet_from roomy Seven
  outcome-read =
      ap (λ (o : Out (List ℕ)). bind o (λ bs. ok (word bs 3))) (bind_yes _ opened ∙ need_yes 10 _ refl)
      ∙ bind-bind asks _ _ ∙ bind-each Seven asks _ _ each-seven (λ q s. answer_word book h.n q s)

  question-no : {r : ℕ} → task_in (rule_of book) question ≡ no r → asks ≡ no r
  unfolding question_of
  question-no e = bind-no _ e

  flash-read : flash_question book h.version h.n question ≡ asks
  unfolding flash_question bind
  flash-read = go (task_in (rule_of book) question) refl
    where
      go : (o : Out ℕ) → task_in (rule_of book) question ≡ o → bind o (λ task. need (eqb task 7) 12 asks) ≡ asks
      go (ok t) e = need_yes 12 _ (eq-eqb t 7 (task-read (rule_of book) question e ∙ seven))
      go (no r) e = sym (question-no e)

  pub distance_read : distance_of book question ≡ bind asks (searched book h.n)
  unfolding distance_of
  distance_read = bind_yes _ opened ∙ ap (λ (o : Out Question). bind o (searched book h.n)) flash-read

  module _ {q : Question} (e : asks ≡ ok q) where
    pub searched_from_lem : {o : ℕ} → outcome_at book h.n q q.pressure ≡ ok o → distance_of book question ≡ ok (search_from (outcome_at book h.n q) q.pressure o step_count 0 0)
    unfolding searched
    searched_from_lem a = distance_read ∙ bind_yes _ e ∙ bind_yes _ a

    -- the question is a block, and its pressure is word 3
    whole : (length question ≡ 512) × (float (word question) 3 ≡ q.pressure)
    unfolding question_of task_in
    whole =
        let t = bind_inv (task_in (rule_of book) question) _ e in
        let s = need_inv (eqb (length question) 512) 11 _ t.1 in
        let k = need_inv (kind_right h.version (word question)) 36 _ t.2 in
        (eqb-true (length question) 512 (is_true _ s.0), sym ((reads question (molar_mass (words book)) h.n (feed_of question h.n)).each q k.1).pressure)

-- ---- the plain call at step j
pressure-fits : (P : Float) (j : ℕ) → T (fits binary64 (pressure_at P j))
unfolding pressure_at
pressure-fits P j = add-fits binary64 P _

module _ (book question : List ℕ) (h : Head) (opened : book_of book ≡ ok h) (seven : word question 1 ≡ 7) {q : Question} (e : question_to book h.version h.n question ≡ ok q)
    {t : Float} (w : positive_of q.temperature 13 ≡ ok t) where
  at-pressure : (p : Float) → T (fits binary64 p) → plain_outcome book (with_pressure (rule_of book) p question) ≡ outcome_at book h.n q p
  unfolding outcome_at
  at-pressure p f =
      let size = (whole book question h opened seven e).0 in
      outcome-read book (with_pressure (rule_of book) p question) h opened (task-word (rule_of book) p f question size ∙ seven)
      ∙ ap (λ (o : Out Question). bind o (λ (q : Question). outcome_at book h.n q q.pressure))
      (question-at (rule_of book) p f question size h.n (accepted book opened).few seven h.version (molar_mass (words book)) e)
      ∙ need_then (positive p) 14 (ok (at_pressure q p)) _ ∙ ap (need (positive p) 14) (bind_yes _ refl)
      ∙ need_skip (positive p) 14 (outcome_at book h.n q p) (step_cold book h.n q (read-seven book question h opened seven e) w p)

  pub step-at : (j : ℕ) → step_outcome book question j ≡ outcome_at book h.n q (pressure_at q.pressure j)
  unfolding step_outcome
  step-at j = rw (whole book question h opened seven e).1 (at-pressure (pressure_at q.pressure j) (pressure-fits q.pressure j))
