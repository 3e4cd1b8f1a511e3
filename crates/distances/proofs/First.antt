-- The answer is the first step with another outcome than at P, and a flash that is refused at P gives its number. Assumes nothing.
use Prim.Native.Nat.{ℕ}
use mathlib.Core.Path.{◌≡◌, refl, sym, ap, ◌∙◌, subst, fun_ext}
use mathlib.Core.Logic.{◌⊎◌, inl, inr, ⊎_elim}
use mathlib.Core.Bool.{Bool, true, false}
use mathlib.Core.List.{List}
use borrow.Author.Tests.{ne_eqb}
use lib.Ieee.{Float}
use Rattle.floats.specs.Outcome.{Out, ok, no, need}
use Rattle.floats.proofs.Outcomes.{refused, bind_yes, bind-no, bind_inv, need-no}
use Rattle.blocks.specs.declared.Rule.{Rule}
use Rattle.blocks.specs.Words.{word}
use Rattle.book.specs.declared.Head.{Head}
use Rattle.book.specs.Book.{book_of, rule_of}
use Rattle.thermo_models.specs.Mixture.{mixture_of}
use Rattle.question.specs.declared.Question.{Question}
use Rattle.question.specs.Asked.{task_in}
use Rattle.question.proofs.Asks.{task-read}
use Rattle.replies.specs.Blocks.{answer_room}
use Rattle.sheet.specs.Sheet.{question_to, sheet_of}
use Rattle.distance.specs.declared.Distance.{Distance}
use Rattle.distance.specs.Distance.{step_count, pressure_at, outcome_at, search_from, flash_question, searched, distance_of}
use Rattle.distances.specs.First.{plain_outcome, step_outcome, Distances, FirstStep, RefusedAlike, RefusedAtP, OtherTask}
use Rattle.distances.proofs.Search.{Ends, ends, ends-step, ends-first, ends-none, ends-no-step}
use Rattle.distances.proofs.Plain.{Warm, accepted-warm, read-seven, outcome-read, distance_read, searched_from_lem, step-at}

-- ---- a question of task 7 that is accepted at P
pub record Read (book ask : List ℕ) (o : ℕ) : Type 0 where
  pub head : Head
  pub opened : book_of book ≡ ok head
  pub question : Question
  pub asked : question_to book head.version head.n ask ≡ ok question
  pub seven : question.task ≡ 7
  pub outcome : outcome_at book head.n question question.pressure ≡ ok o

opens : (book ask : List ℕ) {o : ℕ} → plain_outcome book ask ≡ ok o → (h : Head) × (book_of book ≡ ok h)
unfolding plain_outcome sheet_of
opens book ask e =
    let s = bind_inv (sheet_of book ask answer_room) _ e in
    let b = bind_inv (book_of book) _ s.1 in
    (b.0, b.1)

module _ (book ask : List ℕ) (seven : word ask 1 ≡ 7) where
  pub read_of : {o : ℕ} → plain_outcome book ask ≡ ok o → Read book ask o
  read_of e =
      let b = opens book ask e in
      let c = bind_inv (question_to book b.0.version b.0.n ask) _ (sym (outcome-read book ask b.0 b.1 seven) ∙ e) in
      record { head = b.0; opened = b.1; question = c.0; asked = c.1; seven = read-seven book ask b.0 b.1 seven c.1; outcome = c.2 }

  module _ {o : ℕ} (r : Read book ask o) where
    abbrev at : Float → Out ℕ
    at = outcome_at book r.head.n r.question

    pub warm : Warm (mixture_of book r.head.n) r.question
    warm = accepted-warm book r.head.n r.question r.seven r.outcome

    pub steps : (j : ℕ) → step_outcome book ask j ≡ at (pressure_at r.question.pressure j)
    steps j = step-at book ask r.head r.opened seven r.asked warm.warm j

    abbrev pub search : Distance
    search = search_from at r.question.pressure o step_count 0 0

    pub searches : distance_of book ask ≡ ok search
    searches = searched_from_lem book ask r.head r.opened seven r.asked r.outcome

    pub ends_of : Ends (step_outcome book ask) o search
    ends_of = subst (λ (g : ℕ → Out ℕ). Ends g o search) (fun_ext (λ j. sym (steps j))) (ends at r.question.pressure o)

  -- ---- refused at P by a number, or not
  abbrev Refuses : Type 0
  Refuses = (r : ℕ) × (plain_outcome book ask ≡ no r) × (distance_of book ask ≡ no r)

  abbrev Accepts : Type 0
  Accepts = (o : ℕ) × (d : Distance) × (plain_outcome book ask ≡ ok o) × (distance_of book ask ≡ ok d)

  unopened : {r : ℕ} → book_of book ≡ no r → Refuses
  unfolding plain_outcome sheet_of distance_of
  unopened {r} e = (r, bind-no _ (bind-no _ e), bind-no _ e)

  module _ (h : Head) (opened : book_of book ≡ ok h) where
    unread : {r : ℕ} → question_to book h.version h.n ask ≡ no r → Refuses
    unread {r} e = (r, outcome-read book ask h opened seven ∙ bind-no _ e, distance_read book ask h opened seven ∙ bind-no _ e)

    module _ {q : Question} (e : question_to book h.version h.n ask ≡ ok q) where
      found : (x : Out ℕ) → outcome_at book h.n q q.pressure ≡ x → Refuses ⊎ Accepts
      unfolding searched
      found (no r) u = inl (r, outcome-read book ask h opened seven ∙ bind_yes _ e ∙ u, distance_read book ask h opened seven ∙ bind_yes _ e ∙ bind-no _ u)
      found (ok o) u = inr (o, _, outcome-read book ask h opened seven ∙ bind_yes _ e ∙ u, searched_from_lem book ask h opened seven e u)

    asked-either : (x : Out Question) → question_to book h.version h.n ask ≡ x → Refuses ⊎ Accepts
    asked-either (no r) e = inl (unread e)
    asked-either (ok q) e = found e (outcome_at book h.n q q.pressure) refl

  either : (x : Out Head) → book_of book ≡ x → Refuses ⊎ Accepts
  either (no r) e = inl (unopened e)
  either (ok h) e = asked-either h e (question_to book h.version h.n ask) refl

-- ---- the laws
same_number : {A : Type 0} {r s : ℕ} → ◌≡◌ {A = Out A} (no r) (no s) → r ≡ s
same_number e = cc

found_same : {x : Out Distance} {d d' : Distance} → x ≡ ok d → x ≡ ok d' → d ≡ d'
found_same e q = cc

pub first_step : FirstStep
first_step book question o seven e =
    let r = read_of book question seven e in
    let h = ends_of book question seven r in
    let d = searches book question seven r in
    record {
      step = λ s o' k q. ends-step _ o h s o' k (found_same d q);
      first = λ j o' f. d ∙ ap ok (ends-first _ o h j o' f);
      none = λ k q. ends-none _ o h k (found_same d q);
      no_step = λ n. d ∙ ap ok (ends-no-step _ o h n);
    }

pub refused-at-p : RefusedAtP
refused-at-p book question r seven = go (either book question seven (book_of book) refl)
  where
    go : Refuses book question seven ⊎ Accepts book question seven → RefusedAlike book question r
    go (inl (s, a, d)) = record {
      gives = λ e.
          let q : s ≡ r = same_number (sym a ∙ e) in
          d ∙ ap no q;
      only = λ e.
          let q : s ≡ r = same_number (sym d ∙ e) in
          a ∙ ap no q;
    }
    go (inr (o, d, a, h)) = record { gives = λ e. absurd (refused (sym e ∙ a)); only = λ e. absurd (refused (sym e ∙ h)) }

-- ---- another task
needed_number : {A : Type 0} (b : Bool) (k : ℕ) (o : Out A) {r : ℕ} → need b k o ≡ no r → (k ≡ r) ⊎ (o ≡ no r)
unfolding need
needed_number true k o e = inr e
needed_number false k o e = inl (same_number e)

task-number : (rule : Rule) (q : List ℕ) {r : ℕ} → task_in rule q ≡ no r → (11 ≡ r) ⊎ (12 ≡ r)
unfolding task_in
task-number rule q {r} e =
    ⊎_elim (λ a. inl a) (λ f.
    ⊎_elim (λ a. inl a) (λ g.
    ⊎_elim (λ a. inl a) (λ h.
    ⊎_elim (λ b. inr b) (λ i. absurd (refused (sym i))) (needed_number _ 12 _ h)) (needed_number _ 11 _ g)) (needed_number _ 11 _ f)) (needed_number _ 11 _ e)

pub other-task : OtherTask
unfolding distance_of flash_question
other-task book question h opened other = go (task_in (rule_of book) question) refl
  where
    gives : {r : ℕ} → flash_question book h.version h.n question ≡ no r → distance_of book question ≡ no r
    gives e = bind_yes _ opened ∙ bind-no _ e

    go : (x : Out ℕ) → task_in (rule_of book) question ≡ x → (distance_of book question ≡ no 11) ⊎ (distance_of book question ≡ no 12)
    go (ok t) e = inr (gives (bind_yes _ e ∙ need-no 12 _ (ne_eqb t 7 (λ (u : t ≡ 7). other (sym (task-read (rule_of book) question e) ∙ u)))))
    go (no r) e = ⊎_elim (λ (u : 11 ≡ r). inl (gives (bind-no _ e ∙ ap no (sym u)))) (λ (u : 12 ≡ r). inr (gives (bind-no _ e ∙ ap no (sym u)))) (task-number (rule_of book) question e)
