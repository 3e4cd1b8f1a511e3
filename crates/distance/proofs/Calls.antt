-- The ends of the call: from the feed to the search, the question's numbers, the book. Assumes nothing.
use Prim.Native.Nat.{ℕ}
use mathlib.Core.Path.{◌≡◌, refl, sym, ◌∙◌, ap}
use mathlib.Core.Bool.{false}
use mathlib.Core.List.{List}
use native.Mathlib.Nat.{min-eq_left}
use borrow.Author.Tests.{eq-eqb, ne_eqb}
use lib.Dec.{eqb}
use lib.Ieee.{Float}
use Rattle.std.specs.Prelude.{Result, Ok, Err}
use Rattle.floats.specs.Vector.{places}
use Rattle.floats.specs.Outcome.{Out, ok, no, bind}
use Rattle.floats.proofs.Outcomes.{bind_yes, bind-no, need_yes, need-no}
use Rattle.outcome.specs.declared.Refusal.{Refusal}
use Rattle.outcome.specs.Refused.{number}
use Rattle.counted.specs.Counted.{Counts}
use Rattle.thermo_models.specs.declared.Tabled.{Tabled}
use Rattle.thermo_models.specs.Activity.{activity_on}
use Rattle.thermo_models.specs.Mixture.{mixture_of}
use Rattle.blocks.specs.declared.Rule.{Rule}
use Rattle.book.specs.declared.Head.{Head}
use Rattle.book.specs.Places.{words}
use Rattle.book.specs.Book.{molar_mass, book_of, rule_of}
use Rattle.book.proofs.Accepted.{accepted}
use Rattle.tp_flash.specs.declared.Feed.{Feed}
use Rattle.tp_flash.specs.declared.FlashFeed.{FlashFeed}
use Rattle.tp_flash.specs.Counted.{saturated_counted}
use Rattle.tp_flash.proofs.Forgets.{saturated-outcome}
use Rattle.question.specs.declared.Question.{Question}
use Rattle.question.specs.declared.Task.{Task}
use Rattle.question.specs.declared.Task.TheVariants.{Activity, BubblePressure, DewPressure, BubbleTemperature, DewTemperature, Stability, Flash, Split, NegativeSplit}
use Rattle.question.specs.Inputs.{task_number, task_found}
use Rattle.question.specs.Asked.{task_in, question_of}
use Rattle.question.proofs.Asks.{asked-task}
use Rattle.sheet.specs.Ready.{Readied}
use Rattle.sheet.specs.Sheet.{question_to}
use Rattle.distance.specs.Distance.{flash_question, searched, distance_of}
use Rattle.distance.specs.Steps.{outcome_by, outcome_in}
use Rattle.distance.specs.declared.Distance.{Distance}
use Rattle.distance.proofs.Central.{from, ready_at}

-- ---- from what was made ready for a flash that was read
module _ (book : List ℕ) (n : ℕ) (q : Question) (seven : q.task ≡ 7) {table ps : List Float} {s : Tabled Refusal}
    (h : Readied (mixture_of book n) 7 q.temperature q.pressure (Ok s) table ps) {old new : ℕ} where
  pub feed-no : {r : ℕ} → Counts old (no r) new (saturated_counted (activity_on table s) (places s.n) q.options q.fractions ps) → no r ≡ searched book n q
  feed-no c = sym (ready_at book n q seven h ∙ bind-no _ (sym (saturated-outcome _ _ _ _ q.pressure ps) ∙ sym c.outcome))

  pub feed-ok : (f : FlashFeed) {d : Out Distance} → Counts old (ok f.saturated) new (saturated_counted (activity_on table s) (places s.n) q.options q.fractions ps)
      → outcome_in f ≡ outcome_by (activity_on table s) (places s.n) q.options q.fractions ps f.saturated → d ≡ from q (outcome_in f) → d ≡ searched book n q
  feed-ok f c e k = k ∙ ap (from q) e ∙ sym (ready_at book n q seven h ∙ bind_yes _ (sym (saturated-outcome _ _ _ _ q.pressure ps) ∙ sym c.outcome))

-- the code's feed, by what it was made of
pub same-feed : (f : FlashFeed) (g : Feed) → f.feed ≡ g → outcome_in f ≡ outcome_by (activity_on g.table.now g.at) (places g.at.n) g.o g.z.now g.ps.now f.saturated
unfolding outcome_in
same-feed f g e = ap (λ (x : Feed). outcome_by (activity_on x.table.now x.at) (places x.at.n) x.o x.z.now x.ps.now f.saturated) e

-- ---- task 7 alone
task_other : (t : Task) → (t ≡ Flash → ⊥) → eqb (task_number t) 7 ≡ false
task_other Activity f = refl
task_other BubblePressure f = refl
task_other DewPressure f = refl
task_other BubbleTemperature f = refl
task_other DewTemperature f = refl
task_other Stability f = refl
task_other Flash f = absurd (f refl)
task_other Split f = refl
task_other NegativeSplit f = refl

-- ---- a book that wasn't opened
pub unopened : (book question : List ℕ) {r : ℕ} → no r ≡ book_of book → no r ≡ distance_of book question
unfolding distance_of
unopened book question e = sym (bind-no _ (sym e))

-- ---- the question, for a book that was opened
module _ (book question : List ℕ) {h : Head} (o : ok h ≡ book_of book) {rule : Rule} (u : rule ≡ rule_of book) where
  opened : distance_of book question ≡ bind (flash_question book h.version (places h.n) question) (searched book (places h.n))
  unfolding distance_of
  opened =
      let m : places h.n ≡ h.n = min-eq_left (accepted book (sym o)).few in
      rw m (bind_yes _ (sym o))

  pub task-unread : (r : Refusal) → task_found (Err r) ≡ task_in rule question → no (number r) ≡ distance_of book question
  unfolding flash_question
  task-unread r e = sym (opened ∙ bind-no _ (bind-no _ (sym (rw u at e))))

  module _ {t : Task} (e : task_found (Ok t) ≡ task_in rule question) where
    pub task-refused : (t ≡ Flash → ⊥) → no 12 ≡ distance_of book question
    unfolding flash_question
    task-refused d = sym (opened ∙ bind-no _ (bind_yes _ (sym (rw u at e)) ∙ need-no 12 _ (task_other t d)))

    module _ (f : t ≡ Flash) where
      asks : distance_of book question ≡ bind (question_to book h.version (places h.n) question) (searched book (places h.n))
      unfolding flash_question
      asks = opened ∙ ap (λ (x : Out Question). bind x (searched book (places h.n))) (bind_yes _ (sym (rw u at e)) ∙ need_yes 12 _ (rw f))

      pub asked-no : {r : ℕ} → no r ≡ question_of rule question h.version (molar_mass (words book)) (places h.n) → no r ≡ distance_of book question
      asked-no k = sym (asks ∙ bind-no _ (sym (rw u at k)))

      module _ {q : Question} (k : ok q ≡ question_of rule question h.version (molar_mass (words book)) (places h.n)) where
        pub asked-seven : q.task ≡ 7
        asked-seven = asked-task rule question h.version (molar_mass (words book)) (places h.n) (sym k) (sym (rw f at e))

        pub asked-ok : {d : Out Distance} → d ≡ searched book (places h.n) q → d ≡ distance_of book question
        asked-ok g = g ∙ sym (asks ∙ bind_yes _ (sym (rw u at k)))
