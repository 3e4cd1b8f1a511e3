-- Which task a number names, the room for an answer, and the book ahead of a call. Assumes nothing.
use mathlib.Core.Path.{◌≡◌, refl, sym, ap, ◌∙◌}
use mathlib.Core.Logic.{◌⊎◌, inl, inr}
use mathlib.Core.Bool.{Bool, true, false, true≢false, ◌||◌}
use mathlib.Core.List.{List, ◌++◌}
use Prim.Native.Nat.{ℕ, ◌≤◌, ◌<◌}
use native.Mathlib.Nat.{min-eq_left}
use native.Mathlib.Omega.{arith}
use borrow.Author.Tests.{ne_eqb, le-leb, lt-leb}
use lib.Dec.{eqb}
use lib.ListN.{length, drop, length-append, length-drop}
use lib.Seq.{length-take-le}
use lib.Ieee.{Float}
use lib.Ieee.Bits.{is_true}
use Rattle.std.specs.Prelude.{cond, Result, Ok, Err}
use Rattle.std.specs.Array.{IsFirstChunk}
use Rattle.std.specs.Result.{result_unwrap_or}
use Rattle.std.proofs.lemmas.Bool.Decides.{nat_tests}
use Rattle.floats.specs.Vector.{places, zeros8}
use Rattle.floats.specs.Outcome.{Out, ok, no, bind, need, choose}
use Rattle.floats.proofs.Outcomes.{refused, need_inv, need_yes, need-no, bind_yes, choose_yes}
use Rattle.outcome.specs.declared.Refusal.{Refusal}
use Rattle.thermo_types.specs.Quantities.{positive_of}
use Rattle.book.specs.declared.Head.{Head}
use Rattle.book.specs.Book.{book_of}
use Rattle.book.proofs.Accepted.{accepted}
use Rattle.thermo_models.specs.Mixture.{Mixture}
use Rattle.question.specs.declared.Question.{Question}
use Rattle.question.specs.declared.Task.{Task}
use Rattle.question.specs.declared.Task.TheVariants as task
use Rattle.question.specs.Inputs.{is_task, task_number, task_found, needs_temperature, needs_pressure}
use Rattle.replies.specs.Blocks.{Answer, answer_room}
use Rattle.sheet.specs.Tasks.{task1, task2, task3, task4, task5, task6, task7, task8, task9, task_at, task_under, task_split, task_of}
use Rattle.sheet.specs.Ready.{pressures_in, flash_pressures, pressures_for}
use Rattle.sheet.specs.Sheet.{Answers, roomy}
use Rattle.sheet.proofs.Laws.{same_as, refuses, in_front}

-- ---- a number that was read as a task
module _ (n : ℕ) where
  pub numbered : {k : ℕ} → ok k ≡ need (is_task n) 12 (ok n) → n ≡ k
  numbered e = let h = need_inv (is_task n) 12 (ok n) (sym e) in cc h.1

  no_task : {r : ℕ} → no r ≡ need (is_task n) 12 (ok n) → (is_task n ≡ false) × (r ≡ 12)
  unfolding need
  no_task = pick (is_task n)
    where
      pick : (b : Bool) {r : ℕ} → no r ≡ need b 12 (ok n) → (b ≡ false) × (r ≡ 12)
      pick true e = absurd (refused e)
      pick false e = (refl, cc)

  -- one that is no task's goes by 7
  pub by_seven : (r : Result Task Refusal) {u : Task} → u ≡ result_unwrap_or r task.Flash → task_found r ≡ need (is_task n) 12 (ok n) → task_number u ≡ cond (is_task n) n 7
  by_seven (Ok t) h e = let i = need_inv (is_task n) 12 (ok n) (sym e) in
      let k : n ≡ task_number t = cc i.1 in
      rw (h, is_true (is_task n) i.0, k) refl
  by_seven (Err d) h e = rw (h, (no_task e).0) refl

  -- its tests are those of the task that it goes by
  same_test : (k : ℕ) → is_task k ≡ true → eqb 7 k ≡ false → (u : Task) → task_number u ≡ cond (is_task n) n 7 → eqb n k ≡ eqb (task_number u) k
  same_test k t s u e = pick (is_task n) refl e
    where
      pick : (b : Bool) → is_task n ≡ b → task_number u ≡ cond b n 7 → eqb n k ≡ eqb (task_number u) k
      pick true h d = ap (λ (i : ℕ). eqb i k) (sym d)
      pick false h d = ne_eqb n k (λ (q : n ≡ k). true≢false (sym t ∙ ap is_task (sym q) ∙ h)) ∙ sym s ∙ ap (λ (i : ℕ). eqb i k) (sym d)

-- ---- tasks at a temperature, by the task
module _ (m : Mixture) (q : Question) (t : Float) where
  abbrev named_at : ℕ → Out Answer
  named_at k =
      choose (eqb k 1) (task1 m q t)
      (choose (eqb k 2) (task2 m q t)
      (choose (eqb k 3) (task3 m q t)
      (choose (eqb k 6) (task6 m q t)
      (bind (positive_of q.pressure 14) (task7 m q t)))))

  module _ (u : Task) (d : task_number u ≡ cond (is_task q.task) q.task 7) where
    at_named : task_at m q t ≡ named_at (task_number u)
    unfolding task_at
    at_named = rw (same_test q.task 1 refl refl u d, same_test q.task 2 refl refl u d, same_test q.task 3 refl refl u d, same_test q.task 6 refl refl u d)

    pub at_1 : u ≡ task.Activity → task_at m q t ≡ task1 m q t
    unfolding choose
    at_1 h = at_named ∙ rw h

    pub at_2 : u ≡ task.BubblePressure → task_at m q t ≡ task2 m q t
    unfolding choose
    at_2 h = at_named ∙ rw h

    pub at_3 : u ≡ task.DewPressure → task_at m q t ≡ task3 m q t
    unfolding choose
    at_3 h = at_named ∙ rw h

    pub at_6 : u ≡ task.Stability → task_at m q t ≡ task6 m q t
    unfolding choose
    at_6 h = at_named ∙ rw h

  other_at : (u : Task) → (u ≡ task.Activity → ⊥) → (u ≡ task.BubblePressure → ⊥) → (u ≡ task.DewPressure → ⊥) → (u ≡ task.Stability → ⊥)
      → named_at (task_number u) ≡ bind (positive_of q.pressure 14) (task7 m q t)
  unfolding choose
  other_at task.Activity a b c d = absurd (a refl)
  other_at task.BubblePressure a b c d = absurd (b refl)
  other_at task.DewPressure a b c d = absurd (c refl)
  other_at task.BubbleTemperature a b c d = refl
  other_at task.DewTemperature a b c d = refl
  other_at task.Stability a b c d = absurd (d refl)
  other_at task.Flash a b c d = refl
  other_at task.Split a b c d = refl
  other_at task.NegativeSplit a b c d = refl

  pub at_rest : (u : Task) → task_number u ≡ cond (is_task q.task) q.task 7
      → (u ≡ task.Activity → ⊥) → (u ≡ task.BubblePressure → ⊥) → (u ≡ task.DewPressure → ⊥) → (u ≡ task.Stability → ⊥)
      → task_at m q t ≡ bind (positive_of q.pressure 14) (task7 m q t)
  at_rest u d a b c f = at_named u d ∙ other_at u a b c f

-- ---- the vapor pressures that it reads
module _ (m : Mixture) (p t : Float) where
  abbrev named_for : ℕ → Out (List Float)
  named_for k =
      choose (eqb k 1 || eqb k 6) (ok zeros8)
      (choose (eqb k 2 || eqb k 3) (pressures_in (m.liquids t))
      (bind (positive_of p 14) (flash_pressures m t)))

  module _ (n : ℕ) (u : Task) (d : task_number u ≡ cond (is_task n) n 7) where
    for_named : pressures_for m n p t ≡ named_for (task_number u)
    unfolding pressures_for
    for_named = rw (same_test n 1 refl refl u d, same_test n 2 refl refl u d, same_test n 3 refl refl u d, same_test n 6 refl refl u d)

    pub pressures-unread : (u ≡ task.Activity) ⊎ (u ≡ task.Stability) → pressures_for m n p t ≡ ok zeros8
    unfolding choose
    pressures-unread (inl h) = for_named ∙ rw h
    pressures-unread (inr h) = for_named ∙ rw h

    pub pressures-pure : (u ≡ task.BubblePressure) ⊎ (u ≡ task.DewPressure) → pressures_for m n p t ≡ pressures_in (m.liquids t)
    unfolding choose
    pressures-pure (inl h) = for_named ∙ rw h
    pressures-pure (inr h) = for_named ∙ rw h

  other_for : (u : Task) → (u ≡ task.Activity → ⊥) → (u ≡ task.BubblePressure → ⊥) → (u ≡ task.DewPressure → ⊥) → (u ≡ task.Stability → ⊥)
      → named_for (task_number u) ≡ bind (positive_of p 14) (flash_pressures m t)
  unfolding choose
  other_for task.Activity a b c d = absurd (a refl)
  other_for task.BubblePressure a b c d = absurd (b refl)
  other_for task.DewPressure a b c d = absurd (c refl)
  other_for task.BubbleTemperature a b c d = refl
  other_for task.DewTemperature a b c d = refl
  other_for task.Stability a b c d = absurd (d refl)
  other_for task.Flash a b c d = refl
  other_for task.Split a b c d = refl
  other_for task.NegativeSplit a b c d = refl

  pub pressures-rest : (n : ℕ) (u : Task) → task_number u ≡ cond (is_task n) n 7
      → (u ≡ task.Activity → ⊥) → (u ≡ task.BubblePressure → ⊥) → (u ≡ task.DewPressure → ⊥) → (u ≡ task.Stability → ⊥)
      → pressures_for m n p t ≡ bind (positive_of p 14) (flash_pressures m t)
  pressures-rest n u d a b c f = for_named n u d ∙ other_for u a b c f

-- ---- tasks at a pressure
number_4 : (u : Task) → task_number u ≡ 4 → u ≡ task.BubbleTemperature
number_4 task.Activity e = absurd (omega arith)
number_4 task.BubblePressure e = absurd (omega arith)
number_4 task.DewPressure e = absurd (omega arith)
number_4 task.BubbleTemperature e = refl
number_4 task.DewTemperature e = absurd (omega arith)
number_4 task.Stability e = absurd (omega arith)
number_4 task.Flash e = absurd (omega arith)
number_4 task.Split e = absurd (omega arith)
number_4 task.NegativeSplit e = absurd (omega arith)

module _ (m : Mixture) (q : Question) (p : Float) where
  pub under_4 : (u : Task) → q.task ≡ task_number u → u ≡ task.BubbleTemperature → task_under m q p ≡ task4 m q p
  unfolding task_under choose
  under_4 u e h = rw (e, h)

  pub under_5 : (u : Task) → q.task ≡ task_number u → (u ≡ task.BubbleTemperature → ⊥) → task_under m q p ≡ task5 m q p
  unfolding task_under choose
  under_5 u e h = rw (ne_eqb q.task 4 (λ (d : q.task ≡ 4). h (number_4 u (sym e ∙ d))))

-- ---- all tasks
module _ (m : Mixture) (q : Question) where
  pub solved_at : needs_temperature q.task ≡ true → task_of m q ≡ bind (positive_of q.temperature 13) (task_at m q)
  unfolding task_of
  solved_at e = choose_yes _ _ e

  pub solved_other : (u : Task) → (u ≡ task.BubbleTemperature → ⊥) → (u ≡ task.DewTemperature → ⊥) → (u ≡ task.Split → ⊥) → (u ≡ task.NegativeSplit → ⊥)
      → q.task ≡ task_number u → task_of m q ≡ bind (positive_of q.temperature 13) (task_at m q)
  solved_other task.Activity a b c d e = solved_at (rw e)
  solved_other task.BubblePressure a b c d e = solved_at (rw e)
  solved_other task.DewPressure a b c d e = solved_at (rw e)
  solved_other task.BubbleTemperature a b c d e = absurd (a refl)
  solved_other task.DewTemperature a b c d e = absurd (b refl)
  solved_other task.Stability a b c d e = solved_at (rw e)
  solved_other task.Flash a b c d e = solved_at (rw e)
  solved_other task.Split a b c d e = absurd (c refl)
  solved_other task.NegativeSplit a b c d e = absurd (d refl)

  pub solved_under : (u : Task) → (u ≡ task.BubbleTemperature) ⊎ (u ≡ task.DewTemperature) → q.task ≡ task_number u
      → task_of m q ≡ bind (positive_of q.pressure 14) (task_under m q)
  unfolding task_of choose
  solved_under u (inl h) e = rw (e, h)
  solved_under u (inr h) e = rw (e, h)

  pub solved_8 : (u : Task) → u ≡ task.Split → q.task ≡ task_number u → task_of m q ≡ task8 m q
  unfolding task_of task_split choose
  solved_8 u h e = rw (e, h)

  pub solved_9 : (u : Task) → u ≡ task.NegativeSplit → q.task ≡ task_number u → task_of m q ≡ task9 m q
  unfolding task_of task_split choose
  solved_9 u h e = rw (e, h)

  pub solved_none : {r : ℕ} → no r ≡ need (is_task q.task) 12 (ok q.task) → task_of m q ≡ no r
  unfolding task_of task_split choose
  solved_none e =
      let h = no_task q.task e in
      let z : needs_temperature q.task ≡ false = grind (arith, nat_tests, h.0) in
      let y : needs_pressure q.task ≡ false = grind (arith, nat_tests, h.0) in
      let a : eqb q.task 8 ≡ false = grind (arith, nat_tests, h.0) in
      let b : eqb q.task 9 ≡ false = grind (arith, nat_tests, h.0) in
      rw (z, y, a, b, h.1)

-- ---- the room
pub short : (o : Out (List ℕ)) {old : List ℕ} → length old < answer_room → Answers (roomy (length old) o) 10 old old
unfolding roomy
short o {old} l = refuses (need-no 10 o (lt-leb answer_room (length old) l))

pub roomed : {o : Out (List ℕ)} {r : ℕ} {old new : List ℕ} → answer_room ≤ length old → Answers o r old new → Answers (roomy (length old) o) r old new
unfolding roomy
roomed {o} {old = old} l h = same_as (need_yes 10 o (le-leb answer_room (length old) l)) h

-- the room at the front of a slice
pub room_long : {old mid : List ℕ} → IsFirstChunk old mid answer_room → length mid ≡ answer_room
room_long {old} f = rw f.same (length-take-le answer_room old f.enough)

pub in_room : {o : Out (List ℕ)} {r : ℕ} {old mid new : List ℕ} → IsFirstChunk old mid answer_room → length new ≡ answer_room → Answers o r mid new
    → Answers o r old (new ++ drop answer_room old)
in_room f l h = in_front answer_room f.enough f.same l h

pub fronted : {o : Out (List ℕ)} {r : ℕ} {old mid new : List ℕ} → IsFirstChunk old mid answer_room → length new ≡ answer_room → Answers o r mid new
    → Answers (roomy (length old) o) r old (new ++ drop answer_room old)
fronted f l h = roomed f.enough (in_room f l h)

pub front_long : {old mid : List ℕ} (new : List ℕ) → IsFirstChunk old mid answer_room → length new ≡ answer_room → length (new ++ drop answer_room old) ≡ length old
front_long new f l = rw (length-append, length-drop, l) (omega (arith, f.enough))

pub unroomed : {o : Out (List ℕ)} {r : ℕ} {old new : List ℕ} → answer_room ≤ length old → Answers (roomy (length old) o) r old new → Answers o r old new
unfolding roomy
unroomed {o} {old = old} l h = same_as (sym (need_yes 10 o (le-leb answer_room (length old) l))) h

-- ---- the book: its count of solvents is at most eight
pub opened : (book : List ℕ) (k : ℕ → ℕ → Out (List ℕ)) {h : Head} → ok h ≡ book_of book → bind (book_of book) (λ h. k h.version h.n) ≡ k h.version (places h.n)
opened book k {h} e = bind_yes _ (sym e) ∙ ap (k h.version) (sym (min-eq_left (accepted book (sym e)).few))
