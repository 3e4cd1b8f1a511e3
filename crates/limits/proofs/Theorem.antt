-- Raising a limit, proved for the whole call. Assumes nothing.
use Prim.Native.Nat.{ℕ, ◌≤◌}
use mathlib.Core.Path.{◌≡◌, sym, ◌∙◌}
use mathlib.Core.Logic.{◌≢◌, inl, inr}
use mathlib.Core.List.{List}
use lib.Ieee.{Float}
use Rattle.floats.specs.Outcome.{Out, ok, no, bind}
use Rattle.floats.proofs.Outcomes.{refused}
use Rattle.counted.specs.Counted.{uncounted, bind_counted}
use Rattle.book.specs.Book.{book_of, rule_of}
use Rattle.book.proofs.Accepted.{accepted}
use Rattle.question.specs.Asked.{rest_of}
use Rattle.question.specs.declared.Question.{Question}
use Rattle.thermo_models.specs.Mixture.{mixture_of}
use Rattle.sheet.specs.Tasks.{flash_task}
use Rattle.sheet.specs.Sheet.{answer_to, roomy, question_to, sheet_from, sheet_of}
use Rattle.limits.specs.Kept.{Kept, KeptCounted, OfLimits}
use Rattle.limits.specs.Raised.{Raised, Raising, RaisingRefused}
use Rattle.limits.proofs.Kept.{kept-need, kept_on, kept_more, counted-more}
use Rattle.limits.proofs.Questions.{Asks, rest_follows, question_follows, kept-after, counted-after}
use Rattle.limits.proofs.Tasks.{kept-answer, kept-flash_task}

-- what is asked with greater limits is answered alike
kept-asked : (book : List ℕ) (n : ℕ) (c d : Question) → Asks c d → Kept OfLimits (answer_to book n c) (answer_to book n d)
kept-asked book n c d a =
    rw (← a.rest) (kept_more (λ e s. inr (inr s)) (kept-answer book n c _ _ _ _ a.iterations a.temperature_iterations))

module _ (book : List ℕ) (q r : List ℕ) (a : Raised (rule_of book) q r) (n : ℕ) (few : n ≤ 8) where
  -- the questions put to a feed x, then the task
  pub kept-fed : (m : ℕ → Float) (x : List Float) → Kept OfLimits (bind (rest_of q m n x) (answer_to book n)) (bind (rest_of r m n x) (answer_to book n))
  kept-fed m x = kept-after (rest_follows (rule_of book) q r a n few m x) (kept-asked book n)

  -- a flash with the evaluations that it begins
  pub kept_run : (version : ℕ)
      → KeptCounted OfLimits (bind_counted (uncounted (question_to book version n q)) (flash_task (mixture_of book n)))
      (bind_counted (uncounted (question_to book version n r)) (flash_task (mixture_of book n)))
  kept_run version = counted-after (question_follows (rule_of book) q r a n few version _) (λ c d s.
      rw (← s.rest) (counted-more (λ e t. inr (inr t)) (kept-flash_task (mixture_of book n) c _ _ _ _ s.iterations s.temperature_iterations)))

  -- as a call with room for any answer
  pub kept_own : (version : ℕ) → Kept OfLimits (bind (question_to book version n q) (answer_to book n)) (bind (question_to book version n r) (answer_to book n))
  kept_own version = kept-after (question_follows (rule_of book) q r a n few version _) (kept-asked book n)

  pub kept_from : (version room : ℕ) → Kept OfLimits (sheet_from book version n q room) (sheet_from book version n r room)
  unfolding sheet_from roomy
  kept_from version room = kept-need _ 10 (kept_own version)

kept_sheet : (book q r : List ℕ) (room : ℕ) → Raised (rule_of book) q r → Kept OfLimits (sheet_of book q room) (sheet_of book r room)
unfolding sheet_of
kept_sheet book q r room a = kept_on (book_of book) (λ h e. kept_from book q r a h.n (accepted book e).few h.version room)

-- what the relation says of an answer, and of another number
pub kept-ok : {A : Type 0} {o o' : Out A} {x : A} → Kept OfLimits o o' → o ≡ ok x → o' ≡ ok x
kept-ok h e = elim h.same [
  | inl r ↦ absurd (refused (sym r.1 ∙ e))
  | inr s ↦ sym s ∙ e
]

pub kept-number : {A : Type 0} {o o' : Out A} {e : ℕ} → Kept OfLimits o o' → o ≡ no e → e ≢ 11 → e ≢ 20 → e ≢ 27 → o' ≡ no e
kept-number {A} {o} {o'} {e} h u n11 n20 n27 = elim h.same [
  | inl r ↦ absurd (none r.0 (sym r.1 ∙ u) r.2)
  | inr s ↦ sym s ∙ u
]
  where
    none : (f : ℕ) → ◌≡◌ {A = Out A} (no f) (no e) → OfLimits f → ⊥
    none f u p =
        let s : f ≡ e = cc in
        elim (rw s at p) [
          | inl a ↦ n11 a
          | inr b ↦ elim b [
            | inl a ↦ n20 a
            | inr a ↦ n27 a
          ]
        ]

pub raising : Raising
raising book q r room bs a = kept-ok (kept_sheet book q r room a)

pub raising-refused : RaisingRefused
raising-refused book q r room e a = kept-number (kept_sheet book q r room a)
