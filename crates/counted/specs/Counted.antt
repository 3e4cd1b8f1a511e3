-- An outcome, and how many evaluations were begun on the way to it, to a refusal too: steps in a row add up. Assumes nothing.
use Rattle.std.specs.Prelude.{ℕ, ◌+◌, ◌%◌, ◌^◌, ◌≡◌, Bool, true, false}
use Rattle.floats.specs.Outcome.{Out, ok, no, bind}

pub record Counted (A : Type 0) : Type 0 where
  pub outcome : Out A
  pub begun : ℕ

-- steps that begin none
unfoldable pub uncounted : {A : Type 0} → Out A → Counted A
uncounted o = record { outcome = o; begun = 0 }

-- one evaluation and steps behind it, begun whatever comes of it
unfoldable pub evaluated : {A : Type 0} → Out A → Counted A
evaluated o = record { outcome = o; begun = 1 }

-- steps with one evaluation, begun where those before it have passed
unfoldable pub one_passed : {A : Type 0} → Out A → ℕ
one_passed (ok a) = 1
one_passed (no r) = 0

unfoldable pub evaluated_after : {A B : Type 0} → Out A → Out B → Counted B
evaluated_after before o = record { outcome = o; begun = one_passed before }

-- so many begun before
unfoldable pub begun_before : {A : Type 0} → ℕ → Counted A → Counted A
begun_before k c = record { outcome = c.outcome; begun = k + c.begun }

-- steps in a row
unfoldable pub go_on : {A B : Type 0} → Out A → ℕ → (A → Counted B) → Counted B
go_on (ok a) k next = begun_before k (next a)
go_on (no r) k next = record { outcome = no r; begun = k }

unfoldable pub bind_counted : {A B : Type 0} → Counted A → (A → Counted B) → Counted B
bind_counted c next = go_on c.outcome c.begun next

-- go on if the test holds, else refuse with a number
unfoldable pub need_counted : {A : Type 0} → Bool → ℕ → Counted A → Counted A
need_counted true r c = c
need_counted false r c = uncounted (no r)

-- one of two, by a test
unfoldable pub choose_counted : {A : Type 0} → Bool → Counted A → Counted A → Counted A
choose_counted true a b = a
choose_counted false a b = b

-- what was found, told with the count, which begins none
unfoldable pub told : {A B : Type 0} → Counted A → (A → ℕ → B) → Counted B
told c f = record { outcome = bind c.outcome (λ a. ok (f a c.begun)); begun = c.begun }

-- a count as a word of 64 bits holds it
unfoldable pub count_word : ℕ → ℕ
count_word k = k % 2 ^ 64

-- what a step of the code did where the count stood at `old`: its outcome o, and the count at `new`
pub record Counts {A : Type 0} (old : ℕ) (o : Out A) (new : ℕ) (c : Counted A) : Type 0 where
  pub outcome : o ≡ c.outcome
  pub begun : count_word new ≡ count_word (old + c.begun)
