-- An answer, or the number of a refusal; tests in a row. Assumes nothing.
use Rattle.std.specs.Prelude.{ℕ, Bool, true, false}

pub data Out (A : Type 0) : Type 0 where
  ok : A → Out A
  no : ℕ → Out A

unfoldable pub bind : {A B : Type 0} → Out A → (A → Out B) → Out B
bind (ok a) k = k a
bind (no r) k = no r

-- go on if the test holds, else refuse with a number
unfoldable pub need : {A : Type 0} → Bool → ℕ → Out A → Out A
need true r o = o
need false r o = no r

-- one of two, by a test; only the one taken is worked out
unfoldable pub choose : {A : Type 0} → Bool → Out A → Out A → Out A
choose true a b = a
choose false a b = b
