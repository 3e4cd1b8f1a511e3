-- A pooled call and the plain call on the question that has the pool's fractions in words 4 to 11. Assumes nothing.
use Rattle.std.specs.Prelude.{ℕ, ◌+◌, ◌≤◌, ◌<◌, ◌≡◌, ◌⊎◌, true, List, length, Float}
use Rattle.floats.specs.Small.{bits_of}
use Rattle.floats.specs.Vector.{at}
use Rattle.floats.specs.Outcome.{ok}
use Rattle.thermo_types.specs.Composition.{all_finite, none_negative, sums_to_one, shares_of}
use Rattle.blocks.specs.declared.Rule.{Rule}
use Rattle.blocks.specs.Words.{word, check_right}
use Rattle.book.specs.Book.{rule_of}
use Rattle.question.specs.Asked.{task_in}
use Rattle.sheet.specs.Sheet.{sheet_of}
use Rattle.striking.specs.Words.{ZeroWord}
use Rattle.striking.specs.Questions.{solvents}
use Rattle.striking.specs.Theorem.{Accepted}
use Rattle.pool.specs.Pool.{drum_count, count_in, pool_count, drums_right, total_right, amount, pool_feed, pooled_of}

-- the pool's fractions: each count over the total
abbrev pub pool_fractions : List ℕ → ℕ → List Float
pool_fractions drums n = shares_of (λ i. amount (pool_count drums i)) n

-- a pool that passes 32 always normalises (34 can't arise), and its fractions pass 15, 16 and 18
abbrev pub PoolPasses : Type 0
PoolPasses =
    (drums : List ℕ) (n : ℕ) → n ≤ 8 → total_right drums n ≡ true
    → (pool_feed drums n ≡ ok (pool_fractions drums n)) × (all_finite (at (pool_fractions drums n)) n ≡ true)
    × (none_negative (at (pool_fractions drums n)) n ≡ true) × (sums_to_one (at (pool_fractions drums n)) n ≡ true)

-- a solvent is absent exactly where its count is 0 in every drum
pub record AbsentIn (drums : List ℕ) (n i : ℕ) : Type 0 where
  pub absent : ((d : ℕ) → d < drum_count drums → count_in drums d i ≡ 0) → ZeroWord (bits_of (at (pool_fractions drums n) i))
  pub empty : ZeroWord (bits_of (at (pool_fractions drums n) i)) → (d : ℕ) → d < drum_count drums → count_in drums d i ≡ 0

abbrev pub Absent : Type 0
Absent = (drums : List ℕ) (n i : ℕ) → n ≤ 8 → i < n → total_right drums n ≡ true → AbsentIn drums n i

-- what passes 11, 12, 31, 32 and 36
pub record DrumsPass (book question drums : List ℕ) : Type 0 where
  pub task : Accepted (task_in (rule_of book) question)
  pub drums_right : drums_right drums ≡ true
  pub total_right : total_right drums (solvents book) ≡ true
  pub moles : word question 27 ≡ 0

-- r is the question q with z as its first n fractions; all else stands, and the check is right
pub record WithFractions (rule : Rule) (n : ℕ) (z : List Float) (q r : List ℕ) : Type 0 where
  pub size : length q ≡ length r
  pub fraction : (i : ℕ) → i < n → word r (4 + i) ≡ bits_of (at z i)
  pub others : (k : ℕ) → k < 63 → (k < 4) ⊎ (12 ≤ k) → word q k ≡ word r k
  pub check : check_right rule (word r) ≡ true

-- such a pooled call is answered as the plain call on the question with the pool's fractions
abbrev pub PoolAsPlain : Type 0
PoolAsPlain =
    (book question drums r : List ℕ) (room : ℕ) → DrumsPass book question drums
    → WithFractions (rule_of book) (solvents book) (pool_fractions drums (solvents book)) question r → pooled_of book question drums room ≡ sheet_of book r room
