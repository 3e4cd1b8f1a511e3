-- Demand 3 of pooled calls: nothing of a solvent that is in no drum shows in an answer. Assumes nothing.
use Rattle.std.specs.Prelude.{ℕ, ◌+◌, ◌≤◌, ◌<◌, ◌≡◌, Bool, not, List, length, T, eqb}
use Rattle.blocks.specs.Words.{word, check_right}
use Rattle.blocks.specs.declared.Rule.{Rule}
use Rattle.book.specs.Book.{rule_of}
use Rattle.replies.specs.Blocks.{answer_room}
use Rattle.sheet.specs.Sheet.{written, Answers}
use Rattle.striking.specs.Places.{cnt}
use Rattle.striking.specs.Books.{ShorterBook}
use Rattle.striking.specs.Questions.{solvents}
use Rattle.striking.specs.Sheets.{SameSheet}
use Rattle.striking.specs.Theorem.{Accepted}
use Rattle.pool.specs.Pool.{drum_count, count_in, pool_count, pooled_of}

-- a solvent that is in no drum is absent, and otherwise kept
unfoldable pub kept_pool : List ℕ → ℕ → Bool
kept_pool drums i = not (eqb (pool_count drums i) 0)

-- the shorter drums: in each the counts of the solvents kept move up to the front, anything stands in the places behind
pub record ShorterDrums (keep : ℕ → Bool) (n : ℕ) (drums drums' : List ℕ) : Type 0 where
  pub size : length drums ≡ length drums'
  pub count : (d i : ℕ) → d < drum_count drums → i < n → T (keep i) → count_in drums d i ≡ count_in drums' d (cnt keep i)

-- the shorter question: the kept K (words 19 to 26) move up to the front; of words 4 to 11 nothing is asked, and all else stays but the check, which is right
pub record ShorterAsked (rule : Rule) (keep : ℕ → Bool) (n : ℕ) (q q' : List ℕ) : Type 0 where
  pub size : length q' ≡ 512
  pub check : T (check_right rule (word q'))
  pub head : (k : ℕ) → k < 4 → word q k ≡ word q' k
  pub options : (k : ℕ) → 12 ≤ k → k < 19 → word q k ≡ word q' k
  pub ratio : (i : ℕ) → i < n → T (keep i) → word q (19 + i) ≡ word q' (19 + cnt keep i)
  pub unnamed : (k : ℕ) → 27 ≤ k → k < 63 → word q k ≡ word q' k

pub record ShorterPool (book question drums book' question' drums' : List ℕ) : Type 0 where
  pub of_book : ShorterBook (kept_pool drums) (solvents book) book book'
  pub of_question : ShorterAsked (rule_of book') (kept_pool drums) (solvents book) question question'
  pub of_drums : ShorterDrums (kept_pool drums) (solvents book) drums drums'

-- the answer slice after a pooled call
abbrev pub after_pool : List ℕ → List ℕ → List ℕ → List ℕ → List ℕ
after_pool book question drums old = written (pooled_of book question drums (length old)) old

-- where the longer call is accepted, so is the shorter with any answer slice that passes question 10, and the words are equal
abbrev pub PooledDemand3 : Type 0
PooledDemand3 =
    (book question drums book' question' drums' : List ℕ) → ShorterPool book question drums book' question' drums'
    → (old old' : List ℕ) → answer_room ≤ length old' → Accepted (pooled_of book question drums (length old))
    → Accepted (pooled_of book' question' drums' (length old'))
    × SameSheet (kept_pool drums) (solvents book) (after_pool book question drums old) (after_pool book' question' drums' old')

-- the same of two calls of the entry point, by its contract: it gives 0 and leaves the slice `new`, and then it gives r' and leaves `new'`
abbrev pub PooledCalls : Type 0
PooledCalls =
    (book question drums book' question' drums' : List ℕ) → ShorterPool book question drums book' question' drums'
    → (old new old' new' : List ℕ) (r' : ℕ) → answer_room ≤ length old' → Answers (pooled_of book question drums (length old)) 0 old new
    → Answers (pooled_of book' question' drums' (length old')) r' old' new' → (r' ≡ 0) × SameSheet (kept_pool drums) (solvents book) new new'
