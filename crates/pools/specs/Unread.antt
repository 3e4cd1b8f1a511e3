-- What a pooled call doesn't read: words 4 to 11 of its question, but for the check, and the counts of a drum behind the n-th. Assumes nothing.
use Rattle.std.specs.Prelude.{ℕ, ◌≤◌, ◌<◌, ◌≡◌, ◌⊎◌, true, List, length}
use Rattle.blocks.specs.declared.Rule.{Rule}
use Rattle.blocks.specs.Words.{word, check_right}
use Rattle.book.specs.Book.{rule_of}
use Rattle.striking.specs.Questions.{solvents}
use Rattle.pool.specs.Pool.{drum_count, count_in, pooled_of}

-- questions that differ in words 4 to 11 and the check at most; both checks are right
pub record SameElse (rule : Rule) (q r : List ℕ) : Type 0 where
  pub size : length q ≡ length r
  pub others : (k : ℕ) → k < 63 → (k < 4) ⊎ (12 ≤ k) → word q k ≡ word r k
  pub check : check_right rule (word q) ≡ true
  pub check' : check_right rule (word r) ≡ true

abbrev pub UnreadFractions : Type 0
UnreadFractions = (book q r drums : List ℕ) (room : ℕ) → SameElse (rule_of book) q r → pooled_of book q drums room ≡ pooled_of book r drums room

abbrev pub UnreadCounts : Type 0
UnreadCounts =
    (book question drums drums' : List ℕ) (room : ℕ) → length drums ≡ length drums'
    → ((d i : ℕ) → d < drum_count drums → i < solvents book → count_in drums d i ≡ count_in drums' d i)
    → pooled_of book question drums room ≡ pooled_of book question drums' room
