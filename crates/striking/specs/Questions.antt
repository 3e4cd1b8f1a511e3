-- The solvents kept and the shorter question (docs/FORMAT.md, "The shorter sheet"). Assumes nothing.
use Rattle.std.specs.Prelude.{ℕ, ◌+◌, ◌≤◌, ◌<◌, ◌≡◌, Bool, not, ◌||◌, List, length, T, eqb}
use Rattle.blocks.specs.Words.{word, check_right}
use Rattle.blocks.specs.declared.Rule.{Rule}
use Rattle.book.specs.Places.{words}
use Rattle.book.specs.Book.{rule_of}
use Rattle.striking.specs.Places.{cnt}
use Rattle.striking.specs.Books.{ShorterBook}

-- solvent i is absent if its word of 4 to 11 is +0 or -0, and otherwise kept
unfoldable pub kept_in : List ℕ → ℕ → Bool
kept_in q i = not (eqb (word q (4 + i)) 0 || eqb (word q (4 + i)) 0x8000000000000000)

-- the shorter question q' of a question q for n solvents: the kept fractions (words 4 to 11) and the kept K (19 to 26) move up to the front, anything stands in the
-- places behind; the rest stays, and the check is right by the book's rule
pub record ShorterQuestion (rule : Rule) (keep : ℕ → Bool) (n : ℕ) (q q' : List ℕ) : Type 0 where
  pub size : length q' ≡ 512
  pub check : T (check_right rule (word q'))
  pub head : (k : ℕ) → k < 4 → word q k ≡ word q' k
  pub fraction : (i : ℕ) → i < n → T (keep i) → word q (4 + i) ≡ word q' (4 + cnt keep i)
  pub options : (k : ℕ) → 12 ≤ k → k < 19 → word q k ≡ word q' k
  pub ratio : (i : ℕ) → i < n → T (keep i) → word q (19 + i) ≡ word q' (19 + cnt keep i)
  pub unnamed : (k : ℕ) → 27 ≤ k → k < 63 → word q k ≡ word q' k

-- how many solvents a book says it has
abbrev pub solvents : List ℕ → ℕ
solvents book = words book 0 2

-- the shorter book and question
pub record Shorter (book question book' question' : List ℕ) : Type 0 where
  pub of_book : ShorterBook (kept_in question) (solvents book) book book'
  pub of_question : ShorterQuestion (rule_of book') (kept_in question) (solvents book) question question'
