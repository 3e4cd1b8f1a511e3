-- Words that docs/FORMAT.md doesn't name are never read, as a law of the whole call. Assumes nothing.
use Rattle.std.specs.Prelude.{◌≡◌, true, List, ℕ, ◌/◌, length}
use Rattle.floats.specs.Fold.{all_to}
use Rattle.blocks.specs.Words.{word, check_right}
use Rattle.book.specs.Places.{words}
use Rattle.book.specs.Named.{Agree}
use Rattle.book.specs.Book.{rule_of}
use Rattle.question.specs.Named.{AgreeAsked}
use Rattle.sheet.specs.Sheet.{sheet_of}

-- books s and t, and questions q and r, equal in every named word; the checks of all four are right
pub record SameCall (s t q r : List ℕ) : Type 0 where
  pub books : Agree s t
  pub checks : all_to (λ k. check_right (rule_of s) (words s k)) (length s / 512) ≡ true
  pub checks' : all_to (λ k. check_right (rule_of t) (words t k)) (length t / 512) ≡ true
  pub questions : AgreeAsked q r (words s 0 2)
  pub check : check_right (rule_of s) (word q) ≡ true
  pub check' : check_right (rule_of s) (word r) ≡ true

abbrev pub Unread : Type 0
Unread = (s t q r : List ℕ) (room : ℕ) → SameCall s t q r → sheet_of s q room ≡ sheet_of t r room
