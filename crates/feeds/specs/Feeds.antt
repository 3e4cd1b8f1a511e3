-- Three laws of the whole call: a question in moles doesn't see that a book has molar masses, a question by mass is answered as the one in moles that has its
-- feed converted, and a question to a version 3 book as to the version 2 book, but for the sums. Assumes nothing.
use Rattle.std.specs.Prelude.{ℕ, ◌+◌, ◌/◌, ◌<◌, ◌≤◌, ◌≡◌, ◌≢◌, ◌⊎◌, true, List, length, Float}
use Rattle.floats.specs.Arithmetic.{◌⊘◌}
use Rattle.floats.specs.Small.{positive, bits_of}
use Rattle.floats.specs.Fold.{all_to}
use Rattle.floats.specs.Vector.{at}
use Rattle.floats.specs.Outcome.{Out, ok}
use Rattle.thermo_types.specs.Composition.{all_finite, none_negative, sums_to_one, normalize_of}
use Rattle.blocks.specs.declared.Rule.{Rule}
use Rattle.blocks.specs.Words.{word, check_right}
use Rattle.book.specs.Places.{words}
use Rattle.book.specs.declared.Head.{Head}
use Rattle.book.specs.Book.{has_masses, molar_mass, rule_of, book_of}
use Rattle.question.specs.Asked.{feed_of}
use Rattle.replies.specs.Blocks.{Answer}
use Rattle.sheet.specs.Sheet.{replied, sheet_of}

-- t is the version v' book made of the words of s, a version v book: equal but for the version and the checks, which are right in both, each by its own rule
pub record OfVersions (v v' : ℕ) (s t : List ℕ) : Type 0 where
  pub size : length s ≡ length t
  pub version : words s 0 1 ≡ v
  pub version' : words t 0 1 ≡ v'
  pub head : (k : ℕ) → k < 63 → k ≢ 1 → words s 0 k ≡ words t 0 k
  pub others : (j k : ℕ) → k < 63 → words s (j + 1) k ≡ words t (j + 1) k
  pub checks : all_to (λ k. check_right (rule_of s) (words s k)) (length s / 512) ≡ true
  pub checks' : all_to (λ k. check_right (rule_of t) (words t k)) (length t / 512) ≡ true

-- a question in moles (word 27 is 0) to a version 2 book that passes 35 is answered as to that version 1 book, but for Wilson, which version 1 doesn't have
abbrev pub MolesAlike : Type 0
MolesAlike =
    (s t question : List ℕ) (room : ℕ) → OfVersions 2 1 s t → words s 0 3 ≢ 1 → all_to (λ i. positive (molar_mass (words s) i)) (words s 0 2) ≡ true → word question 27 ≡ 0
    → sheet_of s question room ≡ sheet_of t question room

-- r is the question q in moles for n solvents: word 27 is 0 for 1, the fractions are those of z, all else stands
pub record InMoles (n : ℕ) (z : List Float) (q r : List ℕ) : Type 0 where
  pub size : length q ≡ length r
  pub kind : word q 27 ≡ 1
  pub kind' : word r 27 ≡ 0
  pub fraction : (i : ℕ) → i < n → word r (4 + i) ≡ bits_of (at z i)
  pub others : (k : ℕ) → k < 63 → (k < 4) ⊎ (12 ≤ k) → k ≢ 27 → word q k ≡ word r k

-- a question by mass whose mass fractions pass 15, 16 and 18 and whose moles z pass 34 is answered as that question in moles; the checks of both are right
abbrev pub MassAsMoles : Type 0
MassAsMoles =
    (book q r : List ℕ) (room : ℕ) (h : Head) (z : List Float) → book_of book ≡ ok h → has_masses h.version ≡ true → InMoles h.n z q r
    → check_right (rule_of book) (word q) ≡ true → check_right (rule_of book) (word r) ≡ true
    → all_finite (at (feed_of q h.n)) h.n ≡ true → none_negative (at (feed_of q h.n)) h.n ≡ true → sums_to_one (at (feed_of q h.n)) h.n ≡ true
    → normalize_of (λ i. at (feed_of q h.n) i ⊘ molar_mass (words book) i) h.n ≡ ok z → sheet_of book q room ≡ sheet_of book r room

-- q and r are one question, for books of two rules: equal but for the checks, which are right in both, each by its own rule
pub record OfRules (rule rule' : Rule) (q r : List ℕ) : Type 0 where
  pub size : length q ≡ length r
  pub same : (k : ℕ) → k < 63 → word q k ≡ word r k
  pub check : check_right rule (word q) ≡ true
  pub check' : check_right rule' (word r) ≡ true

-- o and p are one answer, each with the checks of its own rule, or one refusal
pub record OneAnswer (rule rule' : Rule) (o p : Out (List ℕ)) : Type 0 where
  pub task : ℕ
  pub answer : Out Answer
  pub left : o ≡ replied rule task answer
  pub right : p ≡ replied rule' task answer

-- a question to a version 3 book is answered as to that version 2 book, but for how the blocks are summed
abbrev pub VersionsAlike : Type 0
VersionsAlike =
    (s t q r : List ℕ) (room : ℕ) → OfVersions 3 2 s t → OfRules (rule_of s) (rule_of t) q r
    → OneAnswer (rule_of s) (rule_of t) (sheet_of s q room) (sheet_of t r room)
