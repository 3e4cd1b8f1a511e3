-- Raising a limit: an accepted question with a limit raised is accepted with the same answer. Over the definition of the whole call, from bytes to bytes.
-- Assumes nothing.
use Rattle.std.specs.Prelude.{ℕ, ◌≤◌, ◌<◌, ◌≡◌, ◌⊎◌, ◌≢◌, true, cond, List, eqb, length}
use Rattle.floats.specs.Outcome.{ok, no}
use Rattle.blocks.specs.declared.Rule.{Rule}
use Rattle.blocks.specs.Words.{Bytes, word, check_right}
use Rattle.blocks.specs.Bytes.{block_bytes}
use Rattle.book.specs.Book.{rule_of}
use Rattle.sheet.specs.Sheet.{sheet_of}

-- a limit as it was, or raised, to 1,000,000 at most
abbrev pub AsOrRaised : ℕ → ℕ → Type 0
AsOrRaised a b = (a ≡ b) ⊎ ((a ≤ b) × (b ≤ 1000000))

-- r is the question q with word 12 (`max_iterations`), word 14 (`max_temperature_iterations`) or both raised; all else stands, and its check is right.
-- Tasks 3 to 7 read both, 8 and 9 word 12 alone, 1 and 2 neither
pub record Raised (rule : Rule) (q r : List ℕ) : Type 0 where
  pub size : length q ≡ length r
  pub iterations : AsOrRaised (word q 12) (word r 12)
  pub temperature_iterations : AsOrRaised (word q 14) (word r 14)
  pub others : (k : ℕ) → k < 63 → k ≢ 12 → k ≢ 14 → word q k ≡ word r k
  pub check : check_right rule (word r) ≡ true

-- the same bytes: the answer block and the trial blocks, with their counts of iterations and the evaluations of word 38
abbrev pub Raising : Type 0
Raising = (book q r : List ℕ) (room : ℕ) (bs : List ℕ) → Raised (rule_of book) q r → sheet_of book q room ≡ ok bs → sheet_of book r room ≡ ok bs

-- a refusal stays too, but for those that the limits or the check gave: 11, 20 and 27
abbrev pub RaisingRefused : Type 0
RaisingRefused =
    (book q r : List ℕ) (room e : ℕ) → Raised (rule_of book) q r → sheet_of book q room ≡ no e → e ≢ 11 → e ≢ 20 → e ≢ 27 → sheet_of book r room ≡ no e

-- ---- any question can be raised so
unfoldable pub words_with : (ℕ → ℕ) → ℕ → ℕ → ℕ → ℕ
words_with w a b k = cond (eqb k 12) a (cond (eqb k 14) b (w k))

-- the question with the limits a and b, and its check
abbrev pub with_limits : Rule → List ℕ → ℕ → ℕ → List ℕ
with_limits rule q a b = block_bytes rule (words_with (word q) a b)

abbrev pub Raisable : Type 0
Raisable =
    (rule : Rule) (q : List ℕ) (a b : ℕ) → Bytes q → length q ≡ 512 → AsOrRaised (word q 12) a → AsOrRaised (word q 14) b
    → Raised rule q (with_limits rule q a b) × Bytes (with_limits rule q a b)
