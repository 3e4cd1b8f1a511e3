-- Demand 3 of previews: an offered pair with an absent solvent strikes to the plain call, one of two kept solvents to the preview with its i and j renumbered.
-- Assumes nothing.
use Rattle.std.specs.Prelude.{ℕ, ◌≤◌, ◌<◌, ◌≡◌, ◌≢◌, ◌⊎◌, Bool, not, List, length, T}
use Rattle.blocks.specs.declared.Rule.{Rule}
use Rattle.blocks.specs.Words.{word, check_right}
use Rattle.book.specs.Book.{rule_of}
use Rattle.replies.specs.Blocks.{answer_room}
use Rattle.sheet.specs.Sheet.{sheet_of, written}
use Rattle.striking.specs.Places.{cnt}
use Rattle.striking.specs.Questions.{kept_in, solvents, Shorter}
use Rattle.striking.specs.Sheets.{SameSheet}
use Rattle.striking.specs.Theorem.{Accepted, after}
use Rattle.preview.specs.Preview.{preview_of}

-- the answer slice after a preview
abbrev pub after_preview : List ℕ → List ℕ → List ℕ → List ℕ → List ℕ
after_preview book offered question old = written (preview_of book offered question (length old)) old

-- i or j of the offered block isn't in the feed
abbrev pub OfAbsent : (ℕ → Bool) → List ℕ → Type 0
OfAbsent keep offered = T (not (keep (word offered 1))) ⊎ T (not (keep (word offered 2)))

-- then nothing of it shows: the plain call on the shorter book has the same words
abbrev pub AbsentPair : Type 0
AbsentPair =
    (book offered question book' question' : List ℕ) → Shorter book question book' question' → OfAbsent (kept_in question) offered
    → (old old' : List ℕ) → answer_room ≤ length old' → Accepted (preview_of book offered question (length old))
    → Accepted (sheet_of book' question' (length old'))
    × SameSheet (kept_in question) (solvents book) (after_preview book offered question old) (after book' question' old')

-- the offered block with the new places of its two kept solvents; all other words stand, and the check is right
pub record ShorterOffered (rule : Rule) (keep : ℕ → Bool) (offered offered' : List ℕ) : Type 0 where
  pub size : length offered' ≡ 512
  pub check : T (check_right rule (word offered'))
  pub i : word offered' 1 ≡ cnt keep (word offered 1)
  pub j : word offered' 2 ≡ cnt keep (word offered 2)
  pub others : (k : ℕ) → k < 63 → k ≢ 1 → k ≢ 2 → word offered k ≡ word offered' k

-- the preview of that on the shorter book has the same words
abbrev pub KeptPair : Type 0
KeptPair =
    (book offered question book' offered' question' : List ℕ) → Shorter book question book' question'
    → T (kept_in question (word offered 1)) → T (kept_in question (word offered 2)) → ShorterOffered (rule_of book') (kept_in question) offered offered'
    → (old old' : List ℕ) → answer_room ≤ length old' → Accepted (preview_of book offered question (length old))
    → Accepted (preview_of book' offered' question' (length old'))
    × SameSheet (kept_in question) (solvents book) (after_preview book offered question old) (after_preview book' offered' question' old')
