-- The shorter book and question, made (docs/FORMAT.md, "The shorter sheet"). Assumes nothing.
use Rattle.std.specs.Prelude.{ℕ, zero, suc, ◌+◌, ◌-◌, Bool, cond, ◌&&◌, List, ◌++◌, eqb, leb, ltb}
use Rattle.blocks.specs.Words.{word}
use Rattle.blocks.specs.Bytes.{row_to, block_bytes}
use Rattle.blocks.specs.declared.Rule.{Rule}
use Rattle.book.specs.Places.{words, pair_place}
use Rattle.book.specs.Book.{rule_in}
use Rattle.striking.specs.Places.{cnt}
use Rattle.striking.specs.Questions.{kept_in, solvents}

-- the old index of place k: the kept index below n before which k are kept; 0 where there is none
unfoldable pub kept_at : (ℕ → Bool) → ℕ → ℕ → ℕ
kept_at keep zero k = 0
kept_at keep (suc i) k = cond (eqb (cnt keep i) k && keep i) i (kept_at keep i k)

-- words w, but x at index f
unfoldable pub change : ℕ → ℕ → (ℕ → ℕ) → ℕ → ℕ
change f x w k = cond (eqb k f) x (w k)

-- the new words of block 0, of the solvent at place k, and of the pair at places i and j
abbrev pub head_words : (ℕ → Bool) → ℕ → List ℕ → ℕ → ℕ
head_words keep n book = change 2 (cnt keep n) (words book 0)

abbrev pub solvent_words : (ℕ → Bool) → ℕ → List ℕ → ℕ → ℕ → ℕ
solvent_words keep n book k = change 1 k (words book (kept_at keep n k + 1))

abbrev pub pair_words : (ℕ → Bool) → ℕ → List ℕ → ℕ → ℕ → ℕ → ℕ
pair_words keep n book i j = change 1 i (change 2 j (words book (pair_place n (kept_at keep n i) (kept_at keep n j))))

-- the pairs (i, i + 1), (i, i + 2) and on
unfoldable pub pair_row : (ℕ → Bool) → ℕ → List ℕ → ℕ → List ℕ
pair_row keep n book i = row_to (λ d. block_bytes (rule_in (words book 0)) (pair_words keep n book i (i + 1 + d))) (cnt keep n - i - 1)

unfoldable pub shorter_book : (ℕ → Bool) → ℕ → List ℕ → List ℕ
shorter_book keep n book = block_bytes (rule_in (words book 0)) (head_words keep n book) ++ row_to (λ k. block_bytes (rule_in (words book 0)) (solvent_words keep n book k)) (cnt keep n) ++ row_to (pair_row keep n book) (cnt keep n)

-- words w, but of the eight from f on the kept ones first, then 0
unfoldable pub move_up : (ℕ → Bool) → ℕ → ℕ → (ℕ → ℕ) → ℕ → ℕ
move_up keep n f w k = cond (leb f k && ltb k (f + 8)) (cond (ltb (k - f) (cnt keep n)) (w (f + kept_at keep n (k - f))) 0) (w k)

-- fractions from word 4 on, K from word 19 on
unfoldable pub shorter_question : Rule → (ℕ → Bool) → ℕ → List ℕ → List ℕ
shorter_question rule keep n question = block_bytes rule (move_up keep n 4 (move_up keep n 19 (word question)))

-- of a book and a question
abbrev pub shorter_of : List ℕ → List ℕ → List ℕ
shorter_of book question = shorter_book (kept_in question) (solvents book) book

abbrev pub shorter_ask : List ℕ → List ℕ → List ℕ
shorter_ask book question = shorter_question (rule_in (words book 0)) (kept_in question) (solvents book) question
