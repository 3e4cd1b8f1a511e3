-- Several drums tipped into one charge, and the call that takes its feed from that pool: the numbers of a call, with 31 and 32 after 12. Assumes nothing.
use Rattle.std.specs.Prelude.{ℕ, ◌+◌, ◌*◌, ◌/◌, ◌%◌, ◌^◌, Bool, ◌&&◌, List, eqb, pos, length, Float}
use Rattle.std.specs.Float.{binary64}
use Rattle.std.specs.Float.Ieee.{of_int}
use Rattle.floats.specs.Fold.{fold_to}
use Rattle.floats.specs.Outcome.{Out, bind, need}
use Rattle.thermo_types.specs.Composition.{normalize_of}
use Rattle.blocks.specs.Words.{word}
use Rattle.book.specs.Places.{words}
use Rattle.book.specs.Book.{molar_mass, book_of, rule_of}
use Rattle.question.specs.Inputs.{within}
use Rattle.question.specs.Asked.{task_in, rest_of}
use Rattle.sheet.specs.Sheet.{answer_to, roomy}

-- f 0 + f 1 + .. + f (n - 1)
abbrev pub total_to : (ℕ → ℕ) → ℕ → ℕ
total_to f n = fold_to (λ k (s : ℕ). s + f k) 0 n

-- ---- drums: 64 bytes each, eight counts of micromoles

-- how many
abbrev pub drum_count : List ℕ → ℕ
drum_count drums = length drums / 64

-- the count of solvent i in drum d
abbrev pub count_in : List ℕ → ℕ → ℕ → ℕ
count_in drums d i = word drums (8 * d + i)

-- the pool's count of solvent i: the sum over the drums
unfoldable pub pool_count : List ℕ → ℕ → ℕ
pool_count drums i = total_to (λ d. count_in drums d i) (drum_count drums)

-- the total over the first n solvents
unfoldable pub pool_total : List ℕ → ℕ → ℕ
pool_total drums n = total_to (pool_count drums) n

-- 1 to 64 whole drums (31)
unfoldable pub drums_right : List ℕ → Bool
drums_right drums = eqb (length drums % 64) 0 && within 1 64 (drum_count drums)

-- a total from 1 to 2^53, up to which every count is a float (32)
unfoldable pub total_right : List ℕ → ℕ → Bool
total_right drums n = within 1 (2 ^ 53) (pool_total drums n)

-- a count as a float
abbrev pub amount : ℕ → Float
amount c = of_int binary64 (pos c)

-- the pool's feed: its counts through `normalize`
unfoldable pub pool_feed : List ℕ → ℕ → Out (List Float)
pool_feed drums n = normalize_of (λ i. amount (pool_count drums i)) n

-- ---- a call, for a book of n solvents

-- 13 to 21, put to a feed x, then the task's own
unfoldable pub fed_to : List ℕ → ℕ → List ℕ → List Float → Out (List ℕ)
fed_to book n question x = bind (rest_of question (molar_mass (words book)) n x) (answer_to book n)

-- the drums' (31, 32) and, since a pool is in moles, 36; the others are put to the pool's feed
unfoldable pub drums_to : List ℕ → ℕ → List ℕ → List ℕ → Out (List ℕ)
drums_to book n question drums =
    need (drums_right drums) 31
    (need (total_right drums n) 32
    (need (eqb (word question 27) 0) 36
    (bind (pool_feed drums n) (fed_to book n question))))

-- the room (10), block and task (11, 12), then the drums'
unfoldable pub pooled_from : List ℕ → ℕ → List ℕ → List ℕ → ℕ → Out (List ℕ)
pooled_from book n question drums room = roomy room (bind (task_in (rule_of book) question) (λ task. drums_to book n question drums))

-- a book's questions (1 to 9, 35, 37, 38), then the others
unfoldable pub pooled_of : List ℕ → List ℕ → List ℕ → ℕ → Out (List ℕ)
pooled_of book question drums room = bind (book_of book) (λ h. pooled_from book h.n question drums room)
