-- The readers of an answer slice: the floor's 22 words by value, and the lab's part of the slice, which is the answer with its trials. Checks are not tested, since a
-- slice doesn't say by which rule they were made, and what stands behind the trials is not read. Assumes nothing.
use Rattle.std.specs.Prelude.{ℕ, ◌+◌, ◌*◌, ◌≡◌, Bool, cond, List, ◌++◌, eqb, leb, ltb, length, take, drop, replicate, Result, Ok, Err}
use denote.Ref.{Bor}
use Rattle.floats.specs.Fold.{all_to}
use Rattle.floats.specs.Vector.{fill}
use Rattle.floats.specs.Outcome.{Out, ok, no, bind, need}
use Rattle.outcome.specs.declared.Refusal.{Refusal}
use Rattle.outcome.specs.Refused.{number}
use Rattle.blocks.specs.Words.{word, block}

-- ---- what a slice begins with

-- the bytes of an answer's block and of n trials
abbrev pub part_length : ℕ → ℕ
part_length n = 512 * (1 + n)

-- blocks 1 to n are trials
unfoldable pub trials_right : List ℕ → ℕ → Bool
trials_right s n = all_to (λ k. eqb (word (block s (1 + k)) 0) 10) n

-- the bytes of the answer and its trials: a block of kind 9, and as many whole blocks of kind 10, at most eight, as its word 12 says; else 1
unfoldable pub part_of : List ℕ → Out ℕ
part_of s =
    need (eqb (word s 0) 9) 1
    (need (leb (word s 12) 8) 1
    (need (leb (part_length (word s 12)) (length s)) 1
    (need (trials_right s (word s 12)) 1
    (ok (part_length (word s 12))))))

-- ---- the floor

-- the word of an answer at place i of the floor's: 1 to 5, 11, 14 to 29
unfoldable pub floor_place : ℕ → ℕ
floor_place i = cond (ltb i 5) (1 + i) (cond (eqb i 5) 11 (8 + i))

-- how many a task shows: 1 the first five, any other all
unfoldable pub shown_of : ℕ → ℕ
shown_of task = cond (eqb task 1) 5 22

-- the floor's 22 words, 0 behind those shown
unfoldable pub floor_words : List ℕ → List ℕ
floor_words s = fill (λ i. word s (floor_place i)) (shown_of (word s 1)) (replicate 22 0)

unfoldable pub floor_of : List ℕ → Out (List ℕ)
floor_of s = bind (part_of s) (λ n. ok (floor_words s))

-- to be written to a slice of that many words (10)
unfoldable pub floor_to : List ℕ → ℕ → Out (List ℕ)
floor_to s room = bind (floor_of s) (λ ws. need (leb 22 room) 10 (ok ws))

-- 0 where the words were written, else the number
unfoldable pub floor_number : Out (List ℕ) → ℕ
floor_number (ok ws) = 0
floor_number (no r) = r

-- the slice of words afterwards: the 22 and what stood behind them; with a number, as it was
unfoldable pub floor_after : Out (List ℕ) → List ℕ → List ℕ
floor_after (ok ws) old = ws ++ drop 22 old
floor_after (no r) old = old

-- what writing them does: the result r and the slice of words
pub record Fills (o : Out (List ℕ)) (r : ℕ) (old new : List ℕ) : Type 0 where
  pub number : r ≡ floor_number o
  pub words : new ≡ floor_after o old

-- ---- the lab

-- the first bytes of the slice
unfoldable pub lab_of : List ℕ → Out (List ℕ)
lab_of s = bind (part_of s) (λ n. ok (take n s))

-- a part of a slice, or a refusal, as an outcome
abbrev pub part_in : Result (Bor (List ℕ)) Refusal → Out (List ℕ)
part_in (Ok part) = ok part.now
part_in (Err r) = no (number r)

-- how many bytes the lab is shown: 0 for none
unfoldable pub lab_bytes : Out (List ℕ) → ℕ
lab_bytes (ok part) = length part
lab_bytes (no r) = 0
