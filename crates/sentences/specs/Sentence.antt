-- A refusal in words: its number, its matter, and where it was said no. Assumes nothing.
use Rattle.std.specs.Prelude.{ℕ, cond, List, [], ◌∷◌, ◌++◌, ◌&&◌, length, get_or, drop, nat_le, codes}
use Rattle.std.specs.Fmt.{decimal}
use Rattle.floats.specs.Outcome.{Out, ok, no, need}
use Rattle.book.specs.declared.Place.{Place}
use Rattle.book.specs.declared.Place.TheVariants.{Nowhere, Block, Pair, Offered}
use Rattle.book.specs.Place.{can_have}

-- what each number, from 0 on, is about
unfoldable pub matters : List (List ℕ)
matters =
    []
    ∷ codes "there are no whole blocks of 512 bytes where a book, one offered block or an answer is due"
    ∷ codes "a check word is wrong: words were changed or, in a book of version 3, exchanged"
    ∷ codes "the head of the book is wrong: kind 1, 1 to 8 solvents, and as many blocks as these need"
    ∷ codes "a solvent's kind, place, CAS number or count of terms is wrong"
    ∷ codes "a solvent's correlation is not finite, not 0 < low <= high < t_r, or has a reducing value not above 0"
    ∷ codes "two solvents of the book have one CAS number"
    ∷ codes "a pair's kind, its two places or a flag is wrong"
    ∷ codes "a pair has a number that is not finite"
    ∷ codes "a pair's two alphas are not equal"
    ∷ codes "too little room is lent: 4,608 bytes for each answer, 22 words for the floor, 160 bytes for a sentence"
    ∷ codes "the question is not one block of 512 bytes with kind 8 and the right check word"
    ∷ codes "the task is not one that this call answers"
    ∷ codes "the temperature is not finite and positive"
    ∷ codes "the pressure is not finite and positive"
    ∷ codes "a fraction or a K value is not finite"
    ∷ codes "a fraction is negative"
    ∷ codes "a K value is not positive"
    ∷ codes "the fractions don't sum to 1 within 1e-10"
    ∷ codes "a tolerance, the trial threshold or the temperature bracket is out of its range"
    ∷ codes "an iteration limit is 0"
    ∷ codes "an iteration limit is above 1,000,000"
    ∷ codes "a temperature lies outside 273.16 to 450 K or the range of a solvent of the book, in the drum or not"
    ∷ codes "a pressure, given or found, lies outside 100 to 500,000 Pa"
    ∷ codes "an NRTL alpha is not positive at this temperature"
    ∷ codes "a result is not finite, or not positive where it must be"
    ∷ codes "the bracket holds no root: the point lies outside it"
    ∷ codes "not converged within the iteration limit, or the bracket collapsed"
    ∷ codes "the K values of the solvents present lie on one side of 1"
    ∷ codes "the liquid didn't pass its trials: it splits in two liquids, which this core doesn't calculate"
    ∷ codes "the split's vapor fraction lies outside (0, 1)"
    ∷ codes "there are not 1 to 64 whole drums to pool"
    ∷ codes "the drums hold nothing at all, or more than 2^53 micromoles"
    ∷ codes "there are not 1 to 64 whole feeds in one call"
    ∷ codes "a composition inside the calculation, or a drum by mass, can't be brought to fractions that sum to 1"
    ∷ codes "a solvent's molar mass is not finite and positive"
    ∷ codes "the fractions are by neither moles nor mass, or by mass with no molar masses in the book or with drums pooled"
    ∷ codes "the book's model is neither NRTL nor, from version 2 on, Wilson"
    ∷ codes "the book's version is none of 1 to 3"
    ∷ codes "there are not 1 to 64 whole questions in the queue, or one of them is not a flash"
    ∷ []

abbrev pub matter : ℕ → List ℕ
matter r = get_or matters r []

-- blocks and solvents count from 0
unfoldable pub where_of : Place → List ℕ
where_of Nowhere = []
where_of (Block k) = codes " (block " ++ decimal k ++ codes ")"
where_of (Pair i j) = codes " (solvents " ++ decimal i ++ codes " and " ++ decimal j ++ codes ")"
where_of Offered = codes " (the offered block)"

-- "4: a solvent's kind, .. is wrong (block 3)."
unfoldable pub sentence_of : ℕ → Place → List ℕ
sentence_of r p = decimal r ++ codes ": " ++ matter r ++ where_of p ++ codes "."

-- a place that its number can't have is left out
abbrev pub kept_place : ℕ → Place → Place
kept_place r p = cond (can_have r p) p Nowhere

-- bytes that are always enough
abbrev pub sentence_room : ℕ
sentence_room = 160

-- to be written to a slice of that many bytes: a number of no refusal (1), too few bytes (10)
unfoldable pub sentence_to : ℕ → Place → ℕ → Out (List ℕ)
sentence_to r p room =
    need (nat_le 1 r && nat_le r 39) 1 (need (nat_le sentence_room room) 10 (ok (sentence_of r (kept_place r p))))

-- 0 where it was written, else the number
unfoldable pub sentence_number : Out (List ℕ) → ℕ
sentence_number (ok bs) = 0
sentence_number (no r) = r

-- the slice afterwards: the sentence and what stood behind it; with a number, as it was
unfoldable pub sentence_written : Out (List ℕ) → List ℕ → List ℕ
sentence_written (ok bs) old = bs ++ drop (length bs) old
sentence_written (no r) old = old

-- the length, where one is lent for it; with a number, as it was
unfoldable pub sentence_length : Out (List ℕ) → ℕ → ℕ
sentence_length (ok bs) old = length bs
sentence_length (no r) old = old
