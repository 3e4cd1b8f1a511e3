-- A pair's block offered in the place of the book's own: the copy of the book that holds it. Assumes nothing.
use Rattle.std.specs.Prelude.{ℕ, ◌+◌, ◌*◌, Bool, cond, ◌&&◌, List, eqb, ltb, leb, length, Option, Some, None}
use Rattle.std.specs.Option.{option_eq}
use Rattle.blocks.specs.Words.{word, block}
use Rattle.blocks.specs.Bytes.{put}
use Rattle.book.specs.Places.{pair_place}

-- the place of the pair that words 1 and 2 of a block name, in a book of n solvents
abbrev pub place_named : ℕ → List ℕ → ℕ
place_named n offered = pair_place n (word offered 1) (word offered 2)

-- the block is whole and names i < j below n
unfoldable pub names_pair : ℕ → List ℕ → Bool
names_pair n offered = eqb (length offered) 512 && ltb (word offered 1) (word offered 2) && ltb (word offered 2) n

-- and the book is long enough to have that pair
unfoldable pub offers : ℕ → List ℕ → List ℕ → Bool
offers n book offered = names_pair n offered && leb (512 * (place_named n offered + 1)) (length book)

-- the block in whose place it stands, where it is for a pair
unfoldable pub offered_place : ℕ → List ℕ → List ℕ → Option ℕ
offered_place n book offered = cond (offers n book offered) (Some (place_named n offered)) None

-- the copy of a book of n solvents that holds it in that place; the book itself where it is for no pair
unfoldable pub with_pair : ℕ → List ℕ → List ℕ → List ℕ
with_pair n book offered = cond (offers n book offered) (put book (512 * place_named n offered) offered) book

-- block k of that copy, for a place so found
abbrev pub pair_at : List ℕ → List ℕ → Option ℕ → ℕ → List ℕ
pair_at book offered place k = cond (option_eq eqb (Some k) place) offered (block book k)
