-- Drums and their pool: nothing is lost in the sum, a drum alone is its own pool, and the order of the drums doesn't matter. Assumes nothing.
use Rattle.std.specs.Prelude.{ℕ, ◌<◌, ◌≡◌, true, length}
use mathlib.Core.List.{List, [], ◌∷◌, flatten, Permᴰ}
use Rattle.striking.specs.Questions.{solvents}
use Rattle.pool.specs.Pool.{total_to, drum_count, count_in, pool_count, pool_total, drums_right, pooled_of}

-- drum d taken separately: the total of its first n counts
abbrev pub drum_total : List ℕ → ℕ → ℕ → ℕ
drum_total drums n d = total_to (count_in drums d) n

-- the total over solvents of the pool's counts is the total of all drums taken separately
abbrev pub OneTotal : Type 0
OneTotal = (drums : List ℕ) (n : ℕ) → pool_total drums n ≡ total_to (drum_total drums n) (drum_count drums)

-- a single drum pools to itself
abbrev pub SingleDrum : Type 0
SingleDrum = (drum : List ℕ) → length drum ≡ 64 → (i : ℕ) → pool_count drum i ≡ count_in drum 0 i

-- a pooled call is answered as the one with a single drum that holds the pool
abbrev pub AsOneDrum : Type 0
AsOneDrum =
    (book question drums drum : List ℕ) (room : ℕ) → drums_right drums ≡ true → length drum ≡ 64
    → ((i : ℕ) → i < solvents book → count_in drum 0 i ≡ pool_count drums i) → pooled_of book question drums room ≡ pooled_of book question drum room

-- drums of 64 bytes
abbrev pub Whole : List (List ℕ) → Type 0
Whole [] = Unit {0}
Whole (d ∷ ds) = (length d ≡ 64) × Whole ds

-- drums sent one behind the other, and the same in any other order: a permutation, made of exchanges of neighbours
abbrev pub AnyOrder : Type 0
AnyOrder =
    (book question : List ℕ) (room : ℕ) (ds ds' : List (List ℕ)) → Whole ds → Permᴰ ds ds'
    → pooled_of book question (flatten ds) room ≡ pooled_of book question (flatten ds') room
