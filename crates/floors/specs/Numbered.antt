-- The readers' numbers: 1 of both at once; and 10 where too few words are lent. The lab's part is never empty, so 0 bytes say 1. Assumes nothing.
use Rattle.std.specs.Prelude.{ℕ, ◌≤◌, ◌<◌, ◌≡◌, ◌⊎◌, List, length, take}
use Rattle.floats.specs.Outcome.{ok, no}
use Rattle.readers.specs.Readers.{floor_of, floor_to, lab_of, lab_bytes}

abbrev pub ReadersRefuse : Type 0
ReadersRefuse = (s : List ℕ) (r : ℕ) → (floor_of s ≡ no r → (r ≡ 1) × (lab_of s ≡ no 1)) × (lab_of s ≡ no r → (r ≡ 1) × (floor_of s ≡ no 1))

-- what is handed out is the front of the slice, an answer's block at least
abbrev pub LabIsFront : Type 0
LabIsFront = (s part : List ℕ) → lab_of s ≡ ok part → (512 ≤ length part) × (part ≡ take (length part) s)

abbrev pub ZeroIsOne : Type 0
ZeroIsOne = (s : List ℕ) → lab_bytes (lab_of s) ≡ 0 → lab_of s ≡ no 1

-- 1 comes first
abbrev pub FloorNumbers : Type 0
FloorNumbers = (s : List ℕ) (room r : ℕ) → floor_to s room ≡ no r → ((floor_of s ≡ no 1) × (r ≡ 1)) ⊎ ((room < 22) × (r ≡ 10))
