-- What stands behind the answer and its trials isn't read: the lab's part has both sheets, whatever follows it. Assumes nothing.
use Rattle.std.specs.Prelude.{ℕ, ◌≡◌, List, ◌++◌}
use Rattle.floats.specs.Outcome.{ok}
use Rattle.readers.specs.Readers.{floor_of, lab_of}

abbrev pub Behind : Type 0
Behind = (s part rest : List ℕ) → lab_of s ≡ ok part → (lab_of (part ++ rest) ≡ ok part) × (floor_of (part ++ rest) ≡ floor_of s)
