-- A flash begins at most (m + 2) M + 4 activity evaluations, m the positive mole fractions of its feed and M `max_iterations`: for every book, question and
-- limit, a refused flash too. Over the definition, for any activity model E, pure liquids L and domain D. Assumes nothing.
use Rattle.std.specs.Prelude.{ℕ, ◌≤◌, ◌≡◌, Bool, List, Float}
use Rattle.floats.specs.Outcome.{Out, no}
use Rattle.counted.specs.Counted.{count_word}
use Rattle.thermo_types.specs.declared.ActivityOptions.{ActivityOptions}
use Rattle.thermo_models.specs.Model.{Activity, Activities, Liquids}
use Rattle.tp_flash.specs.Counted.{phases_counted, flash_counted, most_evaluations}

abbrev pub FlashBound : Type 0
FlashBound =
    (E : Activities) (L : Liquids) (D : Float → Bool) (n : ℕ) (o : ActivityOptions) (t : Float) (z : List Float) (p : Float)
    → (flash_counted E L D n o t z p).begun ≤ most_evaluations n o z

-- where none is begun the flash is refused
abbrev pub SomeBegun : Type 0
SomeBegun =
    (E : Activities) (L : Liquids) (D : Float → Bool) (n : ℕ) (o : ActivityOptions) (t : Float) (z : List Float) (p : Float)
    → (flash_counted E L D n o t z p).begun ≡ 0 → (r : ℕ) × ((flash_counted E L D n o t z p).outcome ≡ no r)

-- from the vapor pressures on: the same bound, and the bubble point's is always begun
abbrev pub PhasesBound : Type 0
PhasesBound =
    (E : List Float → Out Activity) (n : ℕ) (o : ActivityOptions) (z : List Float) (p : Float) (ps : List Float)
    → (phases_counted E n o z p ps).begun ≤ most_evaluations n o z

abbrev pub PhasesBegun : Type 0
PhasesBegun =
    (E : List Float → Out Activity) (n : ℕ) (o : ActivityOptions) (z : List Float) (p : Float) (ps : List Float)
    → 1 ≤ (phases_counted E n o z p ps).begun

-- with eight solvents at most, and a limit that passes 21
abbrev pub LimitedBound : Type 0
LimitedBound = (n : ℕ) (o : ActivityOptions) (z : List Float) → n ≤ 8 → o.max_iterations ≤ 1000000 → most_evaluations n o z ≤ 10000004

-- there the answer's word is the count itself
abbrev pub WordExact : Type 0
WordExact =
    (E : Activities) (L : Liquids) (D : Float → Bool) (n : ℕ) (o : ActivityOptions) (t : Float) (z : List Float) (p : Float)
    → n ≤ 8 → o.max_iterations ≤ 1000000 → count_word (flash_counted E L D n o t z p).begun ≡ (flash_counted E L D n o t z p).begun
