-- The phase split as the comparison calls it, over slices: a number, and nineteen floats where there are two phases. Assumes nothing.
use Rattle.std.specs.Prelude.{ℕ, ◌+◌, ◌%◌, Bool, ◌&&◌, List, eqb, leb, pos, length, set, Float}
use Rattle.std.specs.Float.{binary64}
use Rattle.std.specs.Float.Ieee.{of_int}
use Rattle.floats.specs.Vector.{at, fill_from, places}
use Rattle.floats.specs.Outcome.{Out, ok, no, bind}
use Rattle.rachford_rice.specs.declared.RachfordRice.{RachfordRice}
use Rattle.rachford_rice.specs.declared.RachfordRiceOutcome.{RachfordRiceOutcome}
use Rattle.rachford_rice.specs.declared.RachfordRiceOutcome.TheVariants.{LiquidOnly, VaporOnly, TwoPhase}
use Rattle.rachford_rice.specs.Rachford.{outcome_number, negative, two_phase, constrained}

-- a count of iterations as a float, modulo 2^32
unfoldable pub count_of : ℕ → Float
count_of m = of_int binary64 (pos (m % 4294967296))

-- vapor fraction, residual, iterations, then eight entries of the liquid and eight of the vapor
unfoldable pub both : Float → Float → ℕ → List Float → List Float → List Float → List Float
both β g m liquid vapor old = fill_from (at vapor) 11 8 (fill_from (at liquid) 3 8 (set (set (set old 0 β) 1 g) 2 (count_of m)))

-- only two phases are written
unfoldable pub phases_in : RachfordRiceOutcome → List Float → List Float → List Float → List Float
phases_in LiquidOnly liquid vapor old = old
phases_in VaporOnly liquid vapor old = old
phases_in (TwoPhase β g m) liquid vapor old = both β g m liquid vapor old

-- the number of an answer (1 liquid, 2 vapor, 3 both; 100 more than a refusal's), and the slice after it
unfoldable pub split_number : Out RachfordRice → ℕ
split_number (ok a) = outcome_number a.outcome
split_number (no r) = 100 + r

unfoldable pub split_written : Out RachfordRice → List Float → List Float
split_written (ok a) old = phases_in a.outcome a.liquid a.vapor old
split_written (no r) old = old

-- feed and ratios of eight, and room for nineteen floats; else the number is 0
unfoldable pub sized : List Float → List Float → List Float → Bool
sized z k out = eqb (length z) 8 && eqb (length k) 8 && leb 19 (length out)

abbrev pub constrained_of : List Float → List Float → ℕ → ℕ → Out RachfordRice
constrained_of z k n limit = constrained (at z) (at k) (places n) limit

abbrev pub negative_of : List Float → List Float → ℕ → ℕ → Out RachfordRice
negative_of z k n limit = bind (negative (at z) (at k) (places n) limit) (λ s. ok (two_phase s))
