-- Whether T lies in the regression intervals of the pairs present (nrtl.rs, `validity`). Assumes nothing.
use Rattle.std.specs.Prelude.{ℕ, ◌+◌, ◌-◌, true, false, not, cond, ◌&&◌, ◌||◌, List, Float, Option, None, Some}
use Rattle.std.specs.Float.Ieee.{le}
use Rattle.floats.specs.Arithmetic.{0f}
use Rattle.floats.specs.Fold.{fold_to}
use Rattle.floats.specs.Vector.{at}
use Rattle.book.specs.Places.{words, pair_place}
use Rattle.records.specs.declared.Interval.{Interval}
use Rattle.records.specs.Records.{regression_of}
use Rattle.liquid.specs.Vapor.{in_range}
use Rattle.thermo_models.specs.declared.Seen.{Seen}
use Rattle.thermo_models.specs.declared.Assessment.{Assessment}
use Rattle.thermo_models.specs.declared.ValidityStatus.{ValidityStatus}
use Rattle.thermo_models.specs.declared.ValidityStatus.TheVariants.{Unassessed, WithinDeclaredDomain, Extrapolated}

-- the interval of the pair (i, j), i < j, of a book of n solvents
abbrev pub interval_of : List ℕ → ℕ → ℕ → ℕ → Option Interval
interval_of book n i j = regression_of (words book (pair_place n i j))

unfoldable pub unseen : Seen
unseen = record { active = false; missing = false; extrapolated = false; inferred = false }

-- a pair present is noted: without an interval it is missing; with one, T may lie outside it, and it may be inferred
unfoldable pub noted : Option Interval → Float → Seen → Seen
noted None t s = record { active = true; missing = true; extrapolated = s.extrapolated; inferred = s.inferred }
noted (Some r) t s = record {
  active = true;
  missing = s.missing;
  extrapolated = s.extrapolated || not (in_range r.low r.high t);
  inferred = s.inferred || r.inferred;
}

-- the pair (i, j) counts where neither fraction is ≤ 0
unfoldable pub visited : List ℕ → ℕ → Float → List Float → ℕ → ℕ → Seen → Seen
visited book n t x i j s = cond (not (le (at x i) 0f) && not (le (at x j) 0f)) (noted (interval_of book n i j) t s) s

-- the pairs (i, j), j from i + 1 to m - 1
unfoldable pub row_seen : List ℕ → ℕ → Float → List Float → ℕ → ℕ → Seen → Seen
row_seen book n t x i m s = fold_to (λ k. visited book n t x i (i + 1 + k)) s (m - (i + 1))

unfoldable pub all_seen : List ℕ → ℕ → Float → List Float → Seen
all_seen book n t x = fold_to (λ i. row_seen book n t x i n) unseen n

-- extrapolated if any pair is; else unassessed if a pair has no interval or no pair is present; else within
unfoldable pub status_of : Seen → ValidityStatus
status_of s = cond s.extrapolated Extrapolated (cond (s.missing || not s.active) Unassessed WithinDeclaredDomain)

unfoldable pub validity_of : List ℕ → ℕ → Float → List Float → Assessment
validity_of book n t x = record { status = status_of (all_seen book n t x); inferred = (all_seen book n t x).inferred }
