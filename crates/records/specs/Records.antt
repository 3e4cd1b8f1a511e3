-- The records that the models read from a book: the words w of a solvent's or a pair's block as floats. Assumes nothing.
use Rattle.std.specs.Prelude.{not, cond, ℕ, ◌+◌, eqb, Option, None, Some}
use Rattle.floats.specs.Vector.{vec}
use Rattle.floats.specs.Small.{float}
use Rattle.book.specs.Book.{term_count}
use Rattle.book.specs.declared.Model.{Model}
use Rattle.records.specs.Parameters.{pair_term, lower_from, terms_of}
use Rattle.records.specs.declared.Ancillary.{Ancillary}
use Rattle.records.specs.declared.Range.{Range}
use Rattle.records.specs.declared.Pair.{Pair}
use Rattle.records.specs.declared.Interval.{Interval}

-- a correlation record from word f on: t_r, reducing value, range low, range high, term count, eight n, eight exponents
unfoldable pub ancillary_of : (ℕ → ℕ) → ℕ → Ancillary
ancillary_of w f = record {
  t_r = float w f;
  reducing_value = float w (f + 1);
  low = float w (f + 2);
  high = float w (f + 3);
  count = term_count w f;
  n = vec (λ k. float w (f + 5 + k)) 8;
  t = vec (λ k. float w (f + 13 + k)) 8;
}

-- its range
unfoldable pub range_of : (ℕ → ℕ) → ℕ → Range
range_of w f = record { 0 = float w (f + 2); 1 = float w (f + 3) }

-- of a pair no regression interval, or one with two bounds and whether it was inferred: words 15 to 18
unfoldable pub regression_of : (ℕ → ℕ) → Option Interval
regression_of w = cond (eqb (w 15) 0) None (Some (record { low = float w 16; high = float w 17; inferred = not (eqb (w 18) 0) }))

-- a pair: the model's parameters of (i, j) and of (j, i), and its interval
unfoldable pub pair_of : Model → (ℕ → ℕ) → Pair
pair_of m w = record { ij = terms_of (pair_term m w 3); ji = terms_of (pair_term m w (lower_from m)); regression = regression_of w }
