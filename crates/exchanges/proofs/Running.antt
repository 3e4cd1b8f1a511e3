-- With running sums, in version 3, the same exchange in the smallest book is refused, so that the law of exchanged words isn't empty. Assumes nothing.
use mathlib.Core.Path.{◌≡◌, refl}
use native.Mathlib.Omega.{arith}
use lib.Ieee.{of_bits, lt, le, eq, size}
use Rattle.floats.specs.Small.{is_finite, positive}
use Rattle.floats.specs.Fold.{all_to}
use Rattle.floats.specs.Outcome.{ok, no, need}
use Rattle.blocks.specs.declared.Rule.TheVariants.{Running}
use Rattle.blocks.specs.Words.{word, block, check_sum, running_sum, sum_by, check_right}
use Rattle.blocks.specs.Bytes.{bytes, row_to, block_bytes}
use Rattle.book.specs.declared.Model.TheVariants.{Nrtl}
use Rattle.book.specs.Places.{row_from}
use Rattle.book.specs.Book.{floats_finite, version_right, head_right, model_right, model_in, solvent_right, range_right, record_right, records_right, masses_right}
use Rattle.book.specs.Book.{cas_new, pair_right, row_right, parameters_finite, bounds_finite, pair_finite, alphas_equal, head_in, pairs_of, solvents_of, head_of}
use Rattle.book.specs.Book.{rule_in, rule_of, book_of}
use Rattle.exchanges.specs.Exchanges.{exchange, Catches}
use Rattle.exchanges.proofs.Smallest.{smallest, smallest-bytes, solvent-there, Evaluated, two-unequal}

record Caught : Type 0 where
  book : Evaluated Running 3
  taken : book_of (smallest Running 3) ≡ ok (record { n = 1; version = 3; model = Nrtl })
  refused : book_of (exchange (smallest Running 3) 1 46) ≡ no 2

caught : Caught
unfolding of_bits lt le eq size word block check_sum running_sum sum_by check_right bytes row_to block_bytes is_finite positive all_to need row_from floats_finite
    version_right head_right model_right model_in solvent_right range_right record_right records_right masses_right cas_new pair_right row_right parameters_finite
    bounds_finite pair_finite alphas_equal head_in pairs_of solvents_of head_of rule_in rule_of book_of exchange
caught = record {
  book = record { passes = record { bytes = smallest-bytes Running 3; says = refl; whole = refl; known = refl; checks = refl; head = refl; count = refl }; one = refl; none = refl };
  taken = refl;
  refused = refl;
}

pub running_catches : Catches 3
running_catches = record {
  book = smallest Running 3;
  j = 1;
  k = 46;
  passes = caught.book.passes;
  taken = (record { n = 1; version = 3; model = Nrtl }, caught.taken);
  there = solvent-there Running 3;
  among = omega arith;
  unequal = two-unequal Running 3 caught.book;
  refused = caught.refused;
}
