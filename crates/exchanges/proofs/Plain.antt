-- With plain sums, in versions 1 and 2, the law of exchanged words is false: the smallest book, with two unread words exchanged, is accepted. Assumes nothing.
use Prim.Native.Nat.{ℕ}
use mathlib.Core.Path.{◌≡◌, refl, sym, ◌∙◌}
use native.Mathlib.Omega.{arith}
use lib.Ieee.{of_bits, lt, le, eq, size}
use Rattle.floats.specs.Small.{is_finite, positive}
use Rattle.floats.specs.Fold.{all_to}
use Rattle.floats.specs.Outcome.{ok, need}
use Rattle.floats.proofs.Outcomes.{refused}
use Rattle.blocks.specs.declared.Rule.TheVariants.{Plain}
use Rattle.blocks.specs.Words.{word, block, check_sum, sum_by, check_right}
use Rattle.blocks.specs.Bytes.{bytes, row_to, block_bytes}
use Rattle.book.specs.declared.Model.TheVariants.{Nrtl}
use Rattle.book.specs.Places.{row_from}
use Rattle.book.specs.Book.{floats_finite, version_right, head_right, model_right, model_in, solvent_right, range_right, record_right, records_right, masses_right}
use Rattle.book.specs.Book.{cas_new, pair_right, row_right, parameters_finite, bounds_finite, pair_finite, alphas_equal, head_in, pairs_of, solvents_of, head_of}
use Rattle.book.specs.Book.{rule_in, rule_of, book_of}
use Rattle.exchanges.specs.Exchanges.{exchange, Exchanges}
use Rattle.exchanges.proofs.Smallest.{smallest, smallest-bytes, solvent-there, Evaluated, two-unequal}

record Missed (version : ℕ) : Type 0 where
  book : Evaluated Plain version
  taken : book_of (exchange (smallest Plain version) 1 46) ≡ ok (record { n = 1; version = version; model = Nrtl })

missed_1 : Missed 1
unfolding of_bits lt le eq size word block check_sum sum_by check_right bytes row_to block_bytes is_finite positive all_to need row_from floats_finite version_right
    head_right model_right model_in solvent_right range_right record_right records_right masses_right cas_new pair_right row_right parameters_finite bounds_finite pair_finite
    alphas_equal head_in pairs_of solvents_of head_of rule_in rule_of book_of exchange
missed_1 = record {
  book = record { passes = record { bytes = smallest-bytes Plain 1; says = refl; whole = refl; known = refl; checks = refl; head = refl; count = refl }; one = refl; none = refl };
  taken = refl;
}

missed_2 : Missed 2
unfolding of_bits lt le eq size word block check_sum sum_by check_right bytes row_to block_bytes is_finite positive all_to need row_from floats_finite version_right
    head_right model_right model_in solvent_right range_right record_right records_right masses_right cas_new pair_right row_right parameters_finite bounds_finite pair_finite
    alphas_equal head_in pairs_of solvents_of head_of rule_in rule_of book_of exchange
missed_2 = record {
  book = record { passes = record { bytes = smallest-bytes Plain 2; says = refl; whole = refl; known = refl; checks = refl; head = refl; count = refl }; one = refl; none = refl };
  taken = refl;
}

misses : (version : ℕ) → Missed version → Exchanges version → ⊥
misses version m law =
    let r = law (smallest Plain version) 1 46 m.book.passes (solvent-there Plain version) (omega arith) (two-unequal Plain version m.book) in
    refused (sym r.1 ∙ m.taken)

-- neither version 1 nor version 2
pub plain-misses : (Exchanges 1 → ⊥) × (Exchanges 2 → ⊥)
plain-misses = (misses 1 missed_1, misses 2 missed_2)
