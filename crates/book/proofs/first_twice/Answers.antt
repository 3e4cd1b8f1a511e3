-- `book::first_twice` meets its contract. Assumes nothing.
use Rattle.std.proofs.Common.{◌≡◌, ℕ, ◌+◌, ◌-◌, ◌<◌, Bool, not, eqb, List, length, get_or, take, drop, [], sym, refl, ◌∙◌, arith, rules, ap}
use Rattle.floats.specs.Fold.{all_to}
use Rattle.book.specs.Places.{words_in}
use Rattle.book.specs.Place.{lowest, first_behind}
use borrow.Author.Tests.{tests}
use Rattle.blocks.specs.Words.{word}
use Rattle.book.proofs.Places.{part_at, rest_length, pair_first, pair_none, row_passes}
use Rattle.book.proofs.first_twice.Goals as goal
use Rattle.book.proofs.first_twice.Goals.{After-lowest}

abbrev differ : List (List ℕ) → ℕ → ℕ → Bool
differ solvents i j = not (eqb (words_in solvents i 2) (words_in solvents j 2))

pub loop-i-init : goal.loop-i-init
unfolding all_to
loop-i-init c = refl

found : (c : After-lowest) → c.lowest.result ≡ first_behind (differ c.args.solvents.now) (length c.args.solvents.now) c.loop-i.i
found c =
    let s = c.args.solvents.now in
    let i = c.loop-i.i in
    let count = length s - (i + 1) in
    let rest = take count (drop (i + 1) s) in
    let differs : (k : ℕ) (b : Bool) → b ≡ not (eqb c.word-own.result (word (get_or rest k []) 2)) → k < length rest → b ≡ differ s i (i + 1 + k) =
    λ k b e l. e ∙ rw (c.word-own.ensures, part_at s count (i + 1) k [] l) in
    let e : length rest ≡ length s - i - 1 = omega (arith, rest_length s (i + 1)) in
    c.lowest.ensures.first (λ d. differ s i (i + 1 + d)) (λ k b l p. differs k b (search (rules, tests)) l) ∙ ap (lowest (λ d. differ s i (i + 1 + d))) e

pub returns-in-Some : goal.returns-in-Some
returns-in-Some c =
    sym (pair_first (differ c.args.solvents.now) _ c.loop-i.i c.in-Some.d c.loop-i-test.true c.loop-i.invariant (sym (found (goal.at.returns-in-Some c).After-lowest) ∙ c.in-Some.is))

pub loop-i-preserved : goal.loop-i-preserved
loop-i-preserved c = row_passes (differ c.args.solvents.now) _ c.loop-i.i c.loop-i.invariant (sym (found (goal.at.loop-i-preserved c).After-lowest) ∙ c.in_default.is)

pub returns : goal.returns
returns c = let e : c.loop-i.i ≡ length c.args.solvents.now = omega arith in sym (pair_none (differ c.args.solvents.now) _ (rw e at c.loop-i.invariant))
