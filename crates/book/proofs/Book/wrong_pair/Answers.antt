-- `book::Book::wrong_pair` meets its contract. Assumes nothing.
use Rattle.std.proofs.Common.{◌≡◌, ℕ, ◌+◌, ◌-◌, ◌<◌, Bool, List, length, sym, refl, ◌∙◌, arith, rules, ap, length-drop, drop-drop}
use borrow.Author.Tests.{tests}
use Rattle.book.specs.Book.{pair_right}
use Rattle.book.specs.Places.{row_from, pair_place, words_in}
use Rattle.book.specs.Place.{lowest, first_behind, block_behind, pair_at}
use Rattle.book.proofs.Laws.{row_ends, row_next}
use Rattle.book.proofs.Places.{row_pair, place_on, pair_first, pair_none, row_passes}
use Rattle.book.proofs.Book.wrong_pair.Goals as goal
use Rattle.book.proofs.Book.wrong_pair.Goals.{After-lowest-found}

abbrev right : List (List ℕ) → ℕ → ℕ → ℕ → Bool
right blocks n i j = pair_right (words_in blocks (pair_place n i j)) i j

pub split_at-requires : goal.split_at-requires
split_at-requires c = omega (arith, row_ends c.args.self.head.n c.loop-i.i c.args.self.few c.loop-i-test.true refl, c.args.self.size, ap length c.loop-i.invariant.1 ∙ length-drop (row_from c.args.self.head.n c.loop-i.i) _)

found : (c : After-lowest-found) → c.lowest-found.result ≡ first_behind (right c.args.self.blocks.now c.args.self.head.n) c.args.self.head.n c.loop-i.i
found c =
    let s = c.args.self.blocks.now in
    let n = c.args.self.head.n in
    let i = c.loop-i.i in
    let row = c.split_at.result.0.now in
    let test : (k : ℕ) (b : Bool) → b ≡ pair_right (words_in row k) i (i + 1 + k) → k < length row → b ≡ right s n i (i + 1 + k) =
    λ k b e l. e ∙ ap (λ w. pair_right w i (i + 1 + k)) (row_pair s n i c.loop-i.invariant.1 c.split_at.ensures.front k l) in
    let e : length row ≡ n - i - 1 = omega arith in
    c.lowest-found.ensures.first (λ d. right s n i (i + 1 + d)) (λ k b l p. test k b (search (rules, tests)) l) ∙ ap (lowest (λ d. right s n i (i + 1 + d))) e

pub returns-in-Some : goal.returns-in-Some
unfolding block_behind pair_at
returns-in-Some c =
    let s = c.args.self.blocks.now in
    let n = c.args.self.head.n in
    let i = c.loop-i.i in
    let e = pair_first (right s n) n i c.in-Some.d c.loop-i-test.true c.loop-i.invariant.0 (sym (found (goal.at.returns-in-Some c).After-lowest-found) ∙ c.in-Some.is) in
    let from = row_from n i in
    let left = ap length c.loop-i.invariant.1 ∙ length-drop from s in
    let f : 0 + (length s - length c.loop-i.pairs.now + c.in-Some.d) ≡ pair_place n i (i + 1 + c.in-Some.d) =
    omega (arith, left, row_ends n i c.args.self.few c.loop-i-test.true refl, c.args.self.size, place_on n i c.in-Some.d) in
    rw (e, f)

pub loop-i-preserved : goal.loop-i-preserved
loop-i-preserved c = (
  row_passes (right c.args.self.blocks.now c.args.self.head.n) c.args.self.head.n c.loop-i.i c.loop-i.invariant.0 (sym (found (goal.at.loop-i-preserved c).After-lowest-found) ∙ c.in_default.is),
  c.split_at.ensures.back ∙ rw (c.loop-i.invariant.1, row_next) (drop-drop (c.args.self.head.n - c.loop-i.i - 1) _ _),
)

pub returns : goal.returns
unfolding block_behind pair_at
returns c =
    let e : c.loop-i.i ≡ c.args.self.head.n = omega arith in
    rw (pair_none (right c.args.self.blocks.now c.args.self.head.n) _ (rw e at c.loop-i.invariant.0))
