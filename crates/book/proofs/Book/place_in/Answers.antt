-- `book::Book::place_in` meets its contract. Assumes nothing.
use Rattle.std.proofs.Common.{◌≡◌, ℕ, ◌+◌, ◌-◌, ◌<◌, Bool, not, eqb, List, length, get_or, take, drop, [], ◌∙◌, arith, rules, ap}
use borrow.Author.Tests.{tests}
use Rattle.std.specs.List.{list_all}
use Rattle.blocks.specs.Words.{word}
use Rattle.book.specs.Book.{solvent_right, records_right, pair_finite, alphas_equal}
use Rattle.book.specs.Places.{words_in}
use Rattle.book.specs.Place.{lowest, first_pair, block_behind, solvents_at, place_in}
use Rattle.book.proofs.Blocks.{one_item, solvents, how_many, solvent_at, pairs, pairs_count, pair_at}
use Rattle.book.proofs.Places.{pair_cong}
use Rattle.book.proofs.Book.place_in.Goals as goal
use Rattle.book.proofs.Book.place_in.Goals.{After-first_twice}

pub returns-in-SolventBlock : goal.returns-in-SolventBlock
unfolding place_in
returns-in-SolventBlock c =
    let s = c.args.self.blocks.now in
    let n = c.args.self.head.n in
    let test : (k : ℕ) (b : Bool) → b ≡ solvent_right (word (get_or (solvents s n) k [])) k → k < n → b ≡ solvent_right (words_in s (k + 1)) k =
    λ k b e l. e ∙ ap (λ x. solvent_right (word x) k) (solvent_at s n c.args.self.size k l) in
    let h = c.lowest.ensures.first (λ i. solvent_right (words_in s (i + 1)) i) (λ k b l p. test k b (search (rules, tests)) l) in
    rw c.in-SolventBlock.is (c.block_behind.ensures ∙ ap (block_behind 1) h)

pub returns-in-SolventNumber : goal.returns-in-SolventNumber
unfolding place_in
returns-in-SolventNumber c =
    let s = c.args.self.blocks.now in
    let n = c.args.self.head.n in
    let right : List ℕ → Bool = λ x. records_right (word x) in
    let test : (k : ℕ) (b : Bool) → b ≡ list_all right (take (k + 1 - k) (drop k (solvents s n))) → k < n → b ≡ right (get_or s (k + 1) []) =
    λ k b e l. e ∙ one_item right (solvents s n) [] k (omega (arith, how_many s n c.args.self.size)) ∙ ap right (solvent_at s n c.args.self.size k l) in
    let h = c.lowest-in-SolventNumber.ensures.first (λ i. right (get_or s (i + 1) [])) (λ k b l p. test k b (search (rules, tests)) l) in
    rw c.in-SolventNumber.is (c.block_behind-in-SolventNumber.ensures ∙ ap (block_behind 1) h)

twice : (c : After-first_twice) → c.first_twice.result ≡ first_pair (λ i j. not (eqb (words_in c.args.self.blocks.now (i + 1) 2) (words_in c.args.self.blocks.now (j + 1) 2))) c.args.self.head.n
twice c =
    let s = c.args.self.blocks.now in
    let n = c.args.self.head.n in
    let word_same : (k : ℕ) → k < n → words_in (solvents s n) k 2 ≡ words_in s (k + 1) 2 = λ k l. ap (λ x. word x 2) (solvent_at s n c.args.self.size k l) in
    c.first_twice.ensures ∙ ap (first_pair (λ i j. not (eqb (words_in (solvents s n) i 2) (words_in (solvents s n) j 2)))) (how_many s n c.args.self.size)
    ∙ pair_cong n (λ i j h l. rw (word_same i (omega arith), word_same j l))

pub returns-in-Some : goal.returns-in-Some
unfolding place_in solvents_at
returns-in-Some c = rw (c.in-SolventTwice.is, ← twice (goal.at.returns-in-Some c).After-first_twice, c.in-Some.is)

pub returns-in-None : goal.returns-in-None
unfolding place_in solvents_at
returns-in-None c = rw (c.in-SolventTwice.is, ← twice (goal.at.returns-in-None c).After-first_twice, c.in-None.is)

pub returns-in-PairNumber : goal.returns-in-PairNumber
unfolding place_in
returns-in-PairNumber c =
    let s = c.args.self.blocks.now in
    let n = c.args.self.head.n in
    let finite : List ℕ → Bool = λ x. pair_finite c.args.self.head.model (word x) in
    let test : (k : ℕ) (b : Bool) → b ≡ list_all finite (take (k + 1 - k) (drop k (pairs s n))) → k < length (pairs s n) → b ≡ finite (get_or s (1 + n + k) []) =
    λ k b e l. e ∙ one_item finite (pairs s n) [] k l ∙ ap finite (pair_at s n c.args.self.size k l) in
    let h = c.lowest-in-PairNumber.ensures.first (λ d. finite (get_or s (1 + n + d) [])) (λ k b l p. test k b (search (rules, tests)) l) in
    rw c.in-PairNumber.is (c.block_behind-in-PairNumber.ensures ∙ ap (block_behind (1 + n)) (h ∙ ap (lowest (λ d. finite (get_or s (1 + n + d) []))) (pairs_count s n c.args.self.size)))

pub returns-in-PairAlphas : goal.returns-in-PairAlphas
unfolding place_in
returns-in-PairAlphas c =
    let s = c.args.self.blocks.now in
    let n = c.args.self.head.n in
    let equal : List ℕ → Bool = λ x. alphas_equal c.args.self.head.model (word x) in
    let test : (k : ℕ) (b : Bool) → b ≡ equal (get_or (pairs s n) k []) → k < length (pairs s n) → b ≡ equal (get_or s (1 + n + k) []) =
    λ k b e l. e ∙ ap equal (pair_at s n c.args.self.size k l) in
    let h = c.lowest-in-PairAlphas.ensures.first (λ d. equal (get_or s (1 + n + d) [])) (λ k b l p. test k b (search (rules, tests)) l) in
    rw c.in-PairAlphas.is (c.block_behind-in-PairAlphas.ensures ∙ ap (block_behind (1 + n)) (h ∙ ap (lowest (λ d. equal (get_or s (1 + n + d) []))) (pairs_count s n c.args.self.size)))
