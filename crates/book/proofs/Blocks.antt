-- A book as a slice of blocks: tests of every block of a part, and the questions put to the parts. Assumes nothing.
use Rattle.std.proofs.Common.{◌≡◌, ℕ, zero, suc, ◌+◌, ◌-◌, ◌*◌, ◌/◌, ◌%◌, ◌<◌, ◌≤◌, Bool, not, ◌&&◌, ◌||◌, eqb, List, [], ◌∷◌, length, get_or, take, drop, refl, sym, ap, ◌∙◌, arith, length-take, length-drop, get_or-take, get_or-drop, take_all, ltb, true, false, ltb-true, ltb-false, lt-ltb, eq-eqb}
use mathlib.Core.Path.{fun_ext}
use lib.ListN.{get_or-eq_default}
use Rattle.std.specs.List.{list_all}
use Rattle.std.specs.Simd.{first_chunks}
use Rattle.std.proofs.lemmas.List.Folds.{list_all_more}
use Rattle.blocks.specs.declared.Rule.{Rule}
use Rattle.blocks.specs.Words.{word, block, check_right}
use Rattle.blocks.proofs.Laws.{block-whole, block_none}
use Rattle.floats.specs.Small.{positive, float}
use Rattle.floats.specs.Fold.{all_to}
use Rattle.floats.specs.Outcome.{Out, ok, need}
use Rattle.floats.proofs.Folds.{all_cong}
use Rattle.book.specs.declared.Head.{Head}
use Rattle.book.specs.Places.{words, words_in, Whole, pair_count, block_count}
use Rattle.book.specs.Book.{version_right, solvent_right, records_right, has_masses, masses_right, cas_new, pair_right, row_right, pair_finite, alphas_equal}
use Rattle.book.specs.Book.{pairs_of, solvents_of, head_of, rule_in, rule_of, book_of, offered_right, offered_of}
use Rattle.book.proofs.Laws.{whole_sized}

-- ---- tests of every block
first_items : {X : Type 0} (p : X → Bool) (xs : List X) (d : X) (k : ℕ) → k ≤ length xs → list_all p (take k xs) ≡ all_to (λ i. p (get_or xs i d)) k
unfolding all_to
first_items p xs d zero h = refl
first_items p xs d (suc k) h =
    let e : suc k ≡ k + 1 = omega arith in
    ap (λ m. list_all p (take m xs)) e ∙ list_all_more p xs k d (omega arith) ∙ ap (λ b. b && p (get_or xs k d)) (first_items p xs d k (omega arith))

pub each_item : {X : Type 0} (p : X → Bool) (xs : List X) (d : X) → list_all p xs ≡ all_to (λ i. p (get_or xs i d)) (length xs)
each_item p xs d =
    let m : length xs ≤ length xs = omega arith in
    ap (list_all p) (sym (take_all (length xs) xs m)) ∙ first_items p xs d (length xs) m

-- a part of one
pub one_item : {X : Type 0} (p : X → Bool) (xs : List X) (d : X) (k : ℕ) → k < length xs → list_all p (take (k + 1 - k) (drop k xs)) ≡ p (get_or xs k d)
unfolding all_to
one_item p xs d k h =
    let e : k + 1 - k ≡ 1 = omega arith in
    let f : k + 0 ≡ k = omega arith in
    rw e (first_items p (drop k xs) d 1 (omega (arith, length-drop k xs)) ∙ ap p (get_or-drop k xs 0 d ∙ ap (λ i. get_or xs i d) f))

-- ---- the solvents' blocks
abbrev pub solvents : List (List ℕ) → ℕ → List (List ℕ)
solvents book n = take (1 + n - 1) (drop 1 book)

module _ (book : List (List ℕ)) (n : ℕ) (h : length book ≡ block_count n) where
  pub how_many : length (solvents book n) ≡ n
  how_many = simp (length-take, length-drop) (omega arith)

  pub solvent_at : (i : ℕ) → i < n → get_or (solvents book n) i [] ≡ get_or book (i + 1) []
  solvent_at i l = let e : 1 + i ≡ i + 1 = omega arith in get_or-take (1 + n - 1) (drop 1 book) i [] (omega arith) ∙ get_or-drop 1 book i [] ∙ ap (λ k. get_or book k []) e

  numbered : (p : ℕ → List ℕ → Bool) → all_to (λ i. p i (get_or (solvents book n) i [])) (length (solvents book n)) ≡ all_to (λ i. p i (get_or book (i + 1) [])) n
  numbered p = ap (all_to (λ i. p i (get_or (solvents book n) i []))) how_many ∙ all_cong n (λ i l. ap (p i) (solvent_at i l))

  each_solvent : (p : List ℕ → Bool) → list_all p (solvents book n) ≡ all_to (λ i. p (get_or book (i + 1) [])) n
  each_solvent p = each_item p (solvents book n) [] ∙ numbered (λ _ s. p s)

  distinct : all_to (λ i. list_all (λ s. not (eqb (word s 2) (words_in (solvents book n) i 2))) (take i (solvents book n))) (length (solvents book n)) ≡ all_to (cas_new (words_in book)) n
  unfolding cas_new
  distinct =
      ap (all_to (λ i. list_all (λ s. not (eqb (word s 2) (words_in (solvents book n) i 2))) (take i (solvents book n)))) how_many
      ∙ all_cong n (λ i l. first_items (λ s. not (eqb (word s 2) (words_in (solvents book n) i 2))) (solvents book n) [] i (omega (arith, how_many))
      ∙ all_cong i (λ j m. let e = solvent_at i l in let f = solvent_at j (omega arith) in rw (e, f)))

-- questions 4, 5, 35 and 6 as the code puts them
pub solvents_asked : (book : List (List ℕ)) (h : Head) → length book ≡ block_count h.n
    → solvents_of (words_in book) h
    ≡ need (all_to (λ i. solvent_right (words_in (solvents book h.n) i) i) (length (solvents book h.n))) 4
    (need (list_all (λ b. records_right (word b)) (solvents book h.n)) 5
    (need (not (has_masses h.version) || list_all (λ b. positive (float (word b) 45)) (solvents book h.n)) 35
    (need (all_to (λ i. list_all (λ b. not (eqb (word b 2) (words_in (solvents book h.n) i 2))) (take i (solvents book h.n))) (length (solvents book h.n))) 6
    (pairs_of (words_in book) h))))
unfolding solvents_of masses_right
solvents_asked book h l =
    rw (
      numbered book h.n l (λ i s. solvent_right (word s) i),
      each_solvent book h.n l (λ s. records_right (word s)),
      each_solvent book h.n l (λ s. positive (float (word s) 45)),
      distinct book h.n l,
    )

-- ---- the pairs' blocks
abbrev pub pairs : List (List ℕ) → ℕ → List (List ℕ)
pairs book n = take (length book - (1 + n)) (drop (1 + n) book)

module _ (book : List (List ℕ)) (n : ℕ) (h : length book ≡ block_count n) where
  pub pairs_count : length (pairs book n) ≡ pair_count n
  pairs_count = simp (length-take, length-drop) (omega arith)

  pub pair_at : (d : ℕ) → d < length (pairs book n) → get_or (pairs book n) d [] ≡ get_or book (1 + n + d) []
  pair_at d l = get_or-take (length book - (1 + n)) (drop (1 + n) book) d [] (omega (arith, pairs_count)) ∙ get_or-drop (1 + n) book d []

  pub each_pair : (p : List ℕ → Bool) → list_all p (pairs book n) ≡ all_to (λ d. p (get_or book (1 + n + d) [])) (pair_count n)
  each_pair p = each_item p (pairs book n) [] ∙ ap (all_to (λ d. p (get_or (pairs book n) d []))) pairs_count ∙ all_cong (pair_count n) (λ d l. ap p (pair_at d (rw pairs_count l)))

-- a row of them, at the front of what is left, and what is left behind it
pub row_read : (book : List (List ℕ)) (n i from : ℕ) {rest row : List (List ℕ)} → length book ≡ block_count n → from + (n - i - 1) ≤ block_count n → rest ≡ drop from book → row ≡ take (n - i - 1) rest
    → all_to (λ d. pair_right (words_in row d) i (i + 1 + d)) (length row) ≡ row_right (words_in book) i from (n - i - 1)
unfolding row_right
row_read book n i from {rest} {row} z h r w =
    let count = n - i - 1 in
    let s = take count (drop from book) in
    let e : length s ≡ count = simp (length-take, length-drop) (omega arith) in
    rw (w, r) (ap (all_to (λ d. pair_right (words_in s d) i (i + 1 + d))) e
    ∙ all_cong count (λ d l. ap (λ b. pair_right (word b) i (i + 1 + d)) (get_or-take count (drop from book) d [] l ∙ get_or-drop from book d [])))

-- ---- a book's bytes
pub whole : {s : List ℕ} {blocks : List (List ℕ)} → blocks ≡ first_chunks 512 (length s / 512) s → length blocks ≡ length s / 512 → length s ≡ 512 * length blocks → 0 < length blocks → Whole s blocks
whole {s} {blocks} e m z p = record { some = p; size = z; same = λ j. go j (ltb j (length blocks)) refl }
  where
    go : (j : ℕ) (b : Bool) → ltb j (length blocks) ≡ b → get_or blocks j [] ≡ block s j
    go j true q = rw e (block-whole (length s / 512) s j (omega (arith, m, ltb-true j (length blocks) q)))
    go j false q =
        let l : length blocks ≤ j = ltb-false j (length blocks) q in
        get_or-eq_default blocks [] l ∙ sym (block_none s j (omega (arith, z)))

pub words_whole : {s : List ℕ} {blocks : List (List ℕ)} → Whole s blocks → words_in blocks ≡ words s
words_whole w = fun_ext (λ j. ap word (w.same j))

pub rule_whole : {s : List ℕ} {blocks : List (List ℕ)} → Whole s blocks → rule_of s ≡ rule_in (words_in blocks 0)
unfolding rule_of
rule_whole {s} {blocks} w = rw (whole_sized s (length blocks) w.some w.size, w.same 0)

-- questions 38 and 2, and the others behind them, as the code puts them
pub book_asked : {s : List ℕ} {blocks : List (List ℕ)} → Whole s blocks
    → book_of s
    ≡ need (version_right (words_in blocks 0)) 38
    (need (list_all (λ b. check_right (rule_in (words_in blocks 0)) (word b)) blocks) 2 (head_of (words_in blocks) (length blocks)))
unfolding book_of need
book_asked {s} {blocks} w =
    let z = w.size in
    let f : length s % 512 ≡ 0 = omega arith in
    let p : 0 < length s = omega (arith, w.some) in
    let d : length s / 512 ≡ length blocks = omega arith in
    let rule = rule_in (words_in blocks 0) in
    rw (rule_whole w, eq-eqb (length s % 512) 0 f, lt-ltb 0 (length s) p, d)
    (ap (λ (u : ℕ → ℕ → ℕ). need (version_right (u 0)) 38 (need (all_to (λ k. check_right rule (u k)) (length blocks)) 2 (head_of u (length blocks)))) (sym (words_whole w))
    ∙ ap (λ b. need (version_right (words_in blocks 0)) 38 (need b 2 (head_of (words_in blocks) (length blocks)))) (sym (each_item (λ b. check_right rule (word b)) blocks [])))

-- an offered block as the code asks of it: a row of one
in_one : (a b : Bool) (o : Out Head) → need a 8 (need b 9 o) ≡ need (a && true) 8 (need ((a && b) && true) 9 o)
unfolding need
in_one true true o = refl
in_one true false o = refl
in_one false b o = refl

pub offered_asked : (rule : Rule) (h : Head) {offered s : List ℕ} {pairs : List (List ℕ)} → length offered ≡ 512 → s ≡ offered → pairs ≡ s ∷ []
    → offered_of rule h offered
    ≡ need (check_right rule (word s)) 2
    (need (offered_right h.n (word s)) 7
    (need (list_all (λ b. pair_finite h.model (word b)) pairs) 8
    (need (list_all (λ b. pair_finite h.model (word b) && alphas_equal h.model (word b)) pairs) 9 (ok h))))
unfolding offered_of need
offered_asked rule h {offered} l e p =
    let w = word offered in
    rw (p, e, eq-eqb (length offered) 512 l)
    (ap (λ o. need (check_right rule w) 2 (need (offered_right h.n w) 7 o)) (in_one (pair_finite h.model w) (alphas_equal h.model w) (ok h)))
