-- Laws of the searches for the first that says no, and the place as the code asks for it. Assumes nothing.
use Rattle.std.proofs.Common.{◌≡◌, ℕ, zero, suc, ◌+◌, ◌-◌, ◌/◌, ◌<◌, ◌==◌, Bool, true, false, cond, List, length, get_or, take, drop, [], Option, Some, None, length-take, length-drop, get_or-take, get_or-drop, sym, refl, ap, ◌∙◌, true≢false, arith}
use mathlib.Core.Logic.{◌⊎◌, inl, inr, ⊎_elim}
use native.Mathlib.Nat.{eq-or-lt_of_le}
use Rattle.floats.specs.Fold.{all_to}
use Rattle.floats.proofs.Folds.{all_turn, all_fails, all_at, all_cong}
use Rattle.floats.proofs.Chains.{all_each}
use mathlib.Core.Path.{fun_ext}
use Rattle.std.specs.Prelude.{is_none, option_and_then, option_map, Result, Ok, Err}
use Rattle.std.specs.Result.{is_err}
use Rattle.blocks.specs.Words.{word, check_right}
use Rattle.outcome.specs.declared.Refusal.{Refusal}
use Rattle.outcome.specs.declared.Refusal.TheVariants.{BookLength, BookCheck, PairBlock, PairNumber, PairAlphas}
use Rattle.outcome.specs.Refused.{number, outcome_of}
use Rattle.floats.specs.Outcome.{need}
use Rattle.floats.proofs.Outcomes.{need_both}
use Rattle.book.specs.Places.{row_from, pair_place, words_in, block_count, Whole}
use Rattle.book.specs.Book.{head_right, model_right, head_in, solvents_of, head_of, rule_in, whole_blocks, book_of}
use Rattle.book.specs.declared.Head.{Head}
use Rattle.book.specs.declared.Place.TheVariants.{Nowhere, Offered}
use Rattle.book.proofs.Laws.{whole_sized}
use Rattle.book.proofs.Blocks.{words_whole, rule_whole}
use Rattle.book.specs.Place.{lowest, first_behind, first_pair, block_behind, place_in, shaped_by, place_of, put_to_offered, place_past, preview_place}

-- ---- the lowest index of which a test is false
pub lowest_at : (q : ℕ → Bool) (k n : ℕ) → k < n → all_to q k ≡ true → q k ≡ false → lowest q n ≡ Some k
unfolding lowest
lowest_at q k zero l a e = absurd (omega arith)
lowest_at q k (suc n) l a e =
    ⊎_elim (λ h. let i : k ≡ n = omega arith in rw (← i, a, e)) (λ h. let i : k < n = omega arith in rw (all_fails q k n i e, lowest_at q k n i a e)) (eq-or-lt_of_le l)

pub lowest_none : (q : ℕ → Bool) (n : ℕ) → all_to q n ≡ true → lowest q n ≡ None
unfolding lowest
lowest_none q zero a = refl
lowest_none q (suc n) a =
    let e : all_to q n ≡ true = all_each q n (λ k l. all_at q (suc n) k (omega arith) a) in
    let f : q n ≡ true = all_at q (suc n) n (omega arith) a in
    rw (e, f)

pub lowest_cong : {p q : ℕ → Bool} (n : ℕ) → ((k : ℕ) → k < n → p k ≡ q k) → lowest p n ≡ lowest q n
unfolding lowest
lowest_cong zero e = refl
lowest_cong {p} {q} (suc n) e = rw (all_cong n (λ k l. e k (omega arith)), e n (omega arith), lowest_cong n (λ k l. e k (omega arith)))

-- ---- the first pair of which a test is false

-- none of the rows before i has one
abbrev pub RowsPass : (ℕ → ℕ → Bool) → ℕ → ℕ → Type 0
RowsPass q n i = all_to (λ k. is_none (first_behind q n k)) i ≡ true

pub pair_first : (q : ℕ → ℕ → Bool) (n i d : ℕ) → i < n → RowsPass q n i → first_behind q n i ≡ Some d → first_pair q n ≡ Some (i, i + 1 + d)
unfolding first_pair
pair_first q n i d l a h =
    let e : is_none (first_behind q n i) ≡ false = rw h refl in
    rw (lowest_at (λ k. is_none (first_behind q n k)) i n l a e, h)

pub pair_none : (q : ℕ → ℕ → Bool) (n : ℕ) → RowsPass q n n → first_pair q n ≡ None
unfolding first_pair
pair_none q n a = rw (lowest_none (λ k. is_none (first_behind q n k)) n a)

pub row_passes : (q : ℕ → ℕ → Bool) (n i : ℕ) → RowsPass q n i → first_behind q n i ≡ None → RowsPass q n (i + 1)
row_passes q n i a h = all_turn (λ k. is_none (first_behind q n k)) i a (rw h refl)

pub pair_cong : {p q : ℕ → ℕ → Bool} (n : ℕ) → ((i j : ℕ) → i < j → j < n → p i j ≡ q i j) → first_pair p n ≡ first_pair q n
unfolding first_pair
pair_cong {p} {q} n e =
    let rows : first_behind p n ≡ first_behind q n = fun_ext (λ i. lowest_cong (n - i - 1) (λ d l. e i (i + 1 + d) (omega arith) (omega arith))) in
    ap (λ (g : ℕ → Option ℕ). option_and_then (λ i. option_map (λ d. (i, i + 1 + d)) (g i)) (lowest (λ i. is_none (g i)) n)) rows

-- an item of a part
pub part_at : {A : Type 0} (xs : List A) (count from k : ℕ) (d : A) → k < length (take count (drop from xs)) → get_or (take count (drop from xs)) k d ≡ get_or xs (from + k) d
part_at xs count from k d l =
    let h : k < count = omega (arith, length-take count (drop from xs)) in
    get_or-take count (drop from xs) k d h ∙ get_or-drop from xs k d

pub rest_length : {A : Type 0} (xs : List A) (from : ℕ) → length (take (length xs - from) (drop from xs)) ≡ length xs - from
rest_length xs from = simp (length-take, length-drop) (omega arith)

-- ---- the row of pairs (i, i + 1), (i, i + 2) and on, at the front of what is left
pub place_on : (n i d : ℕ) → pair_place n i (i + 1 + d) ≡ row_from n i + d
unfolding pair_place
place_on n i d = omega arith

pub row_pair : (book : List (List ℕ)) (n i : ℕ) {rest row : List (List ℕ)} → rest ≡ drop (row_from n i) book → row ≡ take (n - i - 1) rest
    → (k : ℕ) → k < length row → words_in row k ≡ words_in book (pair_place n i (i + 1 + k))
row_pair book n i r w k l = let m = rw (w, r) at l in rw (w, r, place_on n i k) (ap word (part_at book (n - i - 1) (row_from n i) k [] m))

-- ---- question 3 and those behind it
pub head_shaped : (w : ℕ → ℕ → ℕ) (count : ℕ) → head_of w count ≡ need (shaped_by (w 0) count) 3 (need (model_right (w 0)) 37 (solvents_of w (head_in (w 0))))
unfolding head_of
head_shaped w count = need_both (head_right (w 0)) (count == block_count (w 0 2)) 3 (need (model_right (w 0)) 37 (solvents_of w (head_in (w 0))))

-- ---- a book's bytes
pub place_asked : {s : List ℕ} {blocks : List (List ℕ)} (r : ℕ) → Whole s blocks
    → place_of s r
    ≡ cond (r == 2) (block_behind 0 (lowest (λ k. check_right (rule_in (words_in blocks 0)) (words_in blocks k)) (length blocks)))
    (cond (shaped_by (words_in blocks 0) (length blocks)) (place_in (words_in blocks) (head_in (words_in blocks 0)) r) Nowhere)
unfolding place_of
place_asked {s} {blocks} r w =
    let z = w.size in
    let d : length s / 512 ≡ length blocks = omega arith in
    let rule = rule_in (words_in blocks 0) in
    rw (whole_sized s (length blocks) w.some w.size, rule_whole w, d)
    (ap (λ (u : ℕ → ℕ → ℕ). cond (r == 2) (block_behind 0 (lowest (λ k. check_right rule (u k)) (length blocks)))
    (cond (shaped_by (u 0) (length blocks)) (place_in u (head_in (u 0)) r) Nowhere)) (sym (words_whole w)))

pub no_place : (s : List ℕ) (r : ℕ) → whole_blocks s ≡ false → place_of s r ≡ Nowhere
unfolding place_of
no_place s r e = rw e

-- only a wrong check is 2
pub not_two : (r : Refusal) → (r ≡ BookCheck → ⊥) → (number r == 2) ≡ false
not_two BookCheck h = absurd (h refl)
not_two r h = refl

-- ---- a preview
pub past_refused : (s : List ℕ) (r : ℕ) (o : Result Head Refusal) → outcome_of o ≡ book_of s → true ≡ is_err o → preview_place s r ≡ place_of s r
unfolding place_past
past_refused s r (Ok h) e f = absurd (true≢false f)
past_refused s r (Err q) e f = rw (← e)

pub past_accepted : (s : List ℕ) (r : ℕ) (o : Result Head Refusal) → outcome_of o ≡ book_of s → false ≡ is_err o → preview_place s r ≡ cond (put_to_offered r) Offered Nowhere
unfolding place_past
past_accepted s r (Ok h) e f = rw (← e)
past_accepted s r (Err q) e f = absurd (true≢false (sym f))

pub offered_number : (r : Refusal) → (r ≡ BookLength) ⊎ ((r ≡ BookCheck) ⊎ ((r ≡ PairBlock) ⊎ ((r ≡ PairNumber) ⊎ (r ≡ PairAlphas)))) → put_to_offered (number r) ≡ true
offered_number r (inl e) = rw e
offered_number r (inr (inl e)) = rw e
offered_number r (inr (inr (inl e))) = rw e
offered_number r (inr (inr (inr (inl e)))) = rw e
offered_number r (inr (inr (inr (inr e)))) = rw e

pub other_number : (r : Refusal) → (r ≡ BookLength → ⊥) → (r ≡ BookCheck → ⊥) → (r ≡ PairBlock → ⊥) → (r ≡ PairNumber → ⊥) → (r ≡ PairAlphas → ⊥) → put_to_offered (number r) ≡ false
other_number BookLength a b c d e = absurd (a refl)
other_number BookCheck a b c d e = absurd (b refl)
other_number PairBlock a b c d e = absurd (c refl)
other_number PairNumber a b c d e = absurd (d refl)
other_number PairAlphas a b c d e = absurd (e refl)
other_number r a b c d e = refl
