-- The laws of sentences: a number and its place are read back from any text that begins with their sentence; each byte is printable. Assumes nothing.
use Rattle.std.proofs.Common.{◌≡◌, ℕ, ◌^◌, ◌<◌, ◌==◌, cond, true, List, [], ◌∷◌, ◌++◌, length, drop, get_or, codes, ap, refl, sym, ◌∙◌, append_assoc, append-nil, arith, le-leb}
use lib.Seq.{drop-append_seam}
use Rattle.std.specs.List.{list_all}
use Rattle.std.specs.Str.Parse.{AllDigits}
use Rattle.std.specs.Fmt.{decimal}
use Rattle.std.proofs.lemmas.Fmt.{decimal_is_IsNumeral}
use Rattle.std.proofs.lemmas.Bool.{and_parts, leb-true}
use Rattle.std.proofs.lemmas.List.Folds.{list_all-append}
use Rattle.std.proofs.lemmas.List.Sums.{AllPass-from_list_all}
use Rattle.std.proofs.lemmas.Str.Parse.{digit_from_value}
use Rattle.book.specs.declared.Place.{Place}
use Rattle.book.specs.declared.Place.TheVariants.{Nowhere, Block, Pair, Offered}
use Rattle.sentences.specs.Sentence.{matter, where_of, sentence_of}
use Rattle.sentences.specs.Laws.{Words, Refused, SentenceApart, SentenceNumber, SentencePrintable}
use Rattle.sentences.proofs.Digits.{number_in, behind_number, number_back, behind_back}
use Rattle.sentences.proofs.Matters.{matter_printable, printable}

spelled : (r : ℕ) (p : Place) (rest : List ℕ) → sentence_of r p ++ rest ≡ decimal r ++ (58 ∷ 32 ∷ (matter r ++ (where_of p ++ (46 ∷ rest))))
unfolding sentence_of
spelled r p rest = simp append_assoc

block_spelled : (k : ℕ) (x : List ℕ) → where_of (Block k) ++ x ≡ codes " (block " ++ (decimal k ++ (41 ∷ x))
unfolding where_of
block_spelled k x = simp append_assoc

pair_spelled : (i j : ℕ) (x : List ℕ) → where_of (Pair i j) ++ x ≡ codes " (solvents " ++ (decimal i ++ (codes " and " ++ (decimal j ++ (41 ∷ x))))
unfolding where_of
pair_spelled i j x = simp append_assoc

-- ---- read back

-- the place, by what stands behind the matter: "." first, or the third byte "b", "s" or "t"
abbrev place_in : List ℕ → Place
place_in l =
    cond (get_or l 0 0 == 46) Nowhere
    (cond (get_or l 2 0 == 98) (Block (number_in (drop 8 l)))
    (cond (get_or l 2 0 == 115) (Pair (number_in (drop 11 l)) (number_in (drop 5 (behind_number (drop 11 l))))) Offered))

place_back : (p : Place) (x : List ℕ) → Words p → place_in (where_of p ++ (46 ∷ x)) ≡ p
unfolding where_of
place_back Nowhere x w = refl
place_back (Block k) x w = ap place_in (block_spelled k (46 ∷ x)) ∙ ap Block (number_back k 41 (46 ∷ x) w refl)
place_back (Pair i j) x w =
    let l = codes " and " ++ (decimal j ++ (41 ∷ 46 ∷ x)) in
    ap place_in (pair_spelled i j (46 ∷ x))
    ∙ ap (λ (m : ℕ). Pair m (number_in (drop 5 (behind_number (decimal i ++ l))))) (number_back i 32 _ w.0 refl)
    ∙ ap (λ (m : List ℕ). Pair i (number_in (drop 5 m))) (behind_back i 32 _ w.0 refl)
    ∙ ap (λ (m : ℕ). Pair i m) (number_back j 41 (46 ∷ x) w.1 refl)
place_back Offered x w = refl

small : {r : ℕ} {p : Place} → Refused r p → r < 2 ^ 64
small {r} {p} h = omega (arith, h.most)

number_read : (r : ℕ) (p : Place) (rest : List ℕ) → Refused r p → number_in (sentence_of r p ++ rest) ≡ r
number_read r p rest h = ap number_in (spelled r p rest) ∙ number_back r 58 _ (small h) refl

-- behind number r, ": " and its matter
abbrev place_behind : ℕ → List ℕ → Place
place_behind r l = place_in (drop (length (matter r)) (drop 2 (behind_number l)))

place_read : (r : ℕ) (p : Place) (rest : List ℕ) → Refused r p → place_behind r (sentence_of r p ++ rest) ≡ p
place_read r p rest h =
    let l = where_of p ++ (46 ∷ rest) in
    ap (place_behind r) (spelled r p rest)
    ∙ ap (λ (m : List ℕ). place_in (drop (length (matter r)) (drop 2 m))) (behind_back r 58 (32 ∷ (matter r ++ l)) (small h) refl)
    ∙ ap place_in (drop-append_seam (matter r) l)
    ∙ place_back p rest h.words

pub sentence_apart : SentenceApart
sentence_apart r s p q rest h g e =
    let t = e ∙ sym (append-nil (sentence_of s q)) in
    let n = sym (number_read r p rest h) ∙ ap number_in t ∙ number_read s q [] g in
    (n, sym (place_read r p rest h) ∙ ap (place_behind r) t ∙ rw n (place_read s q [] g))

pub sentence_number : SentenceNumber
sentence_number r p h = ap number_in (sym (append-nil (sentence_of r p))) ∙ number_read r p [] h

-- ---- printable

digits_printable : (ds : List ℕ) → AllDigits 10 ds → list_all printable ds ≡ true
digits_printable [] h = refl
digits_printable (c ∷ cs) h = let r = digit_from_value c h.0 in rw (le-leb 32 c (omega arith), le-leb c 126 (omega arith), digits_printable cs h.1) refl

number_printable : (n : ℕ) → n < 2 ^ 64 → list_all printable (decimal n) ≡ true
number_printable n h = digits_printable (decimal n) (decimal_is_IsNumeral n h).0.1

place_printable : (p : Place) → Words p → list_all printable (where_of p) ≡ true
unfolding where_of
place_printable Nowhere w = refl
place_printable (Block k) w = rw (list_all-append, list_all-append, number_printable k w) refl
place_printable (Pair i j) w = rw (list_all-append, list_all-append, list_all-append, list_all-append, number_printable i w.0, number_printable j w.1) refl
place_printable Offered w = refl

all_printable : (r : ℕ) (p : Place) → Refused r p → list_all printable (sentence_of r p) ≡ true
unfolding sentence_of
all_printable r p h =
    rw (list_all-append, list_all-append, list_all-append, list_all-append, number_printable r (small h), matter_printable r, place_printable p h.words) refl

pub sentence_printable : SentencePrintable
sentence_printable r p h k d l =
    let b = and_parts _ _ (AllPass-from_list_all printable (sentence_of r p) (all_printable r p h) k d l) in
    (leb-true 32 _ b.0, leb-true _ 126 b.1)
