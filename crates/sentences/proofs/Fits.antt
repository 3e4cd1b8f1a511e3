-- A sentence fits 160 bytes. Assumes nothing.
use Rattle.std.proofs.Common.{◌≡◌, ℕ, ◌+◌, ◌^◌, ◌<◌, ◌≤◌, Bool, true, false, T, ◌==◌, length, refl, arith, length-append}
use Rattle.std.specs.Fmt.{decimal}
use Rattle.std.proofs.lemmas.Fmt.{length-decimal-le}
use Rattle.std.proofs.lemmas.Bool.{eqb-true}
use Rattle.book.specs.declared.Place.{Place}
use Rattle.book.specs.declared.Place.TheVariants.{Nowhere, Block, Pair, Offered}
use Rattle.book.specs.Place.{can_have}
use Rattle.sentences.specs.Sentence.{matter, where_of, sentence_of}
use Rattle.sentences.specs.Laws.{Words, Refused, SentenceFits}
use Rattle.sentences.proofs.Matters.{matter_short, matter_twice}

pub sentence_length : (r : ℕ) (p : Place) → length (sentence_of r p) ≡ length (decimal r) + 2 + length (matter r) + length (where_of p) + 1
unfolding sentence_of
sentence_length r p = rw (length-append, length-append, length-append, length-append) refl

number_short : (r : ℕ) → r ≤ 39 → length (decimal r) ≤ 2
number_short r h = length-decimal-le 2 r (omega arith) (omega arith) (omega arith)

word_short : (k : ℕ) → k < 2 ^ 64 → length (decimal k) ≤ 20
word_short k h = length-decimal-le 20 k (omega arith) (omega arith) h

pub where_block : (k : ℕ) → length (where_of (Block k)) ≡ 8 + length (decimal k) + 1
unfolding where_of
where_block k = rw (length-append, length-append) refl

pub where_pair : (i j : ℕ) → length (where_of (Pair i j)) ≡ 11 + length (decimal i) + 5 + length (decimal j) + 1
unfolding where_of
where_pair i j = rw (length-append, length-append, length-append, length-append) refl

where_nowhere : length (where_of Nowhere) ≡ 0
unfolding where_of
where_nowhere = refl

where_offered : length (where_of Offered) ≡ 20
unfolding where_of
where_offered = refl

holds : (b : Bool) → T b → b ≡ true
holds true h = refl
holds false h = absurd h

is_twice : (r i j : ℕ) → T (can_have r (Pair i j)) → r ≡ 6
unfolding can_have
is_twice r i j h = eqb-true r 6 (holds (r == 6) h)

both_short : (r : ℕ) (p : Place) → T (can_have r p) → Words p → length (matter r) + length (where_of p) ≤ 138
both_short r Nowhere h w = omega (arith, matter_short r, where_nowhere)
both_short r (Block k) h w = omega (arith, matter_short r, where_block k, word_short k w)
both_short r (Pair i j) h w =
    let m : length (matter r) ≡ 44 = rw (is_twice r i j h) matter_twice in
    omega (arith, where_pair i j, word_short i w.0, word_short j w.1)
both_short r Offered h w = omega (arith, matter_short r, where_offered)

pub parts_fit : {r : ℕ} {p : Place} → Refused r p → length (decimal r) + 2 + length (matter r) + length (where_of p) + 1 ≤ 160
parts_fit {r} {p} h = omega (arith, number_short r h.most, both_short r p h.can h.words)

pub sentence_fits : SentenceFits
sentence_fits r p h = rw (sentence_length r p) (parts_fit h)
