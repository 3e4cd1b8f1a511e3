-- A refusal's sentence is written whole: its number is one of 1 to 39, and its place in the book one that the number can have. Assumes nothing.
use lib.ListN.{length-append}
use lib.Seq.{take_at}
use Rattle.std.specs.Prelude.{ℕ, true, ◌&&◌, nat_le, List, ◌≡◌, Result, Ok, Err, ◌++◌, length, drop}
use Rattle.std.proofs.Common.{sym, ◌∙◌, arith}
use Rattle.floats.specs.Outcome.{Out, ok, no, bind, need}
use Rattle.outcome.specs.declared.Refusal.{Refusal}
use Rattle.outcome.specs.Refused.{number, outcome_of}
use Rattle.book.specs.Place.{place_of}
use Rattle.places.proofs.Fits.{place-fits}
use Rattle.sentences.specs.Sentence.{sentence_of, sentence_to, sentence_written}
use Rattle.still.specs.Sent.{Reasoned}

numbered : (e : Refusal) → (nat_le 1 (number e) && nat_le (number e) 39) ≡ true
numbered e = grind arith

abbrev pub reason : Refusal → List ℕ → List ℕ
reason e s = sentence_of (number e) (place_of s (number e))

abbrev pub asked : Refusal → List ℕ → ℕ → Out (List ℕ)
asked e s room = sentence_to (number e) (place_of s (number e)) room

asked-is : (e : Refusal) (s : List ℕ) → asked e s 160 ≡ ok (reason e s)
unfolding sentence_to need
asked-is e s = rw (numbered e, (place-fits s (number e)).0)

-- bytes written, as the sentence of `o` is
written_as : (o : Out (List ℕ)) (bs : List ℕ) {x : Result ℕ Refusal} {n : ℕ} (old : List ℕ) {new : List ℕ} → o ≡ ok bs → outcome_of x ≡ bind o (λ b. ok (length b)) → x ≡ Ok n → new ≡ sentence_written o old
    → (n ≡ length bs) × (new ≡ bs ++ drop (length bs) old)
unfolding bind sentence_written
written_as o bs {n = n} old q h k w =
    let c : ok n ≡ ok (length bs) = rw (k, q) at h in
    (cc, w ∙ rw q)

never_as : (o : Out (List ℕ)) (bs : List ℕ) {x : Result ℕ Refusal} {f : Refusal} → o ≡ ok bs → outcome_of x ≡ bind o (λ b. ok (length b)) → x ≡ Err f → ⊥
unfolding bind
never_as o bs {f = f} q h k =
    let c : no (number f) ≡ ok (length bs) = rw (k, q) at h in
    absurd (cc)

module _ (e : Refusal) (s old : List ℕ) (l : length old ≡ 160) {x : Result ℕ Refusal} (h : outcome_of x ≡ bind (asked e s (length old)) (λ bs. ok (length bs))) where
  pub written_so : {n : ℕ} {new : List ℕ} → x ≡ Ok n → new ≡ sentence_written (asked e s (length old)) old → Reasoned s (number e) n new
  written_so {n} {new} q w =
      let bs = reason e s in
      let k = written_as (asked e s 160) bs old (asked-is e s) (rw l at h) q (rw l at w) in
      record { fits = rw (k.1, k.0, length-append) (omega arith); front = rw k.1 (take_at bs (drop (length bs) old) n (sym k.0)) }

  pub never_refused : {f : Refusal} → x ≡ Err f → ⊥
  never_refused q = never_as (asked e s 160) (reason e s) (asked-is e s) (rw l at h) q
