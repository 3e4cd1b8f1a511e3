-- A sentence as C has it. Assumes nothing.
use Rattle.std.specs.Prelude.{ℕ, List, length, Result, Ok, Err, ◌≡◌}
use Rattle.std.proofs.Common.{refl}
use Rattle.floats.specs.Outcome.{Out, ok, no, bind}
use Rattle.outcome.specs.declared.Refusal.{Refusal}
use Rattle.outcome.specs.Refused.{number, outcome_of}
use Rattle.sentences.specs.Sentence.{sentence_number, sentence_length}

module _ (S : Out (List ℕ)) {x : Result ℕ Refusal} (old : ℕ) (e : outcome_of x ≡ bind S (λ bs. ok (length bs))) where
  pub said : {n : ℕ} → x ≡ Ok n → (0 ≡ sentence_number S) × (n ≡ sentence_length S old)
  unfolding bind sentence_number sentence_length
  said {n} q = go S (rw q at e)
    where
      go : (S' : Out (List ℕ)) → ok n ≡ bind S' (λ bs. ok (length bs)) → (0 ≡ sentence_number S') × (n ≡ sentence_length S' old)
      go (ok bs) k = (refl, cc)
      go (no r) k = absurd (cc)

  pub unsaid : {f : Refusal} {n : ℕ} → x ≡ Err f → n ≡ number f → (n ≡ sentence_number S) × (old ≡ sentence_length S old)
  unfolding bind sentence_number sentence_length
  unsaid {f} {n} q k = go S (rw (q, ← k) at e)
    where
      go : (S' : Out (List ℕ)) → no n ≡ bind S' (λ bs. ok (length bs)) → (n ≡ sentence_number S') × (old ≡ sentence_length S' old)
      go (ok bs) h = absurd (cc)
      go (no r) h = (cc, refl)
