-- A book's own pairs as a source: the places of their blocks, and that what it gives is what the flat parameters have. Assumes nothing.
use mathlib.Core.Path.{◌≡◌, refl, sym, ap, ◌∙◌}
use mathlib.Core.List.{List, []}
use mathlib.Core.Bool.{Bool, true, false}
use Prim.Native.Nat.{ℕ, ◌+◌, ◌-◌, ◌*◌, ◌/◌, ◌≤◌, ◌<◌}
use native.Mathlib.Nat.{add-zero}
use native.Mathlib.Omega.{arith}
use borrow.Author.Tests.{lt-ltb, le-ltb, ltb-true, ltb-false}
use lib.Dec.{ltb}
use lib.Ieee.{Float, nan}
use lib.ListN.{get_or}
use Rattle.blocks.specs.Words.{word}
use Rattle.book.specs.declared.Model.{Model}
use Rattle.book.specs.Places.{words, words_in, pair_place, block_count}
use Rattle.book.specs.Book.{model_of}
use Rattle.book.proofs.Laws.{place-within}
use Rattle.jet.specs.Lanes.{Lists}
use Rattle.records.specs.declared.Terms.{Terms}
use Rattle.records.specs.Parameters.{parameter, pair_term, lower_from, terms_of, parameters_of}
use Rattle.records.specs.Sources.{six_in, six_by, Reads}
use Rattle.records.proofs.Rows.{row_code}
use Rattle.records.proofs.Entries.{parameters-at}

pub place_code : (n i j : ℕ) → n ≤ 8 → i < j → j < n → 1 + n + (i * (2 * n - i) - i) / 2 + (j - i - 1) ≡ pair_place n i j
unfolding pair_place
place_code n i j a h l = rw (row_code n i a (omega arith))

pub whole_long : {m n k : ℕ} (l : ℕ) → m ≡ n → k ≡ m - 1 → 1 + m + m * k / 2 ≤ l → block_count n ≤ l
whole_long l e q h = rw (q, e) at h

-- ---- what is read for a pair
module _ (m : Model) (blocks : List (List ℕ)) (n i j : ℕ) {s : List ℕ} {t : Terms} {r : List Float} (h : i < j) (e : s ≡ get_or blocks (pair_place n i j) []) where
  pub upper_six : t ≡ terms_of (pair_term m (word s) 3) → r ≡ six_in t → r ≡ six_by m blocks n i j
  unfolding six_by six_in terms_of parameter
  upper_six p q = rw (q, p, e, lt-ltb i j h)

  pub lower_six : t ≡ terms_of (pair_term m (word s) (lower_from m)) → r ≡ six_in t → r ≡ six_by m blocks n j i
  unfolding six_by six_in terms_of parameter
  lower_six p q = let k : i ≤ j = omega arith in rw (q, p, e, le-ltb j i k, lt-ltb i j h)

-- ---- the flat parameters
module _ (m : Model) (blocks : List (List ℕ)) (book : List ℕ) (n : ℕ) (n8 : n ≤ 8) (reads : Reads blocks n book n) where
  parameter-same : (i j k : ℕ) → i < n → j < n → (i ≡ j → ⊥) → parameter m (words_in blocks) n i j k ≡ parameter m (words book) n i j k
  unfolding parameter
  parameter-same i j k h l d = pick (ltb i j) refl
    where
      pick : (b : Bool) → ltb i j ≡ b → parameter m (words_in blocks) n i j k ≡ parameter m (words book) n i j k
      pick true e = rw (e, reads.same (pair_place n i j) (place-within n i j n8 (ltb-true i j e) l))
      pick false e =
          let q : j < i = omega (arith, ltb-false i j e, d) in
          rw (e, lt-ltb j i q, reads.same (pair_place n j i) (place-within n j i n8 q h))

  pub pairs_listed : model_of book ≡ m → Lists (six_by m blocks n) n (parameters_of book n)
  unfolding six_by six_in terms_of
  pairs_listed e i j h l d =
      let p = λ (k : ℕ) (q : k < 6). parameter-same i j k h l d ∙ ap (λ (m : Model). parameter m (words book) n i j k) (sym e) ∙ sym (parameters-at book n nan i j k n8 h l q) in
      rw (p 0 (omega arith), p 1 (omega arith), p 2 (omega arith), p 3 (omega arith), p 4 (omega arith), p 5 (omega arith), add-zero)
