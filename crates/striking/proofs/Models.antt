-- The excess state of a book is struck, by either model. Assumes nothing.
use mathlib.Core.Path.{◌≡◌, refl, sym, ap, ◌∙◌}
use Prim.Native.Nat.{ℕ, ◌+◌, ◌≤◌, ◌<◌}
use native.Mathlib.Nat.{le_trans}
use native.Mathlib.Omega.{arith}
use mathlib.Core.Bool.{Bool}
use mathlib.Core.List.{List}
use lib.Dec.{T, ltb, ltb→lt}
use lib.Ieee.{Float, nan}
use Rattle.floats.specs.Small.{float_of}
use Rattle.floats.specs.Vector.{at}
use Rattle.book.specs.declared.Model.{Model}
use Rattle.book.specs.declared.Model.TheVariants.{Nrtl, Wilson}
use Rattle.book.specs.Places.{words, pair_place}
use Rattle.book.specs.Book.{model_of}
use Rattle.records.specs.Parameters.{term_in, wilson_term, pair_term, lower_from, parameter, parameters_of}
use Rattle.records.proofs.Entries.{parameters-at}
use Rattle.thermo_models.specs.Activity.{excess_by, excess_of}
use Rattle.striking.specs.Accepted.{Acc}
use Rattle.striking.specs.Places.{cnt}
use Rattle.striking.specs.Related.{Fractions, SameExcess}
use Rattle.striking.specs.Books.{KeptPairs}
use Rattle.striking.proofs.Strike.{cnt_lt, cnt_ltb}
use Rattle.striking.proofs.Active.{cond_when}
use Rattle.striking.proofs.Excess.{Params, cnt_le}
use Rattle.striking.proofs.Nrtl.{strike_nrtl}
use Rattle.striking.proofs.Wilson.{strike_wilson}

-- where a pair's parameters start
lower : (m : Model) → (3 ≤ lower_from m) × (lower_from m ≤ 7)
unfolding lower_from
lower Nrtl = (omega arith, omega arith)
lower Wilson = (omega arith, omega arith)

module _ (keep : ℕ → Bool) (n : ℕ) (small : n ≤ 8) (book book' : List ℕ) (hb : KeptPairs keep n book book') where
  -- the parameters of a block whose words are equal
  module _ (i j f : ℕ) (l : i < j) (m : j < n) (p : T (keep i)) (q : T (keep j)) (a : 3 ≤ f) (b : f ≤ 7) (k : ℕ) (u : k < 6) where
    same_terms : (M : Model) → pair_term M (words book (pair_place n i j)) f k ≡ pair_term M (words book' (pair_place (cnt keep n) (cnt keep i) (cnt keep j))) f k
    unfolding pair_term term_in wilson_term
    same_terms Nrtl =
        cond_when (ltb k 4) (ltb k 4) _ _ _ _ refl
        (λ t. let v : k < 4 = ltb→lt k 4 t in ap float_of (hb.pair i j l m p q (f + k) (omega arith) (omega arith)))
        (λ t. ap float_of (hb.pair i j l m p q (7 + k) (omega arith) (omega arith)))
    same_terms Wilson =
        cond_when (ltb k 2) (ltb k 2) _ _ _ _ refl
        (λ t. let v : k < 2 = ltb→lt k 2 t in ap float_of (hb.pair i j l m p q (f + k) (omega arith) (omega arith)))
        (λ t. refl)

  same-parameter : (M : Model) (i j : ℕ) → i < n → T (keep i) → j < n → T (keep j) → (k : ℕ) → k < 6
      → parameter M (words book) n i j k ≡ parameter M (words book') (cnt keep n) (cnt keep i) (cnt keep j) k
  unfolding parameter
  same-parameter M i j li qi lj qj k u =
      let f = lower M in
      cond_when (ltb i j) (ltb (cnt keep i) (cnt keep j)) _ _ _ _ (cnt_ltb keep i j qi qj)
      (λ t. same_terms i j 3 (ltb→lt i j t) lj qi qj (omega arith) (omega arith) k u M)
      (λ t. cond_when (ltb j i) (ltb (cnt keep j) (cnt keep i)) _ _ _ _ (cnt_ltb keep j i qj qi)
      (λ v. same_terms j i (lower_from M) (ltb→lt j i v) li qj qi f.0 f.1 k u M)
      (λ v. refl))

  module _ (same : model_of book ≡ model_of book') where
    strike_params : Params keep n (parameters_of book n) (parameters_of book' (cnt keep n))
    strike_params = record {
      entry = λ i j li qi lj qj k u.
          parameters-at book n nan i j k small li lj u ∙ same-parameter (model_of book) i j li qi lj qj k u
          ∙ ap (λ (M : Model). parameter M (words book') (cnt keep n) (cnt keep i) (cnt keep j) k) same
          ∙ sym (parameters-at book' (cnt keep n) nan (cnt keep i) (cnt keep j) k (le_trans (cnt_le keep n) small) (cnt_lt keep i n qi li) (cnt_lt keep j n qj lj) u);
    }

    strike_by : (M : Model) (t : Float) (x x' : List Float) → Fractions keep n (at x) (at x')
        → Acc (SameExcess keep n) (excess_by M (parameters_of book n) n t x) (excess_by M (parameters_of book' (cnt keep n)) (cnt keep n) t x')
    unfolding excess_by
    strike_by Nrtl t x x' hx = strike_nrtl keep n small _ _ strike_params t (at x) (at x') hx
    strike_by Wilson t x x' hx = strike_wilson keep n small _ _ strike_params t (at x) (at x') hx

    pub strike_excess_of : (t : Float) (x x' : List Float) → Fractions keep n (at x) (at x')
        → Acc (SameExcess keep n) (excess_of book (parameters_of book n) n t x) (excess_of book' (parameters_of book' (cnt keep n)) (cnt keep n) t x')
    unfolding excess_of
    strike_excess_of t x x' hx = rw (← same) (strike_by (model_of book) t x x' hx)
