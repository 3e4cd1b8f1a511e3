-- The parameters: what is read for an ordered pair, how it is stored, and the turns of the loops. Assumes nothing.
use mathlib.Core.Path.{◌≡◌, refl, sym, ap, ◌∙◌}
use mathlib.Core.List.{List}
use Prim.Native.Nat.{ℕ, zero, suc, ◌+◌, ◌*◌, ◌^◌, ◌≤◌, ◌<◌, min}
use native.Mathlib.Nat.{add-zero}
use native.Mathlib.Omega.{arith}
use mathlib.Core.Bool.{Bool, true, false}
use borrow.Author.Tests.{lt-ltb, le-ltb, ltb-true, ltb-false}
use lib.Dec.{ltb}
use lib.Ieee.{Float}
use lib.ListN.{set, replicate, length, get_or}
use lib.Seq.{set_comm}
use Rattle.std.proofs.lemmas.List.{same_lists}
use Rattle.floats.specs.Arithmetic.{0f}
use Rattle.floats.specs.Fold.{fold_to}
use Rattle.floats.specs.Vector.{fill_from, zeros8, vec}
use Rattle.floats.proofs.Fills.{fill_length, fill-at}
use Rattle.floats.proofs.Squares.{square-turn}
use Rattle.book.specs.declared.Model.{Model}
use Rattle.blocks.specs.Words.{block}
use Rattle.blocks.proofs.Laws.{block_none}
use Rattle.book.specs.Places.{pair_place}
use Rattle.records.specs.declared.Terms.{Terms}
use Rattle.records.specs.Parameters.{pair_term, lower_from, parameter, terms_of, both_of, parameter_both, parameter_border, parameter_row, parameter_rows}

-- an array of eight, known element by element
pub vec_made : (w : ℕ → Float) (ys : List Float) → length ys ≡ 8 → ((k : ℕ) (d : Float) → k < 8 → get_or ys k d ≡ w k) → ys ≡ vec w 8
vec_made w ys h e =
    let n : length (vec w 8) ≡ 8 = fill_length w 8 zeros8 in
    same_lists ys (vec w 8) (h ∙ sym n) (λ k d l. e k d (omega arith) ∙ sym (fill-at w 8 zeros8 d k (omega arith) (omega arith)))

-- the block behind a solvent's number, however large
pub solvent_there : (s : List ℕ) (i : ℕ) {k : ℕ} → length s < 2 ^ 64 → k ≡ min (i + 1) 18446744073709551615 → block s k ≡ block s (i + 1)
solvent_there s i {k} h e = pick (ltb (i + 1) 18446744073709551615) refl
  where
    pick : (b : Bool) → ltb (i + 1) 18446744073709551615 ≡ b → block s k ≡ block s (i + 1)
    pick true q = let same : k ≡ i + 1 = omega (arith, e, ltb-true (i + 1) 18446744073709551615 q) in ap (block s) same
    pick false q =
        let far : 18446744073709551615 ≤ i + 1 = ltb-false (i + 1) 18446744073709551615 q in
        block_none s k (omega arith) ∙ sym (block_none s (i + 1) (omega arith))

-- equal terms are stored alike
stored_cong : {f g : ℕ → Float} (from n : ℕ) (l : List Float) → ((k : ℕ) → f k ≡ g k) → fill_from f from n l ≡ fill_from g from n l
unfolding fill_from
stored_cong from zero l e = refl
stored_cong {f} {g} from (suc n) l e =
    ap (λ v. set (fill_from f from n l) (from + n) v) (e n) ∙ ap (λ m. set m (from + n) (g n)) (stored_cong from n l e)

-- both pairs of the block at the pair's place
module _ (m : Model) (w : ℕ → ℕ → ℕ) (n i j : ℕ) (h : j < i) where
  above : (k : ℕ) → pair_term m (w (pair_place n j i)) 3 k ≡ parameter m w n j i k
  unfolding parameter
  above k = rw (lt-ltb j i h)

  below : (k : ℕ) → pair_term m (w (pair_place n j i)) (lower_from m) k ≡ parameter m w n i j k
  unfolding parameter
  below k = let q : j ≤ i = omega arith in rw (le-ltb i j q, lt-ltb j i h)

  pub both_stored : (l : List Float) {s : ℕ → ℕ} {l' : List Float} → s ≡ w (pair_place n j i) → l' ≡ both_of m s ((j * 8 + i) * 6) ((i * 8 + j) * 6) l
      → l' ≡ parameter_both (parameter m w n) i j l
  both_stored l {s} e p =
      p ∙ ap (λ s. both_of m s ((j * 8 + i) * 6) ((i * 8 + j) * 6) l) e
      ∙ stored_cong ((j * 8 + i) * 6) 6 (fill_from (pair_term m (w (pair_place n j i)) (lower_from m)) ((i * 8 + j) * 6) 6 l) above
      ∙ ap (fill_from (parameter m w n j i) ((j * 8 + i) * 6) 6) (stored_cong ((i * 8 + j) * 6) 6 l below)

-- the diagonal
own : (m : Model) (w : ℕ → ℕ → ℕ) (n i k : ℕ) → 0f ≡ parameter m w n i i k
unfolding parameter
own m w n i k = let q : i ≤ i = omega arith in rw (le-ltb i i q)

own-stored : (m : Model) (w : ℕ → ℕ → ℕ) (n i : ℕ) (l : List Float) → fill_from (λ _. 0f) ((i * 8 + i) * 6) 6 l ≡ fill_from (parameter m w n i i) ((i * 8 + i) * 6) 6 l
own-stored m w n i l = stored_cong ((i * 8 + i) * 6) 6 l (own m w n i)

pub terms_stored : (f : ℕ → Float) (from : ℕ) (l : List Float) {t : Terms} {m : List Float} → t ≡ terms_of f
    → m ≡ set (set (set (set (set (set l from t.t0) (from + 1) t.t1) (from + 2) t.t2) (from + 3) t.t3) (from + 4) t.a0) (from + 5) t.a1
    → m ≡ fill_from f from 6 l
unfolding terms_of fill_from
terms_stored f from l e p = rw add-zero (rw e at p)

-- both pairs of a block
pub pair_stored : (m : Model) (w : ℕ → ℕ) (upper lower : ℕ) (l : List Float) {s t : Terms} {l₁ l₂ : List Float} → s ≡ terms_of (pair_term m w (lower_from m)) → t ≡ terms_of (pair_term m w 3)
    → l₁ ≡ set (set (set (set (set (set l lower s.t0) (lower + 1) s.t1) (lower + 2) s.t2) (lower + 3) s.t3) (lower + 4) s.a0) (lower + 5) s.a1
    → l₂ ≡ set (set (set (set (set (set l₁ upper t.t0) (upper + 1) t.t1) (upper + 2) t.t2) (upper + 3) t.t3) (upper + 4) t.a0) (upper + 5) t.a1
    → l₂ ≡ both_of m w upper lower l
pair_stored m w upper lower l ps pt p₁ p₂ =
    terms_stored (pair_term m w 3) upper _ pt p₂ ∙ ap (fill_from (pair_term m w 3) upper 6) (terms_stored (pair_term m w (lower_from m)) lower l ps p₁)

pub none-stored : (from : ℕ) (l : List Float) {m : List Float} → m ≡ set (set (set (set (set (set l from 0f) (from + 1) 0f) (from + 2) 0f) (from + 3) 0f) (from + 4) 0f) (from + 5) 0f
    → m ≡ fill_from (λ _. 0f) from 6 l
unfolding terms_of
none-stored from l p = terms_stored (λ _. 0f) from l {t = terms_of (λ _. 0f)} refl p

-- ---- pairs in any order
fill-past : (F : List Float → List Float) (g : ℕ → Float) (b n : ℕ) (l : List Float) → ((k : ℕ) (m : List Float) → k < n → F (set m (b + k) (g k)) ≡ set (F m) (b + k) (g k))
    → F (fill_from g b n l) ≡ fill_from g b n (F l)
unfolding fill_from
fill-past F g b zero l h = refl
fill-past F g b (suc n) l h = h n (fill_from g b n l) (omega arith) ∙ ap (λ m. set m (b + n) (g n)) (fill-past F g b n l (λ k m q. h k m (omega arith)))

cells_commute : (f g : ℕ → Float) (p q : ℕ) (l : List Float) → (p ≡ q → ⊥) → fill_from f (p * 6) 6 (fill_from g (q * 6) 6 l) ≡ fill_from g (q * 6) 6 (fill_from f (p * 6) 6 l)
cells_commute f g p q l n =
    fill-past (fill_from f (p * 6) 6) g (q * 6) 6 l
    (λ k m h. sym (fill-past (λ t. set t (q * 6 + k) (g k)) f (p * 6) 6 m (λ i t o. set_comm t (p * 6 + i) (q * 6 + k) (f i) (g k) (λ e. n (omega arith)))))

-- a turn of each loop, and its end
pub square_holds : (f : ℕ → ℕ → ℕ → Float) → replicate 384 0f ≡ parameter_rows f 0 0
unfolding parameter_rows fold_to
square_holds f = refl

pub square-more : (m : Model) (w : ℕ → ℕ → ℕ) (n k : ℕ) {l₀ l₁ l₂ : List Float} → k < 8 → l₀ ≡ parameter_rows (parameter m w n) k k → l₁ ≡ parameter_border (parameter m w n) k k l₀
    → l₂ ≡ fill_from (λ _. 0f) ((k * 8 + k) * 6) 6 l₁ → l₂ ≡ parameter_rows (parameter m w n) (k + 1) (k + 1)
unfolding parameter_rows parameter_row
square-more m w n k {l₀} {l₁} k8 p q r =
    let f = parameter m w n in
    let e : suc k ≡ k + 1 = omega arith in
    r ∙ own-stored m w n k l₁ ∙ ap (fill_from (f k k) ((k * 8 + k) * 6) 6) (q ∙ ap (parameter_border f k k) p)
    ∙ square-turn (λ i j (l : List Float). fill_from (f i j) ((i * 8 + j) * 6) 6 l) (λ i j a b s _ _ _ _ o. cells_commute (f i j) (f a b) (i * 8 + j) (a * 8 + b) s o) k (replicate 384 0f) k8
    ∙ ap (λ r. parameter_rows f r r) e

pub square_done : (f : ℕ → ℕ → ℕ → Float) (k n : ℕ) {l : List Float} → k ≡ n → l ≡ parameter_rows f k k → l ≡ parameter_rows f n n
square_done f k n e p = p ∙ ap (λ r. parameter_rows f r r) e
