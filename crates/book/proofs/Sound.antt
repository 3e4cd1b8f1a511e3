-- What one scan of a block shows: the floats that a question asks for are among the finite ones, and equal words are equal floats. Assumes nothing.
use Rattle.std.proofs.Common.{◌≡◌, ℕ, zero, suc, ◌+◌, ◌-◌, ◌*◌, ◌<◌, ◌≤◌, Bool, true, false, cond, ◌&&◌, T, eqb, sym, refl, ◌∙◌, true≢false, arith, eqb-true}
use mathlib.Core.Bool.{false≢true}
use native.Mathlib.Nat.{min-le_right}
use lib.Dec.{eqb_refl}
use lib.Ieee.{Float, nan, inf, fin, up, down, eq}
use Rattle.floats.specs.Small.{is_finite, float}
use Rattle.floats.specs.Fold.{all_to}
use Rattle.floats.proofs.Folds.{all_at}
use Rattle.floats.specs.Outcome.{ok, no, need}
use Rattle.book.specs.declared.Model.TheVariants.{Nrtl, Wilson}
use Rattle.book.specs.declared.Head.{Head}
use Rattle.book.specs.Places.{pair_count, row_from}
use Rattle.book.specs.Book.{floats_finite, range_right, term_count, record_right, records_right, row_right}
use Rattle.book.specs.Book.{parameters_finite, bounds_finite, pair_finite, alphas_equal, pairs_of}

first : (a b : Bool) → a && b ≡ true → a ≡ true
first true b e = refl
first false b e = absurd (true≢false (sym e))

second : (a b : Bool) → a && b ≡ true → b ≡ true
second true b e = e
second false b e = absurd (true≢false (sym e))

all_of : (p : ℕ → Bool) (n : ℕ) → ((k : ℕ) → k < n → p k ≡ true) → all_to p n ≡ true
unfolding all_to
all_of p zero h = refl
all_of p (suc n) h = rw (all_of p n (λ k l. h k (omega arith)), h n (omega arith))

part_finite : (w : ℕ → ℕ) (f n g m : ℕ) → f ≤ g → g + m ≤ f + n → floats_finite w f n ≡ true → floats_finite w g m ≡ true
unfolding floats_finite
part_finite w f n g m a b h =
    all_of (λ k. is_finite (float w (g + k))) m (λ k l. let e : f + (g + k - f) ≡ g + k = omega arith in
    rw e at (all_at (λ k. is_finite (float w (f + k))) n (g + k - f) (omega arith) h))

-- words 3 to 44 are finite: so is all that question 5 asks for
record_finite : (w : ℕ → ℕ) (f : ℕ) → 3 ≤ f → f ≤ 24 → floats_finite w 3 42 ≡ true → record_right w f ≡ range_right w f
unfolding record_right
record_finite w f a b h =
    let m : term_count w f ≤ 8 = min-le_right (w (f + 4)) 8 in
    let p : floats_finite w f 4 ≡ true = part_finite w 3 42 f 4 (omega arith) (omega arith) h in
    let q : floats_finite w (f + 5) (term_count w f) ≡ true = part_finite w 3 42 (f + 5) (term_count w f) (omega arith) (omega arith) h in
    let r : floats_finite w (f + 13) (term_count w f) ≡ true = part_finite w 3 42 (f + 13) (term_count w f) (omega arith) (omega arith) h in
    rw (p, q, r)

pub records_scanned : (w : ℕ → ℕ) {b x y : Bool} → b ≡ floats_finite w 3 42 → b ≡ true → x ≡ range_right w 3 → y ≡ range_right w 24
    → (x && y) ≡ records_right w
unfolding records_right
records_scanned w e t p q =
    let h = sym e ∙ t in
    rw (p, q, record_finite w 3 (omega arith) (omega arith) h, record_finite w 24 (omega arith) (omega arith) h)

-- a finite float equals itself
level : (b : Bool) → T b → (b && true) ≡ true
level true t = refl
level false t = absurd t

self_eq : (x : Float) → is_finite x ≡ true → eq x x ≡ true
unfolding is_finite eq
self_eq nan h = absurd (false≢true h)
self_eq (inf s) h = absurd (false≢true h)
self_eq (fin true m e) h = level (eqb (m * up e * down e) (m * up e * down e)) (eqb_refl (m * up e * down e))
self_eq (fin false m e) h = level (eqb (m * up e * down e) (m * up e * down e)) (eqb_refl (m * up e * down e))

either : (b : Bool) → cond b true true ≡ true
either true = refl
either false = refl

-- words 3 to 17 are finite and the alphas are the same words
one_scan : (w : ℕ → ℕ) → w 11 ≡ w 13 → w 12 ≡ w 14 → floats_finite w 3 15 ≡ true → (pair_finite Nrtl w && alphas_equal Nrtl w) ≡ true
unfolding parameters_finite pair_finite bounds_finite alphas_equal floats_finite
one_scan w a b h =
    let at : (k : ℕ) → k < 15 → is_finite (float w (3 + k)) ≡ true = λ k l. all_at (λ k. is_finite (float w (3 + k))) 15 k l h in
    let p : floats_finite w 3 12 ≡ true = part_finite w 3 15 3 12 (omega arith) (omega arith) h in
    let q : floats_finite w 16 2 ≡ true = part_finite w 3 15 16 2 (omega arith) (omega arith) h in
    let x : eq (float w 13) (float w 13) ≡ true = self_eq (float w 13) (at 10 (omega arith)) in
    let y : eq (float w 14) (float w 14) ≡ true = self_eq (float w 14) (at 11 (omega arith)) in
    rw (p, q, a, b, x, y, either (eqb (w 15) 0))

pub pair_scanned : (w : ℕ → ℕ) {a b c d : ℕ} {r : Bool} → a ≡ w 11 → b ≡ w 13 → c ≡ w 12 → d ≡ w 14 → r ≡ floats_finite w 3 15
    → ((eqb a b && eqb c d) && r) ≡ true → true ≡ (pair_finite Nrtl w && alphas_equal Nrtl w)
pair_scanned w {a} {b} {c} {d} {r} p q s t f h =
    let same = first (eqb a b && eqb c d) r h in
    let e = eqb-true a b (first (eqb a b) (eqb c d) same) in
    let g = eqb-true c d (second (eqb a b) (eqb c d) same) in
    sym (one_scan w (sym p ∙ e ∙ q) (sym s ∙ g ∙ t) (sym f ∙ second (eqb a b && eqb c d) r h))

-- a Wilson pair has no question 9
pub wilson_sound : (w : ℕ → ℕ) {b : Bool} → b ≡ pair_finite Wilson w → b ≡ (pair_finite Wilson w && alphas_equal Wilson w)
unfolding alphas_equal
wilson_sound w e = e ∙ with_true (pair_finite Wilson w)
  where
    with_true : (b : Bool) → b ≡ (b && true)
    with_true true = refl
    with_true false = refl

-- questions 8 and 9 put together
module _ (p q : ℕ → Bool) (n : ℕ) where
  all_first : all_to (λ k. p k && q k) n ≡ true → all_to p n ≡ true
  all_first h = all_of p n (λ k l. first (p k) (q k) (all_at (λ k. p k && q k) n k l h))

  all_second : all_to (λ k. p k && q k) n ≡ true → all_to q n ≡ true
  all_second h = all_of q n (λ k l. second (p k) (q k) (all_at (λ k. p k && q k) n k l h))

  second-no : all_to (λ k. p k && q k) n ≡ false → all_to p n ≡ true → all_to q n ≡ false
  second-no h a = pick (all_to q n) refl
    where
      pick : (b : Bool) → all_to q n ≡ b → b ≡ false
      pick false e = refl
      pick true e =
          absurd (true≢false (sym (all_of (λ k. p k && q k) n (λ k l. rw (all_at p n k l a, all_at q n k l e))) ∙ h))

-- what is asked of the pair in block d behind the solvents
abbrev finite_at : (ℕ → ℕ → ℕ) → Head → ℕ → Bool
finite_at w h d = pair_finite h.model (w (1 + h.n + d))

abbrev equal-at : (ℕ → ℕ → ℕ) → Head → ℕ → Bool
equal-at w h d = alphas_equal h.model (w (1 + h.n + d))

module _ (w : ℕ → ℕ → ℕ) (h : Head) (rows : all_to (λ i. row_right w i (row_from h.n i) (h.n - i - 1)) h.n ≡ true) where
  pub pairs_pass : true ≡ all_to (λ d. finite_at w h d && equal-at w h d) (pair_count h.n) → ok h ≡ pairs_of w h
  unfolding pairs_of need
  pairs_pass sound = rw (rows, all_first (finite_at w h) (equal-at w h) (pair_count h.n) (sym sound), all_second (finite_at w h) (equal-at w h) (pair_count h.n) (sym sound))

  pub pairs_infinite : false ≡ all_to (finite_at w h) (pair_count h.n) → no 8 ≡ pairs_of w h
  unfolding pairs_of need
  pairs_infinite f = rw (rows, ← f)

  pub pairs-unequal : true ≡ all_to (finite_at w h) (pair_count h.n) → false ≡ all_to (λ d. finite_at w h d && equal-at w h d) (pair_count h.n) → no 9 ≡ pairs_of w h
  unfolding pairs_of need
  pairs-unequal f u = rw (rows, ← f, second-no (finite_at w h) (equal-at w h) (pair_count h.n) (sym u) (sym f))
