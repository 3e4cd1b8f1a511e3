-- The fractions of a pool: they pass the tests of mole fractions, and one is a zero exactly where no drum has the solvent. Assumes nothing.
use Prim.Native.Nat.{ℕ, zero, suc, ◌+◌, ◌*◌, ◌^◌, ◌<◌, ◌≤◌}
use mathlib.Core.Path.{◌≡◌, refl, sym, ap, ◌∙◌, subst}
use mathlib.Core.Logic.{inl, inr}
use mathlib.Core.Bool.{true, false, not, ◌&&◌}
use mathlib.Core.List.{List}
use native.Mathlib.Nat.{le_trans, zero-lt-suc, zero-mul, mul-pos, mul-le-mul_right}
use native.Mathlib.Omega.{arith}
use borrow.Author.Tests.{leb-true}
use lib.Dec.{T, leb, lit≤}
use lib.Ieee.{Float, fin, binary64, up, down, lt, fits, to_bits, of_bits}
use lib.Ieee.Fits.{and_l, and_r, down_pos, div-fits}
use lib.Ieee.Bits.{is_true, of_bits-to_bits}
use Rattle.floats.specs.Arithmetic.{◌⊘◌, 0f}
use Rattle.floats.specs.Small.{is_finite, positive, bits_of, float_of}
use Rattle.floats.specs.Fold.{sum_to}
use Rattle.floats.specs.Vector.{at}
use Rattle.floats.specs.Outcome.{ok}
use Rattle.floats.proofs.Outcomes.{need_yes}
use Rattle.thermo_types.specs.Composition.{normalize_of}
use Rattle.question.specs.Inputs.{within}
use Rattle.zeros.proofs.Zero.{Zero, zero_over_lem, one_zero}
use Rattle.shares.proofs.Rounding.{W, Near}
use Rattle.shares.proofs.Values.{Is, W_pos}
use Rattle.shares.proofs.Quotients.{share}
use Rattle.shares.proofs.Theorem.{all_of}
use Rattle.feeds.proofs.Fractions.{share-at, fractions_pass}
use Rattle.striking.specs.Words.{ZeroWord}
use Rattle.striking.proofs.Excess.{is_finite_lem}
use Rattle.striking.proofs.Search.{positive_solid}
use Rattle.pool.specs.Pool.{drum_count, count_in, pool_count, pool_total, total_right, amount, pool_feed}
use Rattle.pool.proofs.Laws.{at_most, part_of}
use Rattle.pools.specs.Plain.{pool_fractions, PoolPasses, Absent}
use Rattle.pools.proofs.Drums.{zeros-total}
use Rattle.pools.proofs.Exact.{none, amount_units, amount-is, amount-plus, amount-fits, amount-positive, sum-exact}

at_least : (m t : ℕ) → within 1 m t ≡ true → 1 ≤ t
at_least m t e = leb-true 1 t (is_true _ (and_l (leb 1 t) (leb t m) (rw e tt)))

module _ (drums : List ℕ) (n : ℕ) (few : n ≤ 8) (t : total_right drums n ≡ true) where
  abbrev count : ℕ → ℕ
  count = pool_count drums

  pub most : pool_total drums n ≤ 2 ^ 53
  unfolding total_right
  most = at_most (2 ^ 53) (pool_total drums n) t

  pub some : 0 < pool_total drums n
  unfolding total_right
  some = at_least (2 ^ 53) (pool_total drums n) t

  pub count_most : (i : ℕ) → i < n → count i ≤ pool_total drums n
  unfolding pool_total
  count_most i l = part_of count i n l

  pub sum_is : sum_to (λ i. amount (count i)) n ≡ amount (pool_total drums n)
  unfolding pool_total
  sum_is = sum-exact count n most

  sum-positive : positive (sum_to (λ i. amount (count i)) n) ≡ true
  sum-positive = rw sum_is (amount-positive (pool_total drums n) some most)

  pub normal : normalize_of (λ i. amount (count i)) n ≡ ok (pool_fractions drums n)
  unfolding normalize_of
  normal = need_yes 34 _ sum-positive

  pub feed-is : pool_feed drums n ≡ ok (pool_fractions drums n)
  unfolding pool_feed
  feed-is = normal

  pub fraction-is : (i : ℕ) → i < n → at (pool_fractions drums n) i ≡ amount (count i) ⊘ amount (pool_total drums n)
  fraction-is i l = share-at (λ i. amount (count i)) n few (pool_fractions drums n) normal i l ∙ ap (λ (s : Float). amount (count i) ⊘ s) sum_is

pub pool_passes : PoolPasses
pool_passes drums n few t =
    let p =
    fractions_pass (λ i. amount (pool_count drums i)) n few (pool_fractions drums n) (normal drums n few t) (λ i. amount-fits (pool_count drums i))
    (all_of (λ i. not (lt (amount (pool_count drums i)) 0f)) n (λ i l.
    amount-plus (pool_count drums i) (le_trans (count_most drums n few t i l) (most drums n few t)))) in
    (feed-is drums n few t, p.0, p.1, p.2)

-- ---- a zero
zero_bits : (x : Float) → T (fits binary64 x) → Zero x → ZeroWord (bits_of x)
unfolding to_bits
zero_bits (fin true zero e) f z = subst (λ (x : Float). ZeroWord (bits_of x)) (one_zero binary64 true e f) (inr refl)
zero_bits (fin false zero e) f z = subst (λ (x : Float). ZeroWord (bits_of x)) (one_zero binary64 false e f) (inl refl)
zero_bits lib.Ieee.nan f z = elim z [ ]
zero_bits (lib.Ieee.inf _) f z = elim z [ ]
zero_bits (fin false (suc _) e) f z = elim z [ ]
zero_bits (fin true (suc _) e) f z = elim z [ ]

bits_zero : (x : Float) → T (fits binary64 x) → ZeroWord (bits_of x) → Zero x
unfolding of_bits
bits_zero x f (inl e) = subst Zero (sym (ap float_of e) ∙ of_bits-to_bits binary64 x f) tt
bits_zero x f (inr e) = subst Zero (sym (ap float_of e) ∙ of_bits-to_bits binary64 x f) tt

zero_amount : (c : ℕ) → c ≡ 0 → Zero (amount c)
unfolding of_bits
zero_amount c e = rw e (subst Zero none tt)

over-positive : (x m : Float) → Zero x → positive m ≡ true → Zero (x ⊘ m)
unfolding positive
over-positive x m z p =
    let t : T (is_finite m && lt 0f m) = rw p tt in
    zero_over_lem binary64 x m z (is_finite_lem m (and_l (is_finite m) (lt 0f m) t)) (positive_solid m (is_true _ (and_r (is_finite m) (lt 0f m) t)))

-- ---- none is a count of at least 1 over a total of at most 2^53; w for W, which is past what `omega` reads
no_units : (k u d w : ℕ) → 0 < d → 0 * u * w ≡ k * d → k ≡ 0
no_units zero u d w p h = refl
no_units (suc k) u d w p h = let l = mul-pos (zero-lt-suc k) p in absurd (omega (arith, zero-mul u, zero-mul w, ap (λ (x : ℕ). x * w) (zero-mul u)))

zero_units : (k : ℕ) (y : Float) → Is k y → Zero y → k ≡ 0
zero_units k (fin false zero e) h z = no_units k (up e) (down e) W (down_pos e) h
zero_units k (fin true zero e) h z = h.1
zero_units k lib.Ieee.nan h z = elim h [ ]
zero_units k (lib.Ieee.inf _) h z = elim h [ ]
zero_units k (fin false (suc _) e) h z = elim z [ ]
zero_units k (fin true (suc _) e) h z = elim z [ ]

twice : (x t : ℕ) → x * 2 ^ 52 ≤ 0 * t * 2 ^ 52 + x + t * 2 ^ 52 → x ≤ t * 2
twice x t h = omega arith

tiny : (c t w : ℕ) → 0 < c → t ≤ 2 ^ 53 → 2 ^ 60 ≤ w → Near 0 (c * w * w) (t * w) → ⊥
tiny c t w p l h n =
    let a : w ≤ c * w = omega (arith, mul-le-mul_right w p) in
    let b : w * w ≤ c * w * w = mul-le-mul_right w a in
    let d : 2 ^ 60 * w ≤ w * w = mul-le-mul_right w h in
    let e : t * w ≤ 2 ^ 53 * w = mul-le-mul_right w l in
    let f : c * w * w ≤ t * w * 2 = twice (c * w * w) (t * w) n.1 in
    omega arith

double : (c t w : ℕ) → c ≤ t → c * w ≤ t * w * 2
double c t w l = let a = mul-le-mul_right w l in omega arith

not_zero : (c t : ℕ) → 0 < c → c ≤ t → t ≤ 2 ^ 53 → Zero (amount c ⊘ amount t) → ⊥
not_zero c t p l h z =
    let s = share (c * W) (t * W) (amount c) (amount t) (amount-is c (le_trans l h)) (amount_units t h) (mul-pos (le_trans p l) W_pos) (double c t W l) in
    let k : s.k ≡ 0 = zero_units s.k (amount c ⊘ amount t) s.is z in
    tiny c t W p h (lit≤ tt) (rw k at s.near_to)

-- ---- a solvent's fraction is a zero exactly where its count is
module _ (drums : List ℕ) (n i : ℕ) (few : n ≤ 8) (l : i < n) (t : total_right drums n ≡ true) where
  fit : T (fits binary64 (at (pool_fractions drums n) i))
  fit = rw (fraction-is drums n few t i l) (div-fits binary64 (amount (pool_count drums i)) (amount (pool_total drums n)))

  pub zero_fraction : pool_count drums i ≡ 0 → ZeroWord (bits_of (at (pool_fractions drums n) i))
  zero_fraction e =
      zero_bits _ fit (rw (fraction-is drums n few t i l)
      (over-positive _ _ (zero_amount (pool_count drums i) e) (amount-positive (pool_total drums n) (some drums n few t) (most drums n few t))))

  pub zero_count : ZeroWord (bits_of (at (pool_fractions drums n) i)) → pool_count drums i ≡ 0
  zero_count z = go (pool_count drums i) refl
    where
      go : (k : ℕ) → pool_count drums i ≡ k → pool_count drums i ≡ 0
      go zero e = e
      go (suc k) e =
          absurd (not_zero (pool_count drums i) (pool_total drums n) (omega arith) (count_most drums n few t i l) (most drums n few t)
          (rw (fraction-is drums n few t i l) at (bits_zero _ fit z)))

pub absent : Absent
unfolding pool_count
absent drums n i few l t = record {
  absent = λ h. zero_fraction drums n i few l t (zeros-total (λ d. count_in drums d i) (drum_count drums) h);
  empty = λ z d k. let e = zero_count drums n i few l t z in omega (arith, part_of (λ d. count_in drums d i) d (drum_count drums) k);
}
