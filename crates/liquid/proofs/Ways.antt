-- A term more, two terms more, the last of them; the tests of the four numbers as one. Assumes nothing.
use Prim.Native.Nat.{ℕ, ◌+◌, ◌*◌}
use native.Mathlib.Omega.{arith}
use mathlib.Core.Path.{◌≡◌, refl, ap, ◌∙◌}
use mathlib.Core.Bool.{Bool, true, false, not, ◌&&◌}
use mathlib.Core.List.{List}
use lib.Ieee.{Float, neg, le}
use Rattle.floats.specs.Arithmetic.{◌⊕◌, ◌⊖◌, ◌⊗◌, ◌⊘◌, 0f, 1f, 2f}
use Rattle.floats.specs.Small.{is_finite}
use Rattle.floats.specs.Fold.{fold_to}
use Rattle.floats.specs.Vector.{at, places}
use Rattle.floats.specs.Outcome.{Out, ok, need}
use Rattle.floats.proofs.Folds.{sum-turn}
use Rattle.numerics.specs.Numerics.{exp_of, ln_of}
use Rattle.records.specs.declared.Ancillary.{Ancillary}
use Rattle.liquid.specs.declared.Logarithm.{Logarithm}
use Rattle.liquid.specs.declared.Sums.{Sums}
use Rattle.liquid.specs.Vapor.{Vapor, term, slope_term, curvature_term, sums_of, vapor_from, vapor_of, representable}

abbrev pub sums : Float → Float → Float → Sums
sums s ds d2s = record { s = s; ds = ds; d2s = d2s }

module _ (n e : List Float) (tr θ : Float) where
  pub terms_start : sums 0f 0f 0f ≡ sums_of n e tr θ 0
  unfolding sums_of fold_to
  terms_start = refl

  -- the code's l is ln θ, and p, q, r are θ^t_k, θ^(t_k - 1), θ^(t_k - 2)
  terms_turn : (k : ℕ) {l p q r s ds d2s : Float} → l ≡ ln_of θ → p ≡ exp_of (at e k ⊗ l) → q ≡ exp_of ((at e k ⊖ 1f) ⊗ l) → r ≡ exp_of ((at e k ⊖ 2f) ⊗ l)
      → sums s ds d2s ≡ sums_of n e tr θ k
      → sums (s ⊕ at n k ⊗ p) (ds ⊕ neg (at n k) ⊗ at e k ⊗ q ⊘ tr) (d2s ⊕ at n k ⊗ at e k ⊗ (at e k ⊖ 1f) ⊗ r ⊘ (tr ⊗ tr)) ≡ sums_of n e tr θ (k + 1)
  unfolding sums_of term slope_term curvature_term
  terms_turn k {l} {p} {q} {r} el ep eq er h =
      let a : at n k ⊗ p ≡ term θ (at n k) (at e k) = rw (ep, el) in
      let b : neg (at n k) ⊗ at e k ⊗ q ⊘ tr ≡ slope_term tr θ (at n k) (at e k) = rw (eq, el) in
      let c : at n k ⊗ at e k ⊗ (at e k ⊖ 1f) ⊗ r ⊘ (tr ⊗ tr) ≡ curvature_term tr θ (at n k) (at e k) = rw (er, el) in
      rw (
        ← sum-turn 0f (λ k. term θ (at n k) (at e k)) k refl a (ap (λ (w : Sums). w.s) h),
        ← sum-turn 0f (λ k. slope_term tr θ (at n k) (at e k)) k refl b (ap (λ (w : Sums). w.ds) h),
        ← sum-turn 0f (λ k. curvature_term tr θ (at n k) (at e k)) k refl c (ap (λ (w : Sums). w.d2s) h),
      )

  -- w is z with the term k, whose powers are p, q and r
  abbrev With : ℕ → Float → Float → Float → Sums → Sums → Type 0
  With k p q r z w =
      (w.s ≡ z.s ⊕ at n k ⊗ p) × (w.ds ≡ z.ds ⊕ neg (at n k) ⊗ at e k ⊗ q ⊘ tr) × (w.d2s ≡ z.d2s ⊕ at n k ⊗ at e k ⊗ (at e k ⊖ 1f) ⊗ r ⊘ (tr ⊗ tr))

  pub term-next : (k : ℕ) {l p q r : Float} {z w : Sums} → l ≡ ln_of θ → p ≡ exp_of (at e k ⊗ l) → q ≡ exp_of ((at e k ⊖ 1f) ⊗ l) → r ≡ exp_of ((at e k ⊖ 2f) ⊗ l)
      → With k p q r z w → z ≡ sums_of n e tr θ k → w ≡ sums_of n e tr θ (k + 1)
  term-next k {z} {w} el ep eq er h hz = rw (h.0, h.1, h.2) (terms_turn k el ep eq er hz)

  pub pair-next : (i : ℕ) {l p p' q q' r r' : Float} {z y w : Sums} → l ≡ ln_of θ → (p ≡ exp_of (at e (2 * i) ⊗ l)) × (p' ≡ exp_of (at e (2 * i + 1) ⊗ l))
      → (q ≡ exp_of ((at e (2 * i) ⊖ 1f) ⊗ l)) × (q' ≡ exp_of ((at e (2 * i + 1) ⊖ 1f) ⊗ l)) → (r ≡ exp_of ((at e (2 * i) ⊖ 2f) ⊗ l)) × (r' ≡ exp_of ((at e (2 * i + 1) ⊖ 2f) ⊗ l))
      → With (2 * i) p q r z y → With (2 * i + 1) p' q' r' y w → z ≡ sums_of n e tr θ (2 * i) → w ≡ sums_of n e tr θ (2 * (i + 1))
  pair-next i el ep eq er h h' hz =
      let k : 2 * i + 1 + 1 ≡ 2 * (i + 1) = omega arith in
      term-next (2 * i + 1) el ep.1 eq.1 er.1 h' (term-next (2 * i) el ep.0 eq.0 er.0 h hz) ∙ ap (sums_of n e tr θ) k

  pub terms_done : (k count : ℕ) {w : Sums} → k ≡ count → w ≡ sums_of n e tr θ k → w ≡ sums_of n e tr θ count
  terms_done k count p h = h ∙ ap (sums_of n e tr θ) p

-- ln p and its derivatives, from the sums
pub logarithm_is : (a : Ancillary) (t : Float) {m : ℕ} {S : Sums} {l : Logarithm} → m ≡ places a.count → S ≡ sums_of a.n a.t a.t_r (1f ⊖ t ⊘ a.t_r) m
    → l ≡ (vapor_from a.t_r a.reducing_value t S).ln → l ≡ (vapor_of a t).ln
unfolding vapor_of
logarithm_is a t em es h = rw (← em, ← es) h

-- the answer, from the logarithm
pub vapor_is : (a : Ancillary) (t : Float) {p : Float} {l : Logarithm} → p ≡ exp_of l.value → l ≡ (vapor_of a t).ln → vapor_of a t ≡ record { pressure = p; ln = l }
unfolding vapor_of vapor_from
vapor_is a t ep h = rw (ep, h)

-- ---- the tests of the four numbers
abbrev pub sound_of : Vapor → Bool
sound_of v = is_finite v.pressure && is_finite v.ln.value && is_finite v.ln.slope && is_finite v.ln.curvature && not (le v.pressure 0f)

-- two needs with one number are one
both_needed : {A : Type 0} (a b : Bool) (r : ℕ) (o : Out A) → need a r (need b r o) ≡ need (a && b) r o
unfolding need
both_needed true b r o = refl
both_needed false b r o = refl

pub sound_is : (v : Vapor) → representable v ≡ need (sound_of v) 25 (ok v)
unfolding representable
sound_is v = both_needed (is_finite v.pressure && is_finite v.ln.value && is_finite v.ln.slope && is_finite v.ln.curvature) (not (le v.pressure 0f)) 25 (ok v)
