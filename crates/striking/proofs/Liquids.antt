-- The domain of temperatures and the pure liquids of a book are struck: both are made from each solvent's own words. Assumes nothing.
use mathlib.Core.Path.{◌≡◌, refl, sym, ap, ◌∙◌, subst}
use mathlib.Core.Logic.{⊎_elim, ◌≢◌}
use Prim.Native.Nat.{ℕ, zero, suc, ◌+◌, ◌≤◌, ◌<◌}
use native.Mathlib.Nat.{le_refl, le_trans, le_of_suc-le-suc, eq-or-lt_of_le, not-suc-le-zero}
use native.Mathlib.Omega.{arith}
use mathlib.Core.Bool.{Bool, true, false, not, ◌&&◌}
use mathlib.Core.List.{List}
use lib.ListN.{length, set, length-set}
use lib.Seq.{get_or-set_same, get_or-set_other}
use lib.Dec.{T}
use lib.Ieee.{Float, nan}
use lib.Ieee.Fits.{and_i, and_l, and_r}
use Rattle.thermo_types.specs.Quantities.{lowest_kelvin, highest_kelvin}
use Rattle.floats.specs.Fold.{all_to}
use Rattle.floats.specs.Small.{float_of, float}
use Rattle.floats.specs.Vector.{at, vec, zeros8, places}
use Rattle.floats.specs.Outcome.{Out, ok, bind}
use Rattle.floats.proofs.Fills.{fill_cong}
use Rattle.book.specs.Places.{words}
use Rattle.book.specs.Book.{term_count}
use Rattle.records.specs.declared.Ancillary.{Ancillary}
use Rattle.records.specs.declared.Range.{Range}
use Rattle.records.specs.Records.{ancillary_of, range_of}
use Rattle.liquid.specs.Vapor.{Vapor, in_range, vapor_pressure_of}
use Rattle.thermo_models.specs.Model.{Pures}
use Rattle.thermo_models.specs.Domain.{vapor_record, vapor_range, density_range, solvent_covers, temperature_in_domain, pures_to, pure_liquids_of}
use Rattle.striking.specs.Places.{tick, cnt}
use Rattle.striking.specs.Accepted.{Acc}
use Rattle.striking.specs.Books.{KeptSolvents}
use Rattle.striking.specs.Results.{SamePures}
use Rattle.striking.proofs.Strike.{cnt_lt}
use Rattle.striking.proofs.Acc.{acc_bind, acc_then, acc_drop, acc_need, acc_ok, acc_same, acc_weaken, bind_ok, strike_all}
use Rattle.striking.proofs.Excess.{cnt_le}
use Rattle.striking.proofs.Active.{cong2}

-- ---- records of equal words are equal
module _ (w w' : ℕ → ℕ) (f : ℕ) (h : (k : ℕ) → f ≤ k → k ≤ f + 20 → w k ≡ w' k) where
  made : Float → Float → Float → Float → ℕ → List Float → List Float → Ancillary
  made a b c d e g i = record { t_r = a; reducing_value = b; low = c; high = d; count = e; n = g; t = i }

  pair : Float → Float → Range
  pair a b = record { 0 = a; 1 = b }

  at-word : (k : ℕ) → f ≤ k → k ≤ f + 20 → float w k ≡ float w' k
  at-word k a b = ap float_of (h k a b)

  eight : (s : ℕ) → s ≤ 13 → vec (λ k. float w (f + s + k)) 8 ≡ vec (λ k. float w' (f + s + k)) 8
  eight s m = fill_cong (λ k. float w (f + s + k)) (λ k. float w' (f + s + k)) 8 zeros8 (λ k l. at-word (f + s + k) (omega arith) (omega arith))

  same_ancillary : ancillary_of w f ≡ ancillary_of w' f
  unfolding ancillary_of made
  same_ancillary =
      ap (λ (a : Float). made a (float w (f + 1)) (float w (f + 2)) (float w (f + 3)) (term_count w f) (vec (λ k. float w (f + 5 + k)) 8) (vec (λ k. float w (f + 13 + k)) 8)) (at-word f (omega arith) (omega arith))
      ∙ cong2 (λ b c. made (float w' f) b c (float w (f + 3)) (term_count w f) (vec (λ k. float w (f + 5 + k)) 8) (vec (λ k. float w (f + 13 + k)) 8)) (at-word (f + 1) (omega arith) (omega arith)) (at-word (f + 2) (omega arith) (omega arith))
      ∙ cong2 (λ d e. made (float w' f) (float w' (f + 1)) (float w' (f + 2)) d e (vec (λ k. float w (f + 5 + k)) 8) (vec (λ k. float w (f + 13 + k)) 8)) (at-word (f + 3) (omega arith) (omega arith)) (ap places (h (f + 4) (omega arith) (omega arith)))
      ∙ cong2 (λ g i. made (float w' f) (float w' (f + 1)) (float w' (f + 2)) (float w' (f + 3)) (term_count w' f) g i) (eight 5 (omega arith)) (eight 13 (omega arith))

  same_range : range_of w f ≡ range_of w' f
  unfolding range_of pair
  same_range = cong2 pair (at-word (f + 2) (omega arith) (omega arith)) (at-word (f + 3) (omega arith) (omega arith))

module _ (keep : ℕ → Bool) (n : ℕ) (book book' : List ℕ) (hb : KeptSolvents keep n book book') where
  module _ (i : ℕ) (l : i < n) (q : T (keep i)) where
    same-vapor_record : vapor_record book i ≡ vapor_record book' (cnt keep i)
    same-vapor_record = same_ancillary (words book (i + 1)) (words book' (cnt keep i + 1)) 3 (λ k a b. hb.solvent i l q k a (omega arith))

    same-vapor_range : vapor_range book i ≡ vapor_range book' (cnt keep i)
    same-vapor_range = same_range (words book (i + 1)) (words book' (cnt keep i + 1)) 3 (λ k a b. hb.solvent i l q k a (omega arith))

    same-density_range : density_range book i ≡ density_range book' (cnt keep i)
    same-density_range = same_range (words book (i + 1)) (words book' (cnt keep i + 1)) 24 (λ k a b. hb.solvent i l q k (omega arith) b)

    same-covers : (t : Float) → solvent_covers book t i ≡ solvent_covers book' t (cnt keep i)
    unfolding solvent_covers
    same-covers t = cong2 (λ (a b : Range). in_range a.0 a.1 t && in_range b.0 b.1 t) same-vapor_range same-density_range

  -- every solvent's ranges hold T, so those of the kept ones do
  pub strike_domain : (t : Float) → T (temperature_in_domain book n t) → T (temperature_in_domain book' (cnt keep n) t)
  unfolding temperature_in_domain
  strike_domain t h =
      let a = in_range lowest_kelvin highest_kelvin t in
      and_i a (all_to (solvent_covers book' t) (cnt keep n)) (and_l a (all_to (solvent_covers book t) n) h)
      (strike_all keep (solvent_covers book t) (solvent_covers book' t) n (λ k l q u. subst T (same-covers k l q t) u) (and_r a (all_to (solvent_covers book t) n) h))

-- ---- the pure liquids, stored one after the other
module _ (keep : ℕ → Bool) where
  -- kept entries below k, in arrays of eight
  record Stored (k : ℕ) (l l' : List Float) : Type 0 where
    entry : (i : ℕ) → i < k → T (keep i) → at l i ≡ at l' (cnt keep i)
    long : length l ≡ 8
    long' : length l' ≡ 8

  store_kept : (k : ℕ) → k < 8 → T (keep k) → (l l' : List Float) → Stored k l l' → (v : Float) → Stored (suc k) (set l k v) (set l' (cnt keep k) v)
  store_kept k b q l l' h v = record {
    entry = λ i m r.
        ⊎_elim
        (λ (e : i ≡ k). subst (λ (j : ℕ). at (set l k v) j ≡ at (set l' (cnt keep k) v) (cnt keep j)) (sym e)
        (get_or-set_same l k v nan (omega (arith, h.long)) ∙ sym (get_or-set_same l' (cnt keep k) v nan (omega (arith, h.long', cnt_le keep k)))))
        (λ (e : i < k). get_or-set_other l k i v nan (omega arith) ∙ h.entry i e r ∙ sym (get_or-set_other l' (cnt keep k) (cnt keep i) v nan (apart (cnt keep i) (cnt keep k) (cnt_lt keep i k r e))))
        (eq-or-lt_of_le (le_of_suc-le-suc m));
    long = length-set l k v ∙ h.long;
    long' = length-set l' (cnt keep k) v ∙ h.long';
  }
    where
      apart : (a b : ℕ) → a < b → a ≢ b
      apart a b m = omega arith

  store-struck : (k : ℕ) → T (not (keep k)) → (l l' : List Float) → Stored k l l' → (v : Float) → Stored (suc k) (set l k v) l'
  store-struck k q l l' h v = record {
    entry = λ i m r.
        ⊎_elim
        (λ (e : i ≡ k). absurd (clash (keep k) (subst (λ (j : ℕ). T (keep j)) e r) q))
        (λ (e : i < k). get_or-set_other l k i v nan (omega arith) ∙ h.entry i e r)
        (eq-or-lt_of_le (le_of_suc-le-suc m));
    long = length-set l k v ∙ h.long;
    long' = h.long';
  }
    where
      clash : (b : Bool) → T b → T (not b) → ⊥
      clash true a c = c
      clash false a c = a

  record Filled (k : ℕ) (p p' : Pures) : Type 0 where
    pressures : Stored k p.pressure p'.pressure
    slopes : Stored k p.slope p'.slope

  empty : Stored 0 zeros8 zeros8
  empty = record { entry = λ i l q. absurd (not-suc-le-zero l); long = refl; long' = refl }

module _ (keep : ℕ → Bool) (n : ℕ) (small : n ≤ 8) (book book' : List ℕ) (hb : KeptSolvents keep n book book') (t : Float) where
  abbrev stored : Pures → ℕ → Vapor → Pures
  stored p k v = record { pressure = set p.pressure k v.pressure; slope = set p.slope k v.ln.slope }

  abbrev next : List ℕ → ℕ → Pures → Out Pures
  next book k p = bind (vapor_pressure_of (vapor_record book k) t) (λ v. ok (stored p k v))

  next-kept : (k : ℕ) → k < n → T (keep k) → (p p' : Pures) → Filled keep k p p' → Acc (Filled keep (suc k)) (next book k p) (next book' (cnt keep k) p')
  next-kept k l q p p' h =
      subst (λ (r : Ancillary). Acc (Filled keep (suc k)) (next book k p) (bind (vapor_pressure_of r t) (λ v. ok (stored p' (cnt keep k) v)))) (same-vapor_record keep n book book' hb k l q)
      (acc_then _ _ _ _ (acc_same (vapor_pressure_of (vapor_record book k) t)) (λ v.
      acc_ok (record {
        pressures = store_kept keep k (le_trans l small) q p.pressure p'.pressure h.pressures v.pressure;
        slopes = store_kept keep k (le_trans l small) q p.slope p'.slope h.slopes v.ln.slope;
      })))

  next-struck : (k : ℕ) → T (not (keep k)) → (p p' : Pures) → Filled keep k p p' → Acc (Filled keep (suc k)) (next book k p) (ok p')
  next-struck k q p p' h =
      acc_drop (vapor_pressure_of (vapor_record book k) t) (λ v. ok (stored p k v)) (ok p') (λ v.
      acc_ok (record {
        pressures = store-struck keep k q p.pressure p'.pressure h.pressures v.pressure;
        slopes = store-struck keep k q p.slope p'.slope h.slopes v.ln.slope;
      }))

  strike_pures_to : (k : ℕ) → k ≤ n → Acc (Filled keep k) (pures_to book t k) (pures_to book' t (cnt keep k))
  unfolding pures_to cnt
  strike_pures_to zero h = acc_ok (record { pressures = empty keep; slopes = empty keep })
  strike_pures_to (suc k) h = go (keep k) (next-kept k h) (next-struck k) (strike_pures_to k (omega arith))
    where
      go : (b : Bool) → (T b → (p p' : Pures) → Filled keep k p p' → Acc (Filled keep (suc k)) (next book k p) (next book' (cnt keep k) p'))
          → (T (not b) → (p p' : Pures) → Filled keep k p p' → Acc (Filled keep (suc k)) (next book k p) (ok p'))
          → Acc (Filled keep k) (pures_to book t k) (pures_to book' t (cnt keep k))
          → Acc (Filled keep (suc k)) (bind (pures_to book t k) (next book k)) (pures_to book' t (tick b (cnt keep k)))
      go true f g ih = acc_bind (Filled keep k) _ _ _ _ ih (f tt)
      go false f g ih = subst (λ (o : Out Pures). Acc (Filled keep (suc k)) (bind (pures_to book t k) (next book k)) o) (bind_ok (pures_to book' t (cnt keep k))) (acc_bind (Filled keep k) _ _ _ _ ih (g tt))

  -- `pure_liquids`
  pub strike_pure_liquids : Acc (SamePures keep n) (pure_liquids_of book n t) (pure_liquids_of book' (cnt keep n) t)
  unfolding pure_liquids_of
  strike_pure_liquids =
      acc_need _ _ 22 _ _ (strike_domain keep n book book' hb t) (λ d.
      acc_weaken (Filled keep n) _ _ (strike_pures_to n (le_refl n)) (λ p p' h.
      record { pressure = h.pressures.entry; slope = h.slopes.entry }))
