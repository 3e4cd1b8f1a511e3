-- The searches find the first of which a test is false, and find one unless it is true of all. Assumes nothing.
use Rattle.std.proofs.Common.{◌≡◌, ℕ, zero, suc, ◌+◌, ◌-◌, ◌<◌, Bool, true, false, cond, Option, Some, None, sym, refl, ap, ◌∙◌, true≢false, arith}
use mathlib.Core.Logic.{inl, inr}
use Rattle.std.specs.Prelude.{is_none, option_and_then, option_map}
use Rattle.std.proofs.lemmas.Option.{none-some, same_Some, option_and_then_some}
use Rattle.floats.specs.Fold.{all_to}
use Rattle.floats.proofs.Folds.{all_at}
use Rattle.book.specs.Place.{lowest, first_behind, first_pair}
use Rattle.places.specs.Laws.{LowestIsFirst, Before, FirstPairIsFirst}

-- ---- the lowest
abbrev First : (ℕ → Bool) → ℕ → ℕ → Type 0
First q n k = (k < n) × (q k ≡ false) × (all_to q k ≡ true)

turn : (q : ℕ → Bool) (n k : ℕ) (b d : Bool) → all_to q n ≡ b → q n ≡ d → (lowest q n ≡ Some k → First q n k) → cond b (cond d None (Some n)) (lowest q n) ≡ Some k → First q (suc n) k
turn q n k true true e f h g = absurd (none-some k g)
turn q n k true false e f h g = let i : n ≡ k = same_Some n k g in (omega arith, rw (← i) f, rw (← i) e)
turn q n k false d e f h g = let p = h g in (omega (arith, p.0), p.1, p.2)

pub lowest-is-first : LowestIsFirst
unfolding lowest
lowest-is-first q zero k e = absurd (none-some k e)
lowest-is-first q (suc n) k e = turn q n k (all_to q n) (q n) refl refl (lowest-is-first q n k) e

-- none is found only where all pass
turn_none : (q : ℕ → Bool) (n : ℕ) (b d : Bool) → all_to q n ≡ b → q n ≡ d → (lowest q n ≡ None → all_to q n ≡ true) → cond b (cond d None (Some n)) (lowest q n) ≡ None → all_to q (suc n) ≡ true
unfolding all_to
turn_none q n true true e f h g = rw (e, f)
turn_none q n true false e f h g = absurd (none-some n (sym g))
turn_none q n false d e f h g = absurd (true≢false (sym (h g) ∙ e))

pub lowest_of_none : (q : ℕ → Bool) (n : ℕ) → lowest q n ≡ None → all_to q n ≡ true
unfolding lowest all_to
lowest_of_none q zero e = refl
lowest_of_none q (suc n) e = turn_none q n (all_to q n) (q n) refl refl (lowest_of_none q n) e

-- ---- the first pair
is_nothing : {A : Type 0} (o : Option A) → is_none o ≡ true → o ≡ None
is_nothing None e = refl
is_nothing (Some a) e = absurd (true≢false (sym e))

mapped : {A B : Type 0} (f : A → B) (o : Option A) (b : B) → option_map f o ≡ Some b → (a : A) × (o ≡ Some a) × (f a ≡ b)
mapped f None b e = absurd (none-some b e)
mapped f (Some a) b e = (a, refl, same_Some (f a) b e)

-- a row that has none passes as far as it goes
row_right : (q : ℕ → ℕ → Bool) (n k l : ℕ) → k < l → l < n → is_none (first_behind q n k) ≡ true → q k l ≡ true
row_right q n k l h m e =
    let i : k + 1 + (l - k - 1) ≡ l = omega arith in
    rw i at (all_at (λ d. q k (k + 1 + d)) (n - k - 1) (l - k - 1) (omega arith) (lowest_of_none (λ d. q k (k + 1 + d)) (n - k - 1) (is_nothing (first_behind q n k) e)))

module _ (q : ℕ → ℕ → Bool) (n : ℕ) where
  abbrev passes : ℕ → Bool
  passes i = is_none (first_behind q n i)

  before : (x d : ℕ) → all_to passes x ≡ true → all_to (λ e. q x (x + 1 + e)) d ≡ true → x < n → (k l : ℕ) → k < l → l < n → Before k l x (x + 1 + d) → q k l ≡ true
  before x d a b u k l h m (inl p) = row_right q n k l h m (all_at passes x k p a)
  before x d a b u k l h m (inr p) =
      let i : k ≡ x = p.0 in
      let j : x + 1 + (l - x - 1) ≡ l = omega (arith, i) in
      rw (i, ← j) (all_at (λ e. q x (x + 1 + e)) d (l - x - 1) (omega (arith, p.1, i)) b)

  abbrev Found : ℕ → ℕ → Type 0
  Found i j = (i < j) × (j < n) × (q i j ≡ false) × ((k l : ℕ) → k < l → l < n → Before k l i j → q k l ≡ true)

  found : (x d : ℕ) → lowest passes n ≡ Some x → first_behind q n x ≡ Some d → Found x (x + 1 + d)
  found x d e f =
      let row = lowest-is-first passes n x e in
      let at = lowest-is-first (λ e. q x (x + 1 + e)) (n - x - 1) d f in
      (omega arith, omega (arith, at.0), at.1, before x d row.2 at.2 row.0)

  found-at : {x y i j : ℕ} → x ≡ i → y ≡ j → Found x y → Found i j
  found-at a b f = rw (b, a) at f

pub first-pair-is-first : FirstPairIsFirst
unfolding first_pair
first-pair-is-first q n i j e = option_and_then_some (λ i. option_map (λ d. (i, i + 1 + d)) (first_behind q n i)) (lowest (passes q n) n) (i, j) e (λ x f g.
    let m = mapped (λ d. (x, x + 1 + d)) (first_behind q n x) (i, j) g in
    found-at q n (ap (λ (p : ℕ × ℕ). p.0) m.2) (ap (λ (p : ℕ × ℕ). p.1) m.2) (found q n x m.0 f m.1))

-- none is found only where all pass
unmapped : {A B : Type 0} (f : A → B) (o : Option A) → option_map f o ≡ None → is_none o ≡ true
unmapped f None e = refl
unmapped f (Some a) e = absurd (none-some (f a) (sym e))

rows_pass : (q : ℕ → ℕ → Bool) (n : ℕ) (o : Option ℕ) → lowest (passes q n) n ≡ o → option_and_then {U = ℕ × ℕ} (λ i. option_map (λ d. (i, i + 1 + d)) (first_behind q n i)) o ≡ None
    → all_to (passes q n) n ≡ true
rows_pass q n None e f = lowest_of_none (passes q n) n e
rows_pass q n (Some x) e f = absurd (true≢false (sym (unmapped (λ d. (x, x + 1 + d)) (first_behind q n x) f) ∙ (lowest-is-first (passes q n) n x e).1))

pub pair_of_none : (q : ℕ → ℕ → Bool) (n : ℕ) → first_pair q n ≡ None → (i j : ℕ) → i < j → j < n → q i j ≡ true
unfolding first_pair
pair_of_none q n e i j h l = row_right q n i j h l (all_at (passes q n) n i (omega arith) (rows_pass q n (lowest (passes q n) n) refl e))
