-- The matters: none behind 39, and how long they are. Assumes nothing.
use Rattle.std.proofs.Common.{◌≡◌, ℕ, zero-le, ◌<◌, ◌≤◌, ◌&&◌, Bool, true, [], length, refl, ⊎_elim, arith, nat_le}
use Rattle.std.proofs.lemmas.Bool.{cases_lt, leb-true}
use Rattle.std.specs.List.{list_all}
use Rattle.std.proofs.lemmas.List.Sums.{AllPass-from_list_all}
use lib.ListN.{get_or-eq_default}
use Rattle.sentences.specs.Sentence.{matters, matter}

length_matters : length matters ≡ 40
unfolding matters
length_matters = refl

past : (r : ℕ) → 40 ≤ r → matter r ≡ []
past r l = get_or-eq_default matters [] (omega (arith, length_matters))

pub matter_none : (r : ℕ) → (r < 40 → r ≡ 0) → matter r ≡ []
unfolding matters
matter_none r h = ⊎_elim (λ (l : r < 40). rw (h l)) (λ (l : 40 ≤ r). past r l) (cases_lt r 40)

all_short : list_all (λ m. nat_le (length m) 109) matters ≡ true
unfolding matters
all_short = refl

pub matter_short : (r : ℕ) → length (matter r) ≤ 109
matter_short r =
    ⊎_elim
    (λ (l : r < 40). leb-true (length (matter r)) 109 (AllPass-from_list_all _ matters all_short r [] (omega (arith, length_matters))))
    (λ (l : 40 ≤ r). rw (past r l) (zero-le {n = 109}))
    (cases_lt r 40)

pub matter_twice : length (matter 6) ≡ 44
unfolding matters
matter_twice = refl

-- from the space to the tilde
abbrev pub printable : ℕ → Bool
printable b = nat_le 32 b && nat_le b 126

all_printable : list_all (λ m. list_all printable m) matters ≡ true
unfolding matters
all_printable = refl

pub matter_printable : (r : ℕ) → list_all printable (matter r) ≡ true
matter_printable r =
    ⊎_elim
    (λ (l : r < 40). AllPass-from_list_all _ matters all_printable r [] (omega (arith, length_matters)))
    (λ (l : 40 ≤ r). rw (past r l) refl)
    (cases_lt r 40)
