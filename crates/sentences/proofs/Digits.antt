-- A number's digits, read back from a text that begins with them. Assumes nothing.
use Rattle.std.proofs.Common.{◌≡◌, ℕ, ◌^◌, ◌<◌, true, false, List, [], ◌∷◌, ◌++◌, length, drop, ap, refl, ◌∙◌, le-leb}
use lib.Seq.{drop-append_seam}
use Rattle.std.specs.Char.{digit_value, is_ascii_digit}
use Rattle.std.specs.Str.Parse.{AllDigits, digits_value}
use Rattle.std.specs.Fmt.{decimal}
use Rattle.std.proofs.lemmas.Fmt.{decimal_is_IsNumeral}
use Rattle.std.proofs.lemmas.Str.Parse.{digit_from_value}
use Rattle.sentences.specs.Laws.{first_digits}

digit_true : (c : ℕ) → digit_value c < 10 → is_ascii_digit c ≡ true
digit_true c h = let r = digit_from_value c h in rw (le-leb 48 c r.0, le-leb c 57 r.1) refl

first_of_digits : (ds : List ℕ) (c : ℕ) (x : List ℕ) → AllDigits 10 ds → is_ascii_digit c ≡ false → first_digits (ds ++ (c ∷ x)) ≡ ds
first_of_digits [] c x h e = rw e refl
first_of_digits (k ∷ ds) c x h e = rw (digit_true k h.0) (ap (λ l. k ∷ l) (first_of_digits ds c x h.1 e))

-- the number that a text begins with, and what stands behind its digits
abbrev pub number_in : List ℕ → ℕ
number_in l = digits_value 10 (first_digits l)

abbrev pub behind_number : List ℕ → List ℕ
behind_number l = drop (length (first_digits l)) l

decimal_first : (n c : ℕ) (x : List ℕ) → n < 2 ^ 64 → is_ascii_digit c ≡ false → first_digits (decimal n ++ (c ∷ x)) ≡ decimal n
decimal_first n c x h e = first_of_digits (decimal n) c x (decimal_is_IsNumeral n h).0.1 e

pub number_back : (n c : ℕ) (x : List ℕ) → n < 2 ^ 64 → is_ascii_digit c ≡ false → number_in (decimal n ++ (c ∷ x)) ≡ n
number_back n c x h e = ap (digits_value 10) (decimal_first n c x h e) ∙ (decimal_is_IsNumeral n h).1

pub behind_back : (n c : ℕ) (x : List ℕ) → n < 2 ^ 64 → is_ascii_digit c ≡ false → behind_number (decimal n ++ (c ∷ x)) ≡ c ∷ x
behind_back n c x h e = rw (decimal_first n c x h e) (drop-append_seam (decimal n) (c ∷ x))
