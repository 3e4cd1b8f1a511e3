-- A call that said yes has no place. Assumes nothing.
use Rattle.std.specs.Prelude.{ℕ, Bool, true, false, not, cond, List, ◌≡◌}
use Rattle.std.proofs.Common.{refl}
use Rattle.floats.specs.Outcome.{Out, ok, no}
use Rattle.book.specs.declared.Head.{Head}
use Rattle.book.specs.Book.{whole_blocks, book_of}
use Rattle.book.specs.declared.Place.TheVariants.{Nowhere}
use Rattle.book.specs.Place.{shaped, place_in, place_of, place_past, preview_place}

pub yes-nowhere : (s : List ℕ) → Nowhere ≡ place_of s 0
unfolding place_of place_in
yes-nowhere s = go (not (whole_blocks s)) (shaped s)
  where
    go : (a b : Bool) → Nowhere ≡ cond a Nowhere (cond b Nowhere Nowhere)
    go true b = refl
    go false true = refl
    go false false = refl

pub preview-nowhere : (s : List ℕ) → Nowhere ≡ preview_place s 0
unfolding place_past
preview-nowhere s = go (book_of s)
  where
    go : (o : Out Head) → Nowhere ≡ place_past o s 0
    go (ok h) = refl
    go (no q) = yes-nowhere s
