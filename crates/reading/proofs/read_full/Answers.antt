use Rattle.std.proofs.Common.{◌≡◌, ℕ, ◌+◌, ◌-◌, ◌≤◌, List, ◌++◌, length, take, ap, ap₂, ◌∙◌, sym, subst, le_refl, drop_at, length-take-le, arith}
use Rattle.std.proofs.lemmas.Slice.{take-put_mid_below}
use Rattle.std.specs.Io.KnownBytes.{Consumes}
use Rattle.std.proofs.KnownBytes.{Consumes-trans}
use borrow.Rule.Slice.PartMut.{put_mid, post_of}
use lib.Seq.{take-add, take-append-le}
use Rattle.reading.proofs.read_full.Goals as goal

-- after a read into the buffer from a on: what was there before a, then the n bytes read
filled : (a k n : ℕ) (xs ys : List ℕ) → a ≤ length xs → n ≤ length ys → take a xs ++ take n ys ≡ take (a + n) (put_mid a k xs ys)
filled a k n xs ys h m =
    let before = take-put_mid_below a k xs ys a (le_refl a) h in
    let behind = drop_at (take a xs) (ys ++ post_of a k xs) a (length-take-le a xs h) in
    sym (take-add a n (put_mid a k xs ys) ∙ ap₂ ◌++◌ before (ap (take n) behind ∙ take-append-le n ys (post_of a k xs) m))

pub loop-done-preserved : goal.loop-done-preserved
loop-done-preserved g c =
    let s = c.loop-done in
    let r = c.read_some-n in
    let e = filled s.done (length s.buffer - s.done) r.result s.buffer r.new.buffer s.invariant.0 r.ensures.fits in
    (omega arith, subst (Consumes _ _) e (Consumes-trans _ _ _ _ _ s.invariant.1 r.ensures.given))
