-- `records::offered_place` meets its contract. One law for each way out. Assumes nothing.
use Rattle.records.proofs.Offered.{place-cut, place_order, place-past, place_found, place_short}
use Rattle.records.proofs.offered_place.Goals as goal
use Rattle.records.proofs.offered_place.Goals.{then-j-i-via-then-j-i, then-j-i-via-else-j-i+then-m-j}

pub returns-then-offered-ne512 : goal.returns-then-offered-ne512
returns-then-offered-ne512 c = place-cut _ _ _ c.if-offered-ne512.true

pub returns-then-j-i : goal.returns-then-j-i
returns-then-j-i c =
    elim c.then-j-i.branch [
      | then-j-i-via-then-j-i w ↦ place_order _ _ _ c.if-offered-ne512.false c.word-i.ensures c.word-j.ensures c.of-m.ensures w.if-j-i.true
      | then-j-i-via-else-j-i+then-m-j w ↦ place-past _ _ _ c.if-offered-ne512.false c.word-i.ensures c.word-j.ensures c.of-m.ensures w.if-j-i.false w.if-m-j.true
    ]

pub returns-then-place-book : goal.returns-then-place-book
returns-then-place-book c = place_found _ _ _ c.if-offered-ne512.false c.word-i.ensures c.word-j.ensures c.of-m.ensures c.if-j-i.false c.if-m-j.false
    c.pair_place-place.ensures c.if-place-book.true

pub returns-else-place-book : goal.returns-else-place-book
returns-else-place-book c = place_short _ _ _ c.if-offered-ne512.false c.word-i.ensures c.word-j.ensures c.of-m.ensures c.if-j-i.false c.if-m-j.false
    c.pair_place-place.ensures c.if-place-book.false
