-- `sentences::compose` meets its contract: its parts one after the other, which fit. Assumes nothing.
use Rattle.std.proofs.Common.{◌≡◌, length, codes, ◌∙◌, zero-add, arith}
use Rattle.std.specs.Fmt.{decimal}
use Rattle.sentences.specs.Sentence.{matter, where_of, sentence_of}
use Rattle.sentences.proofs.Parts.{one_part, more_parts, ends}
use Rattle.sentences.proofs.Fits.{parts_fit}
use Rattle.sentences.proofs.compose.Goals as goal

pub add_number-at-requires : goal.add_number-at-requires
add_number-at-requires c = omega (arith, parts_fit c.requires)

pub add-at-requires : goal.add-at-requires
add-at-requires c = omega (arith, parts_fit c.requires)

pub add-at-requires-2 : goal.add-at-requires-2
add-at-requires-2 c = rw c.matter.ensures (omega (arith, parts_fit c.requires))

pub add_place-at-requires : goal.add_place-at-requires
add_place-at-requires c = let s = rw c.matter.ensures at c.add-at-2.ensures in omega (arith, parts_fit c.requires)

pub add-requires : goal.add-requires
add-requires c = let s = rw c.matter.ensures at c.add-at-2.ensures in omega (arith, parts_fit c.requires)

pub returns : goal.returns
unfolding sentence_of
returns c =
    let r = decimal c.args.number in
    let m = matter c.args.number in
    let fit = parts_fit c.requires in
    let room : length c.args.text.now ≡ 160 = omega arith in
    let a = one_part r c.add_number-at.ensures in
    let b = more_parts (codes ": ") a c.add-at.ensures (omega arith) in
    let s = rw c.matter.ensures at c.add-at-2.ensures in
    let d = more_parts m b s (omega arith) in
    let e = more_parts (where_of c.args.place) d c.add_place-at.ensures (omega arith) in
    let f = ends (more_parts (codes ".") e c.add.ensures (omega arith)) in
    (f.0 ∙ zero-add _, f.1)
