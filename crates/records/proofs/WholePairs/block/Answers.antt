-- `records::WholePairs::block` meets its contract. Assumes nothing.
use mathlib.Core.Path.{ap}
use mathlib.Core.List.{[]}
use Prim.Native.Nat.{ℕ}
use native.Mathlib.Omega.{arith}
use lib.ListN.{get_or}
use Rattle.book.proofs.Laws.{place-within}
use Rattle.records.proofs.Sources.{place_code}
use Rattle.records.proofs.WholePairs.block.Goals as goal

pub bounds-self-n : goal.bounds-self-n
bounds-self-n c =
    let s = c.args.self in
    let h = c.if-j-i.false in
    let l = c.if-n-j.false in
    omega (arith, s.enough, place_code s.m.n c.args.i c.args.j s.m.few h l, place-within s.m.n c.args.i c.args.j s.m.few h l)

pub returns : goal.returns
returns c =
    let s = c.args.self in
    λ h l. ap (λ (k : ℕ). get_or s.blocks.now k []) (place_code s.m.n c.args.i c.args.j s.m.few h l)
