-- The four columns are as long as the list has tuples, and a room has as many rows. Assumes nothing.
use Prim.Native.Nat.{◌/◌}
use native.Mathlib.Omega.{arith}
use mathlib.Core.Path.{sym, ◌∙◌}
use lib.ListN.{length}
use lib.Seq.{length-take-le}
use Rattle.chain.proofs.short.Goals as goal

pub slice_bounds-through-end : goal.slice_bounds-through-end
slice_bounds-through-end c = sym (length-take-le (length c.args.list.now / 4) c.zeros-x.result (omega (arith, c.zeros-x.ensures, c.requires.3)))

pub slice_bounds-through-end-2 : goal.slice_bounds-through-end-2
slice_bounds-through-end-2 c = sym (length-take-le (length c.args.list.now / 4) c.zeros-y.result (omega (arith, c.zeros-y.ensures, c.requires.3)))

pub slice_bounds-through-end-3 : goal.slice_bounds-through-end-3
slice_bounds-through-end-3 c = sym (length-take-le (length c.args.list.now / 4) c.zeros-z.result (omega (arith, c.zeros-z.ensures, c.requires.3)))

pub slice_bounds-through-end-4 : goal.slice_bounds-through-end-4
slice_bounds-through-end-4 c = sym (length-take-le (length c.args.list.now / 4) c.zeros-t.result (omega (arith, c.zeros-t.ensures, c.requires.3)))

pub through-requires : goal.through-requires
through-requires c =
    let m = length c.args.list.now / 4 in
    let p = c.requires in
    let x = length-take-le m c.zeros-x.result (omega (arith, c.zeros-x.ensures, p.3)) in
    let y = length-take-le m c.zeros-y.result (omega (arith, c.zeros-y.ensures, p.3)) in
    let z = length-take-le m c.zeros-z.result (omega (arith, c.zeros-z.ensures, p.3)) in
    let t = length-take-le m c.zeros-t.result (omega (arith, c.zeros-t.ensures, p.3)) in
    (p.0, p.1, (y ∙ sym x, z ∙ sym x, t ∙ sym x), omega (arith, x, p.2), omega (arith, x, p.3))

pub returns : goal.returns
returns c = c.through.ensures
