-- The first rows of the columns are the first fixes of what they stand for (`flat-take`). Assumes
-- nothing.
use native.Mathlib.Omega.{arith}
use Prim.Native.Nat.{◌*◌}
use mathlib.Core.Path.{sym, ap, ◌∙◌}
use mathlib.Core.List.{List, ◌++◌}
use lib.ListN.{take, drop}
use lib.Seq.{length-take-le}
use lib.Ieee.{Float}
use Rattle.columns.proofs.Laws.{in_flat}
use Rattle.stretch.proofs.Parts.{level_take, flat-take}
use Rattle.stretch_flat_track.proofs.put_back.Goals as goal

pub slice_bounds-to_flat-end : goal.slice_bounds-to_flat-end
slice_bounds-to_flat-end c = sym (length-take-le c.args.n c.args.kx.now c.requires.1)

pub slice_bounds-to_flat-end-2 : goal.slice_bounds-to_flat-end-2
slice_bounds-to_flat-end-2 c = sym (length-take-le c.args.n c.args.ky.now (omega (arith, c.requires.0.0, c.requires.1)))

pub slice_bounds-to_flat-end-3 : goal.slice_bounds-to_flat-end-3
slice_bounds-to_flat-end-3 c = sym (length-take-le c.args.n c.args.kz.now (omega (arith, c.requires.0.1, c.requires.1)))

pub slice_bounds-to_flat-end-4 : goal.slice_bounds-to_flat-end-4
slice_bounds-to_flat-end-4 c = sym (length-take-le c.args.n c.args.kt.now (omega (arith, c.requires.0.2, c.requires.1)))

pub slice_bounds-to_flat-end-6 : goal.slice_bounds-to_flat-end-6
slice_bounds-to_flat-end-6 c = sym (length-take-le (4 * c.args.n) c.args.track.now (omega (arith, c.requires.2, c.requires.1)))

pub returns : goal.returns
returns c =
    let a = c.args in
    let long = length-take-le (4 * a.n) a.track.now (omega (arith, c.requires.2, c.requires.1)) in
    let rows = length-take-le a.n a.kx.now c.requires.1 in
    let first = in_flat (take (4 * a.n) a.track.now) (take a.n a.kx.now) (take a.n a.ky.now) (take a.n a.kz.now) (take a.n a.kt.now) (level_take a.kx.now a.ky.now a.kz.now a.kt.now c.requires.0 a.n) (omega (arith, long, rows)) c.to_flat.ensures in
    ap (λ (u : List Float). u ++ drop (4 * a.n) a.track.now) (first ∙ flat-take a.kx.now a.ky.now a.kz.now a.kt.now c.requires.0 a.n)
