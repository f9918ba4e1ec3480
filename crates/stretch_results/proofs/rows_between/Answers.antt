-- The parts of the columns go through the step, and stand between what was before and after them
-- (`flat-between`). Assumes nothing.
use Prim.Native.Nat.{◌-◌}
use native.Mathlib.Omega.{arith}
use mathlib.Core.Path.{ap, ◌∙◌}
use Rattle.helmert.specs.Turns.{helmert_turns}
use Rattle.lists.specs.Run.{ran_of}
use Rattle.stretch.proofs.Parts.{flat_mid, flat-between}
use Rattle.stretch_results.proofs.rows_between.Goals as goal

pub offset_bounds-rt-start : goal.offset_bounds-rt-start
offset_bounds-rt-start c = record { fits = omega (arith, c) }

pub shift_rows-requires : goal.shift_rows-requires
shift_rows-requires c = ((omega arith, omega arith, omega arith), (omega arith, omega arith, omega arith), omega arith)

pub returns : goal.returns
returns c =
    let a = c.args in
    let last = c.shift_rows.new in
    flat-between a.rx.now a.ry.now a.rz.now a.rt.now c.requires.1 a.start a.end c.requires.3 (omega (arith, c.requires.4, c.requires.2)) last.rx last.ry last.rz last.rt (omega arith) (omega arith) (omega arith) (omega arith)
    (c.shift_rows.ensures ∙ ap (ran_of (helmert_turns a.inverse a.shift) 0 a.from) (flat_mid a.x.now a.y.now a.z.now a.t.now c.requires.0 a.start (a.end - a.start)))
