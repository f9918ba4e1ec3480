use native.Mathlib.Omega.{arith}
use Prim.Native.Nat.{◌+◌, ◌*◌, ◌/◌, ◌≤◌}
use mathlib.Core.Path.{◌≡◌, refl}
use lib.ListN.{length}
use Rattle.stretch_flat.proofs.Shifting.{shifting_start, shifting-on, shifting-end}
use Rattle.stretch_flat.proofs.shift_list.Goals as goal

pub loop-i-init : goal.loop-i-init
loop-i-init c = (omega (arith, c.requires.0), shifting_start _ _ _ _ _ c.requires.1)

pub loop-i-preserved : goal.loop-i-preserved
loop-i-preserved c =
    let l = c.loop-i in
    let w = c.min-w.result in
    let made = c.shift_part-state.ensures in
    let whole : w ≡ 64 = omega (arith, c.min-w.ensures, c) in
    let fits : 4 * (l.i + w) ≤ length c.args.list.now = omega (arith, l.invariant.0, c) in
    (l.invariant.0, shifting-on l.invariant.1 w (omega (arith, whole)) c.shift_part-state.new.results fits (omega arith) made.0 made.1 refl (omega arith))

pub returns-2 : goal.returns-2
returns-2 c =
    let l = c.loop-i in
    let w = c.min-w.result in
    let made = c.shift_part-state.ensures in
    let last : l.i + w ≡ length c.args.list.now / 4 = omega (arith, c.min-w.ensures, c) in
    let fits : 4 * (l.i + w) ≤ length c.args.list.now = omega (arith, l.invariant.0, last) in
    shifting-end (shifting-on l.invariant.1 w last c.shift_part-state.new.results fits (omega arith) made.0 made.1 refl (omega arith)) (omega (arith, l.invariant.0))

pub returns : goal.returns
returns c = let l = c.loop-i in shifting-end l.invariant.1 (omega (arith, l.invariant.0, c.loop-i-test.false))
