use Prim.Native.Nat.{◌+◌, ◌*◌, ◌%◌, ◌≤◌}
use lib.ListN.{length-set, get_or}
use native.Mathlib.Omega.{arith}
use mathlib.Core.Path.{◌≡◌, sym, subst}
use lib.ListN.{length, set}
use lib.Ieee.{Float, nan}
use Rattle.tuple.specs.declared.Tuple.{Tuple}
use Rattle.stretch.proofs.Copied.{Copied, copied_start, copied_again, copied_end}
use Rattle.stretch_flat_track.proofs.Windows.{column_length, times_of, time_there}
use Rattle.stretch_flat_track.proofs.times.Goals as goal

pub loop-i-init : goal.loop-i-init
loop-i-init c = let k = column_length (λ (v : Tuple). v.t) c.args.list.now in (c.requires, copied_start _ _ (omega (arith, k, c.requires)))

pub loop-i-preserved : goal.loop-i-preserved
loop-i-preserved c =
    let l = c.loop-i in
    let list = c.args.list.now in
    let k = column_length (λ (v : Tuple). v.t) list in
    let v = get_or list (4 * l.i + 3) nan in
    let long = length-set l.t l.i v in
    let whole : length list % 4 ≡ 0 = omega (arith, l.invariant.0) in
    let fits : 4 * l.i + 4 ≤ length list = omega (arith, l.invariant.0, c.loop-i-test.true) in (
      omega (arith, long, l.invariant.0),
      subst (λ (w : Float). Copied (times_of list) (l.i + 1) (set l.t l.i w)) (sym (time_there list l.i whole fits)) (copied_again l.invariant.1 nan (omega (arith, k, fits))),
    )

pub returns : goal.returns
returns c = let k = column_length (λ (v : Tuple). v.t) c.args.list.now in copied_end c.loop-i.invariant.1 (omega (arith, k, c.loop-i.invariant.0, c.loop-i-test.false))
