use Prim.Native.Nat.{◌+◌, ◌*◌}
use native.Mathlib.Omega.{arith}
use borrow.Author.Rules.{rules}
use mathlib.Core.Path.{◌≡◌, refl}
use lib.ListN.{length, length-set}
use Rattle.job.proofs.Laws.{none_yet, one_more, all_read}
use Rattle.job.proofs.numbers.Goals as goal

pub loop-i-init : goal.loop-i-init
loop-i-init c = (search rules, refl, none_yet c.args.list.now c.args.bytes.now)

pub loop-i-preserved : goal.loop-i-preserved
loop-i-preserved c =
    let inv = c.loop-i.invariant in
    let next : 8 * (c.loop-i.i + 1) ≡ 8 * c.loop-i.i + 8 = omega arith in (
      search rules,
      simp length-set (search rules),
      rw (c.number.ensures, next) (one_more c.loop-i.list c.loop-i.i (length c.args.list.now) (8 * c.loop-i.i) c.args.bytes.now _ (search rules) inv.1 inv.2),
    )

pub shape_of-list : goal.shape_of-list
shape_of-list c = c.loop-i.invariant.1

pub returns : goal.returns
returns c = all_read c.loop-i.list c.loop-i.i (length c.args.list.now) _ _ c.loop-i.invariant.1 (search rules) c.loop-i.invariant.2
