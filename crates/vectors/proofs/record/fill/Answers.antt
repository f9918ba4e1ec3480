-- A turn writes one number (`take-suc-set`), which is the next of those that the bytes hold
-- (`numbers_next`). When i is the list's length, the whole list is read. Assumes nothing.
use Rattle.std.proofs.Common.{◌≡◌, ◌<◌, length, refl, add-one, arith, length-set, take-suc-set, rules}
use lib.Seq.{take-length}
use Rattle.vectors.specs.Replay.{numbers_of}
use Rattle.vectors.proofs.Turns.{numbers_next}
use Rattle.vectors.proofs.record.fill.Goals as goal

pub loop-i-init : goal.loop-i-init
unfolding numbers_of
loop-i-init c = (search rules, refl, refl)

pub loop-i-preserved : goal.loop-i-preserved
loop-i-preserved c =
    let l = c.loop-i in
    let h : l.i < length l.list = omega arith in (
      omega (arith, length-set l.list l.i c.number.result),
      simp length-set l.invariant.1,
      rw (add-one, take-suc-set _ _ _ h, numbers_next, l.invariant.2, c.number.ensures),
    )

pub returns : goal.returns
returns c =
    let l = c.loop-i in
    let e : l.i ≡ length l.list = omega arith in
    rw (← l.invariant.1, ← e, ← l.invariant.2, e, take-length)
