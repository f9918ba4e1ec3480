-- One case for each way through the tests. By arithmetic on the bounds at hand. Assumes nothing.
use mathlib.Core.Path.{sym, ◌∙◌}
use Prim.Native.Nat.{◌-◌, ◌≤◌}
use native.Mathlib.Omega.{arith}
use native.Mathlib.Nat.{add-sub_cancel_left}
use lib.ListN.{length, drop, length-drop, drop_of_length-le}
use lib.Seq.{take-nil, take_all}
use Rattle.sheet.proofs.part.Goals as goal

pub returns-then-s-offset : goal.returns-then-s-offset
returns-then-s-offset c = let a = c.args in rw (drop_of_length-le a.s.now c.if-s-offset.true) (sym (take-nil a.length))

pub returns-then-s-offset-2 : goal.returns-then-s-offset-2
returns-then-s-offset-2 c = let a = c.args in
    let long : length (drop a.offset a.s.now) ≤ length a.s.now - a.offset = simp length-drop (omega arith) in
    let short : length (drop a.offset a.s.now) ≤ a.length = simp length-drop (omega arith) in
    take_all _ _ long ∙ sym (take_all _ _ short)

pub returns : goal.returns
returns c = rw add-sub_cancel_left
