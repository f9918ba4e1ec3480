use borrow.Author.Rules.{rules}
use Prim.Native.Nat.{◌+◌, ◌*◌, ◌≤◌}
use mathlib.Core.Path.{◌≡◌, refl, sym, ap, ◌∙◌}
use native.Mathlib.Omega.{arith}
use mathlib.Core.List.{List}
use lib.Ieee.{Float}
use lib.ListN.{length, length-set}
use Rattle.tuple.specs.Columns.{row_of}
use Rattle.lists.specs.Sixteen.{put_rows}
use Rattle.lists.specs.Flat.{put_at}
use Rattle.lists.proofs.Places.{four-set}
use Rattle.lists.proofs.Sixteen.{row_put, put-rows, put-no-rows}
use Rattle.lists.proofs.write_block.Goals as goal

pub returns-then-saturating_sub-lt64 : goal.returns-then-saturating_sub-lt64
returns-then-saturating_sub-lt64 c = sym (put-no-rows _ _ _ _ _ _ (search rules))

pub loop-i-init : goal.loop-i-init
loop-i-init c = (refl, refl, search rules)

pub bounds-list-k-in-loop-i : goal.bounds-list-k-in-loop-i
bounds-list-k-in-loop-i c = simp length-set (omega arith)

pub bounds-list-k-in-loop-i-2 : goal.bounds-list-k-in-loop-i-2
bounds-list-k-in-loop-i-2 c = simp length-set (omega arith)

pub bounds-list-k-in-loop-i-3 : goal.bounds-list-k-in-loop-i-3
bounds-list-k-in-loop-i-3 c = simp length-set (omega arith)

pub loop-i-preserved : goal.loop-i-preserved
loop-i-preserved c =
    let a = c.args in
    let rows = row_of a.x.now a.y.now a.z.now a.t.now in
    let k = a.at + 4 * c.loop-i.i in
    let fits : k + 4 ≤ length c.loop-i.list = search rules in
    (four-set c.loop-i.list k (rows c.loop-i.i) fits ∙ ap (λ (u : List Float). put_at u k (rows c.loop-i.i)) c.loop-i.invariant.0 ∙ row_put a.list.now a.at rows c.loop-i.i, simp length-set c.loop-i.invariant.1, search rules)

pub returns : goal.returns
returns c =
    let a = c.args in
    let all : c.loop-i.i ≡ 16 = search rules in
    c.loop-i.invariant.0 ∙ ap (put_rows a.list.now a.at (row_of a.x.now a.y.now a.z.now a.t.now)) all ∙ sym (put-rows _ _ _ _ _ _ (search rules))
