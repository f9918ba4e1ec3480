use borrow.Author.Rules.{rules}
use Prim.Native.Nat.{suc, ◌+◌}
use native.Mathlib.Omega.{arith}
use native.Mathlib.Nat.{le_antisymm}
use mathlib.Core.Path.{◌≡◌, refl, ap, ◌∙◌}
use Rattle.permtide_columns.specs.Heights.{part_put}
use Rattle.permtide_columns.proofs.store_part.Goals as goal

pub loop-j-init : goal.loop-j-init
loop-j-init c = (refl, search rules, refl)

pub loop-j-preserved : goal.loop-j-preserved
loop-j-preserved c =
    let l = c.loop-j in
    let next : l.j + 1 ≡ suc l.j = omega arith in
    (search rules, search rules, rw (next, ← l.invariant.2) refl)

pub returns : goal.returns
returns c =
    let l = c.loop-j in
    let a = c.args in
    let all : l.j ≡ 16 = le_antisymm l.invariant.1 (search rules) in
    l.invariant.2 ∙ ap (part_put a.column.now a.i a.b.now) all
