use borrow.Author.Rules.{rules}
use Rattle.columns.proofs.Laws.{room}
use mathlib.Core.Path.{sym, ◌∙◌}
use Prim.Native.Nat.{◌<◌}
use Prim.Native.Nat.{◌*◌}
use mathlib.Core.Path.{refl}
use lib.ListN.{length}
use Rattle.columns.proofs.Laws.{flat-length, copied_start, copied_again, copied_end}
use Rattle.columns.proofs.into_flat.Goals as goal

pub loop-i-init : goal.loop-i-init
loop-i-init c = (refl, copied_start _ _ (c.requires.1 ∙ sym (flat-length _ _ _ _ c.requires.0)))

pub loop-i-preserved : goal.loop-i-preserved
loop-i-preserved c =
    let a = c.args in
    let inside : c.loop-i.i < length a.x.now = search rules in
    let fits = room a.x.now a.y.now a.z.now a.t.now c.requires.0 c.loop-i.i inside in
    (search rules, copied_again c.loop-i.i fits c.there-v.ensures c.write_four.ensures c.loop-i.invariant.1)

pub returns : goal.returns
returns c = copied_end {i = 4 * c.loop-i.i} (rw (flat-length _ _ _ _ c.requires.0) (search rules)) c.loop-i.invariant.1
