use borrow.Author.Rules.{rules}
use mathlib.Core.Path.{sym, ◌∙◌}
use Prim.Native.Nat.{◌+◌, ◌≤◌}
use Prim.Native.Nat.{◌*◌}
use mathlib.Core.Path.{refl}
use lib.ListN.{length}
use Rattle.columns.proofs.Laws.{flat-length, copied_start, copied_again, copied_end}
use Rattle.columns.proofs.into_columns.Goals as goal

pub loop-i-init : goal.loop-i-init
loop-i-init c = (c.requires.0, refl, copied_start _ _ (flat-length _ _ _ _ c.requires.0 ∙ sym c.requires.1))

pub loop-i-preserved : goal.loop-i-preserved
loop-i-preserved c =
    let fits : 4 * c.loop-i.i + 4 ≤ length c.args.list.now = search rules in
    ((search rules, search rules, search rules), search rules, copied_again c.loop-i.i fits c.read_four-v.ensures c.put_there.ensures c.loop-i.invariant.2)

pub returns : goal.returns
returns c = copied_end (search rules) c.loop-i.invariant.2
