use native.Mathlib.Omega.{arith}
use mathlib.Core.Path.{ap, ◌∙◌}
use Rattle.text.proofs.Laws.{going_here, going_on, going_ends, then, place_within, same_room}
use Rattle.report.specs.Report.{tuples_text}
use Rattle.report.proofs.Laws.{next_tuple, no_tuple}
use Rattle.report.proofs.put_tuples.Goals as goal

pub loop-v-init : goal.loop-v-init
loop-v-init c =
    let items = c.chunks_exact-v-items.ensures in
    rw c.into_iter-v-iterator.ensures.into_iter_gives (items.size, rw items.rest (going_here _ _ (place_within _ _ c.put_bytes-p.ensures)))

pub loop-v-preserved : goal.loop-v-preserved
loop-v-preserved c =
    let inv = c.loop-v.invariant in
    let four = c.in-Some.ensures.steps in
    (four.0 ∙ inv.0, going_on _ _ inv.1 c.put_tuple-p.ensures (ap tuples_text four.1.0 ∙ next_tuple _ _ (four.1.1 ∙ inv.0)))

pub shape_of-room : goal.shape_of-room
shape_of-room c = c.loop-v.invariant.1.as_long ∙ same_room _ _ c.put_bytes-p.ensures

pub returns : goal.returns
returns c =
    let inv = c.loop-v.invariant in
    let few = c.in-None.ensures.steps.1.0 in
    then _ _ _ c.put_bytes-p.ensures (going_ends inv.1 (no_tuple _ (omega (arith, few, inv.0))))
