use mathlib.Core.Path.{◌∙◌}
use Rattle.text.proofs.Laws.{going_here, going_on, going_ends, then, place_within, same_room}
use Rattle.report.specs.Report.{met_in}
use Rattle.report.proofs.Laws.{next_count, no_count}
use Rattle.report.proofs.put_counts.Goals as goal

pub loop-i-init : goal.loop-i-init
loop-i-init c =
    rw (c.into_iter-i-iterator.ensures.into_iter_gives, c.enumerate-i-items.ensures.count, c.enumerate-i-items.ensures.source, c.take.ensures.count, c.take.ensures.source, c.iter.ensures.rest)
    (going_here _ _ (place_within _ _ c.put_bytes-p.ensures))

pub loop-i-preserved : goal.loop-i-preserved
loop-i-preserved c =
    let turn = c.in-Some.ensures.steps in
    rw turn.2 (going_on _ _ c.loop-i.invariant (rw (c.met_at.ensures, turn.1) at c.put_count-p.ensures) (next_count (met_in c.args.mets.now) _ _ _ _ _ _ turn.0.0 turn.0.1))

pub shape_of-room : goal.shape_of-room
shape_of-room c = c.loop-i.invariant.as_long ∙ same_room _ _ c.put_bytes-p.ensures

pub returns : goal.returns
returns c =
    then _ _ _ c.put_bytes-p.ensures (going_ends c.loop-i.invariant (no_count (met_in c.args.mets.now) _ _ _ (λ some. (c.in-None.ensures.steps.0 some).0)))
