use native.Mathlib.Omega.{arith}
use mathlib.Core.Path.{◌≡◌, ◌∙◌}
use Prim.Native.Nat.{suc, ◌+◌, ◌-◌}
use native.Mathlib.Nat.{sub-zero}
use Rattle.text.proofs.Laws.{going_here, going_on, going_ends, then, place_within, same_room}
use Rattle.show.proofs.Steps.{next_step, no_step}
use Rattle.show.proofs.put_steps.Goals as goal

pub loop-i-init : goal.loop-i-init
loop-i-init c = (omega arith, rw sub-zero (going_here _ _ (place_within _ _ c.put_bytes-p.ensures)))

pub loop-i-preserved : goal.loop-i-preserved
loop-i-preserved c =
    let left : c.args.n - c.loop-i.i ≡ suc (c.args.n - (c.loop-i.i + 1)) = omega arith in
    (omega arith, going_on _ _ c.loop-i.invariant.1 c.put_step-p.ensures (next_step _ _ _ _ left))

pub shape_of-room : goal.shape_of-room
shape_of-room c = c.loop-i.invariant.1.as_long ∙ same_room _ _ c.put_bytes-p.ensures

pub returns : goal.returns
returns c = then _ _ _ c.put_bytes-p.ensures (going_ends c.loop-i.invariant.1 (no_step _ _ _ (omega arith)))
