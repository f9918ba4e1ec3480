use native.Mathlib.Omega.{arith}
use mathlib.Core.Path.{◌≡◌, ◌∙◌}
use Prim.Native.Nat.{suc, ◌+◌, ◌-◌, ◌*◌}
use native.Mathlib.Nat.{sub-zero}
use Rattle.text.proofs.Laws.{going_here, going_on, going_ends, then, place_within, same_room}
use Rattle.rescue_text.proofs.Lines.{next_line, no_line}
use Rattle.rescue_text.proofs.put_changes.Goals as goal

pub loop-i-init : goal.loop-i-init
loop-i-init c = (omega arith, rw sub-zero (going_here _ _ (place_within _ _ c.put_bytes-p.ensures)))

pub loop-i-preserved : goal.loop-i-preserved
loop-i-preserved c =
    let l = c.loop-i in
    let n = c.args.n in
    let left : n - l.i ≡ suc (n - (l.i + 1)) = omega arith in
    let next : 3 * (l.i + 1) ≡ 3 * l.i + 3 = omega arith in
    (omega arith, rw next (going_on _ _ l.invariant.1 c.put_change-p.ensures (next_line _ _ _ _ left)))

pub shape_of-room : goal.shape_of-room
shape_of-room c = c.loop-i.invariant.1.as_long ∙ same_room _ _ c.put_bytes-p.ensures

pub returns : goal.returns
returns c = then _ _ _ c.put_bytes-p.ensures (going_ends c.loop-i.invariant.1 (no_line _ _ _ (omega arith)))
