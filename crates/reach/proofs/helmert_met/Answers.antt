-- One case for each mode, by the laws of `Modes`. Assumes nothing.
use mathlib.Core.Path.{refl, sym, ap, ◌∙◌}
use Rattle.helmert.specs.declared.State.{State}
use Rattle.helmert.proofs.Laws.{runs_told, owns_told}
use Rattle.reach.proofs.Modes.{both_told, out_at, running_met_at, own_met, fixed_met, unused_met}
use Rattle.reach.proofs.helmert_met.Goals as goal

pub returns-else-shift : goal.returns-else-shift
returns-else-shift c = let a = c.args in sym (unused_met a.shift a.state a.v c.if-shift.false)

pub returns-in-Running : goal.returns-in-Running
returns-in-Running c =
    let a = c.args in
    let used = both_told _ _ c.if-shift.true in
    c.rotation_at_out.ensures
    ∙ ap (λ (q : State). out_at a.shift q.last) c.next-now.ensures
    ∙ running_met_at a.shift a.state a.v (runs_told a.shift (sym c.mode.ensures ∙ c.in-Running.is)) used.1 used.0

pub returns-in-OwnEpoch : goal.returns-in-OwnEpoch
returns-in-OwnEpoch c =
    let a = c.args in
    let used = both_told _ _ c.if-shift.true in
    c.own_out.ensures ∙ own_met a.shift a.state a.v (owns_told a.shift (sym c.mode.ensures ∙ c.in-OwnEpoch.is) refl) used.1 used.0

pub returns-in-Still : goal.returns-in-Still
returns-in-Still c =
    let a = c.args in
    let used = both_told _ _ c.if-shift.true in
    let still = sym c.mode.ensures ∙ c.in-Still.is in
    c.rotation_out.ensures ∙ sym (fixed_met a.shift a.state a.v (runs_told a.shift still) (owns_told a.shift still refl) used.1 used.0)
