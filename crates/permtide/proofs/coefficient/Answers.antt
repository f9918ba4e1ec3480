-- Each code read as a system (`by_system`); the system picks the row and the number. Assumes
-- nothing.
use mathlib.Core.Path.{sym, ap, ◌∙◌}
use Rattle.std.specs.Prelude.{Ok}
use Rattle.floats.proofs.Nan.{zero_over_zero}
use Rattle.permtide.specs.declared.System.{System}
use Rattle.permtide.proofs.Systems.{by_system, no_number}
use Rattle.permtide.proofs.coefficient.Goals.{in_default-via-in-Ok+in_default, in_default-via-in_default}
use Rattle.permtide.proofs.coefficient.Goals as goal

pub returns-in-Mean : goal.returns-in-Mean
returns-in-Mean c =
    c.pick.ensures
    ∙ by_system _ _ _ (sym (c.in-Ok-Ok.is-0 ∙ ap (λ (s : System). Ok s) c.in-Mean.is) ∙ c.try_from.ensures) (sym c.in-Ok-Ok.is-1 ∙ c.try_from-2.ensures)

pub returns-in-Zero : goal.returns-in-Zero
returns-in-Zero c =
    c.pick-in-Zero.ensures
    ∙ by_system _ _ _ (sym (c.in-Ok-Ok.is-0 ∙ ap (λ (s : System). Ok s) c.in-Zero.is) ∙ c.try_from.ensures) (sym c.in-Ok-Ok.is-1 ∙ c.try_from-2.ensures)

pub returns-in-Free : goal.returns-in-Free
returns-in-Free c =
    c.pick-in-Free.ensures
    ∙ by_system _ _ _ (sym (c.in-Ok-Ok.is-0 ∙ ap (λ (s : System). Ok s) c.in-Free.is) ∙ c.try_from.ensures) (sym c.in-Ok-Ok.is-1 ∙ c.try_from-2.ensures)

pub returns-in_default : goal.returns-in_default
returns-in_default c =
    let a = c.args in
    elim c.in_default.branch [
      | in_default-via-in-Ok+in_default w ↦ zero_over_zero ∙ sym (no_number (Ok w.in_default.field-0-0)) ∙ by_system a.to a.from a.k (sym w.in_default.is-0 ∙ c.try_from.ensures) (sym w.in_default.is-1 ∙ c.try_from-2.ensures)
      | in_default-via-in_default w ↦ zero_over_zero ∙ by_system a.to a.from a.k (sym w.in_default.is-0 ∙ c.try_from.ensures) c.try_from-2.ensures
    ]
