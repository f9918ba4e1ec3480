-- One case for each kind. Each by `holds-helmert`, `holds-molodensky`,
-- `holds-permtide`, `holds-deformation`, `holds-badekas` and `holds-cart`, from what the calls
-- ensure. Assumes nothing.
use mathlib.Core.Path.{sym, ◌∙◌}
use Rattle.plans.specs.Plans.{plan_of}
use Rattle.plans.proofs.Bodies.{holds-helmert, holds-molodensky, holds-permtide, holds-deformation, holds-badekas, holds-cart}
use Rattle.plans.proofs.plan_of.Goals as goal

pub returns-in-1 : goal.returns-in-1
unfolding plan_of
returns-in-1 c = rw (holds-helmert _ _ (sym c.held_kind-held.ensures ∙ c.in-1.is), c.prepare.ensures, c.read_helmert.ensures)

pub returns-in-3 : goal.returns-in-3
unfolding plan_of
returns-in-3 c = rw (holds-molodensky _ _ (sym c.held_kind-held.ensures ∙ c.in-3.is), c.new.ensures, c.read_molodensky.ensures)

pub returns-in-4 : goal.returns-in-4
unfolding plan_of
returns-in-4 c = rw (holds-permtide _ _ (sym c.held_kind-held.ensures ∙ c.in-4.is), c.new-in-4.ensures, c.read_permtide.ensures)

pub returns-in-5 : goal.returns-in-5
unfolding plan_of
returns-in-5 c = rw (holds-deformation _ _ (sym c.held_kind-held.ensures ∙ c.in-5.is), c.directed.ensures, c.new-in-5.ensures, c.read_deformation-r.ensures)

pub returns-in-6 : goal.returns-in-6
unfolding plan_of
returns-in-6 c = rw (holds-badekas _ _ (sym c.held_kind-held.ensures ∙ c.in-6.is), c.prepare-in-6.ensures, c.read_badekas.ensures)

pub returns-in_default : goal.returns-in_default
unfolding plan_of
returns-in_default c =
    let held = c.held_kind-held.ensures in
    let none = c.in_default.in_default-own.rest in
    rw (
      holds-cart _ _ (λ e. none.0.0.0.0.1 (held ∙ e)) (λ e. none.0.0.0.1 (held ∙ e)) (λ e. none.0.0.1 (held ∙ e)) (λ e. none.0.1 (held ∙ e)) (λ e. none.1 (held ∙ e)),
      ← held,
      ← c.cart_of.ensures,
    )
    c.cart_plan.ensures
