-- One case for each kind: from what its loop ensures of a list from index 0 and no state, what it
-- makes of a part from any index and state (`looped-met`, and for Helmert `handed_on-met`); and
-- from what the pass before it ensures, how many met an angle out of reach. Assumes nothing.
use Rattle.plan_columns.proofs.Blind.{rows, looped-met, handed_on-met}
use Rattle.columns.specs.Columns.{flat_of}
use Rattle.plans.specs.Lent.{lent_in}
use borrow.Author.Rules.{rules}
use mathlib.Core.Path.{refl}
use Rattle.plan_columns.proofs.run_level.Goals as goal

pub returns-in-CartForward : goal.returns-in-CartForward
returns-in-CartForward c =
    let a = c.args in
    let kind = c.in-CartForward.is in
    let l = flat_of a.x.now a.y.now a.z.now a.t.now in
    looped-met (lent_in a.lent) a.first a.from l a.plan (rw kind c.cart_forward-count.ensures) (rw kind c.place-met.ensures)

pub returns-in-CartInverse : goal.returns-in-CartInverse
returns-in-CartInverse c =
    let a = c.args in
    let kind = c.in-CartInverse.is in
    let l = flat_of a.x.now a.y.now a.z.now a.t.now in
    looped-met (lent_in a.lent) a.first a.from l a.plan (rw kind c.cart_inverse-count.ensures) (rw kind refl)

pub returns-in-PermtideEither : goal.returns-in-PermtideEither
returns-in-PermtideEither c =
    let a = c.args in
    let kind = c.in-PermtideEither.is in
    let l = flat_of a.x.now a.y.now a.z.now a.t.now in
    looped-met (lent_in a.lent) a.first a.from l a.plan (rw kind (c.permtide.ensures, rows _ _ _ _ c.requires (search rules))) (rw kind c.latitude-met.ensures)

pub returns-in-DeformationEither : goal.returns-in-DeformationEither
returns-in-DeformationEither c =
    let a = c.args in
    let kind = c.in-DeformationEither.is in
    let l = flat_of a.x.now a.y.now a.z.now a.t.now in
    looped-met (lent_in a.lent) a.first a.from l a.plan (rw kind (c.deform-tally.ensures.0, c.deform-tally.ensures.1)) (rw kind c.deform-tally.ensures.2)

pub returns-in-MolodenskyEither : goal.returns-in-MolodenskyEither
returns-in-MolodenskyEither c =
    let a = c.args in
    let kind = c.in-MolodenskyEither.is in
    let l = flat_of a.x.now a.y.now a.z.now a.t.now in
    looped-met (lent_in a.lent) a.first a.from l a.plan (rw kind (c.molodensky.ensures, rows _ _ _ _ c.requires (search rules))) (rw kind c.offsets-met.ensures)

pub returns-in-HelmertEither : goal.returns-in-HelmertEither
returns-in-HelmertEither c =
    let a = c.args in
    let kind = c.in-HelmertEither.is in
    let l = flat_of a.x.now a.y.now a.z.now a.t.now in
    handed_on-met (lent_in a.lent) a.first a.from l a.plan (rw kind c.run_helmert-went.ensures) (rw kind c.helmert-met.ensures)
