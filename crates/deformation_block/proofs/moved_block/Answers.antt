-- One case for each way through the tests. Each by `raw-all` and `sum-all`, from what the calls
-- ensure; the number added to a time is one of sixteen zeros. Assumes nothing.
use mathlib.Core.Path.{ap}
use lib.ListN.{get_or-replicate}
use lib.Ieee.{Float, nan}
use Rattle.floats.specs.Binary64.{◌⊕◌, bits}
use Rattle.blocks.specs.Each.{at, whole_at}
use Rattle.blocks.proofs.Laws.{told}
use Rattle.deformation_block.specs.Places.{kept_of}
use Rattle.deformation_block.proofs.Laws.{raw-all, sum-all}
use Rattle.deformation_block.proofs.moved_block.Goals as goal

pub returns-then-op : goal.returns-then-op
returns-then-op c =
    let d = c.correction_block.ensures in
    let a = c.args in
    raw-all
    a.op
    a.inverse
    a.east.now
    a.north.now
    a.up.now
    a.marks.now
    a.lam.now
    a.phi.now
    a.x.now
    a.y.now
    a.z.now
    a.t.now
    c.if-op.true
    d
    c.length_block.ensures
    c.keep_block.ensures
    c.keep_block-then-op.ensures
    c.keep_block-then-op-2.ensures
    c.keep_block-then-op-3.ensures
    c.count_block.ensures

pub returns : goal.returns
returns c =
    let d = c.correction_block.ensures in
    let a = c.args in
    sum-all
    a.op
    a.inverse
    a.east.now
    a.north.now
    a.up.now
    a.marks.now
    a.lam.now
    a.phi.now
    a.x.now
    a.y.now
    a.z.now
    a.t.now
    c.if-op.false
    d
    c.add_block.ensures
    c.add_block-2.ensures
    c.add_block-3.ensures
    (told (λ j k. ap (λ (u : Float). kept_of (whole_at a.marks.now j) (at a.t.now j ⊕ u)) (get_or-replicate 16 j (bits 0) nan k)) c.add_block-4.ensures)
    c.count_block-2.ensures
