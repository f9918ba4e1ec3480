-- By `turned-all`, from what the calls ensure. Assumes nothing.
use mathlib.Core.List.{[]}
use Rattle.deformation_block.proofs.Laws.{turned-all}
use Rattle.deformation_block.proofs.correction_block.Goals as goal

pub returns : goal.returns
returns c =
    let lon = c.sin_cos_block.ensures in
    let lat = c.sin_cos_block-2.ensures in
    let turned = c.turned_block.ensures in
    let a = c.args in
    turned-all
    a.op
    a.inverse
    a.east.now
    a.north.now
    a.up.now
    []
    a.lam.now
    a.phi.now
    []
    []
    []
    a.t.now
    turned.0
    turned.1
    turned.2
    c.is_finite-fixed.ensures
    c.metre.ensures
    lon.0
    lon.1
    lat.0
    lat.1
