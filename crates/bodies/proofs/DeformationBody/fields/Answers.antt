-- Calls are replaced by what they ensure; the definition is left. Assumes nothing.
use mathlib.Core.Path.{ap}
use lib.ListN.{length-take}
use lib.Seq.{take_all}
use Rattle.bodies.specs.Read.{deformation_of}
use native.Mathlib.Omega.{arith}
use Rattle.bodies.proofs.DeformationBody.fields.Goals as goal

pub slice_bounds-body-end : goal.slice_bounds-body-end
slice_bounds-body-end c = simp length-take (omega arith)

pub returns : goal.returns
unfolding deformation_of
returns c =
    rw (
      c.read32.ensures,
      c.read32-2.ensures,
      c.number.ensures,
      c.number-2.ensures,
    )
    (ap deformation_of (take_all 24 c.args.b.now (omega (arith, c.requires))))
