-- Calls are replaced by what they ensure; the definition is left. Assumes nothing.
use native.Mathlib.Omega.{arith}
use mathlib.Core.Path.{ap}
use lib.ListN.{length-take}
use lib.Seq.{take_all}
use Rattle.bodies.specs.Read.{permtide_of}
use Rattle.bodies.proofs.PermtideBody.fields.Goals as goal

pub slice_bounds-body-end : goal.slice_bounds-body-end
slice_bounds-body-end c = simp length-take (omega arith)

pub returns : goal.returns
unfolding permtide_of
returns c =
    rw (
      c.read32.ensures,
      c.read32-2.ensures,
      c.read32-3.ensures,
      c.number.ensures,
    )
    (ap permtide_of (take_all 24 c.args.b.now (omega (arith, c.requires))))
